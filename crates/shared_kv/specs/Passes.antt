-- What a pass of a shared store knows, and which store it belongs to.
use Rattle.atomic_table.specs.Seated.{TableId}
use Rattle.turn_lock.specs.Passes.{IsIdle, view_of}
use Rattle.turn_lock.specs.Tables.{table_of}
use Rattle.turn_lock.specs.declared.view.View.{View}
use Rattle.shared_kv.specs.declared.pass.CallPass.{CallPass}
use Rattle.shared_kv.specs.declared.shared.SharedKv.{SharedKv}

abbrev pub known : {K : Type 0} → CallPass K → View
known pass = view_of pass.pass

abbrev pub table_in : {K : Type 0} → SharedKv K → TableId
table_in shared = table_of shared.turns

-- two passes at once that haven't the turn
abbrev pub AreIdle : {K : Type 0} → TableId → CallPass K → CallPass K → Type 0
AreIdle table one other = IsIdle table one.pass × IsIdle table other.pass
