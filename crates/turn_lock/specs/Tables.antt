-- Which table a pass must belong to.
use Rattle.atomic_table.specs.Seated.{TableId}
use Rattle.turn_lock.specs.declared.table.Turns.{Turns}

abbrev pub table_of : {S : Type 0} → Turns S → TableId
table_of turns = turns.table.shared.table_id
