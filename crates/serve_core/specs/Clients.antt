-- The clients of a script that is run on threads, and their lines.
use Rattle.std.specs.Prelude.{◌≡◌, ◌≢◌, ℕ, ◌≤◌, ◌==◌, nat_le, Bool, List, [], count_by}
use Rattle.kv_model.specs.declared.call.Call.{Call}
use Rattle.kv_model.specs.declared.call.Call.TheVariants.{Mount}
use Rattle.script_core.specs.declared.line.Act.{Act}
use Rattle.script_core.specs.declared.line.Act.TheVariants.{Do, Cut}
use Rattle.script_core.specs.declared.line.Line.{Line}

-- a call, and no mount
abbrev pub IsClientCall : Act → Type 0
IsClientCall (Do call) = call ≢ Mount
IsClientCall (Cut side n pattern) = ⊥

-- a call of one of sixteen clients
pub record IsClientLine (line : Line) : Type 0 where
  pub call : IsClientCall line.act
  pub first : 1 ≤ line.who
  pub last : line.who ≤ 16

-- how many lines a client has, and the clients from this one on
abbrev pub lines_by : ℕ → List Line → ℕ
lines_by who lines = count_by (λ (line : Line). line.who == who) lines

abbrev pub lines_from : ℕ → List Line → ℕ
lines_from who lines = count_by (λ (line : Line). nat_le who line.who) lines

-- this client, and the clients from this one on
abbrev pub is_client : ℕ → ℕ → Bool
is_client client who = client == who

abbrev pub is_from : ℕ → ℕ → Bool
is_from client who = nat_le client who
