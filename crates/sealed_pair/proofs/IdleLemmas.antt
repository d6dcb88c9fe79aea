-- A store that runs without an active set runs so afterwards, unless a write failed.
use Rattle.std.proofs.Common.{◌≡◌, inl, inr, Bool, Result, Ok, Err, ◌∙◌}
use Rattle.kv_model.specs.declared.error.KvError.{KvError}
use Rattle.kv_model.specs.declared.error.KvError.TheVariants as error
use Rattle.kv_model.specs.declared.call.Reply.TheVariants.{Refused}
use Rattle.kv_model.specs.Constants.{Constants}
use Rattle.kv_model.specs.FlaggedMap.{FlaggedMap}
use Rattle.kv_model.specs.Given.{done_or}
use Rattle.kv_model.specs.Kv.{Kind, KvState, UnlessFailedWrite, kind_of, Ruled, FailedRead, FailedWrite, Mismatched, Wanted}
use Rattle.kv_model.specs.Rules.{Rules}
use Rattle.kv_model.specs.StoreState.{StoreState}
use Rattle.sealed_pair.specs.Reading.{HasRead}
use Rattle.sealed_pair.specs.Recovering.{Rewrites}
use Rattle.sealed_pair.specs.Running.{IsIdle, StaysIdle}

pub unless_kind : (P : Type 0) (kind : Kind) → P → UnlessFailedWrite kind P
unless_kind P Ruled p = p
unless_kind P FailedRead p = p
unless_kind P FailedWrite p = tt
unless_kind P Mismatched p = p
unless_kind P Wanted p = p

pub unless_then : (P Q : Type 0) (kind : Kind) → (P → Q) → UnlessFailedWrite kind P → UnlessFailedWrite kind Q
unless_then P Q Ruled f p = f p
unless_then P Q FailedRead f p = f p
unless_then P Q FailedWrite f p = tt
unless_then P Q Mismatched f p = f p
unless_then P Q Wanted f p = f p

-- what holds of every refusal but a failed write
unless_apart : (P : Type 0) (e : KvError) → ((e ≡ error.WriteFault → ⊥) → P) → UnlessFailedWrite (kind_of (Refused e)) P
unless_apart P error.NotFound p = p (λ is. absurd (cc is))
unless_apart P error.InvalidKey p = p (λ is. absurd (cc is))
unless_apart P error.InvalidFlags p = p (λ is. absurd (cc is))
unless_apart P error.InvalidSize p = p (λ is. absurd (cc is))
unless_apart P error.WriteProtected p = p (λ is. absurd (cc is))
unless_apart P (error.MediaFull need room) p = p (λ is. absurd (cc is))
unless_apart P error.TooManyIterators p = p (λ is. absurd (cc is))
unless_apart P error.NoIterator p = p (λ is. absurd (cc is))
unless_apart P error.SetOpen p = p (λ is. absurd (cc is))
unless_apart P error.NoSet p = p (λ is. absurd (cc is))
unless_apart P (error.Busy owner) p = p (λ is. absurd (cc is))
unless_apart P error.Stopped p = p (λ is. absurd (cc is))
unless_apart P error.ReadFault p = p (λ is. absurd (cc is))
unless_apart P error.WriteFault p = tt
unless_apart P (error.Corrupt stored computed) p = p (λ is. absurd (cc is))
unless_apart P error.AuthFailed p = p (λ is. absurd (cc is))
unless_apart P error.RollbackFailed p = p (λ is. absurd (cc is))
unless_apart P error.IvSpent p = p (λ is. absurd (cc is))
unless_apart P error.Memory p = p (λ is. absurd (cc is))

module _ (by : Constants → Rules) where
  pub idle_same : (s : KvState) → StaysIdle by s s
  idle_same s state idle = (state, idle)

  pub idle_read : (old new : KvState) → HasRead old new → StaysIdle by old new
  idle_read old new read state idle = (state, record { rules = idle.rules; told = read.state ∙ idle.told; running = idle.running; holds = idle.holds })

  pub idle_then : (a b c : KvState) → StaysIdle by a b → StaysIdle by b c → StaysIdle by a c
  idle_then a b c one two state idle = let mid = one state idle in two mid.0 mid.1

  -- a call that rewrites a map
  pub idle_rewritten : (old new : KvState) (goal : StoreState → FlaggedMap) (result : Result Bool KvError) → Rewrites by old new goal result
      → UnlessFailedWrite (kind_of (done_or result)) (StaysIdle by old new)
  idle_rewritten old new goal (Ok changed) rewrites =
      λ state idle. (record state { primary = goal state }, record { rules = idle.rules; told = (rewrites.told state idle).told; running = idle.running; holds = idle.holds })
  idle_rewritten old new goal (Err e) rewrites =
      unless_apart (StaysIdle by old new) e (λ other state idle. elim (rewrites.told state idle) [
        | inl broken ↦ absurd (other broken.0)
        | inr stays ↦ (state, record { rules = idle.rules; told = stays.0; running = idle.running; holds = idle.holds })
      ])
