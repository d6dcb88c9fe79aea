-- A line of a script, by what it asks for.
use Rattle.std.proofs.Common.{◌≡◌, ℕ, List, sym, subst}
use Rattle.std.specs.Prelude.{Result}
use Rattle.base_core.specs.declared.no_memory.NoMemory.{NoMemory}
use Rattle.kv_model.specs.declared.call.Call.TheVariants as call
use Rattle.kv_model.specs.declared.call.Entry.{Entry}
use Rattle.kv_model.specs.declared.pattern.Pattern.{Pattern}
use Rattle.kv_model.specs.Arming.{Arms}
use Rattle.script_core.specs.declared.line.Act.{Act}
use Rattle.script_core.specs.declared.line.Act.TheVariants.{Do, Cut}
use Rattle.script_core.specs.declared.line.Line.{Line as ScriptLine}
use Rattle.script_core.specs.declared.line.Side.{Side}
use Rattle.script_core.specs.Grammar.{IsCaller, IsLine}
use Rattle.session_core.specs.declared.ended.Ended.{Ended}
use Rattle.session_core.specs.declared.ended.Ended.TheVariants as ended
use Rattle.session_core.specs.declared.session.Session.{Session}
use Rattle.session_core.specs.Replaying.{RunsLine}
use Rattle.session_core.specs.Views.{state_in}
use Rattle.session_core.proofs.ReplayLemmas.{cut_armed}

-- ---- a line that is a mount

caller_of : (who : ℕ) (act : Act) → act ≡ Do call.Mount → IsCaller who act → who ≡ 0
caller_of who act is caller = subst (IsCaller who) is caller

pub mount_line : (old new : Session) (entries later : List Entry) (line : ScriptLine) (e : Ended) → IsLine line → line.act ≡ Do call.Mount
    → RunsLine old new entries later (record { who = 0; act = Do call.Mount }) e → RunsLine old new entries later line e
mount_line old new entries later line e is act runs =
    let who : line.who ≡ 0 = caller_of line.who line.act act is.0 in
    subst (λ (l : ScriptLine). RunsLine old new entries later l e) (λ i. record { who = sym who i; act = sym act i }) runs

-- a line that is a cut
pub cut_line : (old new : Session) (entries : List Entry) (line : ScriptLine) (side : Side) (n : ℕ) (pattern : Pattern) (result : Result Unit NoMemory)
    → line.act ≡ Cut side n pattern → Arms (state_in old) (state_in new) pattern result → RunsLine old new entries entries line ended.Whole
cut_line old new entries line side n pattern result act arms =
    subst (λ (l : ScriptLine). RunsLine old new entries entries l ended.Whole) (λ i. record { who = line.who; act = sym act i })
    (cut_armed old new entries pattern result line.who side n arms)
