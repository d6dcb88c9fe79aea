-- What the words of a line stand for.
use Rattle.kv_model.specs.declared.call.Call.{Call}
use Rattle.kv_model.specs.declared.call.Call.TheVariants as call
use Rattle.script_core.specs.HexDigits.{decoded}
use Rattle.script_core.specs.declared.line.Act.{Act}
use Rattle.script_core.specs.declared.line.Act.TheVariants.{Do, Cut}
use Rattle.script_core.specs.declared.line.Line.{Line}
use Rattle.script_core.specs.declared.spelled.SpelledCall.{SpelledCall}
use Rattle.script_core.specs.declared.spelled.SpelledCall.TheVariants as spelled
use Rattle.script_core.specs.declared.spelled.SpelledAct.{SpelledAct}
use Rattle.script_core.specs.declared.spelled.SpelledAct.TheVariants as asked
use Rattle.script_core.specs.declared.spelled.SpelledLine.{SpelledLine}

-- the call, the act and the line that words spell
abbrev pub spelled_call : SpelledCall → Call
spelled_call (spelled.Get key) = call.Get key.now
spelled_call (spelled.Part key offset count) = call.Part key.now offset count
spelled_call (spelled.Info key) = call.Info key.now
spelled_call (spelled.Set key digits flags) = call.Set key.now (decoded digits.word.now) flags
spelled_call (spelled.Remove key) = call.Remove key.now
spelled_call (spelled.Start key size flags) = call.Start key.now size flags
spelled_call (spelled.Add digits) = call.Add (decoded digits.word.now)
spelled_call (spelled.IterOpen n prefix) = call.IterOpen n prefix.now
spelled_call (spelled.Whole whole) = whole

abbrev pub spelled_act : SpelledAct → Act
spelled_act (asked.Do words) = Do (spelled_call words)
spelled_act (asked.Cut side n torn) = Cut side n torn

abbrev pub spelled_line : SpelledLine → Line
spelled_line line = record { who = line.who; act = spelled_act line.act }
