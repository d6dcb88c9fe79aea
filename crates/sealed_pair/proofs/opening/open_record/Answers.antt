use Rattle.std.proofs.Common.{Option, Ok, Result, subst}
use Rattle.std.specs.FinMap.{get}
use Rattle.kv_model.specs.declared.error.KvError.{KvError}
use Rattle.secure_record.specs.States.{OpenState}
use Rattle.sealed_pair.specs.declared.opening.Found.{Found}
use Rattle.sealed_pair.specs.Absorbing.{BeginsRecord, ShowsOr}
use Rattle.sealed_pair.proofs.AbsorbingLemmas.{still_plain}
use Rattle.sealed_pair.proofs.OpeningLemmas.{handed}
use Rattle.sealed_pair.proofs.opening.open_record.Goals as goal

pub returns-in_err-found-in-Some-clause-shows : goal.returns-in_err-found-in-Some-clause-shows
returns-in_err-found-in-Some-clause-shows g c state tells =
    let head = subst (λ (s : Option OpenState). BeginsRecord c.args.root.now c.args.key.now (get state.primary c.args.key.now) (Ok s)) c.in-Some.is (c.in_ok-begin.ensures.begins state tells) in
    handed (λ (r : Result (Option Found) KvError). ShowsOr c.args.root.now c.args.key.now (get state.primary c.args.key.now) r c.args.offset c.open_begun.new.buf) c.from_residual-in_err-found-in-Some.result
    c.in_err-found-in-Some.field-0.0 c.from_residual-in_err-found-in-Some.ensures.1
    (c.in_err-found-in-Some.ensures.shows state (still_plain c.in_ok-begin.ensures.read tells) head)
