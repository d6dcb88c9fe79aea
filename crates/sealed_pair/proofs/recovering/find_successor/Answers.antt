use Rattle.std.proofs.Common.{rules, ap, sym, ◌∙◌, Option, Ok, subst}
use Rattle.std.specs.FinMap.{get}
use Rattle.kv_model.specs.declared.flags.Flags.{Flags}
use Rattle.std.specs.Prelude.{◌%◌}
use Rattle.secure_record.specs.States.{OpenState}
use Rattle.sealed_pair.specs.Absorbing.{BeginsRecord}
use Rattle.sealed_pair.proofs.AbsorbingLemmas.{still_plain}
use Rattle.sealed_pair.proofs.RecoveringLemmas.{only_read, succeeds}
use Rattle.sealed_pair.proofs.recovering.find_successor.Goals as goal

pub returns-in-Ok-clause-found : goal.returns-in-Ok-clause-found
returns-in-Ok-clause-found g c state tells =
    let head = subst (λ (o : Option OpenState). BeginsRecord c.args.root.now c.args.key.now (get state.primary c.args.key.now) (Ok o)) c.in-Ok-Some.field-0-is (c.in-Ok-Some.ensures.begins state tells) in
    succeeds c.args.root.now c.args.key.now (get state.primary c.args.key.now) c.in-Ok-Some.stream.metadata c.in-Ok.found 0 (c.flags.result.bits % 2) c.open_begun.new.buf c.in-Some.prior head
    (c.in-Ok.ensures.shows state (still_plain c.in-Ok-Some.ensures.read tells) head) (ap (λ (f : Flags). f.bits % 2) c.flags.ensures) (sym c.prior.ensures ∙ c.in-Some.is)

pub returns-else-eq-clause-found : goal.returns-else-eq-clause-found
returns-else-eq-clause-found g c state tells =
    let head = subst (λ (o : Option OpenState). BeginsRecord c.args.root.now c.args.key.now (get state.primary c.args.key.now) (Ok o)) c.in-Ok-Some.field-0-is (c.in-Ok-Some.ensures.begins state tells) in
    only_read c.args.root.now c.args.key.now (get state.primary c.args.key.now) c.in-Err-open_begun.refusal 0 c.open_begun.new.buf (search rules)
    (c.in-Err-open_begun.ensures.shows state (still_plain c.in-Ok-Some.ensures.read tells) head)
