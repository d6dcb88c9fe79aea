use Rattle.std.proofs.Common.{sym, ◌∙◌, ap, arith, length, take}
use Rattle.std.proofs.lemmas.List.{take_all}
use Rattle.sealed_pair.specs.Reading.{part_at}
use Rattle.sealed_pair.proofs.ReadingLemmas.{has_read, is_unread, part_fails, part_given, part_whole}
use Rattle.sealed_pair.proofs.reading.read_part.Goals as goal

pub returns-then-got-buf-clause-read : goal.returns-then-got-buf-clause-read
returns-then-got-buf-clause-read g c = has_read g.K.Kv.rules_by g.met.K.Kv.by_rules 0 c.args.key.now c.args.place _ _ _ _ (c.in-Ok.ensures.answers 0)

pub returns-then-got-buf-clause-part : goal.returns-then-got-buf-clause-part
returns-then-got-buf-clause-part g c stored state tells there within =
    let given = part_given g.K.Kv.rules_by g.met.K.Kv.by_rules c.args.key.now _ _ state tells c.requires c.args.place (length c.args.buf.now) stored there within
    (take c.in-Ok.got.read c.get.new.buf) (c.in-Ok.ensures.answers 0) in
    sym (take_all c.in-Ok.got.read c.get.new.buf (omega (arith, c.if-got-buf.true))) ∙ given ∙ ap (part_at stored.bytes c.args.place) (sym c.get.auto.buf)

pub returns-else-got-buf-clause-read : goal.returns-else-got-buf-clause-read
returns-else-got-buf-clause-read g c = has_read g.K.Kv.rules_by g.met.K.Kv.by_rules 0 c.args.key.now c.args.place _ _ _ _ (c.in-Ok.ensures.answers 0)

pub returns-else-got-buf-clause-part : goal.returns-else-got-buf-clause-part
returns-else-got-buf-clause-part g c stored state tells there within =
    let whole = part_whole g.K.Kv.rules_by g.met.K.Kv.by_rules c.args.key.now _ _ state tells c.requires c.args.place (length c.args.buf.now) stored there within
    c.in-Ok.got.read c.get.new.buf c.in-Ok.ensures.got.fits c.get.auto.buf (c.in-Ok.ensures.answers 0) in
    absurd (c.if-got-buf.false (whole ∙ sym c.get.auto.buf))

pub returns-in-Err-clause-read : goal.returns-in-Err-clause-read
returns-in-Err-clause-read g c = has_read g.K.Kv.rules_by g.met.K.Kv.by_rules 0 c.args.key.now c.args.place _ _ _ _ (c.in-Err.ensures.answers 0)

pub returns-in-Err-clause-refusal : goal.returns-in-Err-clause-refusal
returns-in-Err-clause-refusal g c = is_unread g.K.Kv.rules_by _ _ c.args.key.now c.args.place _ c.in-Err.error (c.in-Err.ensures.answers 0)

pub returns-in-Err-clause-part : goal.returns-in-Err-clause-part
returns-in-Err-clause-part g c stored state tells there within =
    part_fails g.K.Kv.rules_by g.met.K.Kv.by_rules c.args.key.now _ _ state tells c.requires c.args.place (length c.args.buf.now) stored there within c.in-Err.error (c.in-Err.ensures.answers 0)
