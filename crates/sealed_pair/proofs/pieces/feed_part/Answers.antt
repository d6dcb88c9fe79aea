use Rattle.std.proofs.Common.{rules, ◌≡◌, ◌+◌, ◌-◌, length, sym, ◌∙◌, arith, subst}
use Rattle.sealed_pair.proofs.PieceLemmas.{fed_more, more_fails}
use Rattle.sealed_pair.specs.declared.partial.PartialSet.{PartialSet}
use Rattle.sealed_pair.specs.Pieces.{HasFedMore, set_more}
use Rattle.sealed_pair.specs.Setting.{calls}
use Rattle.sealed_pair.proofs.pieces.feed_part.Goals as goal

pub returns-in-Err-add_part-clause-fails : goal.returns-in-Err-add_part-clause-fails
returns-in-Err-add_part-clause-fails g c =
    more_fails g.K.Kv.rules_by (g.K.Kv.state c.args.store.now) (g.K.Kv.state c.feed_head.new.store) (g.K.Kv.state c.add_part.new.store) c.args.who c.args.set c.in-Ok.ensures.fed c.args.value.now
    c.in-Err-add_part.refusal c.in-Err-add_part.ensures.fails c.in-Err-add_part.ensures.may c.requires.fits

pub returns-clause-fed : goal.returns-clause-fed
returns-clause-fed g c =
    let later : PartialSet = set_more c.args.set c.args.value.now c.add_part.new.stream (c.args.set.left - length c.args.value.now) in
    let part = c.in-Ok-add_part.ensures.added in
    let counted : c.add_part.new.stream.body.left ≡ c.args.set.left - length c.args.value.now = omega (arith, part.left, c.requires.counted) in
    subst (HasFedMore (calls g.K.Kv.rules_by (g.K.Kv.state c.args.store.now) (g.K.Kv.state c.add_part.new.store) c.args.who) c.args.value.now c.args.set)
    (λ i. record later { value = record { bytes = sym c.note_more.ensures i } })
    (fed_more g.K.Kv.rules_by (g.K.Kv.state c.args.store.now) (g.K.Kv.state c.feed_head.new.store) (g.K.Kv.state c.add_part.new.store) c.args.who c.args.set c.in-Ok.ensures.fed c.add_part.new.stream (c.args.set.left - length c.args.value.now)
    c.args.value.now part counted c.requires.fits)
