use Rattle.std.proofs.Common.{None, Some, refl}
use Rattle.sealed_pair.proofs.OpeningLemmas.{begins_at}
use Rattle.sealed_pair.proofs.ViewingLemmas.{tag_found, tag_other}
use Rattle.sealed_pair.proofs.viewing.find_tag.Goals as goal

pub returns-in-None-clause-mirrors : goal.returns-in-None-clause-mirrors
returns-in-None-clause-mirrors g c state tells =
    begins_at state.primary c.args.key.now c.args.key.now c.in_ok-found.found None 16 c.read_front.new.buf refl c.in-None.is (c.in_ok-found.ensures.found state tells)

pub returns-then-got-ne16-clause-mirrors : goal.returns-then-got-ne16-clause-mirrors
returns-then-got-ne16-clause-mirrors g c state tells =
    let begins = begins_at state.primary c.args.key.now c.args.key.now c.in_ok-found.found (Some c.in-Some.got) 16 c.read_front.new.buf refl c.in-Some.is (c.in_ok-found.ensures.found state tells) in
    tag_other _ 16 c.in-Some.got c.read_front.new.buf begins refl c.if-got-ne16.true

pub returns-else-got-ne16-2-clause-mirrors : goal.returns-else-got-ne16-2-clause-mirrors
returns-else-got-ne16-2-clause-mirrors g c state tells =
    let begins = begins_at state.primary c.args.key.now c.args.key.now c.in_ok-found.found (Some c.in-Some.got) 16 c.read_front.new.buf refl c.in-Some.is (c.in_ok-found.ensures.found state tells) in
    tag_found _ 16 c.in-Some.got c.read_front.new.buf begins refl c.read_front.auto.buf c.if-got-ne16.false c.if-got-ne16-2.false
