use Rattle.std.proofs.Common.{None, Some, refl}
use Rattle.sealed_pair.proofs.OpeningLemmas.{begins_at}
use Rattle.sealed_pair.proofs.SettingPartLemmas.{entry_other, entry_tag}
use Rattle.sealed_pair.proofs.setting.tag_of.Goals as goal

pub returns-in-None-clause-holds : goal.returns-in-None-clause-holds
returns-in-None-clause-holds g c state tells =
    begins_at state.primary c.args.key.now c.args.key.now c.in_ok-found.found None 16 c.read_front.new.buf refl c.in-None.is (c.in_ok-found.ensures.found state tells)

pub returns-then-got-ne16-clause-holds : goal.returns-then-got-ne16-clause-holds
returns-then-got-ne16-clause-holds g c state tells =
    let begins = begins_at state.primary c.args.key.now c.args.key.now c.in_ok-found.found (Some c.in-Some.got) 16 c.read_front.new.buf refl c.in-Some.is (c.in_ok-found.ensures.found state tells) in
    entry_other _ 16 c.in-Some.got c.read_front.new.buf begins c.if-got-ne16.true

pub returns-else-got-ne16-clause-holds : goal.returns-else-got-ne16-clause-holds
returns-else-got-ne16-clause-holds g c state tells =
    let begins = begins_at state.primary c.args.key.now c.args.key.now c.in_ok-found.found (Some c.in-Some.got) 16 c.read_front.new.buf refl c.in-Some.is (c.in_ok-found.ensures.found state tells) in
    entry_tag _ 16 c.in-Some.got c.read_front.new.buf begins refl c.read_front.auto.buf c.if-got-ne16.false
