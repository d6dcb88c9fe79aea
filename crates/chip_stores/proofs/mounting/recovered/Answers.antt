use Rattle.sealed_pair.specs.Active.{own_of}
use Rattle.secure_store.specs.SecureState.{state_in}
use Rattle.chip_stores.specs.Stores.{plain_told}
use Rattle.chip_stores.proofs.HealingLemmas.{has_healed, partly_healed, running_doubt}
use Rattle.chip_stores.proofs.mounting.recovered.Goals as goal

pub returns-in-Ok-clause-healed : goal.returns-in-Ok-clause-healed
returns-in-Ok-clause-healed c =
    let s = c.args.store in
    has_healed (state_in s) (state_in c.recover.new.self)
    (running_doubt s.root (own_of s.iv s.active) s.stopped (plain_told s.primary.store) (plain_told s.rollback.store) c.requires.runs)
    c.requires.sound c.in-Ok.field-0 c.in-Ok.ensures.recovers

pub returns-in-Err-clause-healed : goal.returns-in-Err-clause-healed
returns-in-Err-clause-healed c =
    let s = c.args.store in
    partly_healed (state_in s) (state_in c.recover.new.self)
    (running_doubt s.root (own_of s.iv s.active) s.stopped (plain_told s.primary.store) (plain_told s.rollback.store) c.requires.runs)
    c.requires.sound c.in-Err.field-0 c.in-Err.ensures.recovers
