use Rattle.std.specs.Prelude.{is_none}
use Rattle.kv_model.specs.Kv.{KvState}
use Rattle.sealed_pair.specs.Active.{own_of}
use Rattle.sealed_pair.specs.Store.{joined_by}
use Rattle.secure_store.specs.Doubts.{told_by}
use Rattle.secure_store.specs.Recover.{HasRecovered}
use Rattle.secure_store.proofs.RecoverLemmas.{fresh_while, idle_told, recovered_by, settled_above, settled_below, settled_doubt}
use Rattle.secure_store.proofs.SettleLemmas.{at_running, runs_plain}
use Rattle.secure_store.proofs.store.SecureStore.recover_free.Goals as goal

pub heal_all-healed-requires : goal.heal_all-healed-requires
heal_all-healed-requires g c =
    fresh_while c.args.self.now.root c.args.self.now.iv c.args.self.now.active c.requires.free (is_none c.args.self.now.stopped) c.requires.running g.U.Kv.rules_by (g.U.Kv.state c.args.self.now.primary) c.args.self.now.above c.requires.iterators

pub returns-clause-recovers : goal.returns-clause-recovers
returns-clause-recovers g c =
    let u = g.U.Kv.state c.args.self.now.primary in
    let u' = g.U.Kv.state c.heal_all-healed.new.primary in
    let r = g.R.Kv.state c.args.self.now.rollback in
    let r' = g.R.Kv.state c.heal_all-healed.new.rollback in
    let own = own_of c.args.self.now.iv c.args.self.now.active in
    at_running c.args.self.now.stopped c.requires.running c.args.self.now.root own
    (λ (one : KvState → KvState → KvState). HasRecovered (one u r) (told_by c.args.self.now.root own c.stop_after-self.result u' r') c.heal_all-healed.result)
    (recovered_by c.args.self.now.root own g.U.Kv.rules_by g.R.Kv.rules_by u u' r r' (runs_plain _ c.args.self.now.above c.requires.running)
    (idle_told c.args.self.now.root c.args.self.now.iv c.args.self.now.active c.requires.free (is_none c.args.self.now.stopped) c.requires.running g.R.Kv.rules_by r c.args.self.now.below) c.heal_all-healed.ensures.primary
    (g.met.U.Kv.lawful c.heal_all-healed.new.primary) c.heal_all-healed.result c.stop_after-self.result c.stop_after-self.ensures c.heal_all-healed.ensures.rollback (c.heal_all-healed.ensures.cause (joined_by own)) c.heal_all-healed.ensures.heals)

pub invariant_of-self-clause-above : goal.invariant_of-self-clause-above
invariant_of-self-clause-above g c =
    settled_above c.args.self.now.root c.args.self.now.iv c.args.self.now.active c.requires.free (is_none c.args.self.now.stopped) c.requires.running g.U.Kv.rules_by c.heal_all-healed.result c.stop_after-self.result c.stop_after-self.ensures
    (g.U.Kv.state c.args.self.now.primary) (g.U.Kv.state c.heal_all-healed.new.primary) c.args.self.now.above c.heal_all-healed.ensures.primary

pub invariant_of-self-clause-below : goal.invariant_of-self-clause-below
invariant_of-self-clause-below g c =
    settled_below c.args.self.now.root c.args.self.now.iv c.args.self.now.active c.requires.free (is_none c.args.self.now.stopped) c.requires.running g.R.Kv.rules_by c.heal_all-healed.result c.stop_after-self.result c.stop_after-self.ensures
    (g.R.Kv.state c.args.self.now.rollback) (g.R.Kv.state c.heal_all-healed.new.rollback) c.args.self.now.below c.heal_all-healed.ensures.rollback c.heal_all-healed.ensures.stays

pub invariant_of-self-clause-in_doubt : goal.invariant_of-self-clause-in_doubt
invariant_of-self-clause-in_doubt g c = settled_doubt c.heal_all-healed.result c.stop_after-self.result c.stop_after-self.ensures _ _ _
