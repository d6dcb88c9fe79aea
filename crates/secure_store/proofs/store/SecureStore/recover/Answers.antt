use Rattle.std.proofs.Common.{rules, ◌≡◌, true}
use Rattle.std.specs.Prelude.{is_some}
use Rattle.sealed_pair.specs.Active.{own_of}
use Rattle.secure_store.proofs.RecoverLemmas.{stopped_recovers}
use Rattle.secure_store.proofs.store.SecureStore.recover.Goals as goal

pub returns-then-is_some-clause-recovers : goal.returns-then-is_some-clause-recovers
returns-then-is_some-clause-recovers g c =
    let stopped : is_some c.args.self.now.stopped ≡ true = search rules in
    stopped_recovers c.args.self.now.root (g.U.Kv.state c.args.self.now.primary) (g.R.Kv.state c.args.self.now.rollback) (own_of c.args.self.now.iv c.args.self.now.active) c.args.self.now.stopped stopped
    c.args.self.now.in_doubt
