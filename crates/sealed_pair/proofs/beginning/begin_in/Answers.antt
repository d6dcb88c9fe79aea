use Rattle.std.proofs.Common.{Option, subst, sym}
use Rattle.std.specs.Prelude.{is_some}
use Rattle.kv_model.specs.declared.flags.Flags.{Flags}
use Rattle.sealed_pair.specs.Active.{share_of_remove}
use Rattle.sealed_pair.specs.Begun.{begins_remove}
use Rattle.sealed_pair.specs.Going.{Failed, WhereStill}
use Rattle.sealed_pair.specs.Removing.{HeldAs}
use Rattle.sealed_pair.proofs.BegunLemmas.{not_begun}
use Rattle.sealed_pair.proofs.beginning.begin_in.Goals as goal

pub returns-in-Err : goal.returns-in-Err
returns-in-Err g c =
    subst (λ (o : Option Flags). Failed g.S.Kv.rules_by (begins_remove c.args.who c.args.key.now (share_of_remove c.args.who c.args.key.now (is_some o))) (g.S.Kv.state c.args.store.now)
    (g.S.Kv.state c.remove_start.new.self) c.in-Err.refusal) (sym c.in-Some.is)
    (not_begun c.args.key.now c.args.who g.S.Kv.rules_by (g.S.Kv.state c.args.store.now) (g.S.Kv.state c.remove_start.new.self) c.requires.key
    (subst (λ (o : Option Flags). WhereStill g.S.Kv.rules_by (g.S.Kv.state c.args.store.now) (HeldAs c.args.key.now o)) c.in-Some.is c.requires.store) c.in-Err.refusal c.in-Err.ensures)
