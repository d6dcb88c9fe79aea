use Rattle.std.proofs.Common.{ℕ, List, refl, subst}
use Rattle.std.specs.Prelude.{Option, Ok}
use Rattle.flash_core.proofs.KeptLaws.{OnlyReads-refl}
use Rattle.tdb_read.specs.Reads.{GivesNext}
use Rattle.tdb_read.specs.Views.{view_of}
use Rattle.tdb_read.proofs.IterLemmas.{next_end, next_error, next_found}
use Rattle.tdb_read.proofs.ReadLemmas.{ready_since}
use Rattle.tdb_read.proofs.log.MountedLog.next.Goals as goal

pub returns-in-Ok-None-clause-answers : goal.returns-in-Ok-None-clause-answers
returns-in-Ok-None-clause-answers g c set =
    let is = c.in-Ok-None.ensures in
    next_end (view_of g.F.Flash.state c.args.self.now) (view_of g.F.Flash.state c.next_key.new.self) is.reads set c.args.who c.args.n
    (subst (λ (o : Option (List ℕ)). GivesNext (view_of g.F.Flash.state c.args.self.now) (view_of g.F.Flash.state c.next_key.new.self) c.args.who c.args.n (Ok o)) c.in-Ok-None.field-0-is is.gives)

pub returns-in-Ok-clause-ready : goal.returns-in-Ok-clause-ready
returns-in-Ok-clause-ready g c = ready_since (record { device = OnlyReads-refl (g.F.Flash.state c.next_key.new.self.flash); log = refl }) c.in-Ok-Some.ensures.ready

pub returns-in-Ok-clause-answers : goal.returns-in-Ok-clause-answers
returns-in-Ok-clause-answers g c set =
    let is = c.in-Ok-Some.ensures in
    next_found (view_of g.F.Flash.state c.args.self.now) (view_of g.F.Flash.state c.next_key.new.self) is.reads set c.args.who c.args.n
    c.advance.new.self c.in-Ok-Some.key _ c.in-Ok.ensures.advanced c.write_key.ensures.key
    (subst (λ (o : Option (List ℕ)). GivesNext (view_of g.F.Flash.state c.args.self.now) (view_of g.F.Flash.state c.next_key.new.self) c.args.who c.args.n (Ok o)) c.in-Ok-Some.field-0-is is.gives)

pub returns-in-Err-clause-answers : goal.returns-in-Err-clause-answers
returns-in-Err-clause-answers g c set =
    let is = c.in-Err.ensures in
    next_error (view_of g.F.Flash.state c.args.self.now) (view_of g.F.Flash.state c.next_key.new.self) is.reads set c.args.who c.args.n c.in-Err.error is.gives
