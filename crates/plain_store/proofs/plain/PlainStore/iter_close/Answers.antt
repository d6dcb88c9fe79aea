use Rattle.std.proofs.Common.{ap}
use Rattle.kv_model.specs.Given.{done_or}
use Rattle.kv_model.specs.Kv.{answered}
use Rattle.kv_model.specs.Operations.{CloseIterator}
use Rattle.tdb_read.specs.Views.{view_of}
use Rattle.plain_store.specs.Stores.{noted_in}
use Rattle.plain_store.proofs.StoreLemmas.{read_call, read_is}
use Rattle.plain_store.proofs.plain.PlainStore.iter_close.Goals as goal

pub returns-clause-is : goal.returns-clause-is
returns-clause-is g c =
    read_is (view_of g.F.Flash.state c.args.self.now.log) (view_of g.F.Flash.state c.iter_close.new.self) c.args.self.now.active (noted_in c.args.self.now.stopped)
    (ap noted_in c.in_ok-check_running.ensures) c.iter_close.ensures.reads c.requires.is c.iter_close.ensures.ready

pub returns-clause-answers : goal.returns-clause-answers
returns-clause-answers g c =
    read_call (view_of g.F.Flash.state c.args.self.now.log) (view_of g.F.Flash.state c.iter_close.new.self) c.args.self.now.active (noted_in c.args.self.now.stopped)
    (ap noted_in c.in_ok-check_running.ensures) c.iter_close.ensures.reads (answered c.args.who (CloseIterator c.args.n) (done_or c.iter_close.result)) c.iter_close.ensures.answers
