use Rattle.std.proofs.Common.{ap}
use Rattle.kv_model.specs.Given.{facts_or}
use Rattle.kv_model.specs.Kv.{answered}
use Rattle.kv_model.specs.Operations.{Info}
use Rattle.tdb_read.specs.Views.{view_of}
use Rattle.tdb_read.proofs.GetLemmas.{only_read}
use Rattle.plain_store.specs.Stores.{noted_in}
use Rattle.plain_store.proofs.StoreLemmas.{read_call}
use Rattle.plain_store.proofs.plain.PlainStore.info.Goals as goal

pub returns-clause-answers : goal.returns-clause-answers
returns-clause-answers g c who =
    read_call (view_of g.F.Flash.state c.args.self.now.log) (view_of g.F.Flash.state c.info.new.self) c.args.self.now.active (noted_in c.args.self.now.stopped)
    (ap noted_in c.in_ok-check_running.ensures) (only_read c.info.ensures.reads) (answered who (Info c.args.key.now) (facts_or c.info.result)) (c.info.ensures.answers who)
