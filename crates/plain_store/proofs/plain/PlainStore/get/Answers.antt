use Rattle.std.proofs.Common.{ℕ, length, ap, subst}
use Rattle.kv_model.specs.Given.{got_or}
use Rattle.kv_model.specs.Kv.{answered}
use Rattle.kv_model.specs.Operations.{Part}
use Rattle.tdb_read.specs.States.{AnswersAs}
use Rattle.tdb_read.specs.Views.{view_of}
use Rattle.tdb_read.proofs.GetLemmas.{only_read}
use Rattle.plain_store.specs.Stores.{noted_in}
use Rattle.plain_store.proofs.StoreLemmas.{read_call}
use Rattle.plain_store.proofs.plain.PlainStore.get.Goals as goal

pub returns-clause-answers : goal.returns-clause-answers
returns-clause-answers g c who =
    read_call (view_of g.F.Flash.state c.args.self.now.log) (view_of g.F.Flash.state c.get.new.self) c.args.self.now.active (noted_in c.args.self.now.stopped)
    (ap noted_in c.in_ok-check_running.ensures) (only_read c.get.ensures.reads) (answered who (Part c.args.key.now c.args.offset (length c.args.buf.now)) (got_or c.get.result c.get.new.buf))
    (subst (λ (n : ℕ). AnswersAs (view_of g.F.Flash.state c.args.self.now.log) (view_of g.F.Flash.state c.get.new.self) (answered who (Part c.args.key.now c.args.offset n) (got_or c.get.result c.get.new.buf)))
    c.fill.auto.self (c.get.ensures.answers who))
