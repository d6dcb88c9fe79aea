use Rattle.std.proofs.Common.{refl}
use Rattle.tdb_read.specs.Reads.{IsHeadOf}
use Rattle.tdb_read.specs.Views.{view_of}
use Rattle.tdb_read.proofs.GetLemmas.{head_since, info_answer, says_since}
use Rattle.tdb_read.proofs.ReadLemmas.{head_says}
use Rattle.tdb_read.proofs.log.MountedLog.info.Goals as goal

pub returns-clause-answers : goal.returns-clause-answers
returns-clause-answers g c who set =
    let old = view_of g.F.Flash.state c.args.self.now in
    let new = view_of g.F.Flash.state c.look_up.new.self in
    let look = c.in_ok-head.ensures in
    let head = c.in-Some.head in
    let is : IsHeadOf new c.in-Ok.key head = rw c.in-Some.is at look.looks_up in
    info_answer old new look.reads set who c.args.key.now c.in-Ok.key c.in-Ok.ensures.bytes (c.in-Ok.ensures.valid.0 refl) head.at
    (head_since c.in-Ok.key head look.reads is) head.header
    (says_since head look.reads (head_says new new look.ready c.in-Ok.key head is))
