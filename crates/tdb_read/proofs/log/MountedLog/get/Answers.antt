use Rattle.std.proofs.Common.{ℕ, length, refl, ◌∙◌, subst}
use Rattle.std.specs.Prelude.{IfOk}
use Rattle.area_log.specs.Reading.{IsWithin}
use Rattle.tdb_read.specs.Reads.{IsHeadOf}
use Rattle.tdb_read.specs.Views.{view_of}
use Rattle.tdb_read.proofs.GetLemmas.{checked_since, get_answer, get_got, head_since, read_then, value_since}
use Rattle.tdb_read.proofs.log.MountedLog.get.Goals as goal

pub read_value-requires-clause-head : goal.read_value-requires-clause-head
read_value-requires-clause-head g c = rw c.in-Some.is at c.in_ok-head.ensures.looks_up

pub returns-clause-answers : goal.returns-clause-answers
returns-clause-answers g c who set =
    let state = g.F.Flash.state in
    let mid = view_of state c.look_up.new.self in
    let new = view_of state c.read_value.new.self in
    let read = c.read_value.ensures in
    let first = c.in_ok-head.ensures.reads in
    let head = c.in-Some.head in
    let is : IsHeadOf mid c.in-Ok.key head = rw c.in-Some.is at c.in_ok-head.ensures.looks_up in
    get_answer (view_of state c.args.self.now) new (read_then first read.reads) set who
    c.args.key.now c.in-Ok.key c.in-Ok.ensures.bytes (c.in-Ok.ensures.valid.0 refl) head.at (head_since c.in-Ok.key head first is)
    c.args.offset (length c.args.buf.now) c.read_value.new.buf (c.read_value.auto.buf ∙ c.fill.auto.self) c.read_value.result
    (value_since new head.at c.args.offset c.read_value.new.buf c.read_value.result first read.gives)
    (subst (λ (n : ℕ). IfOk c.read_value.result (IsWithin c.args.offset n)) c.fill.auto.self read.within)

pub returns-clause-got : goal.returns-clause-got
returns-clause-got g c set =
    let state = g.F.Flash.state in
    let mid = view_of state c.look_up.new.self in
    let new = view_of state c.read_value.new.self in
    let read = c.read_value.ensures in
    let first = c.in_ok-head.ensures.reads in
    let head = c.in-Some.head in
    let is : IsHeadOf mid c.in-Ok.key head = rw c.in-Some.is at c.in_ok-head.ensures.looks_up in
    get_got (view_of state c.args.self.now) new (read_then first read.reads) set 0
    c.args.key.now c.in-Ok.key c.in-Ok.ensures.bytes (c.in-Ok.ensures.valid.0 refl) head.at (head_since c.in-Ok.key head first is)
    c.args.offset (length c.args.buf.now) c.read_value.new.buf (c.read_value.auto.buf ∙ c.fill.auto.self) c.read_value.result
    (value_since new head.at c.args.offset c.read_value.new.buf c.read_value.result first read.gives)
    (subst (λ (n : ℕ). IfOk c.read_value.result (IsWithin c.args.offset n)) c.fill.auto.self read.within)

pub returns-clause-checked : goal.returns-clause-checked
returns-clause-checked g c = checked_since c.args.offset c.read_value.new.buf c.read_value.result c.in_ok-head.ensures.reads c.read_value.ensures.checked
