use Rattle.std.proofs.Common.{ℕ, ◌-◌, ◌≡◌, List, length, drop, replicate, sym, ◌∙◌, ap, subst}
use Rattle.std.proofs.lemmas.List.{take_at}
use Rattle.std.specs.Prelude.{Result, Ok, Err, OnErr, IfOk}
use Rattle.area_log.specs.declared.area.Area.{Area}
use Rattle.area_log.specs.Areas.{IsRange, end_of}
use Rattle.flash_core.specs.State.{FlashState}
use Rattle.area_log.specs.Reading.{ReadsValue}
use Rattle.kv_model.specs.declared.call.Got.{Got}
use Rattle.kv_model.specs.declared.error.KvError.{KvError}
use Rattle.record_core.specs.Lookup.{KeyedSeen}
use Rattle.tdb_read.specs.Reads.{IsChecked}
use Rattle.tdb_read.specs.Views.{LogView, area_in, view_of}
use Rattle.tdb_read.proofs.ReadLemmas.{head_inside, ready_work, value_behind, zeros_read}
use Rattle.tdb_read.proofs.log.MountedLog.read_value.Goals as goal

pub read_behind-requires-clause-inside : goal.read_behind-requires-clause-inside
read_behind-requires-clause-inside g c =
    let v = view_of g.F.Flash.state c.args.self.now in
    subst (λ (a : Area). IsRange a c.args.head.now.at 24) (sym c.area-area.ensures.area) (head_inside v c.requires.ready c.args.key.now c.args.head.now c.requires.head)

pub read_behind-requires-clause-seen : goal.read_behind-requires-clause-seen
read_behind-requires-clause-seen g c =
    let v = view_of g.F.Flash.state c.args.self.now in
    let head = c.args.head.now in
    subst (λ (a : Area). KeyedSeen v.device head.at (end_of a - head.at) head.header c.args.key.now) (sym c.area-area.ensures.area) c.requires.head.seen

pub returns-clause-gives : goal.returns-clause-gives
returns-clause-gives g c =
    let v = view_of g.F.Flash.state c.args.self.now in
    let s = g.F.Flash.state c.read_behind.new.flash in
    let head = c.args.head.now in
    value_behind v (record { device = s; log = v.log }) c.requires.ready c.args.key.now head c.requires.head c.args.offset c.read_behind.new.buf c.read_behind.result
    (subst (λ (a : Area). ReadsValue v.device s head.at (end_of a - head.at) c.args.offset c.read_behind.new.buf c.read_behind.result) c.area-area.ensures.area c.read_behind.ensures.answer)

given : (v : LogView) (s : FlashState) (place offset : ℕ) (buf : List ℕ) (result : Result Got KvError) → IsRange (area_in v.device.geometry v.log) place 24
    → ReadsValue v.device s place (end_of (area_in v.device.geometry v.log) - place) offset buf result → IfOk result (IsChecked v offset buf)
given v s place offset buf (Ok got) inside reads = record { place = place; inside = inside; gives = reads }
given v s place offset buf (Err e) inside reads = tt

on_err : (result : Result Got KvError) (P : Type 0) → OnErr result P → (e : KvError) → result ≡ Err e → P
on_err result P holds e is = subst (λ (r : Result Got KvError). OnErr r P) is holds

pub returns-clause-zeros : goal.returns-clause-zeros
returns-clause-zeros g c =
    zeros_read _ _ _ _ _ (length c.args.buf.now) c.read_behind.new.buf c.read_behind.result c.read_behind.ensures.answer
    (on_err c.read_behind.result (c.read_behind.new.buf ≡ replicate (length c.args.buf.now) 0) c.read_behind.ensures.zeros)

pub returns-clause-ready : goal.returns-clause-ready
returns-clause-ready g c =
    let work = c.args.self.now.work in
    let front = take_at c.read_behind.new.work (drop (length c.read_behind.new.work) work.items) work.len (c.read_behind.auto.work ∙ c.deref_mut.ensures.len) in
    ready_work c.requires.ready c.read_behind.ensures.reads (ap length front ∙ c.read_behind.auto.work ∙ ap length c.deref_mut.ensures.value)

pub returns-clause-checked : goal.returns-clause-checked
returns-clause-checked g c =
    let v = view_of g.F.Flash.state c.args.self.now in
    let s = g.F.Flash.state c.read_behind.new.flash in
    let head = c.args.head.now in
    given v s head.at c.args.offset c.read_behind.new.buf c.read_behind.result (head_inside v c.requires.ready c.args.key.now head c.requires.head)
    (subst (λ (a : Area). ReadsValue v.device s head.at (end_of a - head.at) c.args.offset c.read_behind.new.buf c.read_behind.result) c.area-area.ensures.area c.read_behind.ensures.answer)
