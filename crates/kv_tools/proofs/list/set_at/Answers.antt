use Rattle.std.proofs.Common.{◌≡◌, ℕ, ◌+◌, List, sym, ◌∙◌, ap, subst}
use Rattle.base_core.specs.Units.{up}
use Rattle.flash_core.specs.declared.geometry.Geometry.{Geometry}
use Rattle.flash_core.specs.Images.{part}
use Rattle.flash_core.proofs.GeometryLaws.{prog_positive}
use Rattle.script_core.specs.Grammar.{IsLine}
use Rattle.tdb_mount.proofs.MountLemmas.{some_is}
use Rattle.tdb_read.specs.Records.{record_at}
use Rattle.kv_tools.specs.Listing.{set_of}
use Rattle.kv_tools.proofs.ListLemmas.{line_is, line_valid}
use Rattle.kv_tools.proofs.list.set_at.Goals as goal

pub returns-clause-valid : goal.returns-clause-valid
returns-clause-valid g c =
    let s = g.F.Flash.state c.args.flash.now in
    let there = c.requires.there in
    subst IsLine (sym c.set_line_of.ensures)
    (line_valid s.geometry.prog (prog_positive s.geometry c.requires.can.valid) there.0 c.args.place there.2.this there.2.stands c.head_at-header.new.key c.head_at-header.result
    (c.head_at-header.ensures.head there.0 there.1) there.2.kept c.as_slice.ensures.valid c.in_ok-key.key c.in_ok-value.value (c.in_ok-key.ensures ∙ c.as_slice.ensures.bytes))

pub returns-clause-line : goal.returns-clause-line
returns-clause-line g c image told =
    let s = g.F.Flash.state c.args.flash.now in
    let there = c.requires.there in
    let header = c.head_at-header.result in
    let reads = c.head_at-header.ensures.reads in
    let same : there.0 ≡ image = some_is there.0 image (sym there.1 ∙ told) in
    let value : c.in_ok-value.value ≡ part there.0 (c.args.place + (up s.geometry.prog 24 + header.key_size)) header.value_size =
    c.in_ok-value.ensures.value there.0 (reads.image ∙ there.1) ∙ ap (λ (x : Geometry). part there.0 (c.args.place + (up x.prog 24 + header.key_size)) header.value_size) reads.geometry in
    c.set_line_of.ensures
    ∙ line_is s.geometry.prog (prog_positive s.geometry c.requires.can.valid) there.0 c.args.place there.2.this there.2.stands c.head_at-header.new.key header
    (c.head_at-header.ensures.head there.0 there.1) (sym c.head_at-header.ensures.key_size) c.in_ok-key.key c.in_ok-value.value (c.in_ok-key.ensures ∙ c.as_slice.ensures.bytes) value
    ∙ ap (λ (l : List ℕ). set_of (record_at s.geometry.prog l c.args.place)) same
