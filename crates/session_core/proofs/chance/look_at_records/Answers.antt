use Rattle.std.proofs.Common.{◌≡◌, ℕ, ◌+◌, [], ◌∷◌, sym, ◌∙◌, ap, subst, arith}
use Rattle.flash_core.specs.declared.geometry.Geometry.{Geometry}
use Rattle.flash_core.proofs.GeometryLaws.{prog_positive}
use Rattle.flash_core.proofs.KeptLaws.{OnlyReads-refl, OnlyReads-trans}
use Rattle.base_core.specs.Sizes.{master_size, record_size}
use Rattle.area_log.specs.Areas.{end_of, first_place, IsEnd}
use Rattle.area_log.proofs.AreaLemmas.{area_fits}
use Rattle.area_log.proofs.ScanLemmas.{end_more, fitting_of, no_record_of, record_of, record_some, walk_begins}
use Rattle.flash_core.specs.Images.{part}
use Rattle.session_core.specs.Search.{GoesOn}
use Rattle.session_core.proofs.SearchLemmas.{Looked, looked_more, looked_none}
use Rattle.session_core.proofs.chance.look_at_records.Goals as goal

pub overflow_add-place : goal.overflow_add-place
overflow_add-place g c =
    let s = g.F.Flash.state c.args.flash.now in
    let size : c.size_of_record.result ≡ master_size s.geometry.prog = c.size_of_record.ensures ∙ ap (λ (x : Geometry). master_size x.prog) c.geometry-prog.ensures in
    let begins = walk_begins s.geometry c.args.area.now c.requires.can.valid c.requires.can.is_area in
    omega (arith, size, begins.inside.to, area_fits s.geometry c.args.area.now c.requires.can.is_area, c.requires.can.valid.size_limit)

pub loop-header-init : goal.loop-header-init
loop-header-init g c =
    let s = g.F.Flash.state c.args.flash.now in
    let area = c.args.area.now in
    let images = c.args.images.now in
    let first = first_place s.geometry area in
    let size : area.base + c.size_of_record.result ≡ first =
    ap (λ (n : ℕ). area.base + n) (c.size_of_record.ensures ∙ ap (λ (x : Geometry). master_size x.prog) c.geometry-prog.ensures) in
    record {
      reads = OnlyReads-refl s;
      end = subst (IsEnd s.geometry area) (sym size) (walk_begins s.geometry area c.requires.can.valid c.requires.can.is_area);
      looked = subst (λ (p : ℕ). Looked images.before.now images.after.now images.torn.now s.geometry.prog first p c.args.found c.args.found) (sym size)
          (looked_none images.before.now images.after.now images.torn.now s.geometry.prog first c.args.found);
    }

pub loop-header-smaller : goal.loop-header-smaller
loop-header-smaller g c =
    let s = g.F.Flash.state c.args.flash.now in
    let area = c.args.area.now in
    let place = c.loop-header.place in
    let header = c.in-Some.header in
    let fits = fitting_of s.geometry.prog _ (ap (λ (x : Geometry). x.prog) c.loop-header.invariant.reads.geometry) [] place (end_of area) c.read_record.new.key c.in_ok-header.field-0 header c.in-Some.is c.in_ok-header.ensures.fitting in
    let some = record_some s.geometry.prog header.key_size header.value_size (prog_positive s.geometry c.requires.can.valid) in
    let size : c.size_of_record-size.result ≡ record_size s.geometry.prog header.key_size header.value_size =
    c.size_of_record-size.ensures
    ∙ ap (λ (n : ℕ). record_size c.geometry-prog.result.prog n header.value_size) c.from.ensures
    ∙ ap (λ (x : Geometry). record_size x.prog header.key_size header.value_size) c.geometry-prog.ensures in
    omega (arith, some, size, fits.inside)

pub loop-header-preserved : goal.loop-header-preserved
loop-header-preserved g c =
    let s = g.F.Flash.state c.args.flash.now in
    let area = c.args.area.now in
    let images = c.args.images.now in
    let before = images.before.now in
    let after = images.after.now in
    let torn = images.torn.now in
    let place = c.loop-header.place in
    let so_far = c.loop-header.invariant in
    let header = c.in-Some.header in
    let first = first_place s.geometry area in
    let found = c.loop-header.found in
    let new = c.look-found.result in
    let fits = fitting_of s.geometry.prog _ (ap (λ (x : Geometry). x.prog) so_far.reads.geometry) [] place (end_of area) c.read_record.new.key c.in_ok-header.field-0 header c.in-Some.is c.in_ok-header.ensures.fitting in
    let size : c.size_of_record-size.result ≡ record_size s.geometry.prog header.key_size header.value_size =
    c.size_of_record-size.ensures
    ∙ ap (λ (n : ℕ). record_size c.geometry-prog.result.prog n header.value_size) c.from.ensures
    ∙ ap (λ (x : Geometry). record_size x.prog header.key_size header.value_size) c.geometry-prog.ensures in
    let at : place + c.size_of_record-size.result ≡ place + record_size s.geometry.prog header.key_size header.value_size = ap (λ (n : ℕ). place + n) size in
    let there = record_of s.geometry.prog _ (ap (λ (x : Geometry). x.prog) so_far.reads.geometry) torn place (end_of area) c.read_record.new.key c.in_ok-header.field-0 header c.in-Some.is
    (c.in_ok-header.ensures.found torn (so_far.reads.image ∙ c.requires.image)) in
    let goes : GoesOn before after found ((place, part torn place (record_size s.geometry.prog header.key_size header.value_size)) ∷ []) new =
    subst (λ (n : ℕ). GoesOn before after found ((place, part torn place n) ∷ []) new) size c.look-found.ensures in
    record {
      reads = OnlyReads-trans so_far.reads c.in_ok-header.ensures.reads.kept;
      end = subst (IsEnd s.geometry area) (sym at) (end_more s.geometry c.requires.can.valid area place header.key_size header.value_size so_far.end fits.inside);
      looked = subst (λ (p : ℕ). Looked before after torn s.geometry.prog first p c.args.found new) (sym at)
          (looked_more before after torn s.geometry.prog first c.args.found place (end_of area) c.read_record.new.key header found new so_far.looked there goes);
    }

pub returns-clause-found : goal.returns-clause-found
returns-clause-found g c =
    let s = g.F.Flash.state c.args.flash.now in
    let area = c.args.area.now in
    let torn = c.args.images.now.torn.now in
    let place = c.loop-header.place in
    let so_far = c.loop-header.invariant in
    let none = no_record_of s.geometry.prog _ (ap (λ (x : Geometry). x.prog) so_far.reads.geometry) torn place (end_of area) c.read_record.new.key c.in_ok-header.field-0 c.in_default.is
    (c.in_ok-header.ensures.found torn (so_far.reads.image ∙ c.requires.image)) in
    (so_far.looked.records, place, record { each = so_far.looked.each; inside = so_far.end.inside.to; no_more = none }, so_far.looked.goes)
