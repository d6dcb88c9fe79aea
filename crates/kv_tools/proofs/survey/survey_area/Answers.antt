use Rattle.std.proofs.Common.{◌≡◌, ℕ, ◌+◌, [], refl, sym, ◌∙◌, ap, subst, arith}
use Rattle.flash_core.specs.declared.geometry.Geometry.{Geometry}
use Rattle.flash_core.proofs.GeometryLaws.{prog_positive}
use Rattle.flash_core.proofs.KeptLaws.{OnlyReads-refl, OnlyReads-trans}
use Rattle.base_core.specs.Sizes.{master_size, record_size}
use Rattle.kv_model.specs.Write.{map_of}
use Rattle.area_log.specs.Areas.{end_of, first_place, IsEnd}
use Rattle.area_log.proofs.ScanLemmas.{end_more, fitting_of, no_record_of, record_of, record_some, walk_begins}
use Rattle.kv_tools.proofs.SurveyLemmas.{Surveyed, surveyed_more, surveyed_none}
use Rattle.kv_tools.proofs.survey.survey_area.Goals as goal

pub loop-header-init : goal.loop-header-init
loop-header-init g c =
    let s = g.F.Flash.state c.args.flash.now in
    let area = c.args.area.now in
    let first = first_place s.geometry area in
    let size : area.base + c.size_of_record.result ≡ first =
    ap (λ (n : ℕ). area.base + n) (c.size_of_record.ensures ∙ ap (λ (x : Geometry). master_size x.prog) c.geometry-prog.ensures) in
    record {
      reads = OnlyReads-refl s;
      end = subst (IsEnd s.geometry area) (sym size) (walk_begins s.geometry area c.requires.can.valid c.requires.is_area);
      few = omega (arith, size);
      less = omega (arith, size, c.new-live.ensures.used);
      keys = omega (arith, c.new-live.ensures.count);
      surveyed = λ image told. subst (λ (p : ℕ). Surveyed s.geometry.prog image first p c.new-live.result 0) (sym size)
          (surveyed_none s.geometry.prog image first c.new-live.result 0 refl (c.new-live.ensures.none s.geometry.prog));
    }

pub loop-header-smaller : goal.loop-header-smaller
loop-header-smaller g c =
    let s = g.F.Flash.state c.args.flash.now in
    let area = c.args.area.now in
    let place = c.loop-header.place in
    let header = c.in-Some.header in
    let fits = fitting_of s.geometry.prog _ (ap (λ (x : Geometry). x.prog) c.loop-header.invariant.reads.geometry) [] place (end_of area) c.header_at.new.key c.header_at.result header c.in-Some.is c.header_at.ensures.fitting in
    let some = record_some s.geometry.prog header.key_size header.value_size (prog_positive s.geometry c.requires.can.valid) in
    let size : c.size_of_record-size.result ≡ record_size s.geometry.prog header.key_size header.value_size =
    c.size_of_record-size.ensures
    ∙ ap (λ (n : ℕ). record_size c.geometry-prog.result.prog n header.value_size) c.from.ensures
    ∙ ap (λ (x : Geometry). record_size x.prog header.key_size header.value_size) c.geometry-prog.ensures in
    omega (arith, some, size, fits.inside)

pub loop-header-preserved : goal.loop-header-preserved
loop-header-preserved g c =
    let s = g.F.Flash.state c.args.flash.now in
    let area = c.args.area.now in
    let place = c.loop-header.place in
    let so_far = c.loop-header.invariant in
    let header = c.in-Some.header in
    let first = first_place s.geometry area in
    let fits = fitting_of s.geometry.prog _ (ap (λ (x : Geometry). x.prog) so_far.reads.geometry) [] place (end_of area) c.header_at.new.key c.header_at.result header c.in-Some.is c.header_at.ensures.fitting in
    let some = record_some s.geometry.prog header.key_size header.value_size (prog_positive s.geometry c.requires.can.valid) in
    let size : c.size_of_record-size.result ≡ record_size s.geometry.prog header.key_size header.value_size =
    c.size_of_record-size.ensures
    ∙ ap (λ (n : ℕ). record_size c.geometry-prog.result.prog n header.value_size) c.from.ensures
    ∙ ap (λ (x : Geometry). record_size x.prog header.key_size header.value_size) c.geometry-prog.ensures in
    let at : place + c.size_of_record-size.result ≡ place + record_size s.geometry.prog header.key_size header.value_size = ap (λ (n : ℕ). place + n) size in
    record {
      reads = OnlyReads-trans so_far.reads c.header_at.ensures.reads;
      end = subst (IsEnd s.geometry area) (sym at) (end_more s.geometry c.requires.can.valid area place header.key_size header.value_size so_far.end fits.inside);
      few = omega (arith, so_far.few, some, size);
      less = omega (arith, so_far.less, c.in_ok-take_in.ensures.used);
      keys = omega (arith, so_far.keys, c.in_ok-take_in.ensures.count);
      surveyed = λ image told.
          let there = record_of s.geometry.prog _ (ap (λ (x : Geometry). x.prog) so_far.reads.geometry) image place (end_of area) c.header_at.new.key c.header_at.result header c.in-Some.is
          (c.header_at.ensures.found image (so_far.reads.image ∙ told)) in
          let before = so_far.surveyed image told in
          subst (λ (p : ℕ). Surveyed s.geometry.prog image first p c.take_in.new.self (c.loop-header.records + 1)) (sym at)
          (surveyed_more s.geometry.prog image first place (end_of area) c.header_at.new.key header c.loop-header.live c.take_in.new.self c.loop-header.records before there
          (λ r key kind sized stands. c.in_ok-take_in.ensures.stands s.geometry.prog (map_of before.records) r key kind (size ∙ sized) stands));
    }

pub returns-clause-found : goal.returns-clause-found
returns-clause-found g c image told =
    let s = g.F.Flash.state c.args.flash.now in
    let area = c.args.area.now in
    let place = c.loop-header.place in
    let so_far = c.loop-header.invariant in
    let surveyed = so_far.surveyed image told in
    let none = no_record_of s.geometry.prog _ (ap (λ (x : Geometry). x.prog) so_far.reads.geometry) image place (end_of area) c.header_at.new.key c.header_at.result c.in_default.is
    (c.header_at.ensures.found image (so_far.reads.image ∙ told)) in
    record {
      records = surveyed.records;
      all = record { each = surveyed.each; inside = so_far.end.inside.to; no_more = none };
      count = surveyed.count_is;
      live = c.len.ensures.len ∙ surveyed.stands.count;
      used = surveyed.stands.used_is;
    }
