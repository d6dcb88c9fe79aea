use Rattle.std.proofs.Common.{◌≡◌, ℕ, ◌+◌, List, [], refl, sym, ◌∙◌, ap, subst, arith}
use Rattle.flash_core.specs.declared.geometry.Geometry.{Geometry}
use Rattle.flash_core.proofs.GeometryLaws.{prog_positive}
use Rattle.flash_core.proofs.KeptLaws.{OnlyReads-refl, OnlyReads-trans}
use Rattle.flash_core.proofs.RunLaws.{counts_same}
use Rattle.base_core.specs.Sizes.{master_size, record_size}
use Rattle.area_log.specs.declared.area.Area.{Area}
use Rattle.area_log.specs.Areas.{end_of, first_place, IsEnd, IsRange}
use Rattle.area_log.proofs.AreaLemmas.{area_fits}
use Rattle.area_log.specs.Listing.{Found, IsNext, listed}
use Rattle.area_log.proofs.ScanLemmas.{Walked, end_more, fault_handed, fitting_of, no_record_of, reads_of, record_of, record_some, refusal_handed, visits_after, visits_handed, visits_read, visits_reads, walk_begins, walked_all, walked_more, walked_next, walked_none}
use Rattle.area_log.proofs.area.Area.scan.Goals as goal

pub overflow_add-place : goal.overflow_add-place
overflow_add-place g c =
    let s = g.F.Flash.state c.args.flash.now in
    let size : c.size_of_record.result ≡ master_size s.geometry.prog = c.size_of_record.ensures ∙ ap (λ (x : Geometry). master_size x.prog) c.geometry-prog.ensures in
    let begins = walk_begins s.geometry c.args.self.now c.requires.can.valid c.requires.can.is_area in
    omega (arith, size, begins.inside.to, area_fits s.geometry c.args.self.now c.requires.can.is_area, c.requires.can.valid.size_limit)

pub loop-header-init : goal.loop-header-init
loop-header-init g c =
    let s = g.F.Flash.state c.args.flash.now in
    let area = c.args.self.now in
    let size : area.base + c.size_of_record.result ≡ first_place s.geometry area =
    ap (λ (n : ℕ). area.base + n) (c.size_of_record.ensures ∙ ap (λ (x : Geometry). master_size x.prog) c.geometry-prog.ensures) in
    record {
      reads = OnlyReads-refl s;
      counts = record { of_reads = refl; of_writes = refl };
      refusals = refl;
      same = c.requires.same;
      end = subst (IsEnd s.geometry area) (sym size) (walk_begins s.geometry area c.requires.can.valid c.requires.can.is_area);
      walked = λ image told. subst (λ (p : ℕ). Walked s.geometry image area p (g.V.Visitor.stands_for c.args.visitor.now)) (sym size)
          (walked_none s.geometry image area (g.V.Visitor.stands_for c.args.visitor.now) c.requires.none);
    }

pub found-requires-clause-inside : goal.found-requires-clause-inside
found-requires-clause-inside g c =
    let s = g.F.Flash.state c.args.flash.now in
    let area = c.args.self.now in
    let place = c.loop-header.place in
    let so_far = c.loop-header.invariant in
    let fits = fitting_of s.geometry.prog _ (ap (λ (x : Geometry). x.prog) so_far.reads.geometry) [] place (end_of area) c.read_record.new.key c.in_ok-header.field-0 c.in-Some.header c.in-Some.is c.in_ok-header.ensures.fitting in
    let some = record_some s.geometry.prog c.in-Some.header.key_size c.in-Some.header.value_size (prog_positive s.geometry c.requires.can.valid) in
    subst (λ (a : Area). IsRange a place 24) (sym so_far.same) (record { from = so_far.end.inside.from; to = omega (arith, some, fits.inside) })

pub found-requires-clause-next : goal.found-requires-clause-next
found-requires-clause-next g c image told =
    let s = g.F.Flash.state c.args.flash.now in
    let area = c.args.self.now in
    let place = c.loop-header.place in
    let so_far = c.loop-header.invariant in
    let kept = c.in_ok-header.ensures.reads.kept in
    let told_then = sym kept.image ∙ told in
    let walked = so_far.walked image (sym so_far.reads.image ∙ told_then) in
    let there = record_of s.geometry.prog _ (ap (λ (x : Geometry). x.prog) so_far.reads.geometry) image place (end_of area) c.read_record.new.key c.in_ok-header.field-0 c.in-Some.header c.in-Some.is (c.in_ok-header.ensures.found image told_then) in
    let found : Found = record { at = place; key = c.read_record.new.key; header = c.in-Some.header } in
    let before : List Found = listed s.geometry.prog (first_place s.geometry area) walked.records in
    let next : IsNext s.geometry image area found before = walked_next s.geometry image area place _ walked c.read_record.new.key c.in-Some.header there in (
      before,
      subst (λ (x : Geometry). IsNext x image (g.V.Visitor.area c.loop-header.visitor) found before) (sym (kept.geometry ∙ so_far.reads.geometry))
          (subst (λ (a : Area). IsNext s.geometry image a found before) (sym so_far.same) next),
      walked.stands,
    )

pub loop-header-smaller : goal.loop-header-smaller
loop-header-smaller g c =
    let s = g.F.Flash.state c.args.flash.now in
    let area = c.args.self.now in
    let place = c.loop-header.place in
    let so_far = c.loop-header.invariant in
    let header = c.in-Some.header in
    let fits = fitting_of s.geometry.prog _ (ap (λ (x : Geometry). x.prog) so_far.reads.geometry) [] place (end_of area) c.read_record.new.key c.in_ok-header.field-0 header c.in-Some.is c.in_ok-header.ensures.fitting in
    let some = record_some s.geometry.prog header.key_size header.value_size (prog_positive s.geometry c.requires.can.valid) in
    let size : c.size_of_record-place.result ≡ record_size s.geometry.prog header.key_size header.value_size =
    c.size_of_record-place.ensures
    ∙ ap (λ (n : ℕ). record_size c.geometry-prog.result.prog n header.value_size) c.from.ensures
    ∙ ap (λ (x : Geometry). record_size x.prog header.key_size header.value_size) c.geometry-prog.ensures in
    omega (arith, some, size, fits.inside)

pub loop-header-preserved : goal.loop-header-preserved
loop-header-preserved g c =
    let s = g.F.Flash.state c.args.flash.now in
    let area = c.args.self.now in
    let place = c.loop-header.place in
    let so_far = c.loop-header.invariant in
    let header = c.in-Some.header in
    let kept = c.in_ok-header.ensures.reads.kept in
    let visit = c.in_ok-found.ensures in
    let fits = fitting_of s.geometry.prog _ (ap (λ (x : Geometry). x.prog) so_far.reads.geometry) [] place (end_of area) c.read_record.new.key c.in_ok-header.field-0 header c.in-Some.is c.in_ok-header.ensures.fitting in
    let size : c.size_of_record-place.result ≡ record_size s.geometry.prog header.key_size header.value_size =
    c.size_of_record-place.ensures
    ∙ ap (λ (n : ℕ). record_size c.geometry-prog.result.prog n header.value_size) c.from.ensures
    ∙ ap (λ (x : Geometry). record_size x.prog header.key_size header.value_size) c.geometry-prog.ensures in
    let at : place + c.size_of_record-place.result ≡ place + record_size s.geometry.prog header.key_size header.value_size = ap (λ (n : ℕ). place + n) size in
    let stands_for : List Found → Type 0 = g.V.Visitor.stands_for c.found.new.self in
    record {
      reads = OnlyReads-trans so_far.reads (OnlyReads-trans kept (reads_of _ visit.visits));
      counts = counts_same so_far.counts (counts_same c.in_ok-header.ensures.reads.counts visit.visits.counts);
      refusals = visit.refusals ∙ so_far.refusals;
      same = visit.area ∙ so_far.same;
      end = subst (IsEnd s.geometry area) (sym at) (end_more s.geometry c.requires.can.valid area place header.key_size header.value_size so_far.end fits.inside);
      walked = λ image told.
          let told_then = so_far.reads.image ∙ told in
          let told_now = kept.image ∙ told_then in
          let walked = so_far.walked image told in
          let there = record_of s.geometry.prog _ (ap (λ (x : Geometry). x.prog) so_far.reads.geometry) image place (end_of area) c.read_record.new.key c.in_ok-header.field-0 header c.in-Some.is (c.in_ok-header.ensures.found image told_then) in
          let found : Found = record { at = place; key = c.read_record.new.key; header = header } in
          let before : List Found = listed s.geometry.prog (first_place s.geometry area) walked.records in
          let next : IsNext s.geometry image area found before = walked_next s.geometry image area place _ walked c.read_record.new.key header there in
          let more = visit.stands image told_now before
          (subst (λ (x : Geometry). IsNext x image (g.V.Visitor.area c.loop-header.visitor) found before) (sym (kept.geometry ∙ so_far.reads.geometry))
          (subst (λ (a : Area). IsNext s.geometry image a found before) (sym so_far.same) next)) walked.stands in
          subst (λ (p : ℕ). Walked s.geometry image area p stands_for) (sym at)
          (walked_more s.geometry image area place _ walked c.read_record.new.key header there stands_for more);
    }

pub returns-clause-all : goal.returns-clause-all
returns-clause-all g c image told =
    let s = g.F.Flash.state c.args.flash.now in
    let area = c.args.self.now in
    let place = c.loop-header.place in
    let so_far = c.loop-header.invariant in
    let none = no_record_of s.geometry.prog _ (ap (λ (x : Geometry). x.prog) so_far.reads.geometry) image place (end_of area) c.read_record.new.key c.in_ok-header.field-0 c.in_default.is
    (c.in_ok-header.ensures.found image (so_far.reads.image ∙ told)) in
    walked_all s.geometry image area place _ (so_far.walked image told) none so_far.end.inside.to

-- ---- what was read, and refused

pub returns-in_err-header-clause-visits : goal.returns-in_err-header-clause-visits
returns-in_err-header-clause-visits g c =
    let so_far = c.loop-header.invariant in
    visits_handed c.from_residual.result c.in_err-header.field-0.0 c.from_residual.ensures.1
    (visits_after _ so_far.reads so_far.counts (visits_read _ c.in_err-header.ensures.reads))

pub returns-in_err-header-clause-handed_on : goal.returns-in_err-header-clause-handed_on
returns-in_err-header-clause-handed_on g c =
    fault_handed c.from_residual.result c.in_err-header.field-0.0 c.from_residual.ensures.1 _ _ _ c.loop-header.invariant.refusals refl c.in_err-header.ensures.reads.cause.0

pub returns-in_err-found-clause-visits : goal.returns-in_err-found-clause-visits
returns-in_err-found-clause-visits g c =
    let so_far = c.loop-header.invariant in
    let read = c.in_ok-header.ensures.reads in
    visits_handed c.from_residual-in_err-found.result c.in_err-found.field-0.0 c.from_residual-in_err-found.ensures.1
    (visits_after _ (OnlyReads-trans so_far.reads read.kept) (counts_same so_far.counts read.counts) c.in_err-found.ensures.visits)

pub returns-in_err-found-clause-handed_on : goal.returns-in_err-found-clause-handed_on
returns-in_err-found-clause-handed_on g c =
    refusal_handed c.from_residual-in_err-found.result c.in_err-found.field-0.0 c.from_residual-in_err-found.ensures.1 _ _ _ c.loop-header.invariant.refusals c.in_err-found.ensures.refusals

pub returns-clause-visits : goal.returns-clause-visits
returns-clause-visits g c =
    let so_far = c.loop-header.invariant in
    let read = c.in_ok-header.ensures.reads in
    visits_reads _ (OnlyReads-trans so_far.reads read.kept) (counts_same so_far.counts read.counts)

pub returns-clause-handed_on : goal.returns-clause-handed_on
returns-clause-handed_on g c = c.loop-header.invariant.refusals
