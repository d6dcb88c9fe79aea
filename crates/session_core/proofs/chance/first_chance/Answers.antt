use Rattle.std.proofs.Common.{◌≡◌, ◌*◌, ◌∙◌, ap, subst}
use Rattle.std.specs.Prelude.{None}
use Rattle.flash_core.specs.declared.geometry.Geometry.{Geometry}
use Rattle.flash_core.specs.Sizes.{area_size}
use Rattle.area_log.specs.declared.area.Area.{Area}
use Rattle.area_log.specs.Areas.{end_of, first_place}
use Rattle.record_core.specs.Log.{AreAllRecords}
use Rattle.record_core.specs.Mounts.{MasterAt, master_reads, record_reads}
use Rattle.session_core.specs.Search.{GoesOn}
use Rattle.session_core.proofs.SearchLemmas.{whole_none, whole_some}
use Rattle.session_core.proofs.chance.first_chance.Goals as goal

pub returns-in_ok-look_at_records-in-Some-clause-found : goal.returns-in_ok-look_at_records-in-Some-clause-found
returns-in_ok-look_at_records-in-Some-clause-found g c =
    let s = g.F.Flash.state c.args.flash.now in
    let before = c.args.images.now.before.now in
    let after = c.args.images.now.after.now in
    let torn = c.args.images.now.torn.now in
    let first = c.in_ok-first.first in
    let second = c.in_ok-second.second in
    let geometry : c.geometry-geometry.result ≡ s.geometry = c.geometry-geometry.ensures in
    let kept = c.in_ok-first.ensures.reads.kept in
    let kept_too = c.in_ok-second.ensures.reads.kept in
    let one = c.look_at_master-found.result in
    let two = c.look_at_master-found-2.result in
    let last = c.in_ok-look_at_records-in-Some.field-0 in
    let walk = c.in_ok-look_at_records-in-Some.ensures.found in
    let records = walk.0 in
    let end = walk.1 in
    let area : c.area_at-area.result ≡ record { base = c.in-Some.number * area_size s.geometry; size = area_size s.geometry } =
    c.area_at-area.ensures.area ∙ ap (λ (x : Geometry). record { base = c.in-Some.number * area_size x; size = area_size x }) geometry in
    let All : Geometry → Area → Type 0 = λ x a. AreAllRecords x.prog torn (first_place x a) (end_of a) end records × GoesOn before after two (record_reads x.prog (first_place x a) records) last in
    let all : All s.geometry (record { base = c.in-Some.number * area_size s.geometry; size = area_size s.geometry }) =
    subst (All s.geometry) area (subst (λ (x : Geometry). All x c.area_at-area.result) (kept_too.geometry ∙ kept.geometry) (walk.2, walk.3)) in
    whole_some s.geometry c.requires.valid before after torn first second
    (c.in_ok-first.ensures.found torn c.requires.image)
    (subst (λ (x : Geometry). MasterAt x.prog torn (area_size s.geometry) second) kept.geometry
    (subst (λ (x : Geometry). MasterAt (g.F.Flash.state c.read_master.new.flash).geometry.prog torn (area_size x) second) geometry (c.in_ok-second.ensures.found torn (kept.image ∙ c.requires.image))))
    one two
    (subst (λ (x : Geometry). GoesOn before after None (master_reads x.prog 0 first) one) geometry c.look_at_master-found.ensures)
    (subst (λ (x : Geometry). GoesOn before after one (master_reads x.prog (area_size x) second) two) geometry c.look_at_master-found-2.ensures)
    c.in-Some.number c.in-Some.ensures.active records end last all.0 all.1

pub returns-in-None-clause-found : goal.returns-in-None-clause-found
returns-in-None-clause-found g c =
    let s = g.F.Flash.state c.args.flash.now in
    let before = c.args.images.now.before.now in
    let after = c.args.images.now.after.now in
    let torn = c.args.images.now.torn.now in
    let first = c.in_ok-first.first in
    let second = c.in_ok-second.second in
    let geometry : c.geometry-geometry.result ≡ s.geometry = c.geometry-geometry.ensures in
    let kept = c.in_ok-first.ensures.reads.kept in
    let one = c.look_at_master-found.result in
    let two = c.look_at_master-found-2.result in
    whole_none s.geometry c.requires.valid before after torn first second
    (c.in_ok-first.ensures.found torn c.requires.image)
    (subst (λ (x : Geometry). MasterAt x.prog torn (area_size s.geometry) second) kept.geometry
    (subst (λ (x : Geometry). MasterAt (g.F.Flash.state c.read_master.new.flash).geometry.prog torn (area_size x) second) geometry (c.in_ok-second.ensures.found torn (kept.image ∙ c.requires.image))))
    one two
    (subst (λ (x : Geometry). GoesOn before after None (master_reads x.prog 0 first) one) geometry c.look_at_master-found.ensures)
    (subst (λ (x : Geometry). GoesOn before after one (master_reads x.prog (area_size x) second) two) geometry c.look_at_master-found-2.ensures)
    c.in-None.ensures.active
