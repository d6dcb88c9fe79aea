use Rattle.std.proofs.Common.{◌≡◌, ℕ, ◌+◌, ◌-◌, ◌≤◌, List, ◌++◌, length, refl, sym, ◌∙◌, ap, subst, arith, inl, inr, ⊎_elim}
use Rattle.std.specs.List.{remove}
use Rattle.flash_core.specs.declared.geometry.Geometry.{Geometry}
use Rattle.flash_core.specs.Sizes.{IsValid}
use Rattle.record_core.proofs.EndingLemmas.{handed_error}
use Rattle.area_log.specs.declared.area.Area.{Area}
use Rattle.area_log.specs.Areas.{end_of, first_place}
use Rattle.ram_table.specs.declared.table.Entry.{Entry}
use Rattle.area_collect.specs.declared.entries.Route.{Route}
use Rattle.area_collect.specs.Copies.{AreIn, Copied, IsNotCopied, IsRoute, segment}
use Rattle.area_collect.specs.Collection.{copy_of, number_of}
use Rattle.area_collect.proofs.CollectLemmas.{Filling, if_err_map, if_ok_map, remove_in, segment_in, copies_made, erased_filling, fill_runs, fill_within, filling_more, not_copied_before, same_copies, start_end, start_erased, start_inside}
use Rattle.area_collect.proofs.EntryLemmas.{copied_more_records, end_at, handed_cause, not_copied_ahead, not_copied_more, segment_without}
use Rattle.area_collect.proofs.KeptLemmas.{only_faults}
use Rattle.area_collect.proofs.collection.copy_without.Goals as goal

pub returns-in_err-start-clause-within : goal.returns-in_err-start-clause-within
returns-in_err-start-clause-within g c =
    let old = g.F.Flash.state c.args.flash.now in
    let from : Area = c.args.from.now in
    let to : Area = c.args.to.now in
    let entries : List Entry = c.args.table.now.entries in
    let lawful = g.met.F.Flash.lawful c.args.flash.now in
    let valid = c.requires.can.valid in
    let area = c.requires.can.is_area in
    let route : Route = record { from = from; to = to } in
    let is_route : IsRoute old.geometry route = record { from = c.requires.from; to = area; apart = c.requires.apart } in
    fill_within lawful valid to area (handed_error c.from_residual.result c.in_err-start.field-0.0 c.from_residual.ensures.1 c.in_err-start.ensures.runs)

pub copy_entries-requires-clause-end : goal.copy_entries-requires-clause-end
copy_entries-requires-clause-end g c =
    let old = g.F.Flash.state c.args.flash.now in
    let from : Area = c.args.from.now in
    let to : Area = c.args.to.now in
    let entries : List Entry = c.args.table.now.entries in
    let lawful = g.met.F.Flash.lawful c.args.flash.now in
    let valid = c.requires.can.valid in
    let area = c.requires.can.is_area in
    let route : Route = record { from = from; to = to } in
    let is_route : IsRoute old.geometry route = record { from = c.requires.from; to = area; apart = c.requires.apart } in
    let place : ℕ = c.in_ok-start.start in
    let n : ℕ = end_of to - place in
    let place_is : place ≡ first_place old.geometry to = c.in_ok-start.ensures.place in
    let first = c.in_ok-start.ensures in
    let filling : Filling old (g.F.Flash.state c.erase_area.new.flash) (number_of to) = erased_filling lawful valid to area first.runs first.erased in
    let inside : place ≤ end_of to = start_inside old.geometry valid to area place place_is in
    start_end old.geometry valid to area place place_is _ first.runs.kept.geometry

pub copy_entries-requires-clause-erased : goal.copy_entries-requires-clause-erased
copy_entries-requires-clause-erased g c =
    let old = g.F.Flash.state c.args.flash.now in
    let from : Area = c.args.from.now in
    let to : Area = c.args.to.now in
    let entries : List Entry = c.args.table.now.entries in
    let lawful = g.met.F.Flash.lawful c.args.flash.now in
    let valid = c.requires.can.valid in
    let area = c.requires.can.is_area in
    let route : Route = record { from = from; to = to } in
    let is_route : IsRoute old.geometry route = record { from = c.requires.from; to = area; apart = c.requires.apart } in
    let place : ℕ = c.in_ok-start.start in
    let n : ℕ = end_of to - place in
    let place_is : place ≡ first_place old.geometry to = c.in_ok-start.ensures.place in
    let first = c.in_ok-start.ensures in
    let filling : Filling old (g.F.Flash.state c.erase_area.new.flash) (number_of to) = erased_filling lawful valid to area first.runs first.erased in
    let inside : place ≤ end_of to = start_inside old.geometry valid to area place place_is in
    start_erased lawful valid to area place place_is first.runs.kept first.erased

pub returns-in_err-end-clause-runs : goal.returns-in_err-end-clause-runs
returns-in_err-end-clause-runs g c =
    let old = g.F.Flash.state c.args.flash.now in
    let from : Area = c.args.from.now in
    let to : Area = c.args.to.now in
    let entries : List Entry = c.args.table.now.entries in
    let lawful = g.met.F.Flash.lawful c.args.flash.now in
    let valid = c.requires.can.valid in
    let area = c.requires.can.is_area in
    let route : Route = record { from = from; to = to } in
    let is_route : IsRoute old.geometry route = record { from = c.requires.from; to = area; apart = c.requires.apart } in
    let place : ℕ = c.in_ok-start.start in
    let n : ℕ = end_of to - place in
    let place_is : place ≡ first_place old.geometry to = c.in_ok-start.ensures.place in
    let first = c.in_ok-start.ensures in
    let filling : Filling old (g.F.Flash.state c.erase_area.new.flash) (number_of to) = erased_filling lawful valid to area first.runs first.erased in
    let inside : place ≤ end_of to = start_inside old.geometry valid to area place place_is in
    handed_error c.from_residual-in_err-end.result c.in_err-end.field-0.0 c.from_residual-in_err-end.ensures.1
    (fill_runs lawful valid to area place n (omega (arith, place_is)) (omega (arith, inside)) filling c.in_err-end.ensures.runs)

pub returns-in_err-end-clause-within : goal.returns-in_err-end-clause-within
returns-in_err-end-clause-within g c =
    let old = g.F.Flash.state c.args.flash.now in
    let from : Area = c.args.from.now in
    let to : Area = c.args.to.now in
    let entries : List Entry = c.args.table.now.entries in
    let lawful = g.met.F.Flash.lawful c.args.flash.now in
    let valid = c.requires.can.valid in
    let area = c.requires.can.is_area in
    let route : Route = record { from = from; to = to } in
    let is_route : IsRoute old.geometry route = record { from = c.requires.from; to = area; apart = c.requires.apart } in
    fill_within lawful valid to area (returns-in_err-end-clause-runs g c)

pub returns-in_err-end-clause-cause : goal.returns-in_err-end-clause-cause
returns-in_err-end-clause-cause g c =
    let old = g.F.Flash.state c.args.flash.now in
    let from : Area = c.args.from.now in
    let to : Area = c.args.to.now in
    let entries : List Entry = c.args.table.now.entries in
    let lawful = g.met.F.Flash.lawful c.args.flash.now in
    let valid = c.requires.can.valid in
    let area = c.requires.can.is_area in
    let route : Route = record { from = from; to = to } in
    let is_route : IsRoute old.geometry route = record { from = c.requires.from; to = area; apart = c.requires.apart } in
    let place : ℕ = c.in_ok-start.start in
    let n : ℕ = end_of to - place in
    let place_is : place ≡ first_place old.geometry to = c.in_ok-start.ensures.place in
    let first = c.in_ok-start.ensures in
    let filling : Filling old (g.F.Flash.state c.erase_area.new.flash) (number_of to) = erased_filling lawful valid to area first.runs first.erased in
    let inside : place ≤ end_of to = start_inside old.geometry valid to area place place_is in
    let left : ℕ = c.args.left_out in
    handed_cause _ c.from_residual-in_err-end.result c.in_err-end.field-0.0 c.from_residual-in_err-end.ensures.1
    (⊎_elim (λ fault. inl fault)
    (λ failed. inr (not_copied_before lawful valid route is_route (remove entries left) (remove_in from entries c.requires.entries left c.requires.left_out) place c.in_err-end.field-0.0 place_is first.runs
    (not_copied_ahead (g.F.Flash.state c.erase_area.new.flash) route place (segment entries 0 left) (segment entries (left + 1) (length entries)) (remove entries left) c.in_err-end.field-0.0 (segment_without entries left c.requires.left_out) failed)))
    c.in_err-end.ensures.cause)

pub returns-clause-runs : goal.returns-clause-runs
returns-clause-runs g c =
    let old = g.F.Flash.state c.args.flash.now in
    let from : Area = c.args.from.now in
    let to : Area = c.args.to.now in
    let entries : List Entry = c.args.table.now.entries in
    let lawful = g.met.F.Flash.lawful c.args.flash.now in
    let valid = c.requires.can.valid in
    let area = c.requires.can.is_area in
    let route : Route = record { from = from; to = to } in
    let is_route : IsRoute old.geometry route = record { from = c.requires.from; to = area; apart = c.requires.apart } in
    let place : ℕ = c.in_ok-start.start in
    let n : ℕ = end_of to - place in
    let place_is : place ≡ first_place old.geometry to = c.in_ok-start.ensures.place in
    let first = c.in_ok-start.ensures in
    let filling : Filling old (g.F.Flash.state c.erase_area.new.flash) (number_of to) = erased_filling lawful valid to area first.runs first.erased in
    let inside : place ≤ end_of to = start_inside old.geometry valid to area place place_is in
    let second = c.in_ok-end.ensures in
    let lawful_mid = g.met.F.Flash.lawful c.erase_area.new.flash in
    let same = first.runs.kept.geometry in
    let valid_mid : IsValid (g.F.Flash.state c.erase_area.new.flash).geometry = subst IsValid (sym same) valid in
    let is_route_mid : IsRoute (g.F.Flash.state c.erase_area.new.flash).geometry route = subst (λ (x : Geometry). IsRoute x route) (sym same) is_route in
    let left : ℕ = c.args.left_out in
    let es : List Entry = segment entries 0 left in
    let fs : List Entry = segment entries (left + 1) c.len-last.result in
    let all : es ++ fs ≡ remove entries left = ap (λ (k : ℕ). es ++ segment entries (left + 1) k) c.len-last.ensures ∙ segment_without entries left c.requires.left_out in
    let fs_in : AreIn from fs = segment_in from entries c.requires.entries (left + 1) c.len-last.result (omega (arith, c.len-last.ensures)) in
    let removed_in : AreIn from (remove entries left) = remove_in from entries c.requires.entries left c.requires.left_out in
    let before : Copied = record { end = place; entries = c.empty.new.table.entries } in
    let now : Copied = record { end = c.in_ok-end.end; entries = c.copy_entries.new.spare.entries } in
    let at = end_at valid_mid (record { route = route; entries = es }) before now second.copied in
    fill_runs lawful valid to area now.end (end_of to - now.end) (omega (arith, at, place_is)) (omega (arith, second.end.inside.to))
    (filling_more lawful valid to area place n (omega (arith, place_is)) (omega (arith, inside)) filling second.runs) c.copy_entries-2.ensures.runs

pub returns-clause-within : goal.returns-clause-within
returns-clause-within g c =
    let old = g.F.Flash.state c.args.flash.now in
    let from : Area = c.args.from.now in
    let to : Area = c.args.to.now in
    let entries : List Entry = c.args.table.now.entries in
    let lawful = g.met.F.Flash.lawful c.args.flash.now in
    let valid = c.requires.can.valid in
    let area = c.requires.can.is_area in
    let route : Route = record { from = from; to = to } in
    let is_route : IsRoute old.geometry route = record { from = c.requires.from; to = area; apart = c.requires.apart } in
    fill_within lawful valid to area (returns-clause-runs g c)

pub returns-clause-cause : goal.returns-clause-cause
returns-clause-cause g c =
    let old = g.F.Flash.state c.args.flash.now in
    let from : Area = c.args.from.now in
    let to : Area = c.args.to.now in
    let entries : List Entry = c.args.table.now.entries in
    let lawful = g.met.F.Flash.lawful c.args.flash.now in
    let valid = c.requires.can.valid in
    let area = c.requires.can.is_area in
    let route : Route = record { from = from; to = to } in
    let is_route : IsRoute old.geometry route = record { from = c.requires.from; to = area; apart = c.requires.apart } in
    let place : ℕ = c.in_ok-start.start in
    let n : ℕ = end_of to - place in
    let place_is : place ≡ first_place old.geometry to = c.in_ok-start.ensures.place in
    let first = c.in_ok-start.ensures in
    let filling : Filling old (g.F.Flash.state c.erase_area.new.flash) (number_of to) = erased_filling lawful valid to area first.runs first.erased in
    let inside : place ≤ end_of to = start_inside old.geometry valid to area place place_is in
    let second = c.in_ok-end.ensures in
    let lawful_mid = g.met.F.Flash.lawful c.erase_area.new.flash in
    let same = first.runs.kept.geometry in
    let valid_mid : IsValid (g.F.Flash.state c.erase_area.new.flash).geometry = subst IsValid (sym same) valid in
    let is_route_mid : IsRoute (g.F.Flash.state c.erase_area.new.flash).geometry route = subst (λ (x : Geometry). IsRoute x route) (sym same) is_route in
    let left : ℕ = c.args.left_out in
    let es : List Entry = segment entries 0 left in
    let fs : List Entry = segment entries (left + 1) c.len-last.result in
    let all : es ++ fs ≡ remove entries left = ap (λ (k : ℕ). es ++ segment entries (left + 1) k) c.len-last.ensures ∙ segment_without entries left c.requires.left_out in
    let fs_in : AreIn from fs = segment_in from entries c.requires.entries (left + 1) c.len-last.result (omega (arith, c.len-last.ensures)) in
    let removed_in : AreIn from (remove entries left) = remove_in from entries c.requires.entries left c.requires.left_out in
    let before : Copied = record { end = place; entries = c.empty.new.table.entries } in
    let now : Copied = record { end = c.in_ok-end.end; entries = c.copy_entries.new.spare.entries } in
    let at = end_at valid_mid (record { route = route; entries = es }) before now second.copied in
    if_err_map c.copy_entries-2.result (λ e cause. ⊎_elim (λ fault. inl fault)
    (λ failed. inr (not_copied_before lawful valid route is_route (remove entries left) removed_in place e place_is first.runs
    (subst (λ (l : List Entry). IsNotCopied (g.F.Flash.state c.erase_area.new.flash) (record { route = route; entries = l }) place e) all
    (not_copied_more lawful_mid route is_route_mid place n (omega (arith, place_is)) (omega (arith, inside)) second.runs valid_mid es fs before now e fs_in second.copied failed))))
    cause) c.copy_entries-2.ensures.cause

pub returns-clause-copied : goal.returns-clause-copied
returns-clause-copied g c =
    let old = g.F.Flash.state c.args.flash.now in
    let from : Area = c.args.from.now in
    let to : Area = c.args.to.now in
    let entries : List Entry = c.args.table.now.entries in
    let lawful = g.met.F.Flash.lawful c.args.flash.now in
    let valid = c.requires.can.valid in
    let area = c.requires.can.is_area in
    let route : Route = record { from = from; to = to } in
    let is_route : IsRoute old.geometry route = record { from = c.requires.from; to = area; apart = c.requires.apart } in
    let place : ℕ = c.in_ok-start.start in
    let n : ℕ = end_of to - place in
    let place_is : place ≡ first_place old.geometry to = c.in_ok-start.ensures.place in
    let first = c.in_ok-start.ensures in
    let filling : Filling old (g.F.Flash.state c.erase_area.new.flash) (number_of to) = erased_filling lawful valid to area first.runs first.erased in
    let inside : place ≤ end_of to = start_inside old.geometry valid to area place place_is in
    let second = c.in_ok-end.ensures in
    let lawful_mid = g.met.F.Flash.lawful c.erase_area.new.flash in
    let same = first.runs.kept.geometry in
    let valid_mid : IsValid (g.F.Flash.state c.erase_area.new.flash).geometry = subst IsValid (sym same) valid in
    let is_route_mid : IsRoute (g.F.Flash.state c.erase_area.new.flash).geometry route = subst (λ (x : Geometry). IsRoute x route) (sym same) is_route in
    let left : ℕ = c.args.left_out in
    let es : List Entry = segment entries 0 left in
    let fs : List Entry = segment entries (left + 1) c.len-last.result in
    let all : es ++ fs ≡ remove entries left = ap (λ (k : ℕ). es ++ segment entries (left + 1) k) c.len-last.ensures ∙ segment_without entries left c.requires.left_out in
    let fs_in : AreIn from fs = segment_in from entries c.requires.entries (left + 1) c.len-last.result (omega (arith, c.len-last.ensures)) in
    let removed_in : AreIn from (remove entries left) = remove_in from entries c.requires.entries left c.requires.left_out in
    let before : Copied = record { end = place; entries = c.empty.new.table.entries } in
    let now : Copied = record { end = c.in_ok-end.end; entries = c.copy_entries.new.spare.entries } in
    let at = end_at valid_mid (record { route = route; entries = es }) before now second.copied in
    if_ok_map c.copy_entries-2.result (λ end third.
    let last : Copied = record { end = end; entries = c.copy_entries-2.new.spare.entries } in
    copies_made lawful valid route is_route (remove entries left) removed_in place last place_is first.runs first.erased
    (same_copies route place (es ++ fs) (remove entries left) c.empty.new.table.entries last all c.empty.ensures.entries
    (copied_more_records lawful_mid route is_route_mid place n (omega (arith, place_is)) (omega (arith, inside)) second.runs valid_mid es fs before now last fs_in refl inside second.copied third)))
    c.copy_entries-2.ensures.copied

pub returns-in_err-end-clause-told : goal.returns-in_err-end-clause-told
returns-in_err-end-clause-told g c image told records can =
    let old = g.F.Flash.state c.args.flash.now in
    let from : Area = c.args.from.now in
    let to : Area = c.args.to.now in
    let entries : List Entry = c.args.table.now.entries in
    let lawful = g.met.F.Flash.lawful c.args.flash.now in
    let valid = c.requires.can.valid in
    let area = c.requires.can.is_area in
    let route : Route = record { from = from; to = to } in
    let is_route : IsRoute old.geometry route = record { from = c.requires.from; to = area; apart = c.requires.apart } in
    only_faults old valid image told (copy_of from to (remove entries c.args.left_out)) records can c.from_residual-in_err-end.result (returns-in_err-end-clause-cause g c)

pub returns-clause-told : goal.returns-clause-told
returns-clause-told g c image told records can =
    let old = g.F.Flash.state c.args.flash.now in
    let from : Area = c.args.from.now in
    let to : Area = c.args.to.now in
    let entries : List Entry = c.args.table.now.entries in
    let lawful = g.met.F.Flash.lawful c.args.flash.now in
    let valid = c.requires.can.valid in
    let area = c.requires.can.is_area in
    let route : Route = record { from = from; to = to } in
    let is_route : IsRoute old.geometry route = record { from = c.requires.from; to = area; apart = c.requires.apart } in
    only_faults old valid image told (copy_of from to (remove entries c.args.left_out)) records can c.copy_entries-2.result (returns-clause-cause g c)
