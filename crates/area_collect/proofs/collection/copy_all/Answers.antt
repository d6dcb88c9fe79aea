use Rattle.std.proofs.Common.{◌≡◌, ℕ, ◌-◌, ◌≤◌, List, ◌∙◌, ap, subst, arith, inl, inr, ⊎_elim}
use Rattle.area_log.specs.declared.area.Area.{Area}
use Rattle.area_log.specs.Areas.{end_of, first_place}
use Rattle.ram_table.specs.declared.table.Entry.{Entry}
use Rattle.area_collect.specs.declared.entries.Route.{Route}
use Rattle.area_collect.specs.Copies.{Copied, IsNotCopied, IsRoute, segment}
use Rattle.area_collect.specs.Collection.{copy_of, number_of}
use Rattle.area_collect.proofs.CollectLemmas.{Filling, copies_made, erased_filling, fill_runs, if_err_map, if_ok_map, not_copied_before, same_copies, start_end, start_erased, start_inside}
use Rattle.area_collect.proofs.EntryLemmas.{segment_all}
use Rattle.area_collect.proofs.KeptLemmas.{only_faults}
use Rattle.area_collect.proofs.collection.copy_all.Goals as goal

pub copy_entries-requires-clause-end : goal.copy_entries-requires-clause-end
copy_entries-requires-clause-end g c =
    let old = g.F.Flash.state c.args.flash.now in
    let from : Area = c.args.from.now in
    let to : Area = c.args.to.now in
    let entries : List Entry = c.args.table.now.entries in
    let lawful = g.met.F.Flash.lawful c.args.flash.now in
    let valid = c.requires.can.valid in
    let area = c.requires.can.is_area in
    let route : Route = record { from = from; to = to } in
    let is_route : IsRoute old.geometry route = record { from = c.requires.from; to = area; apart = c.requires.apart } in
    let place : ℕ = c.in_ok-start.start in
    let n : ℕ = end_of to - place in
    let place_is : place ≡ first_place old.geometry to = c.in_ok-start.ensures.place in
    let first = c.in_ok-start.ensures in
    let filling : Filling old (g.F.Flash.state c.clear.new.flash) (number_of to) = erased_filling lawful valid to area first.runs first.erased in
    let inside : place ≤ end_of to = start_inside old.geometry valid to area place place_is in
    let all : segment entries 0 c.len.result ≡ entries = ap (segment entries 0) c.len.ensures ∙ segment_all entries in
    start_end old.geometry valid to area place place_is _ first.runs.kept.geometry

pub copy_entries-requires-clause-erased : goal.copy_entries-requires-clause-erased
copy_entries-requires-clause-erased g c =
    let old = g.F.Flash.state c.args.flash.now in
    let from : Area = c.args.from.now in
    let to : Area = c.args.to.now in
    let entries : List Entry = c.args.table.now.entries in
    let lawful = g.met.F.Flash.lawful c.args.flash.now in
    let valid = c.requires.can.valid in
    let area = c.requires.can.is_area in
    let route : Route = record { from = from; to = to } in
    let is_route : IsRoute old.geometry route = record { from = c.requires.from; to = area; apart = c.requires.apart } in
    let place : ℕ = c.in_ok-start.start in
    let n : ℕ = end_of to - place in
    let place_is : place ≡ first_place old.geometry to = c.in_ok-start.ensures.place in
    let first = c.in_ok-start.ensures in
    let filling : Filling old (g.F.Flash.state c.clear.new.flash) (number_of to) = erased_filling lawful valid to area first.runs first.erased in
    let inside : place ≤ end_of to = start_inside old.geometry valid to area place place_is in
    let all : segment entries 0 c.len.result ≡ entries = ap (segment entries 0) c.len.ensures ∙ segment_all entries in
    start_erased lawful valid to area place place_is first.runs.kept first.erased

pub returns-clause-runs : goal.returns-clause-runs
returns-clause-runs g c =
    let old = g.F.Flash.state c.args.flash.now in
    let from : Area = c.args.from.now in
    let to : Area = c.args.to.now in
    let entries : List Entry = c.args.table.now.entries in
    let lawful = g.met.F.Flash.lawful c.args.flash.now in
    let valid = c.requires.can.valid in
    let area = c.requires.can.is_area in
    let route : Route = record { from = from; to = to } in
    let is_route : IsRoute old.geometry route = record { from = c.requires.from; to = area; apart = c.requires.apart } in
    let place : ℕ = c.in_ok-start.start in
    let n : ℕ = end_of to - place in
    let place_is : place ≡ first_place old.geometry to = c.in_ok-start.ensures.place in
    let first = c.in_ok-start.ensures in
    let filling : Filling old (g.F.Flash.state c.clear.new.flash) (number_of to) = erased_filling lawful valid to area first.runs first.erased in
    let inside : place ≤ end_of to = start_inside old.geometry valid to area place place_is in
    let all : segment entries 0 c.len.result ≡ entries = ap (segment entries 0) c.len.ensures ∙ segment_all entries in
    fill_runs lawful valid to area place n (omega (arith, place_is)) (omega (arith, inside)) filling c.copy_entries.ensures.runs

pub returns-clause-cause : goal.returns-clause-cause
returns-clause-cause g c =
    let old = g.F.Flash.state c.args.flash.now in
    let from : Area = c.args.from.now in
    let to : Area = c.args.to.now in
    let entries : List Entry = c.args.table.now.entries in
    let lawful = g.met.F.Flash.lawful c.args.flash.now in
    let valid = c.requires.can.valid in
    let area = c.requires.can.is_area in
    let route : Route = record { from = from; to = to } in
    let is_route : IsRoute old.geometry route = record { from = c.requires.from; to = area; apart = c.requires.apart } in
    let place : ℕ = c.in_ok-start.start in
    let n : ℕ = end_of to - place in
    let place_is : place ≡ first_place old.geometry to = c.in_ok-start.ensures.place in
    let first = c.in_ok-start.ensures in
    let filling : Filling old (g.F.Flash.state c.clear.new.flash) (number_of to) = erased_filling lawful valid to area first.runs first.erased in
    let inside : place ≤ end_of to = start_inside old.geometry valid to area place place_is in
    let all : segment entries 0 c.len.result ≡ entries = ap (segment entries 0) c.len.ensures ∙ segment_all entries in
    if_err_map c.copy_entries.result (λ e cause. ⊎_elim (λ fault. inl fault)
    (λ failed. inr (not_copied_before lawful valid route is_route entries c.requires.entries place e place_is first.runs
    (subst (λ (l : List Entry). IsNotCopied (g.F.Flash.state c.clear.new.flash) (record { route = route; entries = l }) place e) all failed)))
    cause) c.copy_entries.ensures.cause

pub returns-clause-copied : goal.returns-clause-copied
returns-clause-copied g c =
    let old = g.F.Flash.state c.args.flash.now in
    let from : Area = c.args.from.now in
    let to : Area = c.args.to.now in
    let entries : List Entry = c.args.table.now.entries in
    let lawful = g.met.F.Flash.lawful c.args.flash.now in
    let valid = c.requires.can.valid in
    let area = c.requires.can.is_area in
    let route : Route = record { from = from; to = to } in
    let is_route : IsRoute old.geometry route = record { from = c.requires.from; to = area; apart = c.requires.apart } in
    let place : ℕ = c.in_ok-start.start in
    let n : ℕ = end_of to - place in
    let place_is : place ≡ first_place old.geometry to = c.in_ok-start.ensures.place in
    let first = c.in_ok-start.ensures in
    let filling : Filling old (g.F.Flash.state c.clear.new.flash) (number_of to) = erased_filling lawful valid to area first.runs first.erased in
    let inside : place ≤ end_of to = start_inside old.geometry valid to area place place_is in
    let all : segment entries 0 c.len.result ≡ entries = ap (segment entries 0) c.len.ensures ∙ segment_all entries in
    if_ok_map c.copy_entries.result (λ end second.
    let done : Copied = record { end = end; entries = c.copy_entries.new.spare.entries } in
    copies_made lawful valid route is_route entries c.requires.entries place done place_is first.runs first.erased
    (same_copies route place (segment entries 0 c.len.result) entries c.clear.new.spare.entries done all c.clear.ensures.entries second))
    c.copy_entries.ensures.copied

pub returns-clause-told : goal.returns-clause-told
returns-clause-told g c image told records can =
    let old = g.F.Flash.state c.args.flash.now in
    let from : Area = c.args.from.now in
    let to : Area = c.args.to.now in
    let entries : List Entry = c.args.table.now.entries in
    let lawful = g.met.F.Flash.lawful c.args.flash.now in
    let valid = c.requires.can.valid in
    let area = c.requires.can.is_area in
    let route : Route = record { from = from; to = to } in
    let is_route : IsRoute old.geometry route = record { from = c.requires.from; to = area; apart = c.requires.apart } in
    only_faults old valid image told (copy_of from to entries) records can c.copy_entries.result (returns-clause-cause g c)
