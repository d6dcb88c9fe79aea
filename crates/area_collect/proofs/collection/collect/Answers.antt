use Rattle.std.proofs.Common.{◌≡◌, ℕ, ◌-◌, ◌≤◌, List, ◌∙◌, ap, subst, arith, inl, inr, ⊎_elim}
use Rattle.record_core.proofs.EndingLemmas.{handed_error}
use Rattle.area_log.specs.declared.area.Area.{Area}
use Rattle.area_log.specs.Areas.{end_of, first_place}
use Rattle.ram_table.specs.declared.table.Entry.{Entry}
use Rattle.area_collect.specs.declared.entries.Route.{Route}
use Rattle.area_collect.specs.Copies.{Copied, IsNotCopied, IsRoute, segment}
use Rattle.area_collect.specs.Collection.{HasCopied, IsWhole, copy_of, number_of}
use Rattle.area_collect.proofs.CollectLemmas.{Filling, collected_made, copies_made, erased_filling, fill_renews, fill_runs, filling_more, master_erased, master_renews, not_copied_before, renew_within, same_copies, start_end, start_erased, start_inside, whole_made}
use Rattle.area_collect.proofs.EntryLemmas.{handed_cause, segment_all}
use Rattle.area_collect.proofs.KeptLemmas.{keeps_runs, only_faults}
use Rattle.area_collect.proofs.collection.collect.Goals as goal

pub returns-in_err-start-clause-runs : goal.returns-in_err-start-clause-runs
returns-in_err-start-clause-runs g c =
    let old = g.F.Flash.state c.args.flash.now in
    let from : Area = c.args.from.now in
    let to : Area = c.args.to.now in
    let entries : List Entry = c.args.table.now.entries in
    let lawful = g.met.F.Flash.lawful c.args.flash.now in
    let valid = c.requires.can.valid in
    let area = c.requires.can.is_area in
    let route : Route = record { from = from; to = to } in
    let is_route : IsRoute old.geometry route = record { from = c.requires.from; to = area; apart = c.requires.apart } in
    let W : List ℕ → List ℕ → Type 0 = IsWhole old (copy_of from to entries) c.args.version in
    fill_renews lawful valid to area W (handed_error c.from_residual.result c.in_err-start.field-0.0 c.from_residual.ensures.1 c.in_err-start.ensures.runs)

pub returns-in_err-start-clause-within : goal.returns-in_err-start-clause-within
returns-in_err-start-clause-within g c =
    let old = g.F.Flash.state c.args.flash.now in
    let from : Area = c.args.from.now in
    let to : Area = c.args.to.now in
    let entries : List Entry = c.args.table.now.entries in
    let lawful = g.met.F.Flash.lawful c.args.flash.now in
    let valid = c.requires.can.valid in
    let area = c.requires.can.is_area in
    let route : Route = record { from = from; to = to } in
    let is_route : IsRoute old.geometry route = record { from = c.requires.from; to = area; apart = c.requires.apart } in
    let W : List ℕ → List ℕ → Type 0 = IsWhole old (copy_of from to entries) c.args.version in
    renew_within lawful valid to area W (returns-in_err-start-clause-runs g c)

pub copy_entries-requires-clause-end : goal.copy_entries-requires-clause-end
copy_entries-requires-clause-end g c =
    let old = g.F.Flash.state c.args.flash.now in
    let from : Area = c.args.from.now in
    let to : Area = c.args.to.now in
    let entries : List Entry = c.args.table.now.entries in
    let lawful = g.met.F.Flash.lawful c.args.flash.now in
    let valid = c.requires.can.valid in
    let area = c.requires.can.is_area in
    let route : Route = record { from = from; to = to } in
    let is_route : IsRoute old.geometry route = record { from = c.requires.from; to = area; apart = c.requires.apart } in
    let place : ℕ = c.in_ok-start.start in
    let n : ℕ = end_of to - place in
    let place_is : place ≡ first_place old.geometry to = c.in_ok-start.ensures.place in
    let first = c.in_ok-start.ensures in
    let filling : Filling old (g.F.Flash.state c.erase_area.new.flash) (number_of to) = erased_filling lawful valid to area first.runs first.erased in
    let inside : place ≤ end_of to = start_inside old.geometry valid to area place place_is in
    start_end old.geometry valid to area place place_is _ first.runs.kept.geometry

pub copy_entries-requires-clause-erased : goal.copy_entries-requires-clause-erased
copy_entries-requires-clause-erased g c =
    let old = g.F.Flash.state c.args.flash.now in
    let from : Area = c.args.from.now in
    let to : Area = c.args.to.now in
    let entries : List Entry = c.args.table.now.entries in
    let lawful = g.met.F.Flash.lawful c.args.flash.now in
    let valid = c.requires.can.valid in
    let area = c.requires.can.is_area in
    let route : Route = record { from = from; to = to } in
    let is_route : IsRoute old.geometry route = record { from = c.requires.from; to = area; apart = c.requires.apart } in
    let place : ℕ = c.in_ok-start.start in
    let n : ℕ = end_of to - place in
    let place_is : place ≡ first_place old.geometry to = c.in_ok-start.ensures.place in
    let first = c.in_ok-start.ensures in
    let filling : Filling old (g.F.Flash.state c.erase_area.new.flash) (number_of to) = erased_filling lawful valid to area first.runs first.erased in
    let inside : place ≤ end_of to = start_inside old.geometry valid to area place place_is in
    start_erased lawful valid to area place place_is first.runs.kept first.erased

pub returns-in_err-end-clause-runs : goal.returns-in_err-end-clause-runs
returns-in_err-end-clause-runs g c =
    let old = g.F.Flash.state c.args.flash.now in
    let from : Area = c.args.from.now in
    let to : Area = c.args.to.now in
    let entries : List Entry = c.args.table.now.entries in
    let lawful = g.met.F.Flash.lawful c.args.flash.now in
    let valid = c.requires.can.valid in
    let area = c.requires.can.is_area in
    let route : Route = record { from = from; to = to } in
    let is_route : IsRoute old.geometry route = record { from = c.requires.from; to = area; apart = c.requires.apart } in
    let W : List ℕ → List ℕ → Type 0 = IsWhole old (copy_of from to entries) c.args.version in
    let place : ℕ = c.in_ok-start.start in
    let n : ℕ = end_of to - place in
    let place_is : place ≡ first_place old.geometry to = c.in_ok-start.ensures.place in
    let first = c.in_ok-start.ensures in
    let filling : Filling old (g.F.Flash.state c.erase_area.new.flash) (number_of to) = erased_filling lawful valid to area first.runs first.erased in
    let inside : place ≤ end_of to = start_inside old.geometry valid to area place place_is in
    fill_renews lawful valid to area W (handed_error c.from_residual-in_err-end.result c.in_err-end.field-0.0 c.from_residual-in_err-end.ensures.1
    (fill_runs lawful valid to area place n (omega (arith, place_is)) (omega (arith, inside)) filling c.in_err-end.ensures.runs))

pub returns-in_err-end-clause-within : goal.returns-in_err-end-clause-within
returns-in_err-end-clause-within g c =
    let old = g.F.Flash.state c.args.flash.now in
    let from : Area = c.args.from.now in
    let to : Area = c.args.to.now in
    let entries : List Entry = c.args.table.now.entries in
    let lawful = g.met.F.Flash.lawful c.args.flash.now in
    let valid = c.requires.can.valid in
    let area = c.requires.can.is_area in
    let route : Route = record { from = from; to = to } in
    let is_route : IsRoute old.geometry route = record { from = c.requires.from; to = area; apart = c.requires.apart } in
    let W : List ℕ → List ℕ → Type 0 = IsWhole old (copy_of from to entries) c.args.version in
    renew_within lawful valid to area W (returns-in_err-end-clause-runs g c)

pub returns-in_err-end-clause-cause : goal.returns-in_err-end-clause-cause
returns-in_err-end-clause-cause g c =
    let old = g.F.Flash.state c.args.flash.now in
    let from : Area = c.args.from.now in
    let to : Area = c.args.to.now in
    let entries : List Entry = c.args.table.now.entries in
    let lawful = g.met.F.Flash.lawful c.args.flash.now in
    let valid = c.requires.can.valid in
    let area = c.requires.can.is_area in
    let route : Route = record { from = from; to = to } in
    let is_route : IsRoute old.geometry route = record { from = c.requires.from; to = area; apart = c.requires.apart } in
    let place : ℕ = c.in_ok-start.start in
    let n : ℕ = end_of to - place in
    let place_is : place ≡ first_place old.geometry to = c.in_ok-start.ensures.place in
    let first = c.in_ok-start.ensures in
    let filling : Filling old (g.F.Flash.state c.erase_area.new.flash) (number_of to) = erased_filling lawful valid to area first.runs first.erased in
    let inside : place ≤ end_of to = start_inside old.geometry valid to area place place_is in
    let all : segment entries 0 c.len.result ≡ entries = ap (segment entries 0) c.len.ensures ∙ segment_all entries in
    handed_cause _ c.from_residual-in_err-end.result c.in_err-end.field-0.0 c.from_residual-in_err-end.ensures.1
    (⊎_elim (λ fault. inl fault)
    (λ failed. inr (not_copied_before lawful valid route is_route entries c.requires.entries place c.in_err-end.field-0.0 place_is first.runs
    (subst (λ (l : List Entry). IsNotCopied (g.F.Flash.state c.erase_area.new.flash) (record { route = route; entries = l }) place c.in_err-end.field-0.0) all failed)))
    c.in_err-end.ensures.cause)

pub write_master-requires-clause-erased : goal.write_master-requires-clause-erased
write_master-requires-clause-erased g c =
    let old = g.F.Flash.state c.args.flash.now in
    let from : Area = c.args.from.now in
    let to : Area = c.args.to.now in
    let entries : List Entry = c.args.table.now.entries in
    let lawful = g.met.F.Flash.lawful c.args.flash.now in
    let valid = c.requires.can.valid in
    let area = c.requires.can.is_area in
    let route : Route = record { from = from; to = to } in
    let is_route : IsRoute old.geometry route = record { from = c.requires.from; to = area; apart = c.requires.apart } in
    let place : ℕ = c.in_ok-start.start in
    let n : ℕ = end_of to - place in
    let place_is : place ≡ first_place old.geometry to = c.in_ok-start.ensures.place in
    let first = c.in_ok-start.ensures in
    let filling : Filling old (g.F.Flash.state c.erase_area.new.flash) (number_of to) = erased_filling lawful valid to area first.runs first.erased in
    let inside : place ≤ end_of to = start_inside old.geometry valid to area place place_is in
    let second = c.in_ok-end.ensures in
    master_erased lawful valid to area place place_is first.runs.kept first.erased second.runs (second.runs.kept.geometry ∙ first.runs.kept.geometry)

pub returns-in_err-write_master-clause-runs : goal.returns-in_err-write_master-clause-runs
returns-in_err-write_master-clause-runs g c =
    let old = g.F.Flash.state c.args.flash.now in
    let from : Area = c.args.from.now in
    let to : Area = c.args.to.now in
    let entries : List Entry = c.args.table.now.entries in
    let lawful = g.met.F.Flash.lawful c.args.flash.now in
    let valid = c.requires.can.valid in
    let area = c.requires.can.is_area in
    let route : Route = record { from = from; to = to } in
    let is_route : IsRoute old.geometry route = record { from = c.requires.from; to = area; apart = c.requires.apart } in
    let W : List ℕ → List ℕ → Type 0 = IsWhole old (copy_of from to entries) c.args.version in
    let place : ℕ = c.in_ok-start.start in
    let n : ℕ = end_of to - place in
    let place_is : place ≡ first_place old.geometry to = c.in_ok-start.ensures.place in
    let first = c.in_ok-start.ensures in
    let filling : Filling old (g.F.Flash.state c.erase_area.new.flash) (number_of to) = erased_filling lawful valid to area first.runs first.erased in
    let inside : place ≤ end_of to = start_inside old.geometry valid to area place place_is in
    let second = c.in_ok-end.ensures in
    let all : segment entries 0 c.len.result ≡ entries = ap (segment entries 0) c.len.ensures ∙ segment_all entries in
    let more : Filling old (g.F.Flash.state c.copy_entries.new.flash) (number_of to) = filling_more lawful valid to area place n (omega (arith, place_is)) (omega (arith, inside)) filling second.runs in
    let done : Copied = record { end = c.in_ok-end.end; entries = c.copy_entries.new.spare.entries } in
    let copied : HasCopied old (g.F.Flash.state c.copy_entries.new.flash) (copy_of from to entries) done (λ image. image) =
    copies_made lawful valid route is_route entries c.requires.entries place done place_is first.runs first.erased
    (same_copies route place (segment entries 0 c.len.result) entries c.empty.new.table.entries done all c.empty.ensures.entries second.copied) in
    handed_error c.from_residual-in_err-write_master.result c.in_err-write_master.field-0.0 c.from_residual-in_err-write_master.ensures.1
    (master_renews lawful valid to area W c.args.version (whole_made (copy_of from to entries) done c.args.version copied) more c.in_err-write_master.ensures.runs)

pub returns-in_err-write_master-clause-within : goal.returns-in_err-write_master-clause-within
returns-in_err-write_master-clause-within g c =
    let old = g.F.Flash.state c.args.flash.now in
    let from : Area = c.args.from.now in
    let to : Area = c.args.to.now in
    let entries : List Entry = c.args.table.now.entries in
    let lawful = g.met.F.Flash.lawful c.args.flash.now in
    let valid = c.requires.can.valid in
    let area = c.requires.can.is_area in
    let route : Route = record { from = from; to = to } in
    let is_route : IsRoute old.geometry route = record { from = c.requires.from; to = area; apart = c.requires.apart } in
    let W : List ℕ → List ℕ → Type 0 = IsWhole old (copy_of from to entries) c.args.version in
    renew_within lawful valid to area W (returns-in_err-write_master-clause-runs g c)

pub returns-clause-runs : goal.returns-clause-runs
returns-clause-runs g c =
    let old = g.F.Flash.state c.args.flash.now in
    let from : Area = c.args.from.now in
    let to : Area = c.args.to.now in
    let entries : List Entry = c.args.table.now.entries in
    let lawful = g.met.F.Flash.lawful c.args.flash.now in
    let valid = c.requires.can.valid in
    let area = c.requires.can.is_area in
    let route : Route = record { from = from; to = to } in
    let is_route : IsRoute old.geometry route = record { from = c.requires.from; to = area; apart = c.requires.apart } in
    let W : List ℕ → List ℕ → Type 0 = IsWhole old (copy_of from to entries) c.args.version in
    let place : ℕ = c.in_ok-start.start in
    let n : ℕ = end_of to - place in
    let place_is : place ≡ first_place old.geometry to = c.in_ok-start.ensures.place in
    let first = c.in_ok-start.ensures in
    let filling : Filling old (g.F.Flash.state c.erase_area.new.flash) (number_of to) = erased_filling lawful valid to area first.runs first.erased in
    let inside : place ≤ end_of to = start_inside old.geometry valid to area place place_is in
    let second = c.in_ok-end.ensures in
    let all : segment entries 0 c.len.result ≡ entries = ap (segment entries 0) c.len.ensures ∙ segment_all entries in
    let more : Filling old (g.F.Flash.state c.copy_entries.new.flash) (number_of to) = filling_more lawful valid to area place n (omega (arith, place_is)) (omega (arith, inside)) filling second.runs in
    let done : Copied = record { end = c.in_ok-end.end; entries = c.copy_entries.new.spare.entries } in
    let copied : HasCopied old (g.F.Flash.state c.copy_entries.new.flash) (copy_of from to entries) done (λ image. image) =
    copies_made lawful valid route is_route entries c.requires.entries place done place_is first.runs first.erased
    (same_copies route place (segment entries 0 c.len.result) entries c.empty.new.table.entries done all c.empty.ensures.entries second.copied) in
    master_renews lawful valid to area W c.args.version (whole_made (copy_of from to entries) done c.args.version copied) more c.in_ok-write_master.ensures.runs

pub returns-clause-within : goal.returns-clause-within
returns-clause-within g c =
    let old = g.F.Flash.state c.args.flash.now in
    let from : Area = c.args.from.now in
    let to : Area = c.args.to.now in
    let entries : List Entry = c.args.table.now.entries in
    let lawful = g.met.F.Flash.lawful c.args.flash.now in
    let valid = c.requires.can.valid in
    let area = c.requires.can.is_area in
    let route : Route = record { from = from; to = to } in
    let is_route : IsRoute old.geometry route = record { from = c.requires.from; to = area; apart = c.requires.apart } in
    let W : List ℕ → List ℕ → Type 0 = IsWhole old (copy_of from to entries) c.args.version in
    renew_within lawful valid to area W (returns-clause-runs g c)

pub returns-clause-copied : goal.returns-clause-copied
returns-clause-copied g c =
    let old = g.F.Flash.state c.args.flash.now in
    let from : Area = c.args.from.now in
    let to : Area = c.args.to.now in
    let entries : List Entry = c.args.table.now.entries in
    let lawful = g.met.F.Flash.lawful c.args.flash.now in
    let valid = c.requires.can.valid in
    let area = c.requires.can.is_area in
    let route : Route = record { from = from; to = to } in
    let is_route : IsRoute old.geometry route = record { from = c.requires.from; to = area; apart = c.requires.apart } in
    let place : ℕ = c.in_ok-start.start in
    let n : ℕ = end_of to - place in
    let place_is : place ≡ first_place old.geometry to = c.in_ok-start.ensures.place in
    let first = c.in_ok-start.ensures in
    let filling : Filling old (g.F.Flash.state c.erase_area.new.flash) (number_of to) = erased_filling lawful valid to area first.runs first.erased in
    let inside : place ≤ end_of to = start_inside old.geometry valid to area place place_is in
    let second = c.in_ok-end.ensures in
    let all : segment entries 0 c.len.result ≡ entries = ap (segment entries 0) c.len.ensures ∙ segment_all entries in
    let more : Filling old (g.F.Flash.state c.copy_entries.new.flash) (number_of to) = filling_more lawful valid to area place n (omega (arith, place_is)) (omega (arith, inside)) filling second.runs in
    let done : Copied = record { end = c.in_ok-end.end; entries = c.copy_entries.new.spare.entries } in
    let copied : HasCopied old (g.F.Flash.state c.copy_entries.new.flash) (copy_of from to entries) done (λ image. image) =
    copies_made lawful valid route is_route entries c.requires.entries place done place_is first.runs first.erased
    (same_copies route place (segment entries 0 c.len.result) entries c.empty.new.table.entries done all c.empty.ensures.entries second.copied) in
    collected_made (copy_of from to entries) done c.args.version more.runs.kept.geometry copied c.in_ok-write_master.ensures.written

pub returns-in_err-end-clause-told : goal.returns-in_err-end-clause-told
returns-in_err-end-clause-told g c image told records can =
    let old = g.F.Flash.state c.args.flash.now in
    let from : Area = c.args.from.now in
    let to : Area = c.args.to.now in
    let entries : List Entry = c.args.table.now.entries in
    let lawful = g.met.F.Flash.lawful c.args.flash.now in
    let valid = c.requires.can.valid in
    let area = c.requires.can.is_area in
    let route : Route = record { from = from; to = to } in
    let is_route : IsRoute old.geometry route = record { from = c.requires.from; to = area; apart = c.requires.apart } in
    only_faults old valid image told (copy_of from to entries) records can c.from_residual-in_err-end.result (returns-in_err-end-clause-cause g c)

pub returns-in_err-start-clause-keeps : goal.returns-in_err-start-clause-keeps
returns-in_err-start-clause-keeps g c =
    let old = g.F.Flash.state c.args.flash.now in
    let from : Area = c.args.from.now in
    let to : Area = c.args.to.now in
    let entries : List Entry = c.args.table.now.entries in
    let lawful = g.met.F.Flash.lawful c.args.flash.now in
    let valid = c.requires.can.valid in
    let area = c.requires.can.is_area in
    let route : Route = record { from = from; to = to } in
    let is_route : IsRoute old.geometry route = record { from = c.requires.from; to = area; apart = c.requires.apart } in
    keeps_runs lawful valid route is_route entries c.args.version (returns-in_err-start-clause-runs g c)

pub returns-in_err-end-clause-keeps : goal.returns-in_err-end-clause-keeps
returns-in_err-end-clause-keeps g c =
    let old = g.F.Flash.state c.args.flash.now in
    let from : Area = c.args.from.now in
    let to : Area = c.args.to.now in
    let entries : List Entry = c.args.table.now.entries in
    let lawful = g.met.F.Flash.lawful c.args.flash.now in
    let valid = c.requires.can.valid in
    let area = c.requires.can.is_area in
    let route : Route = record { from = from; to = to } in
    let is_route : IsRoute old.geometry route = record { from = c.requires.from; to = area; apart = c.requires.apart } in
    keeps_runs lawful valid route is_route entries c.args.version (returns-in_err-end-clause-runs g c)

pub returns-in_err-write_master-clause-keeps : goal.returns-in_err-write_master-clause-keeps
returns-in_err-write_master-clause-keeps g c =
    let old = g.F.Flash.state c.args.flash.now in
    let from : Area = c.args.from.now in
    let to : Area = c.args.to.now in
    let entries : List Entry = c.args.table.now.entries in
    let lawful = g.met.F.Flash.lawful c.args.flash.now in
    let valid = c.requires.can.valid in
    let area = c.requires.can.is_area in
    let route : Route = record { from = from; to = to } in
    let is_route : IsRoute old.geometry route = record { from = c.requires.from; to = area; apart = c.requires.apart } in
    keeps_runs lawful valid route is_route entries c.args.version (returns-in_err-write_master-clause-runs g c)

pub returns-clause-keeps : goal.returns-clause-keeps
returns-clause-keeps g c =
    let old = g.F.Flash.state c.args.flash.now in
    let from : Area = c.args.from.now in
    let to : Area = c.args.to.now in
    let entries : List Entry = c.args.table.now.entries in
    let lawful = g.met.F.Flash.lawful c.args.flash.now in
    let valid = c.requires.can.valid in
    let area = c.requires.can.is_area in
    let route : Route = record { from = from; to = to } in
    let is_route : IsRoute old.geometry route = record { from = c.requires.from; to = area; apart = c.requires.apart } in
    keeps_runs lawful valid route is_route entries c.args.version (returns-clause-runs g c)
