use Rattle.std.proofs.Common.{◌≡◌, ℕ, List, inl, sym, subst}
use Rattle.record_core.specs.Endings.{kv_ended}
use Rattle.area_collect.proofs.CollectLemmas.{if_err_map}
use Rattle.area_collect.proofs.EntryLemmas.{handed_cause}
use Rattle.tdb_read.specs.Views.{LogPart, view_of}
use Rattle.kv_model.specs.LogStep.{SameButOther}
use Rattle.tdb_write.specs.Changes.{Changes, IsCopyRefusal, unchanged}
use Rattle.tdb_write.specs.Copying.{HasTurned, IsRenewed}
use Rattle.tdb_write.proofs.CollectedLemmas.{any_step, on_ok, renewed_then, stands_then, turned_log}
use Rattle.tdb_write.proofs.room.collect_log.Goals as goal

pub returns-in_err-end-clause-changes : goal.returns-in_err-end-clause-changes
returns-in_err-end-clause-changes g c =
    let old = view_of g.F.Flash.state c.args.log.now in
    any_step old (view_of g.F.Flash.state c.copy_live.new.log) SameButOther (IsRenewed old.log.hash_bits unchanged) unchanged c.from_residual.result c.in_err-end.field-0.0 c.from_residual.ensures.1 c.in_err-end.ensures.changes

pub returns-in_err-end-clause-refusal : goal.returns-in_err-end-clause-refusal
returns-in_err-end-clause-refusal g c = handed_cause (IsCopyRefusal (g.F.Flash.state c.args.log.now.flash) (g.F.Flash.state c.copy_live.new.log.flash)) c.from_residual.result c.in_err-end.field-0.0 c.from_residual.ensures.1 c.in_err-end.ensures.refusal

pub returns-clause-changes : goal.returns-clause-changes
returns-clause-changes g c =
    let old = view_of g.F.Flash.state c.args.log.now in
    let mid = view_of g.F.Flash.state c.copy_live.new.log in
    let new = view_of g.F.Flash.state c.complete.new.log in
    let first = c.in_ok-end.ensures in
    stands_then old mid new unchanged SameButOther (IsRenewed old.log.hash_bits unchanged) (IsRenewed old.log.hash_bits unchanged) (kv_ended c.complete.result) (λ x y same. same) (renewed_then old.log.hash_bits unchanged) first.changes
    (subst (λ (b : ℕ). Changes mid new unchanged (IsRenewed b unchanged) (kv_ended c.complete.result)) first.changes.callers.hash_bits (c.complete.ensures.changes unchanged first.prepared))

pub returns-clause-refusal : goal.returns-clause-refusal
returns-clause-refusal g c = if_err_map c.complete.result (λ e is. inl is) c.complete.ensures.fault

pub returns-clause-turned : goal.returns-clause-turned
returns-clause-turned g c =
    let old = view_of g.F.Flash.state c.args.log.now in
    let mid = view_of g.F.Flash.state c.copy_live.new.log in
    let first = c.in_ok-end.ensures in
    on_ok c.complete.result (λ is. subst (HasTurned old.log) (sym is) (turned_log old.log mid.log c.in_ok-end.end first.memory first.room first.count)) c.complete.ensures.memory

pub returns-clause-places : goal.returns-clause-places
returns-clause-places g c =
    let first = c.in_ok-end.ensures in
    on_ok c.complete.result (λ turn key place found. turn key place (first.places key place found)) c.complete.ensures.places
