use Rattle.std.proofs.Common.{◌≡◌, ℕ, ◌+◌, ◌-◌, ◌<◌, ◌++◌, List, [], ◌∷◌, length, refl, sym, ◌∙◌, ap, subst, arith, inl, inr, ⊎_elim}
use Rattle.record_core.proofs.EndingLemmas.{handed_error}
use Rattle.area_log.specs.Areas.{end_of}
use Rattle.ram_table.specs.declared.table.Entry.{Entry}
use Rattle.ram_table.specs.Table.{entry_at}
use Rattle.area_collect.specs.Copies.{HasCopiedMore, segment}
use Rattle.area_collect.proofs.EntryLemmas.{copied_more_records, copied_no_records, end_at, handed_cause, not_copied_ahead, not_copied_more, one_in, same_end, segment_join, segment_more, segment_none}
use Rattle.area_collect.proofs.PayloadLemmas.{within_none, within_then}
use Rattle.area_collect.proofs.entries.copy_entries.Goals as goal

pub loop-at-init : goal.loop-at-init
loop-at-init g c =
    let s = g.F.Flash.state c.args.flash.now in
    record {
      runs = within_none s c.args.end (end_of c.args.route.to - c.args.end);
      copied = copied_no_records s c.args.route _ _ (segment_none c.args.table.now.entries c.args.first);
      end = c.requires.end;
      erased = c.requires.erased;
      count = omega arith;
      room = refl;
    }

pub returns-in_err-behind-clause-runs : goal.returns-in_err-behind-clause-runs
returns-in_err-behind-clause-runs g c =
    let so_far = c.loop-at.invariant in
    let from = end_at c.requires.valid _ _ _ so_far.copied in
    handed_error c.from_residual.result c.in_err-behind.field-0.0 c.from_residual.ensures.1
    (within_then c.args.end (end_of c.args.route.to - c.args.end) c.loop-at.behind _ (omega (arith, from)) (omega (arith, from, so_far.end.inside.to)) so_far.runs c.in_err-behind.ensures.runs)

pub returns-in_err-behind-clause-cause : goal.returns-in_err-behind-clause-cause
returns-in_err-behind-clause-cause g c =
    let old = g.F.Flash.state c.args.flash.now in
    let all : List Entry = c.args.table.now.entries in
    let first : ℕ = c.args.first in
    let at : ℕ = c.loop-at.at in
    let inside : at < length all = omega (arith, c.requires.last) in
    let so_far = c.loop-at.invariant in
    let this : Entry = entry_at all at in
    let entries : (segment all first at ++ this ∷ []) ++ segment all (at + 1) c.args.last ≡ segment all first c.args.last =
    ap (λ (l : List Entry). l ++ segment all (at + 1) c.args.last) (sym (segment_more all first at (omega arith) inside))
    ∙ sym (segment_join all first (at + 1) c.args.last (omega arith) (omega arith)) in
    handed_cause _ c.from_residual.result c.in_err-behind.field-0.0 c.from_residual.ensures.1
    (⊎_elim (λ fault. inl fault)
    (λ failed. inr (not_copied_ahead old c.args.route c.args.end (segment all first at ++ this ∷ []) (segment all (at + 1) c.args.last) _ c.in_err-behind.field-0.0 entries
    (not_copied_more (g.met.F.Flash.lawful c.args.flash.now) c.args.route c.requires.route c.args.end (end_of c.args.route.to - c.args.end) c.requires.end.inside.from (omega (arith, c.requires.end.inside.to)) so_far.runs c.requires.valid
    (segment all first at) (this ∷ []) _ _ c.in_err-behind.field-0.0 (one_in c.args.route.from this (c.requires.entries at inside)) so_far.copied failed)))
    c.in_err-behind.ensures.cause)

pub loop-at-preserved : goal.loop-at-preserved
loop-at-preserved g c =
    let old = g.F.Flash.state c.args.flash.now in
    let new = g.F.Flash.state c.copy_entry.new.flash in
    let all : List Entry = c.args.table.now.entries in
    let first : ℕ = c.args.first in
    let at : ℕ = c.loop-at.at in
    let inside : at < length all = omega (arith, c.requires.last) in
    let so_far = c.loop-at.invariant in
    let this : Entry = entry_at all at in
    let from = end_at c.requires.valid _ _ _ so_far.copied in
    let one = c.in_ok-behind.ensures in
    record {
      runs = within_then c.args.end (end_of c.args.route.to - c.args.end) c.loop-at.behind _ (omega (arith, from)) (omega (arith, from, so_far.end.inside.to)) so_far.runs one.runs;
      copied = subst (λ (l : List Entry). HasCopiedMore old new (record { route = c.args.route; entries = l }) (record { end = c.args.end; entries = c.args.spare.now.entries }) (record { end = c.in_ok-behind.behind; entries = c.copy_entry.new.spare.entries }))
          (sym (segment_more all first at (omega arith) inside))
          (copied_more_records (g.met.F.Flash.lawful c.args.flash.now) c.args.route c.requires.route c.args.end (end_of c.args.route.to - c.args.end) c.requires.end.inside.from (omega (arith, c.requires.end.inside.to)) so_far.runs c.requires.valid
          (segment all first at) (this ∷ []) _ _ _ (one_in c.args.route.from this (c.requires.entries at inside)) refl c.requires.end.inside.to so_far.copied one.copied);
      end = same_end old.geometry _ c.args.route.to c.in_ok-behind.behind so_far.runs.kept.geometry one.end;
      erased = one.erased;
      count = omega (arith, one.one, so_far.count);
      room = one.room ∙ so_far.room;
    }
