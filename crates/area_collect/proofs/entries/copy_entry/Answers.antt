use Rattle.std.proofs.Common.{◌≡◌, ℕ, ◌+◌, ◌-◌, ◌++◌, min, List, [], ◌∷◌, refl, sym, ◌∙◌, ap, subst, arith, append-nil, inl, inr, ⊎_elim, Some}
use Rattle.std.specs.List.{insert}
use Rattle.std.proofs.lemmas.List.Edits.{insert_end}
use Rattle.flash_core.specs.Images.{put}
use Rattle.record_core.proofs.EndingLemmas.{handed_error}
use Rattle.record_core.specs.Log.{spelling_of}
use Rattle.area_log.specs.Areas.{end_of}
use Rattle.area_log.proofs.AreaLemmas.{area_fits}
use Rattle.ram_table.specs.declared.table.Entry.{Entry}
use Rattle.ram_table.specs.Table.{entry_at}
use Rattle.area_collect.specs.Copies.{IsNotReadAt, IsReadAt, room_for}
use Rattle.area_collect.proofs.EntryLemmas.{end_of_copies, handed_cause, rest_erased}
use Rattle.area_collect.proofs.PayloadLemmas.{within_wider}
use Rattle.area_collect.proofs.entries.copy_entry.Goals as goal

pub returns-in_err-behind-clause-runs : goal.returns-in_err-behind-clause-runs
returns-in_err-behind-clause-runs g c =
    handed_error c.from_residual.result c.in_err-behind.field-0.0 c.from_residual.ensures.1
    (within_wider c.args.end (end_of c.args.route.to - c.args.end) c.args.end c.min-room.result (omega arith) (omega (arith, c.min-room.ensures)) c.in_err-behind.ensures.runs)

pub returns-in_err-behind-clause-cause : goal.returns-in_err-behind-clause-cause
returns-in_err-behind-clause-cause g c =
    let old = g.F.Flash.state c.args.flash.now in
    let this : Entry = entry_at c.args.table.now.entries c.args.at in
    let at : c.entry-hash.result.1 ≡ this.offset = c.entry-hash.ensures.offset in
    let room : c.min-room.result ≡ room_for c.args.route this.offset c.args.end =
    c.min-room.ensures ∙ ap (λ (p : ℕ). min (c.args.route.from.base + c.args.route.from.size - p) (end_of c.args.route.to - c.args.end)) at in
    handed_cause _ c.from_residual.result c.in_err-behind.field-0.0 c.from_residual.ensures.1
    (⊎_elim (λ fault. inl fault)
    (λ not_read. inr (record {
      before = [];
      this = this;
      after = [];
      entries_are = refl;
      records = [];
      read = tt;
      not_read = subst (λ (p : ℕ). IsNotReadAt old p (room_for c.args.route this.offset c.args.end) c.in_err-behind.field-0.0) at
          (subst (λ (n : ℕ). IsNotReadAt old c.entry-hash.result.1 n c.in_err-behind.field-0.0) room not_read);
    }))
    c.in_err-behind.ensures.cause)

pub returns-clause-runs : goal.returns-clause-runs
returns-clause-runs g c =
    within_wider c.args.end (end_of c.args.route.to - c.args.end) c.args.end c.min-room.result (omega arith) (omega (arith, c.min-room.ensures)) c.in_ok-behind.ensures.runs

pub returns-clause-copied : goal.returns-clause-copied
returns-clause-copied g c =
    let old = g.F.Flash.state c.args.flash.now in
    let this : Entry = entry_at c.args.table.now.entries c.args.at in
    let at : c.entry-hash.result.1 ≡ this.offset = c.entry-hash.ensures.offset in
    let room : c.min-room.result ≡ room_for c.args.route this.offset c.args.end =
    c.min-room.ensures ∙ ap (λ (p : ℕ). min (c.args.route.from.base + c.args.route.from.size - p) (end_of c.args.route.to - c.args.end)) at in
    let copied = c.in_ok-behind.ensures.copied in
    record {
      records = copied.this ∷ [];
      read = (
        subst (λ (p : ℕ). IsReadAt old p (room_for c.args.route this.offset c.args.end) copied.this) at
            (subst (λ (n : ℕ). IsReadAt old c.entry-hash.result.1 n copied.this) room copied.read),
        tt,
      );
      end_is = copied.end_is;
      entries_are =
          c.insert.ensures.entries
          ∙ ap (λ (k : ℕ). insert c.args.spare.now.entries k (record { hash = c.entry-hash.result.0; offset = c.args.end })) c.len.ensures
          ∙ insert_end c.args.spare.now.entries (record { hash = c.entry-hash.result.0; offset = c.args.end })
          ∙ ap (λ (h : ℕ). c.args.spare.now.entries ++ record { hash = h; offset = c.args.end } ∷ []) c.entry-hash.ensures.hash;
      written = λ image told. copied.written image told ∙ ap (λ (l : List ℕ). Some (put image c.args.end l)) (sym (append-nil (spelling_of old.geometry.prog copied.this)));
    }

pub returns-clause-end : goal.returns-clause-end
returns-clause-end g c = end_of_copies c.requires.valid _ _ _ (returns-clause-copied g c) c.requires.end

pub returns-clause-erased : goal.returns-clause-erased
returns-clause-erased g c =
    let old = g.F.Flash.state c.args.flash.now in
    rest_erased c.requires.valid _ _ _ (returns-clause-copied g c) (g.met.F.Flash.lawful c.args.flash.now) c.in_ok-behind.ensures.runs.kept (end_of c.args.route.to)
    (area_fits old.geometry c.args.route.to c.requires.route.to) (returns-clause-end g c).inside.to c.requires.erased
