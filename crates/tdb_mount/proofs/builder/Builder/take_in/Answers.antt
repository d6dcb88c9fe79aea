use Rattle.std.proofs.Common.{◌≡◌, ◌+◌, ◌≤◌, Bool, true, List, length, sym, ◌∙◌, ap, subst, arith}
use Rattle.std.specs.Prelude.{◌||◌}
use Rattle.area_log.specs.declared.area.Area.{Area}
use Rattle.area_log.specs.Areas.{end_of}
use Rattle.ram_table.specs.declared.table.Entry.{Entry}
use Rattle.ram_table.specs.Find.{IsInside}
use Rattle.tdb_mount.specs.Room.{AreIn}
use Rattle.tdb_mount.proofs.TableLemmas.{AreIn-changed, length-changed, length-changed_old}
use Rattle.tdb_mount.proofs.builder.Builder.take_in.Goals as goal
use Rattle.tdb_mount.proofs.builder.Builder.take_in.Goals.{then-is_remove-via-then-is_remove, then-is_remove-via-else-is_remove+then-place}

pub invariant_of-self : goal.invariant_of-self
invariant_of-self g c =
    let self = c.args.self.now in
    let place = c.args.place in
    let is = c.take_in.ensures.entries in
    let old : (c.args.is_remove || place.found) ≡ true = elim c.then-is_remove.branch [
      | then-is_remove-via-then-is_remove w ↦ ap (λ (b : Bool). b || place.found) w.if-is_remove.true
      | then-is_remove-via-else-is_remove+then-place w ↦ ap (λ (b : Bool). b || place.found) w.if-is_remove.false ∙ w.if-place.true
    ] in
    record {
      same_bits = self.same_bits;
      bits = self.bits;
      within = subst (AreIn self.area) (sym is)
          (AreIn-changed self.area self.table.entries place.at c.args.hash c.args.at c.args.is_remove place.found self.within c.requires.inside.most c.requires.inside.there c.requires.from c.requires.to);
      room = omega (
        arith,
        self.room,
        ap (length {A = Entry}) is,
        length-changed_old self.table.entries place.at c.args.hash c.args.at c.args.is_remove place.found old c.requires.inside.there,
      );
      empty = self.empty;
    }

pub invariant_of-self-2 : goal.invariant_of-self-2
invariant_of-self-2 g c =
    let self = c.reserve.new.self in
    let place = c.args.place in
    let is = c.take_in-2.ensures.entries in
    let made = c.in_ok-reserve.ensures in
    let inside : IsInside self.table.entries place = subst (λ (l : List Entry). IsInside l place) (sym made.entries) c.requires.inside in
    record {
      same_bits = self.same_bits;
      bits = self.bits;
      within = subst (AreIn self.area) (sym is)
          (AreIn-changed self.area self.table.entries place.at c.args.hash c.args.at c.args.is_remove place.found self.within inside.most inside.there
          (subst (λ (a : Area). a.base ≤ c.args.at) (sym made.area) c.requires.from)
          (subst (λ (a : Area). c.args.at + 24 ≤ end_of a) (sym made.area) c.requires.to));
      room = omega (
        arith,
        made.room,
        ap (length {A = Entry}) is,
        length-changed self.table.entries place.at c.args.hash c.args.at c.args.is_remove place.found inside.most inside.there,
      );
      empty = self.empty;
    }
