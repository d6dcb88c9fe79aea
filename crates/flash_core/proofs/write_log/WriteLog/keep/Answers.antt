use Rattle.std.proofs.Common.{◌+◌, [], ◌∷◌, length, ap, arith, ◌∙◌, sym}
use Rattle.std.proofs.lemmas.List.{length-append}
use Rattle.flash_core.specs.WriteLog.{LogState, total, with_write}
use Rattle.flash_core.proofs.WriteLogLaws.{kept_is, total_more}
use Rattle.flash_core.proofs.write_log.WriteLog.keep.Goals as goal

pub invariant_of-self : goal.invariant_of-self
invariant_of-self c = record {
  whole = ap total c.push_range.ensures.items ∙ total_more _ _ ∙ ap (λ n. n + length c.args.bytes.now) c.self.invariant.whole ∙ sym (length-append _ _) ∙ ap length (sym c.append.ensures.items);
  room_for_bytes = omega (arith, c.requires.room, c.self.invariant.room_for_bytes, ap length c.append.ensures.items, length-append c.self.inside.bytes.items c.args.bytes.now, c.append.ensures.capacity);
  room_for_ranges = omega (arith, c.requires.some, c.requires.room, c.self.invariant.room_for_ranges, ap length c.push_range.ensures.items, length-append c.self.inside.ranges.items (record { place = c.args.place; size = length c.args.bytes.now } ∷ []), c.push_range.ensures.capacity);
}

pub returns : goal.returns
returns c = kept_is c.self.inside.first.items c.self.inside.ranges.items c.push_range.new.ranges.items c.self.inside.bytes.items c.append.new.bytes.items c.args.place c.args.bytes.now c.self.inside.left c.self.inside.faults
    c.self.invariant.whole c.push_range.ensures.items c.append.ensures.items ∙ ap (λ (log : LogState). with_write log c.args.place c.args.bytes.now) c.self.view_is
