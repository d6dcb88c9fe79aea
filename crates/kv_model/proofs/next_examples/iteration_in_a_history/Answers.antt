use Rattle.std.proofs.Common.{◌≡◌, inl, refl, All, zero, suc, true, arith}
use Rattle.std.specs.FinMap.{gets, entries-insert}
use Rattle.kv_model.specs.declared.call.Entry.{Entry}
use Rattle.kv_model.specs.Crc.{shifted_times, crc_step, crc_from}
use Rattle.kv_model.specs.Keys.{is_key, is_prefix, is_key_byte}
use Rattle.kv_model.specs.Iterations.{stays_open, turn_of}
use Rattle.kv_model.specs.IteratorExamples.{during}
use Rattle.kv_model.proofs.MapLemmas.{entries-empty, entries-remove, iterator_total}
use Rattle.kv_model.proofs.NextKeyLemmas.{bytes_same}
use Rattle.kv_model.proofs.next_examples.iteration_in_a_history.Goals as goal

ruleset maps = (gets, iterator_total, entries-insert, entries-remove, entries-empty, bytes_same)

stays : All (λ (entry : Entry). stays_open (turn_of 1 0 entry) ≡ true) during
stays zero d below = refl
stays (suc zero) d below = refl
stays (suc (suc k)) d below = absurd (omega (arith, below))

pub returns : goal.returns
unfolding is_key is_prefix is_key_byte shifted_times crc_step crc_from
returns c = record {
  passes = (inl (simp maps), (inl (simp maps), (inl (simp maps), (inl (simp maps), tt))));
  iteration = record { opens = refl; stays = stays };
  ends = refl;
  given = refl;
  once = refl;
  other = refl;
}
