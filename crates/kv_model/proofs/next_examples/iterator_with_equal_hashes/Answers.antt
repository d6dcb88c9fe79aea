use Rattle.std.proofs.Common.{◌≡◌, ℕ, List, [], ◌∷◌, Option, Some, None, codes}
use Rattle.std.specs.FinMap.{empty, insert, remove, gets, entries-insert}
use Rattle.kv_model.specs.declared.call.Reply.{Reply}
use Rattle.kv_model.specs.declared.call.Reply.TheVariants.{Done, Found, End, Refused}
use Rattle.kv_model.specs.declared.error.KvError.TheVariants.{NoIterator}
use Rattle.kv_model.specs.Crc.{shifted_times, crc_step, crc_from}
use Rattle.kv_model.specs.FlaggedMap.{FlaggedMap}
use Rattle.kv_model.specs.Constants.{Constants}
use Rattle.kv_model.specs.StoreState.{StoreState, Iterators}
use Rattle.kv_model.specs.Operations.{Operation, Set, Remove, OpenIterator, Next, CloseIterator}
use Rattle.kv_model.specs.Keys.{is_key, is_prefix, is_key_byte}
use Rattle.base_core.specs.Units.{up}
use Rattle.kv_model.specs.PlainStep.{plain_step}
use Rattle.kv_model.specs.Examples.{example_store, empty_store, position_behind}
use Rattle.kv_model.proofs.MapLemmas.{entries-empty, entries-remove, iterator_total}
use Rattle.kv_model.proofs.NextKeyLemmas.{bytes_same}
use Rattle.kv_model.proofs.ReplyLemmas.{Step, replies_of_steps}
use Rattle.kv_model.proofs.next_examples.iterator_with_equal_hashes.Goals as goal

abbrev store : Constants
store = record example_store { hash_bits = 0 }

-- ---- the maps, by their keys

abbrev with : FlaggedMap → List ℕ → FlaggedMap
with m key = insert m key (record { flags = 0; bytes = 0x00 ∷ [] })

abbrev b : FlaggedMap
b = with empty (codes "b")

abbrev bd : FlaggedMap
bd = with b (codes "d")

abbrev bdf : FlaggedMap
bdf = with bd (codes "f")

abbrev bf : FlaggedMap
bf = remove bdf (codes "d")

abbrev abf : FlaggedMap
abf = with bf (codes "a")

abbrev abef : FlaggedMap
abef = with abf (codes "e")

-- ---- the iterators

abbrev moved : Iterators → Option (List ℕ) → Iterators
moved iterators last = insert iterators (1, 0) (position_behind last)

abbrev opened : Iterators
opened = moved empty None

abbrev gave_b : Iterators
gave_b = moved opened (Some (codes "b"))

abbrev gave_e : Iterators
gave_e = moved gave_b (Some (codes "e"))

abbrev gave_f : Iterators
gave_f = moved gave_e (Some (codes "f"))

abbrev closed : Iterators
closed = remove gave_f (1, 0)

-- ---- the steps

abbrev at : FlaggedMap → Iterators → StoreState
at m iterators = record empty_store { primary = m; iterators = iterators }

abbrev Leads : StoreState → Operation → StoreState → Reply → Type 0
Leads old operation new reply = plain_step store old 1 operation ≡ record { state = new; reply = reply }

ruleset maps = (gets, iterator_total, entries-insert, entries-remove, entries-empty, bytes_same)

set_b : Leads (at empty empty) (Set (codes "b") (0x00 ∷ []) 0) (at b empty) Done
unfolding is_key is_prefix is_key_byte up shifted_times crc_step crc_from
set_b = simp maps

set_d : Leads (at b empty) (Set (codes "d") (0x00 ∷ []) 0) (at bd empty) Done
unfolding is_key is_prefix is_key_byte up shifted_times crc_step crc_from
set_d = simp maps

set_f : Leads (at bd empty) (Set (codes "f") (0x00 ∷ []) 0) (at bdf empty) Done
unfolding is_key is_prefix is_key_byte up shifted_times crc_step crc_from
set_f = simp maps

opens : Leads (at bdf empty) (OpenIterator 0 []) (at bdf opened) Done
unfolding is_key is_prefix is_key_byte up shifted_times crc_step crc_from
opens = simp maps

gives_b : Leads (at bdf opened) (Next 0) (at bdf gave_b) (Found (codes "b"))
unfolding is_key is_prefix is_key_byte up shifted_times crc_step crc_from
gives_b = simp maps

remove_d : Leads (at bdf gave_b) (Remove (codes "d")) (at bf gave_b) Done
unfolding is_key is_prefix is_key_byte up shifted_times crc_step crc_from
remove_d = simp maps

set_a : Leads (at bf gave_b) (Set (codes "a") (0x00 ∷ []) 0) (at abf gave_b) Done
unfolding is_key is_prefix is_key_byte up shifted_times crc_step crc_from
set_a = simp maps

set_e : Leads (at abf gave_b) (Set (codes "e") (0x00 ∷ []) 0) (at abef gave_b) Done
unfolding is_key is_prefix is_key_byte up shifted_times crc_step crc_from
set_e = simp maps

gives_e : Leads (at abef gave_b) (Next 0) (at abef gave_e) (Found (codes "e"))
unfolding is_key is_prefix is_key_byte up shifted_times crc_step crc_from
gives_e = simp maps

gives_f : Leads (at abef gave_e) (Next 0) (at abef gave_f) (Found (codes "f"))
unfolding is_key is_prefix is_key_byte up shifted_times crc_step crc_from
gives_f = simp maps

ends : Leads (at abef gave_f) (Next 0) (at abef gave_f) End
unfolding is_key is_prefix is_key_byte up shifted_times crc_step crc_from
ends = simp maps

closes : Leads (at abef gave_f) (CloseIterator 0) (at abef closed) Done
unfolding is_key is_prefix is_key_byte up shifted_times crc_step crc_from
closes = simp maps

is_closed : Leads (at abef closed) (Next 0) (at abef closed) (Refused NoIterator)
unfolding is_key is_prefix is_key_byte up shifted_times crc_step crc_from
is_closed = simp maps

abbrev step : Operation → StoreState → Reply → Step
step operation new reply = record { who = 1; operation = operation; outcome = record { state = new; reply = reply } }

abbrev steps : List Step
steps =
    step (Set (codes "b") (0x00 ∷ []) 0) (at b empty) Done
    ∷ step (Set (codes "d") (0x00 ∷ []) 0) (at bd empty) Done
    ∷ step (Set (codes "f") (0x00 ∷ []) 0) (at bdf empty) Done
    ∷ step (OpenIterator 0 []) (at bdf opened) Done
    ∷ step (Next 0) (at bdf gave_b) (Found (codes "b"))
    ∷ step (Remove (codes "d")) (at bf gave_b) Done
    ∷ step (Set (codes "a") (0x00 ∷ []) 0) (at abf gave_b) Done
    ∷ step (Set (codes "e") (0x00 ∷ []) 0) (at abef gave_b) Done
    ∷ step (Next 0) (at abef gave_e) (Found (codes "e"))
    ∷ step (Next 0) (at abef gave_f) (Found (codes "f"))
    ∷ step (Next 0) (at abef gave_f) End
    ∷ step (Next 0) (at abef gave_f) End
    ∷ step (CloseIterator 0) (at abef closed) Done
    ∷ step (Next 0) (at abef closed) (Refused NoIterator)
    ∷ []

pub returns : goal.returns
returns c = replies_of_steps store empty_store steps (set_b, (set_d, (set_f, (opens, (gives_b, (remove_d, (set_a, (set_e, (gives_e, (gives_f, (ends, (ends, (closes, (is_closed, tt))))))))))))))
