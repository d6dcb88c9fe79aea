-- The bytes of a record, added to a set one part after another.
use Rattle.std.proofs.Common.{◌≡◌, ℕ, ◌+◌, ◌-◌, ◌≤◌, Bool, true, false, ◌==◌, List, [], ◌∷◌, ◌++◌, length, take, drop, Option, Some, None, refl, sym, ◌∙◌, ap, ap₂, subst, arith, append_assoc}
use Rattle.std.specs.Prelude.{if◌then◌else◌}
use Rattle.std.proofs.lemmas.Bool.Decides.{nat_tests}
use Rattle.std.proofs.Math.Seq.{drop-append_seam, take-add}
use Rattle.std.proofs.lemmas.List.{append-nil, length-append, take_all}
use Rattle.kv_model.specs.declared.error.KvError.{KvError}
use Rattle.kv_model.specs.declared.call.Got.{Got}
use Rattle.kv_model.specs.Constants.{Constants}
use Rattle.kv_model.specs.FlaggedMap.{Stored}
use Rattle.kv_model.specs.StoreState.{OpenSet, tag_in}
use Rattle.kv_model.specs.Rules.{Rules}
use Rattle.kv_model.specs.declared.call.Reply.TheVariants.{Done, Refused}
use Rattle.kv_model.specs.Operations.{Add}
use Rattle.kv_model.specs.Kv.{Answers, IsLawful, KvState, answered}
use Rattle.secure_record.specs.declared.metadata.Metadata.{Metadata}
use Rattle.secure_record.specs.Sealed.{seal, sealed_metadata, sealed_vector, stored}
use Rattle.secure_record.proofs.BodyLemmas.{length-stored}
use Rattle.secure_record.specs.States.{SealState}
use Rattle.secure_record.specs.Streams.{HasSealed}
use Rattle.sealed_pair.specs.Reading.{Begins}
use Rattle.sealed_pair.specs.Setting.{FailsToAdd, HasAdded, HasAddedPart, HasAddedRecord, HasMoved, HasRoomFor, HasTag, calls}
use Rattle.sealed_pair.proofs.SettingLemmas.{add_failed, added, failed_behind, moved_none, moved_then}

-- ---- what the rollback store holds

sixteen : (stored : Stored) (b : Bool) → (length stored.bytes == 16) ≡ b → (if b then Some stored.bytes else None) ≡ tag_in (Some stored)
sixteen stored b is = ap (λ (x : Bool). if x then Some stored.bytes else None) (sym is)

pub entry_other : (found : Option Stored) (n : ℕ) (got : Got) (buf : List ℕ) → Begins found n got buf → (got.size ≡ 16 → ⊥) → HasTag found (record { flags = got.flags; tag = None })
entry_other found n got buf begins apart =
    let not_long : length begins.stored.bytes ≡ 16 → ⊥ = λ is. apart (begins.size ∙ is) in
    let no_tag : (length begins.stored.bytes == 16) ≡ false = grind (arith, nat_tests) in
    record { stored = begins.stored; there = begins.there; bits = begins.flags; tag = sixteen begins.stored false no_tag }

pub entry_tag : (found : Option Stored) (n : ℕ) (got : Got) (buf : List ℕ) → Begins found n got buf → n ≡ 16 → length buf ≡ 16 → got.size ≡ 16
    → HasTag found (record { flags = got.flags; tag = Some buf })
entry_tag found n got buf begins n_is long size =
    let read : got.read ≡ 16 = omega (arith, begins.size, begins.read, n_is, size) in
    let same : begins.stored.bytes ≡ buf =
    sym (take_all n begins.stored.bytes (omega (arith, n_is, size, begins.size))) ∙ sym begins.bytes ∙ take_all got.read buf (omega (arith, read, long)) in
    let is_long : length begins.stored.bytes ≡ 16 = sym begins.size ∙ size in
    let is_tag : (length begins.stored.bytes == 16) ≡ true = grind (arith, nat_tests) in
    record {
      stored = begins.stored;
      there = begins.there;
      bits = begins.flags;
      tag = ap (λ (l : List ℕ). Some l) (sym same) ∙ sixteen begins.stored true is_tag;
    }

-- ---- parts of a value

pub added_none : (by : Constants → Rules) (s : KvState) (who : ℕ) (stream : SealState) → HasAddedPart (calls by s s who) stream stream []
added_none by s who stream = record {
  bytes = [];
  long = refl;
  left = omega arith;
  head = refl;
  added = λ set room. subst (λ (l : List ℕ). HasMoved by s s (Some set) (Some (record set { bytes = l }))) (sym (append-nil set.bytes)) (moved_none by s (Some set));
  sealed = λ root key m front is. subst (HasSealed stream root key m) (sym (append-nil front)) is;
  pieces = λ root key m front is. ap (stored root key m.flags m.vector) (append-nil front) ∙ sym (append-nil (stored root key m.flags m.vector front));
}

-- the room that is left behind some bytes
room_behind : (who : ℕ) (set : OpenSet) (n m : ℕ) (bytes : List ℕ) → HasRoomFor who set n → length bytes + m ≤ n → HasRoomFor who (record set { bytes = set.bytes ++ bytes }) m
room_behind who set n m bytes room fits = record { owner = room.owner; fits = omega (arith, room.fits, fits, length-append set.bytes bytes) }

less_room : (who : ℕ) (set : OpenSet) (n m : ℕ) → HasRoomFor who set n → m ≤ n → HasRoomFor who set m
less_room who set n m room less = record { owner = room.owner; fits = omega (arith, room.fits, less) }

module _ (by : Constants → Rules) (a b c : KvState) (who : ℕ) where
  -- some bytes and then others
  pub bytes_more : (one two : List ℕ) → HasAdded (calls by a b who) one → HasAdded (calls by b c who) two → HasAdded (calls by a c who) (one ++ two)
  bytes_more one two first second set room =
      let total = length-append one two in
      subst (λ (l : List ℕ). HasMoved by a c (Some set) (Some (record set { bytes = l }))) (append_assoc set.bytes one two)
      (moved_then (first set (less_room who set (length (one ++ two)) (length one) room (omega (arith, total))))
      (second (record set { bytes = set.bytes ++ one }) (room_behind who set (length (one ++ two)) (length two) one room (omega (arith, total)))))

  pub fails_more : (one : List ℕ) (n total : ℕ) (e : KvError) → HasAdded (calls by a b who) one → FailsToAdd (calls by b c who) n e → length one + n ≤ total → FailsToAdd (calls by a c who) total e
  fails_more one n total e first fails fits set room =
      failed_behind (first set (less_room who set total (length one) room (omega (arith, fits))))
      (fails (record set { bytes = set.bytes ++ one }) (room_behind who set total n one room fits))

  pub part_more : (x y z : SealState) (one two : List ℕ) → HasAddedPart (calls by a b who) x y one → HasAddedPart (calls by b c who) y z two → HasAddedPart (calls by a c who) x z (one ++ two)
  part_more x y z one two first second =
      let assoc : (front : List ℕ) → (front ++ one) ++ two ≡ front ++ (one ++ two) = λ front. append_assoc front one two in
      record {
        bytes = first.bytes ++ second.bytes;
        long = length-append first.bytes second.bytes ∙ ap₂ (λ (n k : ℕ). n + k) first.long second.long ∙ sym (length-append one two);
        left = omega (arith, first.left, second.left, length-append one two);
        head = second.head ∙ first.head;
        added = bytes_more first.bytes second.bytes first.added second.added;
        sealed = λ root key m front is. subst (HasSealed z root key m) (assoc front) (second.sealed root key m (front ++ one) (first.sealed root key m front is));
        pieces = λ root key m front is.
            ap (stored root key m.flags m.vector) (sym (assoc front)) ∙ second.pieces root key m (front ++ one) (first.sealed root key m front is)
            ∙ ap (λ (l : List ℕ). l ++ second.bytes) (first.pieces root key m front is) ∙ append_assoc (stored root key m.flags m.vector front) first.bytes second.bytes;
      }

-- a part that is a piece further than another
pub next_piece : (value : List ℕ) (done count : ℕ) → take done value ++ take (done + count - done) (drop done value) ≡ take (done + count) value
next_piece value done count =
    let same : done + count - done ≡ count = omega arith in
    ap (λ (n : ℕ). take done value ++ take n (drop done value)) same ∙ sym (take-add done count value)

-- ---- the whole record

-- bytes of one call
pub bytes_added : (by : Constants → Rules) (s s' : KvState) (who : ℕ) (bytes : List ℕ) → Answers by s s' (answered who (Add bytes) Done) → HasAdded (calls by s s' who) bytes
bytes_added by s s' who bytes answers set room = added by s s' who bytes set room answers

pub bytes_fail : (by : Constants → Rules) (s s' : KvState) (who : ℕ) (bytes : List ℕ) (total : ℕ) (e : KvError) → Answers by s s' (answered who (Add bytes) (Refused e)) → IsLawful by s'
    → length bytes ≤ total → FailsToAdd (calls by s s' who) total e
bytes_fail by s s' who bytes total e answers lawful less set room = add_failed by s s' who bytes set (less_room who set total (length bytes) room less) e answers lawful

pub stored_none : (root key : List ℕ) (flags vector : ℕ) → stored root key flags vector [] ≡ []
stored_none root key flags vector = none (stored root key flags vector []) (length-stored root key flags vector []) where
  none : (l : List ℕ) → length l ≡ 0 → l ≡ []
  none [] is = refl
  none (x ∷ l) is = absurd (omega (arith, is))

module _ (by : Constants → Rules) (a b c d : KvState) (who : ℕ) (stream later : SealState) (head value tag : List ℕ) (head_is : head ≡ stream.head) (long_head : length head ≡ 40) (long_tag : length tag ≡ 16)
    (first : HasAdded (calls by a b who) head) (part : HasAddedPart (calls by b c who) stream later value) where
  abbrev front : List ℕ
  front = head ++ part.bytes

  pub front_added : HasAdded (calls by a c who) front
  front_added = bytes_more by a b c who head part.bytes first part.added

  pub front_long : length front ≡ length value + 40
  front_long = omega (arith, length-append head part.bytes, long_head, part.long)

  pub record_added : HasAdded (calls by c d who) tag
      → ((root key : List ℕ) (flags iv : ℕ) (prior : Option (List ℕ)) (whole : List ℕ) → HasSealed later root key (sealed_metadata (length whole) flags iv prior) whole
      → later.head ++ stored root key flags (sealed_vector flags iv) whole ++ tag ≡ seal root key flags iv prior whole)
      → HasAddedRecord (calls by a d who) stream value tag
  record_added last sealing = record {
    bytes = front ++ tag;
    long = omega (arith, length-append front tag, front_long, long_tag);
    added = bytes_more by a c d who front tag front_added last;
    ends = ap (λ (n : ℕ). drop n (front ++ tag)) behind ∙ drop-append_seam front tag;
    sealed = λ root key flags number prior begun.
        let m : Metadata = sealed_metadata (length value) flags number prior in
        let stored_is : part.bytes ≡ stored root key flags (sealed_vector flags number) value =
        ap (λ (l : List ℕ). l ++ part.bytes) (sym (stored_none root key flags (sealed_vector flags number))) ∙ sym (part.pieces root key m [] begun) in
        ap₂ (λ (x y : List ℕ). x ++ y ++ tag) (head_is ∙ sym part.head) stored_is
        ∙ sealing root key flags number prior value (part.sealed root key m [] begun);
  } where
    behind : length (front ++ tag) - 16 ≡ length front
    behind = omega (arith, length-append front tag, long_tag)
