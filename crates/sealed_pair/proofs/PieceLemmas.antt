-- The bytes of a set in pieces, added to its record.
use Rattle.std.proofs.Common.{◌≡◌, ℕ, ◌+◌, ◌-◌, ◌≤◌, Bool, true, false, List, [], ◌++◌, length, drop, Option, Some, None, refl, sym, ◌∙◌, ap, ap₂, subst, arith, append_assoc}
use Rattle.std.specs.Prelude.{if◌then◌else◌, IsTrue}
use Rattle.std.proofs.Math.Seq.{drop-append_seam}
use Rattle.std.proofs.lemmas.List.{append-nil, length-append}
use mathlib.Core.Bool.{false≢true, true≢false}
use Rattle.kv_model.specs.declared.error.KvError.{KvError}
use Rattle.kv_model.specs.declared.call.Reply.TheVariants.{Done, Refused}
use Rattle.kv_model.specs.Constants.{Constants}
use Rattle.kv_model.specs.Operations.{Add}
use Rattle.kv_model.specs.Rules.{Rules}
use Rattle.kv_model.specs.Kv.{Answers, IsLawful, Kind, KvState, answered, kind_of, may_end, Ruled, FailedRead, FailedWrite, Mismatched, Wanted}
use Rattle.secure_record.specs.declared.metadata.Metadata.{Metadata}
use Rattle.secure_record.specs.Metadata.{spelling}
use Rattle.secure_record.specs.Sealed.{seal, sealed_metadata, sealed_vector, stored}
use Rattle.secure_record.specs.States.{SealState}
use Rattle.secure_record.specs.Streams.{HasSealed}
use Rattle.secure_record.proofs.BodyLemmas.{length-stored}
use Rattle.sealed_pair.specs.declared.limits.TheConstants.{SEAL_SIZE}
use Rattle.sealed_pair.specs.declared.partial.PartialSet.{PartialSet}
use Rattle.sealed_pair.specs.Pieces.{FailsToFeed, HasEndedRecord, HasFed, HasFedMore, IsSealing, fed_of, front_of, metadata_of, set_more, set_with, vector_before, whole_of}
use Rattle.sealed_pair.specs.Setting.{FailsToAdd, HasAddedPart, HasFailedSet, HasMoved, HasRoomFor, MayRefuse, calls}
use Rattle.sealed_pair.proofs.SettingLemmas.{add_failed, added, failed_behind, moved_none, moved_then}
use Rattle.sealed_pair.proofs.SettingPartLemmas.{bytes_added, stored_none}

may_be : (bytes : List ℕ) (kind : Kind) → IsTrue (may_end (Add bytes) kind) → IsTrue (may_end (Add []) kind)
may_be bytes Ruled may = may
may_be bytes FailedRead may = may
may_be bytes FailedWrite may = may
may_be bytes Mismatched may = may
may_be bytes Wanted may = may

-- how an add may end it may end whatever it adds
pub may_add : (bytes : List ℕ) (kind : Kind) → IsTrue (may_end (Add []) kind) → IsTrue (may_end (Add bytes) kind)
may_add bytes Ruled may = may
may_add bytes FailedRead may = may
may_add bytes FailedWrite may = may
may_add bytes Mismatched may = may
may_add bytes Wanted may = may

-- an add that was refused
pub may_refuse : (by : Constants → Rules) (s s' : KvState) (who : ℕ) (bytes : List ℕ) (e : KvError) → Answers by s s' (answered who (Add bytes) (Refused e)) → MayRefuse e
may_refuse by s s' who bytes e answers = may_be bytes (kind_of (Refused e)) answers.may_end

-- ---- the sizes

module _ (root : List ℕ) (next : ℕ) (set : PartialSet) (sealing : IsSealing root next set) where
  abbrev m : Metadata
  m = metadata_of next set

  pub body_left : set.left + length set.value.bytes ≡ set.size
  body_left = omega (arith, sealing.left, sealing.sealed.body.left, length-stored root set.key m.flags m.vector set.value.bytes)

  pub front_long : length (front_of root next set) ≡ 40 + length set.value.bytes
  front_long =
      omega (
        arith,
        length-append (spelling m) (stored root set.key m.flags m.vector set.value.bytes),
        ap length sealing.head,
        sealing.long,
        length-stored root set.key m.flags m.vector set.value.bytes,
      )

  -- there is room behind its front
  pub front_room : (who n : ℕ) → n ≤ set.left + 16 → HasRoomFor who (set_with who set (front_of root next set)) n
  front_room who n fits = record { owner = refl; fits = omega (arith, front_long, body_left, fits) }

  fed_by : Bool → List ℕ
  fed_by b = if b then front_of root next set else []

  pub fed_headed : set.is_headed ≡ true → fed_of root next set ≡ front_of root next set
  fed_headed is = ap (λ (b : Bool). if b then front_of root next set else []) is

  pub fed_none : set.is_headed ≡ false → fed_of root next set ≡ []
  fed_none is = ap (λ (b : Bool). if b then front_of root next set else []) is

  pub front_head : set.is_headed ≡ false → front_of root next set ≡ set.head
  front_head is =
      ap (λ (l : List ℕ). spelling m ++ stored root set.key m.flags m.vector l) (sealing.started is)
      ∙ ap (λ (l : List ℕ). spelling m ++ l) (stored_none root set.key m.flags m.vector) ∙ append-nil (spelling m) ∙ sym sealing.head

-- ---- the metadata

pub head_there : (by : Constants → Rules) (s : KvState) (who : ℕ) (set : PartialSet) → set.is_headed ≡ true → HasFed (calls by s s who) set (λ root next. front_of root next set)
head_there by s who set is root next sealing =
    subst (λ (l : List ℕ). HasMoved by s s (Some (set_with who set l)) (Some (set_with who set (front_of root next set)))) (sym (fed_headed root next set sealing is))
    (moved_none by s (Some (set_with who set (front_of root next set))))

module _ (by : Constants → Rules) (s s' : KvState) (who : ℕ) (set : PartialSet) (is : set.is_headed ≡ false) where
  head_room : (root : List ℕ) (next : ℕ) → IsSealing root next set → HasRoomFor who (set_with who set []) (length set.head)
  head_room root next sealing = record { owner = refl; fits = omega (arith, sealing.long) }

  pub head_fed : Answers by s s' (answered who (Add set.head) Done) → HasFed (calls by s s' who) set (λ root next. front_of root next set)
  head_fed answers root next sealing =
      subst (λ (l : List ℕ). HasMoved by s s' (Some (set_with who set l)) (Some (set_with who set (front_of root next set)))) (sym (fed_none root next set sealing is))
      (subst (λ (l : List ℕ). HasMoved by s s' (Some (set_with who set [])) (Some (set_with who set l))) (sym (front_head root next set sealing is))
      (added by s s' who set.head (set_with who set []) (head_room root next sealing) answers))

  pub head_fails : (e : KvError) → Answers by s s' (answered who (Add set.head) (Refused e)) → IsLawful by s' → FailsToFeed (calls by s s' who) set e
  head_fails e answers lawful = record {
    may = may_refuse by s s' who set.head e answers;
    failed = λ root next sealing.
        subst (λ (l : List ℕ). HasFailedSet by s s' (Some (set_with who set l)) (record { begins = false; error = e })) (sym (fed_none root next set sealing is))
        (add_failed by s s' who set.head (set_with who set []) (head_room root next sealing) e answers lawful);
  }

-- ---- more of the value

module _ (by : Constants → Rules) (a b c : KvState) (who : ℕ) (set : PartialSet) (first : HasFed (calls by a b who) set (λ root next. front_of root next set)) where
  pub more_fails : (value : List ℕ) (e : KvError) → FailsToAdd (calls by b c who) (length value) e → MayRefuse e → length value ≤ set.left → FailsToFeed (calls by a c who) set e
  more_fails value e fails may fits = record {
    may = may;
    failed = λ root next sealing.
        failed_behind (first root next sealing) (fails (set_with who set (front_of root next set)) (front_room root next set sealing who (length value) (omega (arith, fits))));
  }

  module _ (stream : SealState) (left : ℕ) (value : List ℕ) (part : HasAddedPart (calls by b c who) set.stream stream value) (counted : stream.body.left ≡ left) (fits : length value ≤ set.left) where
    abbrev later : PartialSet
    later = set_more set value stream left

    front_more : (root : List ℕ) (next : ℕ) → IsSealing root next set → front_of root next set ++ part.bytes ≡ front_of root next later
    front_more root next sealing =
        append_assoc (spelling (metadata_of next set)) (stored root set.key (metadata_of next set).flags (metadata_of next set).vector set.value.bytes) part.bytes
        ∙ ap (λ (l : List ℕ). spelling (metadata_of next set) ++ l) (sym (part.pieces root set.key (metadata_of next set) set.value.bytes sealing.sealed))

    pub fed_more : HasFedMore (calls by a c who) value set later
    fed_more = record {
      more = refl;
      sealing = λ root next sealing. record {
        sealed = part.sealed root set.key (metadata_of next set) set.value.bytes sealing.sealed;
        head = sealing.head;
        long = sealing.long;
        left = counted;
        started = λ never. absurd (true≢false never);
      };
      fed = λ root next sealing.
          subst (λ (l : List ℕ). HasMoved by a c (Some (set_with who set (fed_of root next set))) (Some (set_with who set l))) (front_more root next sealing)
          (moved_then (first root next sealing)
          (part.added (set_with who set (front_of root next set)) (front_room root next set sealing who (length part.bytes) (omega (arith, part.long, fits)))));
    }

  -- ---- the whole record

  module _ (tag : List ℕ) (long_tag : length tag ≡ 16) where
    tag_room : (root : List ℕ) (next : ℕ) → IsSealing root next set → HasRoomFor who (set_with who set (front_of root next set)) (length tag)
    tag_room root next sealing = front_room root next set sealing who (length tag) (omega (arith, long_tag))

    pub end_fails : (e : KvError) → Answers by b c (answered who (Add tag) (Refused e)) → IsLawful by c → FailsToFeed (calls by a c who) set e
    end_fails e answers lawful = record {
      may = may_refuse by b c who tag e answers;
      failed = λ root next sealing.
          failed_behind (first root next sealing) (add_failed by b c who tag (set_with who set (front_of root next set)) (tag_room root next sealing) e answers lawful);
    }

    module _ (whole : set.left ≡ 0) (answers : Answers by b c (answered who (Add tag) Done))
        (sealing_is : (root key : List ℕ) (flags iv : ℕ) (prior : Option (List ℕ)) (value : List ℕ) → HasSealed set.stream root key (sealed_metadata (length value) flags iv prior) value
        → set.stream.head ++ stored root key flags (sealed_vector flags iv) value ++ tag ≡ seal root key flags iv prior value) where
      whole_value : (root : List ℕ) (next : ℕ) → IsSealing root next set → length set.value.bytes ≡ set.size
      whole_value root next sealing = omega (arith, whole, body_left root next set sealing)

      whole_is : (root : List ℕ) (next : ℕ) → IsSealing root next set → front_of root next set ++ tag ≡ whole_of root next set
      whole_is root next sealing =
          ap (λ (l : List ℕ). l ++ stored root set.key (metadata_of next set).flags (metadata_of next set).vector set.value.bytes ++ tag) (sym sealing.sealed.head)
          ∙ sealing_is root set.key set.flags.bits (vector_before next set) set.prior set.value.bytes
          (subst (λ (n : ℕ). HasSealed set.stream root set.key (sealed_metadata n set.flags.bits (vector_before next set) set.prior) set.value.bytes) (sym (whole_value root next sealing)) sealing.sealed)

      pub record_ended : HasEndedRecord (calls by a c who) set tag
      record_ended = record {
        fed = λ root next sealing.
            subst (λ (l : List ℕ). HasMoved by a c (Some (set_with who set (fed_of root next set))) (Some (set_with who set l))) (whole_is root next sealing)
            (moved_then (first root next sealing) (added by b c who tag (set_with who set (front_of root next set)) (tag_room root next sealing) answers));
        whole = whole_value;
        long = λ root next sealing.
            ap length (sym (whole_is root next sealing))
            ∙ omega (arith, length-append (front_of root next set) tag, front_long root next set sealing, long_tag, whole_value root next sealing);
        ends = λ root next sealing.
            let front = front_of root next set in
            let behind : length (front ++ tag) - 16 ≡ length front = omega (arith, length-append front tag, long_tag) in
            ap (λ (l : List ℕ). drop (length l - 16) l) (sym (whole_is root next sealing)) ∙ ap (λ (n : ℕ). drop n (front ++ tag)) behind ∙ drop-append_seam front tag;
      }
