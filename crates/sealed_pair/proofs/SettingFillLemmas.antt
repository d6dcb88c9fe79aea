-- The bytes of a set, in both stores.
use Rattle.std.proofs.Common.{◌≡◌, ℕ, ◌+◌, ◌-◌, Bool, true, false, List, [], length, length-drop, Option, Some, None, Ok, refl, sym, ◌∙◌, ap, subst, inl, inr, arith}
use Rattle.std.specs.Prelude.{if◌then◌else◌}
use Rattle.kv_model.specs.declared.error.KvError.{KvError}
use Rattle.kv_model.specs.declared.call.Reply.{Reply}
use Rattle.kv_model.specs.declared.call.Reply.TheVariants.{Done, Refused}
use Rattle.kv_model.specs.Constants.{Constants}
use Rattle.kv_model.specs.Flags.{is_mirrored}
use Rattle.kv_model.specs.StoreState.{OpenSet, begun_set}
use Rattle.kv_model.specs.Operations.{Abort, Add}
use Rattle.kv_model.specs.Rules.{Rules}
use Rattle.kv_model.specs.Kv.{Answers, IsLawful, KvState, answered}
use Rattle.secure_record.specs.States.{SealState}
use Rattle.sealed_pair.specs.declared.limits.TheConstants.{SEAL_SIZE}
use Rattle.sealed_pair.specs.Running.{Parts, parts}
use Rattle.sealed_pair.specs.Sealing.{kept_flags, tag_of}
use Rattle.sealed_pair.specs.Setting.{FailsToAdd, HasAddedRecord, HasGivenUp, HasMoved, IsFilled, StartsSet, asked_of, calls, record_set, tag_set}
use Rattle.sealed_pair.proofs.SettingLemmas.{aborted, add_failed, added, failed_behind, moved_none, moved_then}

-- ---- the tag's set, where the key is mirrored

module _ (by : Constants → Rules) (s s' : KvState) (who : ℕ) (key : List ℕ) (flags : ℕ) where
  abbrev whole : List ℕ → OpenSet
  whole bytes = record (begun_set who key (kept_flags flags) 16 None) { bytes = bytes }

  -- a set that is begun in a mirrored set, and of one that isn't mirrored
  pub mirrored_after : (set : Option OpenSet) (bytes : List ℕ) → is_mirrored flags ≡ true → HasMoved by s s' set (Some (whole bytes)) → HasMoved by s s' set (tag_set who key flags bytes)
  mirrored_after set bytes is moved = subst (λ (b : Bool). HasMoved by s s' set (if b then Some (whole bytes) else None)) (sym is) moved

  pub mirrored_whole : (set : Option OpenSet) (bytes : List ℕ) → is_mirrored flags ≡ true → HasMoved by s s' set (tag_set who key flags bytes) → HasMoved by s s' set (Some (whole bytes))
  mirrored_whole set bytes is moved = subst (λ (b : Bool). HasMoved by s s' set (if b then Some (whole bytes) else None)) is moved

  pub unmirrored_after : (set : Option OpenSet) (bytes : List ℕ) → is_mirrored flags ≡ false → HasMoved by s s' set None → HasMoved by s s' set (tag_set who key flags bytes)
  unmirrored_after set bytes is moved = subst (λ (b : Bool). HasMoved by s s' set (if b then Some (whole bytes) else None)) (sym is) moved

  pub unmirrored_whole : (set : Option OpenSet) (bytes : List ℕ) → is_mirrored flags ≡ false → HasMoved by s s' set (tag_set who key flags bytes) → HasMoved by s s' set None
  unmirrored_whole set bytes is moved = subst (λ (b : Bool). HasMoved by s s' set (if b then Some (whole bytes) else None)) is moved

  -- an abort of it
  pub tag_aborted : (bytes : List ℕ) → is_mirrored flags ≡ true → (reply : Reply) → Answers by s s' (answered who Abort reply) → HasMoved by s s' (tag_set who key flags bytes) None
  tag_aborted bytes is reply answers =
      subst (λ (b : Bool). HasMoved by s s' (if b then Some (whole bytes) else None) None) (sym is) (aborted by s s' who (whole bytes) refl reply answers)

pub tag_left : (by : Constants → Rules) (s : KvState) (who : ℕ) (key : List ℕ) (flags : ℕ) (bytes : List ℕ) → is_mirrored flags ≡ false → HasMoved by s s (tag_set who key flags bytes) None
tag_left by s who key flags bytes is =
    subst (λ (b : Bool). HasMoved by s s (if b then Some (record (begun_set who key (kept_flags flags) 16 None) { bytes = bytes }) else None) None) (sym is) (moved_none by s None)

-- ---- both stores, once they have begun

module _ (root : List ℕ) (number : ℕ) (by_above by_below : Constants → Rules) (u r u₁ r₁ : KvState) (who : ℕ) (key value : List ℕ) (flags : ℕ)
    (above : HasMoved by_above u u₁ None (Some (record_set who key (length value) flags []))) (below : HasMoved by_below r r₁ None (tag_set who key flags [])) where
  abbrev before : Parts
  before = parts root number by_above u by_below r

  -- the record could not be added
  pub record_given_up : (u₂ r₂ : KvState) (e : KvError) → FailsToAdd (calls by_above u₁ u₂ who) (length value + SEAL_SIZE) e → HasMoved by_below r₁ r₂ (tag_set who key flags []) None
      → HasGivenUp before (parts root number by_above u₂ by_below r₂) None None (record { begins = false; error = e })
  record_given_up u₂ r₂ e fails gave_up =
      inl (failed_behind above (fails (record_set who key (length value) flags []) (record { owner = refl; fits = omega arith })), moved_then below gave_up)

  module _ (u₂ : KvState) (stream : SealState) (tag : List ℕ) (record_in : HasAddedRecord (calls by_above u₁ u₂ who) stream value tag) where
    recorded : HasMoved by_above u u₂ None (Some (record_set who key (length value) flags record_in.bytes))
    recorded = moved_then above (record_in.added (record_set who key (length value) flags []) (record { owner = refl; fits = omega (arith, record_in.long) }))

    long_tag : length tag ≡ 16
    long_tag = ap length (sym record_in.ends) ∙ omega (arith, length-drop (length record_in.bytes - 16) record_in.bytes, record_in.long)

    module _ (room : StartsSet before key (length value) flags (Ok tt)) where
      -- a key that is not mirrored
      pub filled_alone : is_mirrored flags ≡ false → IsFilled before (parts root number by_above u₂ by_below r₁) (asked_of who key flags value) record_in.bytes
      filled_alone is = record {
        long = record_in.long;
        above = recorded;
        below = unmirrored_after by_below r r₁ who key flags None (tag_of record_in.bytes) is (unmirrored_whole by_below r r₁ who key flags None [] is below);
        room = room;
      }

      -- a mirrored key, with its tag
      pub filled_both : is_mirrored flags ≡ true → (r₂ : KvState) → Answers by_below r₁ r₂ (answered who (Add tag) Done)
          → IsFilled before (parts root number by_above u₂ by_below r₂) (asked_of who key flags value) record_in.bytes
      filled_both is r₂ answers = record {
        long = record_in.long;
        above = recorded;
        below = mirrored_after by_below r r₂ who key flags None (tag_of record_in.bytes) is
            (subst (λ (l : List ℕ). HasMoved by_below r r₂ None (Some (whole by_below r r₂ who key flags l))) (sym record_in.ends)
            (moved_then (mirrored_whole by_below r r₁ who key flags None [] is below)
            (added by_below r₁ r₂ who tag (whole by_below r r₂ who key flags []) (record { owner = refl; fits = omega (arith, long_tag) }) answers)));
        room = room;
      }

    -- the tag could not be added
    pub tag_given_up : is_mirrored flags ≡ true → (u₃ r₂ : KvState) (reply : Reply) → Answers by_above u₂ u₃ (answered who Abort reply) → IsLawful by_below r₂ → (e : KvError)
        → Answers by_below r₁ r₂ (answered who (Add tag) (Refused e)) → HasGivenUp before (parts root number by_above u₃ by_below r₂) None None (record { begins = false; error = e })
    tag_given_up is u₃ r₂ reply gave_up lawful e answers =
        inr (
          moved_then recorded (aborted by_above u₂ u₃ who (record_set who key (length value) flags record_in.bytes) refl reply gave_up),
          failed_behind (mirrored_whole by_below r r₁ who key flags None [] is below)
              (add_failed by_below r₁ r₂ who tag (whole by_below r r₂ who key flags []) (record { owner = refl; fits = omega (arith, long_tag) }) e answers lawful),
        )
