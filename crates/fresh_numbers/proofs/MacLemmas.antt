-- Records with one tag are messages with one CMAC.
use Rattle.std.proofs.Common.{◌≡◌, ℕ, List, [], ◌++◌, length, drop, take, Option, IfSome, refl, sym, ◌∙◌, ap, ap₂, subst, append_assoc}
use Rattle.std.proofs.lemmas.List.{drop_at, take_at}
use Rattle.cipher_core.specs.Cmac.{cmac}
use Rattle.cipher_core.specs.Salt.{derived}
use Rattle.cipher_core.specs.declared.derivation.Salt.TheVariants.{Auth}
use Rattle.kv_model.specs.FlaggedMap.{Stored}
use Rattle.kv_model.specs.StoreState.{maps_of}
use Rattle.secure_record.specs.declared.metadata.Metadata.{Metadata}
use Rattle.secure_record.specs.Metadata.{spelling}
use Rattle.secure_record.specs.Sealed.{record_tag, sealed, sealed_metadata, stored}
use Rattle.secure_record.proofs.RecordLemmas.{length-spelling}
use Rattle.sealed_pair.specs.Sealing.{tag_of}
use Rattle.sealed_pair.proofs.SealLemmas.{HaveForm, is_metadata}
use Rattle.sealed_pair.proofs.SetLemmas.{SealsOpen}
use Rattle.fresh_numbers.specs.Histories.{History, IsHistory, root_of}
use Rattle.fresh_numbers.specs.PutBacks.{IsHistoryUnderAttack}
use Rattle.fresh_numbers.specs.Replays.{HasHad, HaveOneMac, HaveOneTag, MayHaveHad}
use Rattle.fresh_numbers.proofs.NumberLemmas.{IsNumbered, IsSeal}
use Rattle.fresh_numbers.proofs.HistoryLemmas.{Heals}
use Rattle.fresh_numbers.proofs.PutBackLemmas.{is_under_attack, left_kept}
use Rattle.fresh_numbers.proofs.ReplayLemmas.{OneReading, its_own}

module _ (root key : List ℕ) where
  -- what the CMAC of a record is over, by its metadata and its stored bytes
  abbrev over : List ℕ → List ℕ → List ℕ
  over head bytes = head ++ key ++ bytes

  abbrev mac : List ℕ → List ℕ
  mac message = cmac (derived root Auth key) message

  whole_is : (m : Metadata) (value : List ℕ)
      → sealed root key m value ≡ spelling m ++ stored root key m.flags m.vector value ++ mac (over (spelling m) (stored root key m.flags m.vector value))
  unfolding sealed record_tag
  whole_is m value = refl

  tag_is : (m : Metadata) (bytes : List ℕ) → record_tag root key m bytes ≡ mac (over (spelling m) bytes)
  unfolding record_tag
  tag_is m bytes = refl

module _ (form : HaveForm) (root key : List ℕ) where
  abbrev metadata : (bytes : List ℕ) → IsSeal root key bytes → Metadata
  metadata bytes s = sealed_metadata (length s.value) s.flags s.iv s.prior

  abbrev body : (bytes : List ℕ) → IsSeal root key bytes → List ℕ
  body bytes s = stored root key s.flags (metadata bytes s).vector s.value

  abbrev message : (bytes : List ℕ) → IsSeal root key bytes → List ℕ
  message bytes s = over root key (spelling (metadata bytes s)) (body bytes s)

  its_mac : (bytes : List ℕ) (s : IsSeal root key bytes) → tag_of bytes ≡ mac root key (message bytes s)
  its_mac bytes s = ap tag_of s.is ∙ form.tag root key (metadata bytes s) s.value ∙ tag_is root key (metadata bytes s) (body bytes s)

  long : (bytes : List ℕ) (s : IsSeal root key bytes) → length (spelling (metadata bytes s)) ≡ 40
  long bytes s = length-spelling (metadata bytes s) (is_metadata form root key s.flags s.iv s.prior s.value s.may)

  -- one message is one record
  one_record : (a b : List ℕ) (s : IsSeal root key a) (t : IsSeal root key b) → message a s ≡ message b t → a ≡ b
  one_record a b s t same =
      let p : List ℕ = spelling (metadata a s) in
      let q : List ℕ = spelling (metadata b t) in
      let x : List ℕ = body a s in
      let y : List ℕ = body b t in
      let joined : p ++ (key ++ x) ≡ q ++ (key ++ y) = sym (append_assoc p key x) ∙ same ∙ append_assoc q key y in
      let heads : p ≡ q = sym (take_at p (key ++ x) 40 (long a s)) ∙ ap (take 40) joined ∙ take_at q (key ++ y) 40 (long b t) in
      let behind : key ++ x ≡ key ++ y = sym (drop_at p (key ++ x) 40 (long a s)) ∙ ap (drop 40) joined ∙ drop_at q (key ++ y) 40 (long b t) in
      let bodies : x ≡ y = sym (drop_at key x (length key) refl) ∙ ap (drop (length key)) behind ∙ drop_at key y (length key) refl in
      s.is ∙ whole_is root key (metadata a s) s.value
      ∙ ap₂ (λ (h c : List ℕ). h ++ c ++ mac root key (over root key h c)) heads bodies
      ∙ sym (whole_is root key (metadata b t) t.value) ∙ sym t.is

  pub one_mac : (Was : List ℕ → Type 0) → ((bytes : List ℕ) → Was bytes → IsSeal root key bytes) → HaveOneTag Was → HaveOneMac root key
  one_mac Was seals c =
      let s = seals c.first c.had_first in
      let t = seals c.second c.had_second in
      record {
        first = message c.first s;
        second = message c.second t;
        differ = λ same. c.differ (one_record c.first c.second s t same);
        same_mac = sym (its_mac c.first s) ∙ c.same_tag ∙ its_mac c.second t;
      }

module _ (opens : SealsOpen) (form : HaveForm) (one : OneReading) (heals : Heals) (h : History) (key : List ℕ) where
  left_is_sealed : IsHistoryUnderAttack h → (bytes : List ℕ) → MayHaveHad h key bytes → IsSeal (root_of h) key bytes
  left_is_sealed is bytes m =
      let Possible : List ℕ → Type 0 = λ (b : List ℕ). MayHaveHad h key b in
      let n : IsNumbered Possible (root_of h) key [] 0 m.state.next_vector bytes =
      subst (λ (o : Option Stored). IfSome o (λ (x : Stored). IsNumbered Possible (root_of h) key [] 0 m.state.next_vector x.bytes)) m.stored
      (left_kept opens form one heals h is m.state m.passed m.maps m.finds key) in
      n.sealed

  had_is_sealed : IsHistory h → (bytes : List ℕ) → HasHad h key bytes → IsSeal (root_of h) key bytes
  had_is_sealed is bytes f =
      left_is_sealed (is_under_attack h is) bytes
      (record { state = f.state; passed = f.passed; maps = maps_of f.state; finds = its_own h.constants f.state f.state.doubt; flags = f.flags; stored = f.stored })

  pub had_one_mac : IsHistory h → HaveOneTag (HasHad h key) → HaveOneMac (root_of h) key
  had_one_mac is c = one_mac form (root_of h) key (HasHad h key) (had_is_sealed is) c

  pub left_one_mac : IsHistoryUnderAttack h → HaveOneTag (MayHaveHad h key) → HaveOneMac (root_of h) key
  left_one_mac is c = one_mac form (root_of h) key (MayHaveHad h key) (left_is_sealed is) c
