-- How the search for a record that is there by chance goes on.
use Rattle.std.proofs.Common.{◌≡◌, ℕ, ◌+◌, ◌*◌, true, false, List, [], ◌∷◌, ◌++◌, inl, refl, sym, ◌∙◌, ap, subst, append_assoc}
use Rattle.std.specs.Prelude.{Option, Some, None, is_none, is_some}
use Rattle.std.specs.Borrow.{Bor}
use Rattle.std.proofs.lemmas.List.{append-nil}
use mathlib.Core.Bool.{false≢true, true≢false}
use Rattle.base_core.specs.Sizes.{master_size, record_size}
use Rattle.flash_core.specs.declared.geometry.Geometry.{Geometry}
use Rattle.flash_core.specs.Images.{part}
use Rattle.flash_core.specs.Sizes.{IsValid, area_size}
use Rattle.flash_core.specs.State.{after_of, before_of}
use Rattle.flash_core.proofs.GeometryLaws.{prog_positive}
use Rattle.flash_sim.specs.declared.arming.Tear.{Tear}
use Rattle.flash_sim.specs.Views.{IsLent, call_of, torn_of}
use Rattle.kv_model.specs.Write.{Write}
use Rattle.record_core.specs.declared.header.Header.{Header}
use Rattle.record_core.specs.Chance.{AllStand, BreaksAt, StandsInOne}
use Rattle.record_core.specs.Log.{AreAllRecords, AreRecords, extent, spelling_of}
use Rattle.record_core.specs.Mounts.{ActiveRecords, Contents, Holds, MasterAt, active_area, active_reads, master_reads, reads_of, record_reads}
use Rattle.record_core.specs.Reading.{HasRecord}
use Rattle.record_core.proofs.ChanceLemmas.{AllStand-append, BreaksAt-append, BreaksAt-front}
use Rattle.record_core.proofs.LogLemmas.{AreRecords-append}
use Rattle.record_core.proofs.MountLemmas.{one_contents}
use Rattle.session_core.specs.Search.{GoesOn, IsChanceBy, IsChanceIn, IsFirst}

module _ (before after : List ℕ) where
  -- a break that was found stays the first
  pub stays_first : (found : Option ℕ) (more : List (ℕ × List ℕ)) → is_some found ≡ true → GoesOn before after found more found
  stays_first None more is reads first = absurd (false≢true is)
  stays_first (Some place) more is reads first = BreaksAt-front before after reads more place first

  module _ (found : Option ℕ) (none : is_some found ≡ false) (read : ℕ × List ℕ) where
    -- one more read that stands
    pub one_stands : StandsInOne before after read → GoesOn before after found (read ∷ []) None
    one_stands stands reads first = all_stand found none first where
      all_stand : (o : Option ℕ) → is_some o ≡ false → IsFirst before after reads o → AllStand before after (reads ++ read ∷ [])
      all_stand None is all = AllStand-append before after reads (read ∷ []) all (stands, tt)
      all_stand (Some place) is all = absurd (true≢false is)

    -- one that does not
    pub one_breaks : (StandsInOne before after read → ⊥) → GoesOn before after found (read ∷ []) (Some read.0)
    one_breaks not reads first = break_at found none first where
      break_at : (o : Option ℕ) → is_some o ≡ false → IsFirst before after reads o → BreaksAt before after (reads ++ read ∷ []) read.0
      break_at None is all = BreaksAt-append before after reads (read ∷ []) read.0 all (inl (not, refl))
      break_at (Some place) is all = absurd (true≢false is)

  -- nothing more to look at
  pub no_more : (found : Option ℕ) → GoesOn before after found [] found
  no_more found reads first = subst (λ (l : List (ℕ × List ℕ)). IsFirst before after l found) (sym (append-nil reads)) first

  -- some reads, and then others
  pub then_more : (a b c : Option ℕ) (some more : List (ℕ × List ℕ)) → GoesOn before after a some b → GoesOn before after b more c → GoesOn before after a (some ++ more) c
  then_more a b c some more first next reads is = subst (λ (l : List (ℕ × List ℕ)). IsFirst before after l c) (append_assoc reads some more) (next (reads ++ some) (first reads is))

-- The records before this place were looked at, behind what was found before.
pub record Looked (before after torn : List ℕ) (prog first place : ℕ) (old found : Option ℕ) : Type 0 where
  pub records : List Write
  pub each : AreRecords prog torn first place records
  pub goes : GoesOn before after old (record_reads prog first records) found

reads-append : (prog : ℕ) (image : List ℕ) (place end : ℕ) (rs : List Write) (r : Write) → AreRecords prog image place end rs
    → record_reads prog place (rs ++ r ∷ []) ≡ record_reads prog place rs ++ (end, spelling_of prog r) ∷ []
reads-append prog image place end [] r is = ap (λ (p : ℕ). (p, spelling_of prog r) ∷ []) is
reads-append prog image place end (s ∷ rs) r records =
    ap (λ (l : List (ℕ × List ℕ)). (place, spelling_of prog s) ∷ l) (reads-append prog image (place + extent prog s) end rs r records.1)

module _ (before after torn : List ℕ) (prog first : ℕ) (old : Option ℕ) where
  pub looked_none : Looked before after torn prog first first old old
  looked_none = record { records = []; each = refl; goes = no_more before after old }

  module _ (place limit : ℕ) (key : List ℕ) (header : Header) (found new : Option ℕ) (so_far : Looked before after torn prog first place old found) where
    -- one record more
    pub looked_more : HasRecord prog torn place limit key header
        → GoesOn before after found ((place, part torn place (record_size prog header.key_size header.value_size)) ∷ []) new
        → Looked before after torn prog first (place + record_size prog header.key_size header.value_size) old new
    looked_more there goes =
        let r = there.written in
        let size : record_size prog header.key_size header.value_size ≡ extent prog r = ap (λ (h : Header). record_size prog h.key_size h.value_size) there.header_is in
        let read : (place, part torn place (record_size prog header.key_size header.value_size)) ≡ (place, spelling_of prog r) =
        ap (λ (n : ℕ). (place, part torn place n)) size ∙ ap (λ (l : List ℕ). (place, l)) there.stands.spelling in
        let more : GoesOn before after old (record_reads prog first so_far.records ++ (place, spelling_of prog r) ∷ []) new =
        then_more before after old found new (record_reads prog first so_far.records) ((place, spelling_of prog r) ∷ []) so_far.goes
        (subst (λ (x : ℕ × List ℕ). GoesOn before after found (x ∷ []) new) read goes) in
        record {
          records = so_far.records ++ r ∷ [];
          each = subst (λ (n : ℕ). AreRecords prog torn first (place + n) (so_far.records ++ r ∷ [])) (sym size)
              (AreRecords-append prog torn first place (place + extent prog r) so_far.records (r ∷ []) so_far.each (there.stands, refl));
          goes = subst (λ (l : List (ℕ × List ℕ)). GoesOn before after old l new) (sym (reads-append prog torn first place so_far.records r so_far.each)) more;
        }

-- ---- the whole search

module _ (g : Geometry) (valid : IsValid g) (before after torn : List ℕ) (contents : Contents) (holds : Holds g torn contents) where
  -- what was found by looking at all that a mount reads
  pub chance_found : (found : Option ℕ) → GoesOn before after None (reads_of g contents) found → IsChanceIn g before after torn found
  chance_found None goes = λ c is.
      subst (λ (x : Contents). AllStand before after (reads_of g x)) (one_contents g torn (prog_positive g valid) contents c holds is) (goes [] tt)
  chance_found (Some place) goes = record { contents = contents; holds = holds; breaks = goes [] tt }

-- ---- a master record

module _ (before after torn : List ℕ) (prog area : ℕ) (found new : Option ℕ) where
  pub master_looked : (version : Option ℕ) → is_none version ≡ false → MasterAt prog torn area version → (size : ℕ) → size ≡ master_size prog
      → GoesOn before after found ((area, part torn area size) ∷ []) new → GoesOn before after found (master_reads prog area version) new
  master_looked None there master size is goes = absurd (true≢false there)
  master_looked (Some version) there master size is goes =
      subst (λ (l : List ℕ). GoesOn before after found ((area, l) ∷ []) new) (ap (part torn area) is ∙ master.spelling) goes

-- ---- the masters, and then the records of the active area

module _ (g : Geometry) (valid : IsValid g) (before after torn : List ℕ) (first second : Option ℕ)
    (first_is : MasterAt g.prog torn 0 first) (second_is : MasterAt g.prog torn (area_size g) second) (one two : Option ℕ)
    (first_goes : GoesOn before after None (master_reads g.prog 0 first) one)
    (second_goes : GoesOn before after one (master_reads g.prog (area_size g) second) two) where
  whole : (records : List Write) (end : ℕ) (found : Option ℕ) → ActiveRecords g torn (active_area first second) end records
      → GoesOn before after two (active_reads g (active_area first second) records) found → IsChanceIn g before after torn found
  whole records end found active goes =
      let contents : Contents = record { first = first; second = second; records = records; end = end } in
      chance_found g valid before after torn contents (record { first_master = first_is; second_master = second_is; active = active }) found
      (then_more before after None two found (master_reads g.prog 0 first ++ master_reads g.prog (area_size g) second) (active_reads g (active_area first second) records)
      (then_more before after None one two (master_reads g.prog 0 first) (master_reads g.prog (area_size g) second) first_goes second_goes) goes)

  -- no area is valid
  pub whole_none : None ≡ active_area first second → IsChanceIn g before after torn two
  whole_none none = whole [] 0 two (subst (λ (a : Option ℕ). ActiveRecords g torn a 0 []) none (refl, refl))
      (subst (λ (a : Option ℕ). GoesOn before after two (active_reads g a []) two) none (no_more before after two))

  -- the area of this number is active
  pub whole_some : (number : ℕ) → Some number ≡ active_area first second → (records : List Write) (end : ℕ) (found : Option ℕ)
      → AreAllRecords g.prog torn (number * area_size g + master_size g.prog) (number * area_size g + area_size g) end records
      → GoesOn before after two (record_reads g.prog (number * area_size g + master_size g.prog) records) found → IsChanceIn g before after torn found
  whole_some number some records end found all goes = whole records end found
      (subst (λ (a : Option ℕ). ActiveRecords g torn a end records) some all)
      (subst (λ (a : Option ℕ). GoesOn before after two (active_reads g a records) found) some goes)

-- ---- the call that a tear tells

-- what was found by a tear that is lent is so of the chip that holds it
pub chance_lent : (g : Geometry) (image : List ℕ) (lent : Bor Tear) (held : Option Tear) → IsLent (Some lent) held → (found : Option ℕ)
    → IsChanceIn g (before_of (call_of lent.now) image) (after_of (call_of lent.now) image) image found → IsChanceBy g image (torn_of held) found
chance_lent g image lent None is found there = absurd is
chance_lent g image lent (Some tear) is found there = subst (λ (t : Tear). IsChanceIn g (before_of (call_of t) image) (after_of (call_of t) image) image found) is there
