-- A log that wants no collection grows by the records of a history.
use Rattle.std.proofs.Common.{◌≡◌, ℕ, zero, suc, ◌+◌, ◌≤◌, Bool, true, false, nat_lt, List, [], ◌∷◌, ◌++◌, length, Option, Some, None, refl, sym, ◌∙◌, ap, subst, append_assoc, arith}
use Rattle.std.specs.Prelude.{not, ◌&&◌, ◌||◌, is_some}
use Rattle.std.proofs.lemmas.Bool.{le-ltb}
use Rattle.std.proofs.lemmas.List.{append-nil}
use Rattle.std.proofs.lemmas.List.Sums.{sum_by-cons}
use mathlib.Core.Bool.{false≢true}
use Rattle.base_core.specs.Sizes.{record_size}
use Rattle.base_core.specs.Units.{up}
use Rattle.base_core.proofs.UnitLemmas.{up-monotone}
use Rattle.kv_model.specs.declared.call.Call.{Call}
use Rattle.kv_model.specs.declared.call.Entry.{Entry}
use Rattle.kv_model.specs.Constants.{Constants}
use Rattle.kv_model.specs.LogStep.{collects, spent}
use Rattle.kv_model.specs.Opening.{Log}
use Rattle.kv_model.specs.StoreState.{OpenSet}
use Rattle.kv_model.specs.Write.{Write}
use Rattle.kv_model.specs.Writes.{set_after, writes}
use Rattle.plain_store.proofs.CallLemmas.{some_is}
use Rattle.session_core.specs.Growing.{done_in, grown, is_done, is_finish, is_reset, is_start}
use Rattle.session_core.proofs.TurnLemmas.{Begins, Drops, Ends, Feeds, Move, Puts, Resets, Stays, Turn, move, of_set, one_if}

pub spent-append : (prog : ℕ) (a b : List Write) → spent prog (a ++ b) ≡ spent prog a + spent prog b
spent-append prog [] b = omega arith
spent-append prog (r ∷ a) b = more (record_size prog (length r.key) (length r.value)) (spent prog (a ++ b)) (spent prog a) (spent prog b) (spent-append prog a b) where
  more : (n ab a b : ℕ) → ab ≡ a + b → n + ab ≡ (n + a) + b
  more n ab a b is = omega (arith, is)

no_set : {X P : Type 0} {x : X} {o : Option X} → o ≡ Some x → o ≡ None → P
no_set some none = absurd (false≢true (sym (ap is_some none) ∙ ap is_some some))

abbrev one : Option OpenSet → ℕ
one set = one_if (is_some set)

none_of_one : (o : Option OpenSet) → one o ≡ 0 → o ≡ None
none_of_one None is = refl
none_of_one (Some s) is = let bad : 1 ≡ 0 = is in absurd (omega (arith, bad))

up-any : (prog a b : ℕ) → a ≤ b → up prog a ≤ up prog b
unfolding up
up-any zero a b most = omega arith
up-any (suc n) a b most = up-monotone (suc n) a b (omega arith) most

-- the record of a set that is finished takes no less than its begin was told
finished_takes : (prog : ℕ) (s : OpenSet) → s.size ≤ length s.bytes → record_size prog (length s.key) s.size ≤ record_size prog (length s.key) (length s.bytes)
finished_takes prog s most =
    let sum : length s.key + s.size ≤ length s.key + length s.bytes = omega (arith, most) in
    let padded : up prog (length s.key + s.size) ≤ up prog (length s.key + length s.bytes) = up-any prog (length s.key + s.size) (length s.key + length s.bytes) sum in
    added (up prog 24) (up prog (length s.key + s.size)) (up prog (length s.key + length s.bytes)) padded where
      added : (n a b : ℕ) → a ≤ b → n + a ≤ n + b
      added n a b most = omega (arith, most)

module _ (constants : Constants) where
  abbrev takes : List ℕ → ℕ → ℕ
  takes key size = record_size constants.prog (length key) size

  collects_by : (clean : Bool) (n : ℕ) → clean ≡ true → n ≤ constants.room → (not clean || nat_lt constants.room n) ≡ false
  collects_by true n is fits = le-ltb constants.room n fits
  collects_by false n is fits = absurd (false≢true is)

  collects_not : (log : Log) (key : List ℕ) (size : ℕ) → log.is_clean ≡ true → spent constants.prog log.records + takes key size ≤ constants.room
      → collects constants log key size ≡ false
  collects_not log key size clean fits = collects_by log.is_clean (spent constants.prog log.records + takes key size) clean fits

  -- ---- one entry, and then others that finish f sets and begin s

  module _ (m : Move) (log between : Log) (turn : Turn constants m log between) (s f : ℕ) (few : f ≤ s + one m.after) where
    pub few_ends : m.finishes + f ≤ (m.starts + s) + one m.set
    few_ends = by turn where
      by : Turn constants m log between → m.finishes + f ≤ (m.starts + s) + one m.set
      by (Stays after records starts finishes stands) = omega (arith, few, starts, finishes, ap one after)
      by (Feeds x value clean set after records starts finishes is) =
          let before : one m.set ≡ 1 = ap one set in let now : one m.after ≡ 1 = ap one after in omega (arith, few, starts, finishes, before, now)
      by (Drops after records starts finishes stands) = let now : one m.after ≡ 0 = ap one after in omega (arith, few, starts, finishes, now)
      by (Puts r set after records starts finishes appends) = let now : one m.after ≡ 0 = ap one after in omega (arith, few, starts, finishes, now)
      by (Begins x set after not_it records starts finishes stands) = let now : one m.after ≡ 1 = ap one after in omega (arith, few, starts, finishes, now)
      by (Ends x set after whole records starts finishes appends) =
          let before : one m.set ≡ 1 = ap one set in let now : one m.after ≡ 0 = ap one after in omega (arith, few, starts, finishes, before, now)
      by (Resets is after starts finishes) = omega (arith, few, starts, finishes, ap one after)

    module _ (records : List Write) (whole : (m.starts + s) + one m.set ≡ m.finishes + f) (no_reset : m.resets ≡ 0) where
      -- the record of a set that is active is among those of a history that finishes it
      pub held : ((x : OpenSet) → m.after ≡ Some x → s + 1 ≡ f → takes x.key x.size ≤ spent constants.prog records)
          → (x : OpenSet) → m.set ≡ Some x → takes x.key x.size ≤ spent constants.prog (m.records ++ records)
      held rest x there = by turn where
        is_one : one m.set ≡ 1
        is_one = ap one there

        no_more : m.records ≡ [] → takes x.key x.size ≤ spent constants.prog records → takes x.key x.size ≤ spent constants.prog (m.records ++ records)
        no_more none most = subst (λ (l : List Write). takes x.key x.size ≤ spent constants.prog (l ++ records)) (sym none) most

        by : Turn constants m log between → takes x.key x.size ≤ spent constants.prog (m.records ++ records)
        by (Stays after none starts finishes stands) = no_more none (rest x (after ∙ there) (omega (arith, whole, starts, finishes, is_one)))
        by (Feeds y value clean set after none starts finishes is) =
            let same : y ≡ x = some_is (sym set ∙ there) in
            no_more none (subst (λ (z : OpenSet). takes z.key z.size ≤ spent constants.prog records) same
            (rest (record y { bytes = y.bytes ++ value }) after (omega (arith, whole, starts, finishes, is_one))))
        by (Drops after none starts finishes stands) =
            let now : one m.after ≡ 0 = ap one after in absurd (omega (arith, few, whole, starts, finishes, is_one, now))
        by (Puts r set after wrote starts finishes appends) = no_set there set
        by (Begins y set after not_it none starts finishes stands) = no_set there set
        by (Ends y set after long wrote starts finishes appends) =
            let same : y ≡ x = some_is (sym set ∙ there) in
            let least : takes y.key y.size ≤ takes y.key (length y.bytes) = finished_takes constants.prog y long in
            let all : spent constants.prog (m.records ++ records) ≡ takes y.key (length y.bytes) + spent constants.prog records =
            ap (λ (l : List Write). spent constants.prog (l ++ records)) wrote in
            subst (λ (z : OpenSet). takes z.key z.size ≤ spent constants.prog (m.records ++ records)) same (omega (arith, least, all))
        by (Resets is after starts finishes) = absurd (omega (arith, is, no_reset))

      module _ (not_removes : (x : OpenSet) → m.set ≡ Some x → x.is_remove ≡ false) (clean : m.set ≡ None → log.is_clean ≡ true)
          (fits : spent constants.prog (log.records ++ (m.records ++ records)) ≤ constants.room)
          (reserved : (x : OpenSet) → m.after ≡ Some x → s + 1 ≡ f → takes x.key x.size ≤ spent constants.prog records)
          (later : Log)
          (rest : s + one m.after ≡ f → ((x : OpenSet) → m.after ≡ Some x → x.is_remove ≡ false) → (m.after ≡ None → between.is_clean ≡ true)
          → spent constants.prog (between.records ++ records) ≤ constants.room → later ≡ grown between records) where
        fits_here : between.records ++ records ≡ log.records ++ (m.records ++ records) → spent constants.prog (between.records ++ records) ≤ constants.room
        fits_here same = subst (λ (l : List Write). spent constants.prog l ≤ constants.room) (sym same) fits

        -- a record that is written fits
        fits_one : (written : Write) → m.records ≡ written ∷ [] → spent constants.prog log.records + takes written.key (length written.value) ≤ constants.room
        fits_one written wrote =
            let all : spent constants.prog (log.records ++ (m.records ++ records)) ≡ spent constants.prog log.records + (takes written.key (length written.value) + spent constants.prog records) =
            ap (λ (l : List Write). spent constants.prog (log.records ++ (l ++ records))) wrote ∙ spent-append constants.prog log.records (written ∷ records) in
            omega (arith, fits, all)

        -- one that is to be written when its set is finished
        fits_later : (x : OpenSet) → m.records ≡ [] → takes x.key x.size ≤ spent constants.prog records → spent constants.prog log.records + takes x.key x.size ≤ constants.room
        fits_later x none most =
            let all : spent constants.prog (log.records ++ (m.records ++ records)) ≡ spent constants.prog log.records + spent constants.prog records =
            ap (λ (l : List Write). spent constants.prog (log.records ++ (l ++ records))) none ∙ spent-append constants.prog log.records records in
            omega (arith, fits, all, most)

        nothing_written : between.records ≡ log.records → m.records ≡ [] → between.records ++ records ≡ log.records ++ (m.records ++ records)
        nothing_written same none = ap (λ (l : List Write). l ++ records) same ∙ ap (λ (l : List Write). log.records ++ (l ++ records)) (sym none)

        one_written : (r : Write) → between.records ≡ log.records ++ r ∷ [] → m.records ≡ r ∷ [] → between.records ++ records ≡ log.records ++ (m.records ++ records)
        one_written r same wrote = ap (λ (l : List Write). l ++ records) same ∙ append_assoc log.records (r ∷ []) records
            ∙ ap (λ (l : List Write). log.records ++ (l ++ records)) (sym wrote)

        -- the area and its version stand, and so does the other area
        ends_as : between.active ≡ log.active → between.version ≡ log.version → between.other ≡ log.other → between.records ++ records ≡ log.records ++ (m.records ++ records) → later ≡ grown between records
            → later ≡ grown log (m.records ++ records)
        ends_as active version other same is = is ∙ (λ i. record { active = active i; version = version i; records = same i; is_clean = true; other = other i })

        pub grow : later ≡ grown log (m.records ++ records)
        grow = by turn where
          by : Turn constants m log between → later ≡ grown log (m.records ++ records)
          by (Stays after none starts finishes stands) =
              let same = nothing_written (ap (λ (l : Log). l.records) stands) none in
              ends_as (ap (λ (l : Log). l.active) stands) (ap (λ (l : Log). l.version) stands) (ap (λ (l : Log). l.other) stands) same
              (rest (omega (arith, whole, starts, finishes, ap one after)) (λ x is. not_removes x (sym after ∙ is))
              (λ is. ap (λ (l : Log). l.is_clean) stands ∙ clean (sym after ∙ is)) (fits_here same))
          by (Feeds x value now_clean set after none starts finishes is) =
              let before : one m.set ≡ 1 = ap one set in
              let now : one m.after ≡ 1 = ap one after in
              let same = nothing_written (ap (λ (l : Log). l.records) is) none in
              ends_as (ap (λ (l : Log). l.active) is) (ap (λ (l : Log). l.version) is) (ap (λ (l : Log). l.other) is) same
              (rest (omega (arith, whole, starts, finishes, before, now))
              (λ y there. subst (λ (z : OpenSet). z.is_remove ≡ false) (some_is (sym after ∙ there)) (not_removes x set))
              (λ gone. no_set after gone) (fits_here same))
          by (Drops after none starts finishes stands) =
              let now : one m.after ≡ 0 = ap one after in
              let before : m.set ≡ None = none_of_one m.set (omega (arith, whole, few, starts, finishes, now)) in
              let nothing : one m.set ≡ 0 = ap one before in
              let same = nothing_written (ap (λ (l : Log). l.records) stands) none in
              ends_as (ap (λ (l : Log). l.active) stands) (ap (λ (l : Log). l.version) stands) (ap (λ (l : Log). l.other) stands) same
              (rest (omega (arith, whole, starts, finishes, now, nothing)) (λ x is. no_set is after)
              (λ gone. ap (λ (l : Log). l.is_clean) stands ∙ clean before) (fits_here same))
          by (Puts r set after wrote starts finishes appends) =
              let before : one m.set ≡ 0 = ap one set in
              let now : one m.after ≡ 0 = ap one after in
              let is = appends (collects_not log r.key (length r.value) (clean set) (fits_one r wrote)) in
              let same = one_written r (ap (λ (l : Log). l.records) is) wrote in
              ends_as (ap (λ (l : Log). l.active) is) (ap (λ (l : Log). l.version) is) (ap (λ (l : Log). l.other) is) same
              (rest (omega (arith, whole, starts, finishes, before, now)) (λ x there. no_set there after)
              (λ gone. ap (λ (l : Log). l.is_clean) is) (fits_here same))
          by (Begins x set after not_it none starts finishes stands) =
              let before : one m.set ≡ 0 = ap one set in
              let now : one m.after ≡ 1 = ap one after in
              let ends : s + 1 ≡ f = omega (arith, whole, starts, finishes, before) in
              let is = stands (collects_not log x.key x.size (clean set) (fits_later x none (reserved x after ends))) in
              let same = nothing_written (ap (λ (l : Log). l.records) is) none in
              ends_as (ap (λ (l : Log). l.active) is) (ap (λ (l : Log). l.version) is) (ap (λ (l : Log). l.other) is) same
              (rest (omega (arith, ends, now)) (λ y there. subst (λ (z : OpenSet). z.is_remove ≡ false) (some_is (sym after ∙ there)) not_it)
              (λ gone. no_set after gone) (fits_here same))
          by (Ends x set after long wrote starts finishes appends) =
              let before : one m.set ≡ 1 = ap one set in
              let now : one m.after ≡ 0 = ap one after in
              let is = appends (not_removes x set) in
              let same = one_written (of_set x) (ap (λ (l : Log). l.records) is) wrote in
              ends_as (ap (λ (l : Log). l.active) is) (ap (λ (l : Log). l.version) is) (ap (λ (l : Log). l.other) is) same
              (rest (omega (arith, whole, starts, finishes, before, now)) (λ y there. no_set there after)
              (λ gone. ap (λ (l : Log). l.is_clean) is) (fits_here same))
          by (Resets is after starts finishes) = absurd (omega (arith, is, no_reset))

  -- ---- a whole history

  -- what each entry does, from this set and this log on
  abbrev pub Turns : Option OpenSet → Log → List Entry → Log → Type 0
  Turns set log [] later = later ≡ log
  Turns set log (e ∷ entries) later = (between : Log) × Turn constants (move set e.who e.call e.reply) log between × Turns (set_after set e.who e.call e.reply) between entries later

  counted : (kind : Call → Bool) (e : Entry) (entries : List Entry) → done_in kind (e ∷ entries) ≡ one_if (kind e.call && is_done e.reply) + done_in kind entries
  counted kind e entries = sum_by-cons (λ (entry : Entry). one_if (kind entry.call && is_done entry.reply)) e entries

  at_least : (n : ℕ) → 0 ≤ 0 + n
  at_least n = omega arith

  pub few : (set : Option OpenSet) (log later : Log) (entries : List Entry) → Turns set log entries later → done_in is_finish entries ≤ done_in is_start entries + one set
  few set log later [] turns = at_least (one set)
  few set log later (e ∷ entries) (between, turn, turns) =
      let m = move set e.who e.call e.reply in
      let first : one_if (is_finish e.call && is_done e.reply) + done_in is_finish entries ≤ (one_if (is_start e.call && is_done e.reply) + done_in is_start entries) + one set =
      few_ends m log between turn (done_in is_start entries) (done_in is_finish entries) (few m.after between later entries turns) in
      omega (arith, first, counted is_start e entries, counted is_finish e entries)

  none_reset : (a b n : ℕ) → n ≡ a + b → n ≡ 0 → (a ≡ 0) × (b ≡ 0)
  none_reset a b n sum none = (omega (arith, sum, none), omega (arith, sum, none))

  pub all_held : (set : Option OpenSet) (log later : Log) (entries : List Entry) → Turns set log entries later → done_in is_reset entries ≡ 0
      → (x : OpenSet) → set ≡ Some x → done_in is_start entries + 1 ≡ done_in is_finish entries → takes x.key x.size ≤ spent constants.prog (writes set entries)
  all_held set log later [] turns no_reset x there whole = let bad : 0 + 1 ≡ 0 = whole in absurd (omega (arith, bad))
  all_held set log later (e ∷ entries) (between, turn, turns) no_reset x there whole =
      let m = move set e.who e.call e.reply in
      let resets = none_reset (one_if (is_reset e.call && is_done e.reply)) (done_in is_reset entries) (done_in is_reset (e ∷ entries)) (counted is_reset e entries) no_reset in
      let is_one : one set ≡ 1 = ap one there in
      let here : (one_if (is_start e.call && is_done e.reply) + done_in is_start entries) + one set ≡ one_if (is_finish e.call && is_done e.reply) + done_in is_finish entries =
      omega (arith, whole, counted is_start e entries, counted is_finish e entries, is_one) in
      held m log between turn (done_in is_start entries) (done_in is_finish entries) (few m.after between later entries turns) (writes m.after entries) here resets.0
      (all_held m.after between later entries turns resets.1) x there

  pub all_grown : (set : Option OpenSet) (log later : Log) (entries : List Entry) → Turns set log entries later → done_in is_reset entries ≡ 0
      → done_in is_start entries + one set ≡ done_in is_finish entries → ((x : OpenSet) → set ≡ Some x → x.is_remove ≡ false) → (set ≡ None → log.is_clean ≡ true)
      → spent constants.prog (log.records ++ writes set entries) ≤ constants.room → later ≡ grown log (writes set entries)
  all_grown set log later [] turns no_reset whole not_removes clean fits =
      let no_one : 0 + one set ≡ 0 = whole in
      let none : set ≡ None = none_of_one set (omega (arith, no_one)) in
      turns ∙ (λ i. record log { records = sym (append-nil log.records) i; is_clean = clean none i })
  all_grown set log later (e ∷ entries) (between, turn, turns) no_reset whole not_removes clean fits =
      let m = move set e.who e.call e.reply in
      let resets = none_reset (one_if (is_reset e.call && is_done e.reply)) (done_in is_reset entries) (done_in is_reset (e ∷ entries)) (counted is_reset e entries) no_reset in
      let here : (one_if (is_start e.call && is_done e.reply) + done_in is_start entries) + one set ≡ one_if (is_finish e.call && is_done e.reply) + done_in is_finish entries =
      omega (arith, whole, counted is_start e entries, counted is_finish e entries) in
      grow m log between turn (done_in is_start entries) (done_in is_finish entries) (few m.after between later entries turns) (writes m.after entries) here resets.0
      not_removes clean fits (all_held m.after between later entries turns resets.1) later
      (all_grown m.after between later entries turns resets.1)
