-- What a history's entries do to one iterator.
use Rattle.std.proofs.Common.{◌≡◌, ℕ, ◌≤◌, Bool, true, false, cond, ◌&&◌, ◌==◌, List, [], ◌∷◌, ◌++◌, map, length, take, drop, Option, Some, None, MatchOption, unwrap_or, suc, inl, inr, refl, sym, ◌∙◌, ap, subst, arith, true≢false, All, append_assoc, nat_cmp}
use Rattle.std.specs.Prelude.{is_some, if◌then◌else◌}
use Rattle.std.specs.Option.{option_map_or}
use Rattle.std.specs.Ordering.{eq_by_cmp}
use Rattle.std.specs.Cmp.{tied_then, unsigned_ties, first_so, second_so}
use Rattle.std.specs.FinMap.{get, insert, remove, get-insert, get-remove, contains_key}
use Rattle.std.specs.List.{take-map}
use Rattle.std.proofs.lemmas.Bool.Decides.{Decides-eqb}
use Rattle.std.proofs.lemmas.List.{length-map, map-append}
use Rattle.std.proofs.lemmas.List.Elements.{All-push, All-map}
use Rattle.kv_model.specs.declared.error.KvError.{KvError}
use Rattle.kv_model.specs.declared.error.KvError.TheVariants as error
use Rattle.kv_model.specs.declared.call.Reply.{Reply}
use Rattle.kv_model.specs.declared.call.Reply.TheVariants.{Done, Refused}
use Rattle.kv_model.specs.declared.call.Entry.{Entry}
use Rattle.kv_model.specs.FlaggedMap.{FlaggedMap}
use Rattle.kv_model.specs.StoreState.{StoreState, OpenSet, Position, Maps, Iterators, iterator_cmp}
use Rattle.kv_model.specs.Operations.{Operation, Get, Part, Info, Set, Remove, RemoveStart, Start, Add, Finish, Abort, OpenIterator, Next, CloseIterator, Reset, operation_of}
use Rattle.kv_model.specs.Checks.{first_refusal}
use Rattle.kv_model.specs.NextKey.{next_key, HasPrefix}
use Rattle.kv_model.specs.Rules.{Rules, Outcome, refuses, refused_or, after_refusal, failed_write, Steps, Mounts}
use Rattle.kv_model.specs.Rows.{shared_effect, advanced, position_of}
use Rattle.kv_model.specs.Constants.{Constants}
use Rattle.kv_model.specs.PlainStep.{plain_rules, plain_effect, finished}
use Rattle.kv_model.specs.History.{Follows, PassesThrough}
use Rattle.kv_model.specs.Iterations.{Turn, Opens, Gives, Ends, Closes, Passes, stays_open, times_given, SharesIterators, is_of_iterators, turn_by, turn_of, turns_of, IsIteration, GivesNoKeyTwice, GivesEachKeyOnce}
use Rattle.kv_model.proofs.MapLemmas.{iterator_total}
use Rattle.kv_model.proofs.IterationLemmas.{Iterates, no_key_twice, each_key_once}

module _ (who n : ℕ) where
  abbrev its : ℕ → ℕ → Bool
  its owner m = who == owner && n == m

  same_iterator : (owner m : ℕ) → eq_by_cmp iterator_cmp (who, n) (owner, m) ≡ its owner m
  same_iterator owner m = sym (tied_then (nat_cmp who owner) (nat_cmp n m)) ∙ (λ i. sym (unsigned_ties who owner) i && sym (unsigned_ties n m) i)

  abbrev at : StoreState → Option Position
  at state = get state.iterators (who, n)

  at_inserted : (iterators : Iterators) (owner m : ℕ) (position : Position) (t : Bool) → its owner m ≡ t → get (insert iterators (owner, m) position) (who, n) ≡ cond t (Some position) (get iterators (who, n))
  at_inserted iterators owner m position t is =
      get-insert iterator_total iterators (owner, m) position (who, n) ∙ ap (λ (b : Bool). cond b (Some position) (get iterators (who, n))) (same_iterator owner m ∙ is)

  at_removed : (iterators : Iterators) (owner m : ℕ) (t : Bool) → its owner m ≡ t → get (remove iterators (owner, m)) (who, n) ≡ cond t None (get iterators (who, n))
  at_removed iterators owner m t is =
      get-remove iterator_total iterators (owner, m) (who, n) ∙ ap (λ (b : Bool). cond b None (get iterators (who, n))) (same_iterator owner m ∙ is)

  -- a refused call is none of its turns
  refused_passes : (owner : ℕ) (operation : Operation) (e : KvError) → turn_by who n owner operation (Refused e) ≡ Passes
  refused_passes owner (OpenIterator m prefix) e = refl
  refused_passes owner (Next m) e = refl
  refused_passes owner (CloseIterator m) e = refl
  refused_passes owner operation e = refl

  -- and no other call is
  other_passes : (owner : ℕ) (operation : Operation) (reply : Reply) → is_of_iterators operation ≡ false → turn_by who n owner operation reply ≡ Passes
  other_passes owner (OpenIterator m prefix) reply is = absurd (true≢false is)
  other_passes owner (Next m) reply is = absurd (true≢false is)
  other_passes owner (CloseIterator m) reply is = absurd (true≢false is)
  other_passes owner operation reply is = refl

-- a refusal leaves every iterator
after_finish : (state : StoreState) (e : KvError) → (after_refusal state Finish e).iterators ≡ state.iterators
after_finish state error.InvalidSize = refl
after_finish state e = refl

after_refused : (state : StoreState) (operation : Operation) (e : KvError) → (after_refusal state operation e).iterators ≡ state.iterators
after_refused state Finish e = after_finish state e
after_refused state operation e = refl

-- ---- what one entry does to the iterator

module _ (who n : ℕ) (hash_bits : ℕ) where
  -- where the iterator stands behind a turn, given where it stood before it and the map of the moment
  abbrev Carries : Option Position → FlaggedMap → Turn → Option Position → Type 0
  Carries was m (Opens prefix) now = now ≡ Some (record { prefix = prefix; last = None })
  Carries was m (Gives key) now = (p : Position) → was ≡ Some p → (next_key hash_bits m p ≡ Some key) × (now ≡ Some (record p { last = Some key }))
  Carries was m Ends now = (p : Position) → was ≡ Some p → (next_key hash_bits m p ≡ None) × (now ≡ Some p)
  Carries was m Closes now = Unit {0}
  Carries was m Passes now = now ≡ was

  module _ (rules : Rules) (shares : SharesIterators hash_bits rules) (old : StoreState) (owner : ℕ) where
    abbrev was : Option Position
    was = at who n old

    abbrev Turns : Operation → Outcome → Type 0
    Turns operation outcome = Carries was old.primary (turn_by who n owner operation outcome.reply) (at who n outcome.state)

    refused_turn : (operation : Operation) (e : KvError) (new : StoreState) → new.iterators ≡ old.iterators → Turns operation (refuses new e)
    refused_turn operation e new is =
        subst (λ (t : Turn). Carries was old.primary t (at who n new)) (sym (refused_passes who n owner operation e)) (ap (λ (i : Iterators). get i (who, n)) is)

    opened_turn : (m : ℕ) (prefix : List ℕ) (t : Bool) → its who n owner m ≡ t
        → Carries was old.primary (if t then Opens prefix else Passes) (get (insert old.iterators (owner, m) (record { prefix = prefix; last = None })) (who, n))
    opened_turn m prefix true is = at_inserted who n old.iterators owner m (record { prefix = prefix; last = None }) true is
    opened_turn m prefix false is = at_inserted who n old.iterators owner m (record { prefix = prefix; last = None }) false is

    closed_turn : (m : ℕ) (t : Bool) → its who n owner m ≡ t → Carries was old.primary (if t then Closes else Passes) (get (remove old.iterators (owner, m)) (who, n))
    closed_turn m true is = tt
    closed_turn m false is = at_removed who n old.iterators owner m false is

    -- the position from which the iterator's own call goes on
    own_position : (m : ℕ) (p : Position) → its who n owner m ≡ true → was ≡ Some p → position_of old owner m ≡ p
    own_position m p is stood =
        let same_owner = (Decides-eqb who owner).0 (first_so (who == owner) (n == m) is) in
        let same_number = (Decides-eqb n m).0 (second_so (who == owner) (n == m) is) in
        subst (λ (o : ℕ). position_of old o m ≡ p) same_owner
        (subst (λ (k : ℕ). position_of old who k ≡ p) same_number
        (ap (λ (o : Option Position). unwrap_or o (record { prefix = []; last = None })) stood))

    given_turn : (m : ℕ) (key : List ℕ) (t : Bool) → its who n owner m ≡ t → next_key hash_bits old.primary (position_of old owner m) ≡ Some key
        → Carries was old.primary (if t then Gives key else Passes) (get (insert old.iterators (owner, m) (record (position_of old owner m) { last = Some key })) (who, n))
    given_turn m key true is found = λ p stood.
        let from = own_position m p is stood in (
          subst (λ (q : Position). next_key hash_bits old.primary q ≡ Some key) from found,
          at_inserted who n old.iterators owner m (record (position_of old owner m) { last = Some key }) true is
              ∙ ap (λ (q : Position). Some (record q { last = Some key })) from,
        )
    given_turn m key false is found = at_inserted who n old.iterators owner m (record (position_of old owner m) { last = Some key }) false is

    ended_turn : (m : ℕ) (t : Bool) → its who n owner m ≡ t → next_key hash_bits old.primary (position_of old owner m) ≡ None
        → Carries was old.primary (if t then Ends else Passes) was
    ended_turn m true is found = λ p stood. (subst (λ (q : Position). next_key hash_bits old.primary q ≡ None) (own_position m p is stood) found, stood)
    ended_turn m false is found = refl

    next_turn : (m : ℕ) (found : Option (List ℕ)) → next_key hash_bits old.primary (position_of old owner m) ≡ found → Turns (Next m) (advanced old owner m found)
    next_turn m None is = ended_turn m (its who n owner m) refl is
    next_turn m (Some key) is = given_turn m key (its who n owner m) refl is

    abbrev no_maps : OpenSet → Maps
    no_maps set = record { primary = old.primary; rollback = old.rollback }

    other_turn : (operation : Operation) → is_of_iterators operation ≡ false → Turns operation (rules.effect old owner operation)
    other_turn operation is =
        subst (λ (t : Turn). Carries was old.primary t (at who n (rules.effect old owner operation).state)) (sym (other_passes who n owner operation (rules.effect old owner operation).reply is))
        (ap (λ (i : Iterators). get i (who, n)) (shares.others old owner operation is))

    shared_turn : (operation : Operation) → is_of_iterators operation ≡ true → Turns operation (shared_effect old owner hash_bits no_maps (rules.effect old owner) operation)
        → Turns operation (rules.effect old owner operation)
    shared_turn operation is turns = subst (Turns operation) (sym (shares.shared old owner operation no_maps (rules.effect old owner) is)) turns

    granted_turn : (operation : Operation) → Turns operation (rules.effect old owner operation)
    granted_turn (OpenIterator m prefix) = shared_turn (OpenIterator m prefix) refl (opened_turn m prefix (its who n owner m) refl)
    granted_turn (Next m) = shared_turn (Next m) refl (next_turn m (next_key hash_bits old.primary (position_of old owner m)) refl)
    granted_turn (CloseIterator m) = shared_turn (CloseIterator m) refl (closed_turn m (its who n owner m) refl)
    granted_turn (Get key) = other_turn (Get key) refl
    granted_turn (Part key offset count) = other_turn (Part key offset count) refl
    granted_turn (Info key) = other_turn (Info key) refl
    granted_turn (Set key value flags) = other_turn (Set key value flags) refl
    granted_turn (Remove key) = other_turn (Remove key) refl
    granted_turn (RemoveStart key) = other_turn (RemoveStart key) refl
    granted_turn (Start key size flags) = other_turn (Start key size flags) refl
    granted_turn (Add value) = other_turn (Add value) refl
    granted_turn Finish = other_turn Finish refl
    granted_turn Abort = other_turn Abort refl
    granted_turn Reset = other_turn Reset refl

    step_turn : (operation : Operation) (stopped : Bool) (refusal : Option KvError) → Turns operation (if stopped then refuses old error.Stopped else refused_or rules old owner operation refusal)
    step_turn operation true refusal = refused_turn operation error.Stopped old refl
    step_turn operation false None = granted_turn operation
    step_turn operation false (Some e) = refused_turn operation e (after_refusal old operation e) (after_refused old operation e)

    steps_turn : (operation : Operation) (outcome : Outcome) → Steps rules old owner operation outcome → Turns operation outcome
    steps_turn operation outcome (inl is) = subst (Turns operation) (sym is) (step_turn operation (is_some old.doubt) (first_refusal (rules.checks old owner operation)))
    steps_turn operation outcome (inr (inl (runs, may, is))) = subst (Turns operation) (sym is) (refused_turn operation error.ReadFault old refl)
    steps_turn operation outcome (inr (inr (runs, may, is))) = subst (Turns operation) (sym is) (refused_turn operation error.WriteFault (failed_write rules old owner operation) refl)

  module _ (rules : Rules) (shares : SharesIterators hash_bits rules) where
    asked_turn : (old new : StoreState) (owner : ℕ) (reply : Reply) (asks : Option Operation)
        → MatchOption asks ((reply ≡ Done) × Mounts rules old new) (λ (operation : Operation). Steps rules old owner operation (record { state = new; reply = reply }))
        → Carries (at who n old) old.primary (option_map_or (λ (operation : Operation). turn_by who n owner operation reply) asks Closes) (at who n new)
    asked_turn old new owner reply None follows = tt
    asked_turn old new owner reply (Some operation) follows = steps_turn rules shares old owner operation (record { state = new; reply = reply }) follows

    follows_turn : (old new : StoreState) (entry : Entry) → Follows rules old entry new → Carries (at who n old) old.primary (turn_of who n entry) (at who n new)
    follows_turn old new entry follows = asked_turn old new entry.who entry.reply (operation_of entry.call) follows

    -- ---- a stretch of a history

    abbrev primaries : List StoreState → List FlaggedMap
    primaries states = map (λ (state : StoreState). state.primary) states

    one_turn : (p : Position) (m : FlaggedMap) (turn : Turn) (now : Option Position) (turns : List Turn) (new : FlaggedMap) (maps : List FlaggedMap) → stays_open turn ≡ true → Carries (Some p) m turn now
        → ((q : Position) → now ≡ Some q → Iterates hash_bits q new turns maps) → Iterates hash_bits p m (turn ∷ turns) (new ∷ maps)
    one_turn p m (Opens prefix) now turns new maps stays carries rest = absurd (true≢false (sym stays))
    one_turn p m (Gives key) now turns new maps stays carries rest = ((carries p refl).0, rest (record p { last = Some key }) (carries p refl).1)
    one_turn p m Ends now turns new maps stays carries rest = ((carries p refl).0, rest p (carries p refl).1)
    one_turn p m Closes now turns new maps stays carries rest = absurd (true≢false (sym stays))
    one_turn p m Passes now turns new maps stays carries rest = rest p carries

    abbrev Stays : Entry → Type 0
    Stays entry = stays_open (turn_of who n entry) ≡ true

    -- entries in which the iterator stays open are an iteration from where it stands
    iterates : (old : StoreState) (entries later : List Entry) (states : List StoreState) (p : Position) → PassesThrough rules old (entries ++ later) states → All Stays entries → at who n old ≡ Some p
        → Iterates hash_bits p old.primary (turns_of who n entries) (primaries (take (length entries) states))
    iterates old [] later states p passes stays stands = tt
    iterates old (entry ∷ entries) later [] p passes stays stands = absurd passes
    iterates old (entry ∷ entries) later (new ∷ states) p passes stays stands =
        one_turn p old.primary (turn_of who n entry) (at who n new) (turns_of who n entries) new.primary (primaries (take (length entries) states)) (stays 0 entry (omega arith))
        (subst (λ (o : Option Position). Carries o old.primary (turn_of who n entry) (at who n new)) stands (follows_turn old new entry passes.0))
        (λ q now. iterates new entries later states q passes.1 (λ k d below. stays (suc k) d (omega (arith, below))) now)

    -- ---- the place of the stretch in the history

    opened : (old new : StoreState) (entry : Entry) (prefix : List ℕ) → Follows rules old entry new → turn_of who n entry ≡ Opens prefix → at who n new ≡ Some (record { prefix = prefix; last = None })
    opened old new entry prefix follows is = subst (λ (t : Turn). Carries (at who n old) old.primary t (at who n new)) is (follows_turn old new entry follows)

passes_on : (rules : Rules) (old : StoreState) (earlier more : List Entry) (states : List StoreState) → PassesThrough rules old (earlier ++ more) states
    → (from : StoreState) × PassesThrough rules from more (drop (length earlier) states)
passes_on rules old [] more states passes = (old, passes)
passes_on rules old (entry ∷ earlier) more [] passes = absurd passes
passes_on rules old (entry ∷ earlier) more (new ∷ states) passes = passes_on rules new earlier more states passes.1

taken : {X Y : Type 0} (xs ys : List X) (zs : List Y) → take (length xs) (take (length (xs ++ ys)) zs) ≡ take (length xs) zs
taken [] ys zs = refl
taken (x ∷ xs) ys [] = refl
taken (x ∷ xs) ys (z ∷ zs) = λ i. z ∷ taken xs ys zs i

module _ (hash_bits : ℕ) (rules : Rules) (shares : SharesIterators hash_bits rules) where
  abbrev primary_of : StoreState → FlaggedMap
  primary_of state = state.primary

  abbrev IsPresent : List ℕ → FlaggedMap → Type 0
  IsPresent key now = contains_key now key ≡ true

  twice_from : (from : StoreState) (opening : Entry) (during later : List Entry) (states : List StoreState) (who n : ℕ) (prefix key : List ℕ)
      → PassesThrough rules from (opening ∷ during ++ later) states → IsIteration who n prefix opening during → times_given key (turns_of who n during) ≤ 1
  twice_from from opening during later [] who n prefix key passes iteration = absurd passes
  twice_from from opening during later (new ∷ states) who n prefix key passes iteration =
      no_key_twice hash_bits (record { prefix = prefix; last = None }) new.primary (turns_of who n during) (map primary_of (take (length during) states)) key
      (iterates who n hash_bits rules shares new during later states (record { prefix = prefix; last = None }) passes.1 iteration.stays (opened who n hash_bits rules shares from new opening prefix passes.0 iteration.opens))

  pub gives_no_key_twice : GivesNoKeyTwice rules
  gives_no_key_twice old earlier opening during later states who n prefix key passes iteration =
      let rest = passes_on rules old earlier (opening ∷ during ++ later) states passes in
      twice_from rest.0 opening during later (drop (length earlier) states) who n prefix key rest.1 iteration

  each_from : (from : StoreState) (opening : Entry) (during : List Entry) (ending : Entry) (later : List Entry) (states : List StoreState) (who n : ℕ) (prefix key : List ℕ)
      → PassesThrough rules from (opening ∷ during ++ ending ∷ later) states → IsIteration who n prefix opening during → turn_of who n ending ≡ Ends → HasPrefix prefix key
      → All (λ (state : StoreState). IsPresent key state.primary) (take (length (opening ∷ during)) states) → times_given key (turns_of who n during) ≡ 1
  each_from from opening during ending later [] who n prefix key passes iteration ends prefixed throughout = absurd passes
  each_from from opening during ending later (new ∷ states) who n prefix key passes iteration ends prefixed throughout =
      let start : Position = record { prefix = prefix; last = None } in
      let entries = during ++ ending ∷ [] in
      let onward : PassesThrough rules new (entries ++ later) states = subst (λ (l : List Entry). PassesThrough rules new l states) (sym (append_assoc during (ending ∷ []) later)) passes.1 in
      let stays : All (λ (entry : Entry). stays_open (turn_of who n entry) ≡ true) entries =
      All-push (λ (entry : Entry). stays_open (turn_of who n entry) ≡ true) during ending iteration.stays (ap stays_open ends) in
      let runs = iterates who n hash_bits rules shares new entries later states start onward stays (opened who n hash_bits rules shares from new opening prefix passes.0 iteration.opens) in
      let turns : turns_of who n entries ≡ turns_of who n during ++ Ends ∷ [] =
      map-append (turn_of who n) during (ending ∷ []) ∙ ap (λ (t : Turn). turns_of who n during ++ t ∷ []) ends in
      let maps = map primary_of (take (length entries) states) in
      let same : take (length (turns_of who n during)) maps ≡ map primary_of (take (length during) states) =
      ap (λ (k : ℕ). take k maps) (length-map during (turn_of who n))
      ∙ take-map primary_of (length during) (take (length entries) states)
      ∙ ap (map primary_of) (taken during (ending ∷ []) states) in
      each_key_once hash_bits prefix new.primary (turns_of who n during) maps key
      (subst (λ (l : List Turn). Iterates hash_bits start new.primary l maps) turns runs)
      prefixed
      (subst (λ (l : List FlaggedMap). All (IsPresent key) (new.primary ∷ l)) (sym same) (All-map (IsPresent key) primary_of (new ∷ take (length during) states) throughout))

  pub gives_each_key_once : GivesEachKeyOnce rules
  gives_each_key_once old earlier opening during ending later states who n prefix key passes iteration ends prefixed throughout =
      let rest = passes_on rules old earlier (opening ∷ during ++ ending ∷ later) states passes in
      each_from rest.0 opening during ending later (drop (length earlier) states) who n prefix key rest.1 iteration ends prefixed throughout

-- ---- the plain store

abbrev with_more : StoreState → List ℕ → OpenSet → StoreState
with_more state value set = record state { open_set = Some (record set { bytes = set.bytes ++ value }) }

added_leaves : (state : StoreState) (value : List ℕ) (set : Option OpenSet) → (option_map_or (with_more state value) set state).iterators ≡ state.iterators
added_leaves state value None = refl
added_leaves state value (Some set) = refl

finished_leaves : (constants : Constants) (state : StoreState) (who : ℕ) (set : Option OpenSet)
    → (option_map_or (λ (s : OpenSet). record state { primary = (finished constants state who s).primary; rollback = (finished constants state who s).rollback; open_set = None }) set state).iterators ≡ state.iterators
finished_leaves constants state who None = refl
finished_leaves constants state who (Some set) = refl

plain_leaves : (constants : Constants) (state : StoreState) (who : ℕ) (operation : Operation) → is_of_iterators operation ≡ false → (plain_effect constants state who operation).state.iterators ≡ state.iterators
plain_leaves constants state who (OpenIterator n prefix) is = absurd (true≢false is)
plain_leaves constants state who (Next n) is = absurd (true≢false is)
plain_leaves constants state who (CloseIterator n) is = absurd (true≢false is)
plain_leaves constants state who (Add value) is = added_leaves state value state.open_set
plain_leaves constants state who Finish is = finished_leaves constants state who state.open_set
plain_leaves constants state who operation is = refl

plain_takes : (constants : Constants) (state : StoreState) (who : ℕ) (operation : Operation) (finished : OpenSet → Maps) (own : Operation → Outcome) → is_of_iterators operation ≡ true
    → plain_effect constants state who operation ≡ shared_effect state who constants.hash_bits finished own operation
plain_takes constants state who (OpenIterator n prefix) finished own is = refl
plain_takes constants state who (Next n) finished own is = refl
plain_takes constants state who (CloseIterator n) finished own is = refl
plain_takes constants state who operation finished own is = absurd (true≢false (sym is))

pub plain_shares : (constants : Constants) → SharesIterators constants.hash_bits (plain_rules constants)
plain_shares constants = record { shared = plain_takes constants; others = plain_leaves constants }
