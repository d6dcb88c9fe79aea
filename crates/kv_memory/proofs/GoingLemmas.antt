-- How a run of calls goes on by one.
use Rattle.std.proofs.Common.{◌≡◌, ◌≢◌, ℕ, ◌+◌, Bool, true, false, List, [], ◌∷◌, ◌++◌, length, Ok, Err, Option, Some, None, refl, sym, ◌∙◌, ap, subst, inl, inr, append_assoc, arith}
use Rattle.std.specs.Prelude.{is_some, MatchOption}
use Rattle.std.proofs.lemmas.List.{append-nil, length-append, length-map, map-append}
use mathlib.Core.Bool.{true≢false}
use Rattle.base_core.specs.declared.no_memory.NoMemory.{NoMemory}
use Rattle.kv_model.specs.declared.error.KvError.TheVariants as error
use Rattle.kv_model.specs.declared.call.Call.{Call}
use Rattle.kv_model.specs.declared.call.Reply.{Reply}
use Rattle.kv_model.specs.declared.call.Reply.TheVariants.{Done, Value, Facts, Found, End, Refused}
use Rattle.kv_model.specs.declared.call.Entry.{Entry}
use Rattle.kv_model.specs.Constants.{Constants}
use Rattle.kv_model.specs.StoreState.{StoreState}
use Rattle.kv_model.specs.Operations.{Operation, operation_of}
use Rattle.kv_model.specs.Rules.{Mounts, Rules, Steps}
use Rattle.kv_model.specs.History.{AreNumbered, Follows, PassesThrough, Runs, last_state}
use Rattle.kv_model.specs.Kv.{Does, Keeps, Kind, KvState, LeadsTo, answered, kind_of, Ruled, FailedRead, FailedWrite, Mismatched, Wanted}
use Rattle.kv_model.specs.Orders.{Line, line_of}
use Rattle.kv_model.specs.Performs.{Performs}
use Rattle.kv_model.proofs.HistoryLemmas.{AreNumbered-push, runs_more}
use Rattle.kv_model.proofs.PerformLemmas.{Keeps-trans}
use Rattle.journal_core.specs.JournalState.{next_entry}
use Rattle.kv_memory.specs.Going.{HasGoneOn, IsHistory, Seen, seen}

some_of : {X : Type 0} (o : Option X) → is_some o ≡ true → (x : X) × (o ≡ Some x)
some_of None is = absurd (true≢false (sym is))
some_of (Some x) is = (x, refl)

keeps_none : (s : KvState) → Keeps s s
keeps_none s = record {
  constants = refl;
  labels = refl;
  tells_state = refl;
  tells_log = refl;
  tells_moments = refl;
  read_faults = omega arith;
  write_faults = omega arith;
  sound = λ is. is;
}

same_state : {X : Type 0} (o : Option X) (x y : X) → o ≡ Some x → o ≡ Some y → y ≡ x
same_state o x y one other = cc

-- a run of no calls
pub begun : (rules_by : Constants → Rules) (s : KvState) (entries : List Entry) → HasGoneOn rules_by (seen s entries) (seen s entries) []
begun rules_by s entries = record {
  keeps = keeps_none s;
  more = [];
  entries = sym (append-nil entries);
  lines_are = refl;
  numbered = tt;
  runs = λ before is after last. ([], tt, same_state s.known.state before after is last);
}

-- ---- one call

abbrev is_wanted : Kind → Bool
is_wanted Wanted = true
is_wanted kind = false

not_wanted : (kind : Kind) → kind ≡ Wanted → is_wanted kind ≡ false → ⊥
not_wanted kind is apart = true≢false (ap is_wanted (sym is) ∙ apart)

wanted_reply : (reply : Reply) → kind_of reply ≡ Wanted → (reply ≢ Refused error.Memory) → ⊥
wanted_reply Done is other = not_wanted _ is refl
wanted_reply (Value l) is other = not_wanted _ is refl
wanted_reply (Facts n flags) is other = not_wanted _ is refl
wanted_reply (Found l) is other = not_wanted _ is refl
wanted_reply End is other = not_wanted _ is refl
wanted_reply (Refused error.NotFound) is other = not_wanted _ is refl
wanted_reply (Refused error.InvalidKey) is other = not_wanted _ is refl
wanted_reply (Refused error.InvalidFlags) is other = not_wanted _ is refl
wanted_reply (Refused error.InvalidSize) is other = not_wanted _ is refl
wanted_reply (Refused error.WriteProtected) is other = not_wanted _ is refl
wanted_reply (Refused (error.MediaFull a b)) is other = not_wanted _ is refl
wanted_reply (Refused error.TooManyIterators) is other = not_wanted _ is refl
wanted_reply (Refused error.NoIterator) is other = not_wanted _ is refl
wanted_reply (Refused error.SetOpen) is other = not_wanted _ is refl
wanted_reply (Refused error.NoSet) is other = not_wanted _ is refl
wanted_reply (Refused (error.Busy a)) is other = not_wanted _ is refl
wanted_reply (Refused error.Stopped) is other = not_wanted _ is refl
wanted_reply (Refused error.ReadFault) is other = not_wanted _ is refl
wanted_reply (Refused error.WriteFault) is other = not_wanted _ is refl
wanted_reply (Refused (error.Corrupt a b)) is other = not_wanted _ is refl
wanted_reply (Refused error.AuthFailed) is other = not_wanted _ is refl
wanted_reply (Refused error.RollbackFailed) is other = not_wanted _ is refl
wanted_reply (Refused error.IvSpent) is other = not_wanted _ is refl
wanted_reply (Refused error.Memory) is other = other refl

steps_by : (rules : Rules) (old new : StoreState) (who : ℕ) (operation : Operation) (reply : Reply) (kind : Kind) → (kind ≡ Wanted → ⊥)
    → LeadsTo rules old (answered who operation reply) new kind → Steps rules old who operation (record { state = new; reply = reply })
steps_by rules old new who operation reply Ruled never leads = inl (sym leads)
steps_by rules old new who operation reply FailedRead never leads = inr (inl leads)
steps_by rules old new who operation reply FailedWrite never leads = inr (inr leads)
steps_by rules old new who operation reply Mismatched never leads = absurd leads
steps_by rules old new who operation reply Wanted never leads = absurd (never refl)

follows_by : (rules : Rules) (old new : StoreState) (entry : Entry) (operation : Operation) → operation_of entry.call ≡ Some operation
    → Steps rules old entry.who operation (record { state = new; reply = entry.reply }) → Follows rules old entry new
follows_by rules old new entry operation is steps =
    subst (λ (o : Option Operation). MatchOption o ((entry.reply ≡ Done) × Mounts rules old new) (λ (op : Operation). Steps rules old entry.who op (record { state = new; reply = entry.reply }))) (sym is) steps

numbered_next : (entries : List Entry) (who : ℕ) (call : Call) (reply : Reply) → AreNumbered entries (next_entry entries who call reply ∷ [])
numbered_next entries who call reply = (refl, refl, tt)

module _ (rules_by : Constants → Rules) (first : Seen) (mid new : KvState) (entries : List Entry) (lines : List Line) where
  -- a call that was answered
  pub one_more : (who : ℕ) (call : Call) (operation : Operation) (reply : Reply) → operation_of call ≡ Some operation → (reply ≢ Refused error.Memory)
      → HasGoneOn rules_by first (seen mid entries) lines → Does rules_by mid new (answered who operation reply)
      → HasGoneOn rules_by first (seen new (entries ++ next_entry entries who call reply ∷ [])) (lines ++ (who, call) ∷ [])
  one_more who call operation reply is no_memory gone does =
      let entry : Entry = next_entry entries who call reply in
      record {
        keeps = Keeps-trans gone.keeps does.keeps;
        more = gone.more ++ entry ∷ [];
        entries = ap (λ (l : List Entry). l ++ entry ∷ []) gone.entries ∙ append_assoc first.entries gone.more (entry ∷ []);
        lines_are = map-append line_of gone.more (entry ∷ []) ∙ ap (λ (l : List Line). l ++ (who, call) ∷ []) gone.lines_are;
        numbered = AreNumbered-push first.entries gone.more entry gone.numbered
            (subst (λ (l : List Entry). AreNumbered l (entry ∷ [])) gone.entries (numbered_next entries who call reply));
        runs = λ before told after later.
            let there = some_of mid.known.state (gone.keeps.tells_state ∙ ap is_some told) in
            let rules = rules_by first.store.known.constants in
            let leads = does.leads there.0 there.1 after later in
            let here : LeadsTo rules there.0 (answered who operation reply) after (kind_of reply) =
            subst (λ (c : Constants). LeadsTo (rules_by c) there.0 (answered who operation reply) after (kind_of reply)) gone.keeps.constants leads in
            let steps = steps_by rules there.0 after who operation reply (kind_of reply) (λ wanted. wanted_reply reply wanted no_memory) here in
            runs_more rules before there.0 after gone.more entry (gone.runs before told there.0 there.1) (follows_by rules there.0 after entry operation is steps);
      }

  -- a call for which there was no memory
  pub none_more : (who : ℕ) (operation : Operation) → HasGoneOn rules_by first (seen mid entries) lines → Does rules_by mid new (answered who operation (Refused error.Memory))
      → HasGoneOn rules_by first (seen new entries) lines
  none_more who operation gone does = record {
    keeps = Keeps-trans gone.keeps does.keeps;
    more = gone.more;
    entries = gone.entries;
    lines_are = gone.lines_are;
    numbered = gone.numbered;
    runs = λ before told after later.
        let there = some_of mid.known.state (gone.keeps.tells_state ∙ ap is_some told) in
        let same : after ≡ there.0 = does.leads there.0 there.1 after later in
        subst (λ (s : StoreState). Runs (rules_by first.store.known.constants) before gone.more s) (sym same) (gone.runs before told there.0 there.1);
  }

  performed_by : (who : ℕ) (call : Call) (found : Option Operation) (reply : Reply) → operation_of call ≡ found → (reply ≢ Refused error.Memory)
      → HasGoneOn rules_by first (seen mid entries) lines
      → MatchOption found ⊥ (λ (operation : Operation). Does rules_by mid new (answered who operation reply))
      → HasGoneOn rules_by first (seen new (entries ++ next_entry entries who call reply ∷ [])) (lines ++ (who, call) ∷ [])
  performed_by who call None reply is no_memory gone does = absurd does
  performed_by who call (Some operation) reply is no_memory gone does = one_more who call operation reply is no_memory gone does

  -- a call that was performed
  pub performed : (who : ℕ) (call : Call) (reply : Reply) → (reply ≢ Refused error.Memory) → HasGoneOn rules_by first (seen mid entries) lines
      → Performs rules_by mid new who call (Ok reply)
      → HasGoneOn rules_by first (seen new (entries ++ next_entry entries who call reply ∷ [])) (lines ++ (who, call) ∷ [])
  performed who call reply no_memory gone does = performed_by who call (operation_of call) reply refl no_memory gone does

  unperformed_by : (who : ℕ) (found : Option Operation) → HasGoneOn rules_by first (seen mid entries) lines
      → MatchOption found ⊥ (λ (operation : Operation). Does rules_by mid new (answered who operation (Refused error.Memory)))
      → HasGoneOn rules_by first (seen new entries) lines
  unperformed_by who None gone does = absurd does
  unperformed_by who (Some operation) gone does = none_more who operation gone does

  pub unperformed : (who : ℕ) (call : Call) (none : NoMemory) → HasGoneOn rules_by first (seen mid entries) lines
      → Performs rules_by mid new who call (Err none) → HasGoneOn rules_by first (seen new entries) lines
  unperformed who call none gone does = unperformed_by who (operation_of call) gone does

-- ---- a run and then another

passes_joined : (rules : Rules) (old : StoreState) (entries more : List Entry) (states later : List StoreState) → PassesThrough rules old entries states
    → PassesThrough rules (last_state old states) more later → PassesThrough rules old (entries ++ more) (states ++ later)
passes_joined rules old [] more [] later passes next = next
passes_joined rules old [] more (s ∷ states) later passes next = absurd passes
passes_joined rules old (e ∷ entries) more [] later passes next = absurd passes
passes_joined rules old (e ∷ entries) more (s ∷ states) later passes next = (passes.0, passes_joined rules s entries more states later passes.1 next)

last_joined : (old : StoreState) (states later : List StoreState) → last_state old (states ++ later) ≡ last_state (last_state old states) later
last_joined old [] later = refl
last_joined old (s ∷ states) later = last_joined s states later

pub runs_joined : (rules : Rules) (old mid new : StoreState) (entries more : List Entry) → Runs rules old entries mid → Runs rules mid more new
    → Runs rules old (entries ++ more) new
runs_joined rules old mid new entries more (states, passes, is) (later, next, last) = (
  states ++ later,
  passes_joined rules old entries more states later passes (subst (λ (s : StoreState). PassesThrough rules s more later) is next),
  last ∙ ap (λ (s : StoreState). last_state s later) is ∙ sym (last_joined old states later),
)

numbered_joined : (earlier entries more : List Entry) → AreNumbered earlier entries → AreNumbered (earlier ++ entries) more → AreNumbered earlier (entries ++ more)
numbered_joined earlier [] more numbered next = subst (λ (l : List Entry). AreNumbered l more) (append-nil earlier) next
numbered_joined earlier (e ∷ entries) more numbered next =
    (numbered.0, numbered.1, numbered_joined (earlier ++ e ∷ []) entries more numbered.2 (subst (λ (l : List Entry). AreNumbered l more) (sym (append_assoc earlier (e ∷ []) entries)) next))

module _ (rules_by : Constants → Rules) (first mid last : Seen) (lines more : List Line) where
  pub joined : HasGoneOn rules_by first mid lines → HasGoneOn rules_by mid last more → HasGoneOn rules_by first last (lines ++ more)
  joined gone then_gone = record {
    keeps = Keeps-trans gone.keeps then_gone.keeps;
    more = gone.more ++ then_gone.more;
    entries = then_gone.entries ∙ ap (λ (l : List Entry). l ++ then_gone.more) gone.entries ∙ append_assoc first.entries gone.more then_gone.more;
    lines_are = map-append line_of gone.more then_gone.more ∙ (λ i. gone.lines_are i ++ then_gone.lines_are i);
    numbered = numbered_joined first.entries gone.more then_gone.more gone.numbered
        (subst (λ (l : List Entry). AreNumbered l then_gone.more) gone.entries then_gone.numbered);
    runs = λ before told after later.
        let there = some_of mid.store.known.state (gone.keeps.tells_state ∙ ap is_some told) in
        let rules = rules_by first.store.known.constants in
        let next : Runs rules there.0 then_gone.more after =
        subst (λ (c : Constants). Runs (rules_by c) there.0 then_gone.more after) gone.keeps.constants (then_gone.runs there.0 there.1 after later) in
        runs_joined rules before there.0 after gone.more then_gone.more (gone.runs before told there.0 there.1) next;
  }

  pub as_many : HasGoneOn rules_by first mid lines → length mid.entries ≡ length first.entries + length lines
  as_many gone = ap length gone.entries ∙ length-append first.entries gone.more
      ∙ ap (λ (n : ℕ). length first.entries + n) (sym (length-map gone.more line_of) ∙ ap length gone.lines_are)

-- ---- from an empty journal on

pub history : (rules_by : Constants → Rules) (old new : Seen) (lines : List Line) → HasGoneOn rules_by old new lines → IsHistory rules_by old new
history rules_by old new lines gone empty before told after later =
    let all : gone.more ≡ new.entries = sym (gone.entries ∙ ap (λ (l : List Entry). l ++ gone.more) empty) in
    let first : AreNumbered [] gone.more = subst (λ (l : List Entry). AreNumbered l gone.more) empty gone.numbered in
    record {
      numbered = subst (AreNumbered []) all first;
      runs = subst (λ (l : List Entry). Runs (rules_by old.store.known.constants) before l after) all (gone.runs before told after later);
    }
