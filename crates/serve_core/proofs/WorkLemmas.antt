-- How a worker goes on by one line.
use Rattle.std.proofs.Common.{◌≡◌, ℕ, ◌+◌, ◌<◌, ◌≤◌, ◌==◌, Bool, true, false, cond, List, [], ◌∷◌, ◌++◌, length, take, get_or, refl, sym, ◌∙◌, ap, subst, arith, eq-eqb, ne_eqb}
use Rattle.std.specs.Prelude.{All}
use Rattle.std.proofs.lemmas.List.{length-append}
use Rattle.std.proofs.lemmas.List.Sums.{count_by_more_no, count_by_more_yes, sum_by-take-le}
use Rattle.kv_model.specs.declared.call.Call.{Call}
use Rattle.kv_model.specs.Orders.{Line}
use Rattle.script_core.specs.declared.line.Act.{Act}
use Rattle.script_core.specs.declared.line.Line.{Line as ScriptLine}
use Rattle.script_core.specs.LineOrder.{call_of, calls_of}
use Rattle.shared_kv.specs.Turns.{GoesOn}
use Rattle.turn_lock.specs.declared.view.View.{View}
use Rattle.serve_core.specs.Clients.{IsClientLine, is_client, lines_by}
use Rattle.serve_core.specs.Owning.{IsSamePass, Makes, MakesNone, Owns}
use Rattle.serve_core.proofs.ClientLemmas.{calls_more, passes_by, stops_at}
use Rattle.serve_core.proofs.OwnsLemmas.{owns_more, owns_nothing, owns_still}

-- a pass has made the calls of its client among the first lines
pub record HasWorked (client : ℕ) (lines : List ScriptLine) (i : ℕ) (first v : View) : Type 0 where
  pub caller : v.who ≡ client
  pub same : IsSamePass first v
  pub owns : Owns (is_client client) (calls_of (take i lines)) true v
  pub count : length v.own ≡ lines_by client (take i lines)

pub not_begun : (client : ℕ) (lines : List ScriptLine) (v : View) → v.who ≡ client → v.own ≡ [] → HasWorked client lines 0 v v
not_begun client lines v is nothing = record {
  caller = is;
  same = record { opening = refl; parts = refl };
  owns = owns_nothing (is_client client) [] v nothing (λ who mine. refl);
  count = ap length nothing;
}

goes_same : (first old new : View) → GoesOn old new → IsSamePass first old → IsSamePass first new
goes_same first old new goes same = record { opening = goes.opening ∙ same.opening; parts = goes.parts ∙ same.parts }

module _ (client : ℕ) (lines : List ScriptLine) (i : ℕ) (x : ScriptLine) (less : i < length lines) (is : x ≡ get_or lines i x) where
  -- the line asks for a call
  pub asks : All IsClientLine lines → IsClientLine x
  asks clients = subst IsClientLine (sym is) (clients i x less)

  module _ (first old : View) (worked : HasWorked client lines i first old) where
    -- a line of another client
    pub passed_by : (x.who ≡ client → ⊥) → HasWorked client lines (i + 1) first old
    passed_by other = record {
      caller = worked.caller;
      same = worked.same;
      owns = passes_by client lines i x old less is other worked.owns;
      count =
          worked.count
          ∙ sym (count_by_more_no (λ (line : ScriptLine). line.who == client) lines i x less
          (ap (λ (line : ScriptLine). line.who == client) (sym is) ∙ ne_eqb x.who client other));
    }

    module _ (its : x.who ≡ client) where
      counted : lines_by client (take (i + 1) lines) ≡ lines_by client (take i lines) + 1
      counted = count_by_more_yes (λ (line : ScriptLine). line.who == client) lines i x less
          (ap (λ (line : ScriptLine). line.who == client) (sym is) ∙ eq-eqb x.who client its)

      -- a part is left for it
      pub room_left : lines_by client lines ≤ first.parts → length old.own < old.parts
      room_left room =
          omega (arith, room, worked.same.parts, worked.count, counted, sum_by-take-le (λ (line : ScriptLine). cond (line.who == client) 1 0) lines (i + 1))

      module _ (new : View) where
        -- its call was made
        pub went_on : Makes old new x.act true → HasWorked client lines (i + 1) first new
        went_on (call, answer, asked, done) =
            let one : call_of x.who x.act ≡ (client, call) ∷ [] =
            ap (call_of x.who) asked ∙ ap (λ (w : ℕ). (w, call) ∷ []) its in
            let lines_are : calls_of (take (i + 1) lines) ≡ calls_of (take i lines) ++ (client, call) ∷ [] =
            calls_more lines i x less is ∙ ap (λ (l : List Line). calls_of (take i lines) ++ l) one in
            record {
              caller = done.goes.who ∙ worked.caller;
              same = goes_same first old new done.goes worked.same;
              owns = subst (λ (l : List Line). Owns (is_client client) l true new) (sym lines_are)
                  (owns_more client (calls_of (take i lines)) old new call answer worked.caller done worked.owns);
              count = omega (arith, worked.count, counted, ap length done.own, length-append old.own (answer.seq ∷ []));
            }

        -- it was not made
        pub gave_up : All IsClientLine lines → MakesNone old new → Owns (is_client client) (calls_of lines) false new
        gave_up clients none =
            owns_still (is_client client) (calls_of lines) false old new none
            (stops_at client lines i x old less is its (asks clients).call worked.owns)
