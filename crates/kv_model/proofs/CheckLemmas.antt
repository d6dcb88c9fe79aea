-- Refusals with one more behind them.
use Rattle.std.proofs.Common.{◌≡◌, Bool, true, false, List, [], ◌∷◌, ◌++◌, Option, Some, None, refl}
use Rattle.std.specs.Prelude.{if◌then◌else◌}
use Rattle.kv_model.specs.declared.error.KvError.{KvError}
use Rattle.kv_model.specs.Checks.{Check, Refuses, Reads, Writes, first_refusal, may_fail_reading, may_fail_writing}

refuses_first : (applies : Bool) (e : KvError) (others more : Option KvError) → (others ≡ None → more ≡ None)
    → (if applies then Some e else others) ≡ None → (if applies then Some e else more) ≡ None
refuses_first true e others more next none = none
refuses_first false e others more next none = next none

pub first_refusal-none : (checks more : List Check) → first_refusal checks ≡ None → first_refusal more ≡ None → first_refusal (checks ++ more) ≡ None
first_refusal-none [] more none later = later
first_refusal-none ((Refuses applies e) ∷ checks) more none later =
    refuses_first applies e (first_refusal checks) (first_refusal (checks ++ more)) (λ rest. first_refusal-none checks more rest later) none
first_refusal-none (Reads ∷ checks) more none later = first_refusal-none checks more none later
first_refusal-none (Writes ∷ checks) more none later = first_refusal-none checks more none later

behind_first : (applies : Bool) (e : KvError) (others more found : Option KvError) → (others ≡ None → more ≡ found)
    → (if applies then Some e else others) ≡ None → (if applies then Some e else more) ≡ found
behind_first true e others more found next none = absurd (cc)
behind_first false e others more found next none = next none

-- where none of them applies, those behind decide
pub first_refusal-behind : (checks more : List Check) → first_refusal checks ≡ None → first_refusal (checks ++ more) ≡ first_refusal more
first_refusal-behind [] more none = refl
first_refusal-behind ((Refuses applies e) ∷ checks) more none =
    behind_first applies e (first_refusal checks) (first_refusal (checks ++ more)) (first_refusal more) (λ rest. first_refusal-behind checks more rest) none
first_refusal-behind (Reads ∷ checks) more none = first_refusal-behind checks more none
first_refusal-behind (Writes ∷ checks) more none = first_refusal-behind checks more none

some_first : (applies : Bool) (e f : KvError) (others more : Option KvError) → (others ≡ Some f → more ≡ Some f)
    → (if applies then Some e else others) ≡ Some f → (if applies then Some e else more) ≡ Some f
some_first true e f others more next is = is
some_first false e f others more next is = next is

-- where one applies, it stays the first
pub first_refusal-some : (checks more : List Check) (e : KvError) → first_refusal checks ≡ Some e → first_refusal (checks ++ more) ≡ Some e
first_refusal-some [] more e is = absurd (cc)
first_refusal-some ((Refuses applies f) ∷ checks) more e is =
    some_first applies f e (first_refusal checks) (first_refusal (checks ++ more)) (λ rest. first_refusal-some checks more e rest) is
first_refusal-some (Reads ∷ checks) more e is = first_refusal-some checks more e is
first_refusal-some (Writes ∷ checks) more e is = first_refusal-some checks more e is

same_behind : (applies a b : Bool) → a ≡ b → (if applies then false else a) ≡ (if applies then false else b)
same_behind true a b same = refl
same_behind false a b same = same

last_reads : (applies : Bool) → (if applies then false else false) ≡ false
last_reads true = refl
last_reads false = refl

-- a refusal at the end changes nothing of where the device may fail
pub may_fail_reading-behind : (checks : List Check) (applies : Bool) (e : KvError) → may_fail_reading (checks ++ Refuses applies e ∷ []) ≡ may_fail_reading checks
may_fail_reading-behind [] applies e = last_reads applies
may_fail_reading-behind ((Refuses b f) ∷ checks) applies e = same_behind b _ _ (may_fail_reading-behind checks applies e)
may_fail_reading-behind (Reads ∷ checks) applies e = refl
may_fail_reading-behind (Writes ∷ checks) applies e = may_fail_reading-behind checks applies e

pub may_fail_writing-behind : (checks : List Check) (applies : Bool) (e : KvError) → may_fail_writing (checks ++ Refuses applies e ∷ []) ≡ may_fail_writing checks
may_fail_writing-behind [] applies e = last_reads applies
may_fail_writing-behind ((Refuses b f) ∷ checks) applies e = same_behind b _ _ (may_fail_writing-behind checks applies e)
may_fail_writing-behind (Reads ∷ checks) applies e = may_fail_writing-behind checks applies e
may_fail_writing-behind (Writes ∷ checks) applies e = refl
