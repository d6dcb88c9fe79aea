-- What the calls of a store's interface give back, as replies.
use Rattle.std.specs.Prelude.{◌≡◌, ℕ, ◌≤◌, ◌<◌, List, length, take, slice_index, Option, Some, None, Result, Ok, Err}
use Rattle.std.specs.Option.{ForSome}
use Rattle.kv_model.specs.declared.error.KvError.{KvError}
use Rattle.kv_model.specs.declared.call.Got.{Got}
use Rattle.kv_model.specs.declared.call.Info.{Info}
use Rattle.kv_model.specs.declared.call.Reply.{Reply}
use Rattle.kv_model.specs.declared.call.Reply.TheVariants.{Done, Value, Facts, Found, End, Refused}
use Rattle.kv_model.specs.Constants.{Constants}
use Rattle.kv_model.specs.Operations as operation
use Rattle.kv_model.specs.Rules.{Rules, step}
use Rattle.kv_model.specs.Kv.{KvState}

-- a call that gives nothing
abbrev pub done_or : {T : Type 0} → Result T KvError → Reply
done_or (Ok x) = Done
done_or (Err e) = Refused e

-- a read into this buffer
abbrev pub got_or : Result Got KvError → List ℕ → Reply
got_or (Ok got) buf = Value (take got.read buf)
got_or (Err e) buf = Refused e

abbrev pub facts_or : Result Info KvError → Reply
facts_or (Ok info) = Facts info.size info.flags
facts_or (Err e) = Refused e

-- the next key, written at the front of a buffer
abbrev pub found_or : Result (Option ℕ) KvError → List ℕ → Reply
found_or (Ok None) out = End
found_or (Ok (Some n)) out = Found (take n out)
found_or (Err e) out = Refused e

-- every byte from here on is 0
abbrev pub AreZerosFrom : ℕ → List ℕ → Type 0
AreZerosFrom n buf = (i : ℕ) → n ≤ i → i < length buf → slice_index buf i ≡ 0

-- where a read ended in its buffer; after a refusal it gave nothing
abbrev pub read_end : Result Got KvError → ℕ
read_end (Ok got) = got.read
read_end (Err e) = 0

abbrev pub found_end : Result (Option ℕ) KvError → ℕ
found_end (Ok (Some n)) = n
found_end (Ok None) = 0
found_end (Err e) = 0

-- What a read says of the whole value: its size and its flags are those of an info, and what was read fits in the buffer.
pub record IsGot (rules_by : Constants → Rules) (old : KvState) (key : List ℕ) (size : ℕ) (got : Got) : Type 0 where
  pub fits : got.read ≤ size
  pub facts : ForSome old.known.state (λ before.
      (step (rules_by old.known.constants) before 0 (operation.Info key)).reply ≡ Facts got.size got.flags)
