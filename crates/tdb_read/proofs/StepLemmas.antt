-- Steps of a plain store that runs: the calls that read.
use Rattle.std.proofs.Common.{◌≡◌, ℕ, true, false, List, Some, None, nat_lt, length, take, drop}
use Rattle.std.specs.Prelude.{IsTrue}
use Rattle.std.specs.FinMap as map
use Rattle.kv_model.specs.declared.error.KvError.{KvError}
use Rattle.kv_model.specs.declared.error.KvError.TheVariants as error
use Rattle.kv_model.specs.declared.call.Reply.TheVariants as reply
use Rattle.kv_model.specs.Keys.{is_key}
use Rattle.kv_model.specs.Checks.{may_fail_reading}
use Rattle.kv_model.specs.Constants.{Constants}
use Rattle.kv_model.specs.FlaggedMap.{Stored}
use Rattle.kv_model.specs.NextKey.{next_key}
use Rattle.kv_model.specs.Operations.{CloseIterator, Info, Next, Part}
use Rattle.kv_model.specs.PlainStep.{plain_checks, plain_step}
use Rattle.kv_model.specs.Rules.{Outcome}
use Rattle.kv_model.specs.StoreState.{StoreState}
use Rattle.kv_iters.specs.Calls.{advanced, ended, position_of}

abbrev pub refusal : StoreState → KvError → Outcome
refusal state error = record { state = state; reply = reply.Refused error }

module _ (constants : Constants) (state : StoreState) (who : ℕ) (running : state.doubt ≡ None) where
  module _ (key : List ℕ) where
    pub info_bad_key : is_key key ≡ false → plain_step constants state who (Info key) ≡ refusal state error.InvalidKey
    info_bad_key bad = simp (running, bad)

    module _ (valid : is_key key ≡ true) where
      pub info_absent : map.get state.primary key ≡ None → plain_step constants state who (Info key) ≡ refusal state error.NotFound
      info_absent absent = simp (running, valid, absent)

      pub info_present : (stored : Stored) → map.get state.primary key ≡ Some stored
          → plain_step constants state who (Info key) ≡ record { state = state; reply = reply.Facts (length stored.bytes) (record { bits = stored.flags }) }
      info_present stored present = simp (running, valid, present)

      pub info_reads : IsTrue (may_fail_reading (plain_checks constants state who (Info key)))
      info_reads = simp valid

    module _ (offset count : ℕ) where
      pub part_bad_key : is_key key ≡ false → plain_step constants state who (Part key offset count) ≡ refusal state error.InvalidKey
      part_bad_key bad = simp (running, bad)

      module _ (valid : is_key key ≡ true) where
        pub part_absent : map.get state.primary key ≡ None → plain_step constants state who (Part key offset count) ≡ refusal state error.NotFound
        part_absent absent = simp (running, valid, absent)

        pub part_large : (stored : Stored) → map.get state.primary key ≡ Some stored → nat_lt (length stored.bytes) offset ≡ true
            → plain_step constants state who (Part key offset count) ≡ refusal state error.InvalidSize
        part_large stored present large = simp (running, valid, present, large)

        pub part_present : (stored : Stored) → map.get state.primary key ≡ Some stored → nat_lt (length stored.bytes) offset ≡ false
            → plain_step constants state who (Part key offset count) ≡ record { state = state; reply = reply.Value (take count (drop offset stored.bytes)) }
        part_present stored present fits = simp (running, valid, present, fits)

        pub part_reads : IsTrue (may_fail_reading (plain_checks constants state who (Part key offset count)))
        part_reads = simp valid

  module _ (n : ℕ) where
    pub next_refused : map.contains_key state.iterators (who, n) ≡ false → plain_step constants state who (Next n) ≡ refusal state error.NoIterator
    next_refused none = simp (running, none)

    pub close_refused : map.contains_key state.iterators (who, n) ≡ false → plain_step constants state who (CloseIterator n) ≡ refusal state error.NoIterator
    close_refused none = simp (running, none)

    module _ (active : map.contains_key state.iterators (who, n) ≡ true) where
      pub next_reads : IsTrue (may_fail_reading (plain_checks constants state who (Next n)))
      next_reads = simp active

      pub next_ends : next_key constants.hash_bits state.primary (position_of state.iterators who n) ≡ None
          → plain_step constants state who (Next n) ≡ record { state = state; reply = reply.End }
      next_ends none = simp (running, active, none)

      pub next_gives : (key : List ℕ) → next_key constants.hash_bits state.primary (position_of state.iterators who n) ≡ Some key
          → plain_step constants state who (Next n) ≡ record { state = record state { iterators = advanced state.iterators who n key }; reply = reply.Found key }
      next_gives key some = simp (running, active, some)

      pub closes : plain_step constants state who (CloseIterator n) ≡ record { state = record state { iterators = ended state.iterators who n }; reply = reply.Done }
      closes = simp (running, active)
