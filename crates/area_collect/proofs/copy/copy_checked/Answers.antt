use Rattle.std.proofs.Common.{◌≡◌, ℕ, ◌+◌, ◌<◌, ◌^◌, sym, ◌∙◌, ap, subst, arith, rules, inr}
use Rattle.kv_model.specs.declared.error.KvError.{KvError}
use Rattle.kv_model.specs.declared.error.KvError.TheVariants.{Corrupt}
use Rattle.record_core.specs.Lookup.{IsSeen}
use Rattle.area_log.specs.Reading.{sum_of}
use Rattle.area_collect.proofs.CopyLemmas.{checked_sum, payload_copied}
use Rattle.area_collect.proofs.copy.copy_checked.Goals as goal

corrupt : ℕ → ℕ → KvError
corrupt stored computed = Corrupt stored computed

pub returns-then-computed-header-clause-cause : goal.returns-then-computed-header-clause-cause
unfolding corrupt
returns-then-computed-header-clause-cause g c =
    let s = g.F.Flash.state c.args.flash.now in
    let header = c.args.header.now in
    let copied = c.in_ok-computed.ensures.copied in
    let computed = c.in_ok-computed.computed in
    let is : computed ≡ sum_of header copied.bytes = checked_sum header copied.bytes _ computed c.crc_of_front-front.ensures copied.sum_is in
    let fits : computed < 2 ^ 32 = search rules in
    inr (record {
      payload = copied.bytes;
      seen = subst (λ (n : ℕ). IsSeen s c.args.source (n + header.value_size) copied.bytes) c.from.ensures copied.seen;
      differ = λ same. c.if-computed-header.true (is ∙ sym same);
      fits = omega (arith, fits, is);
      is = ap (corrupt header.crc) is;
    })

pub returns-clause-copied : goal.returns-clause-copied
returns-clause-copied g c =
    payload_copied c.args.source c.args.target _ c.crc_of_front-front.result c.in_ok-computed.computed c.args.header.now (ap (λ (n : ℕ). n + c.args.header.now.value_size) c.from.ensures) c.crc_of_front-front.ensures c.if-computed-header.false c.in_ok-computed.ensures.copied
