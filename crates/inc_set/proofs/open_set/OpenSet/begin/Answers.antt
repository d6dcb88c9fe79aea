use Rattle.std.proofs.Common.{◌≡◌, ℕ, ◌+◌, ◌-◌, ◌%◌, List, [], ◌++◌, length, take, drop, sym, ◌∙◌, ap, subst, arith}
use Rattle.std.proofs.lemmas.List.{length-drop}
use Rattle.std.proofs.Math.Seq.{take-length}
use Rattle.base_core.specs.Units.{IsMultipleOf}
use Rattle.kv_model.specs.Crc.{crc_from, crc_of}
use Rattle.kv_model.proofs.CrcLemmas.{crc_from-append}
use Rattle.record_core.specs.Header.{header_front}
use Rattle.inc_set.specs.declared.open_set.OpenSet.{OpenSet}
use Rattle.inc_set.specs.Sets.{Holds, opened}
use Rattle.inc_set.specs.Units.{IsHeld, rest_of}
use Rattle.inc_set.proofs.FeedLemmas.{holds_nothing}
use Rattle.inc_set.proofs.PushLemmas.{cut_rest}
use Rattle.inc_set.proofs.open_set.OpenSet.begin.Goals as goal

all_behind : (l : List ℕ) (from : ℕ) → take (length l - from) (drop from l) ≡ drop from l
all_behind l from = ap (λ (n : ℕ). take n (drop from l)) (sym (length-drop from l)) ∙ take-length (drop from l)

-- the CRC goes on from the header's front
crc_is : (start crc flags size : ℕ) (key lent : List ℕ) → lent ≡ key → start ≡ crc_of (header_front flags (length lent) size) → crc ≡ crc_from start lent → crc ≡ crc_of (header_front flags (length key) size ++ key)
crc_is start crc flags size key lent is start_is sum =
    sum ∙ ap (λ (n : ℕ). crc_from n lent) start_is
    ∙ sym (crc_from-append 0xFFFF_FFFF (header_front flags (length lent) size) lent)
    ∙ ap (λ (l : List ℕ). crc_of (header_front flags (length l) size ++ l)) is

set_is : (key copy : List ℕ) (flags size at crc : ℕ) → copy ≡ key → crc ≡ crc_of (header_front flags (length key) size ++ key)
    → ◌≡◌ {A = OpenSet} (record { key = copy; flags = flags; size = size; fed = 0; at = at; crc = crc }) (opened key flags size at)
set_is key copy flags size at crc same sum = λ i. record { key = same i; flags = flags; size = size; fed = 0; at = at; crc = sum i }

pub returns-clause-set : goal.returns-clause-set
returns-clause-set c =
    set_is c.args.key.now c.copied.result c.args.flags c.args.size c.args.at c.crc.result c.copied.ensures
    (crc_is c.crc_of_front.result c.crc.result c.args.flags c.args.size c.args.key.now c.as_slice-bytes.result.now c.as_slice-bytes.ensures.bytes c.crc_of_front.ensures c.crc.ensures)

pub returns-clause-holds : goal.returns-clause-holds
returns-clause-holds c g told area valid unit inside erased =
    let key = c.args.key.now in
    let lent = c.as_slice-bytes.result.now in
    let is = returns-clause-set c in
    let from : ℕ = length lent - length lent % length c.args.rest.now in
    let rest_is : drop from lent ≡ rest_of g.prog key = cut_rest g.prog lent from (ap (λ (n : ℕ). length lent - length lent % n) unit) ∙ ap (rest_of g.prog) c.as_slice-bytes.ensures.bytes in
    let size : 0 + length (take (length lent - from) (drop from lent)) ≡ length (take (length lent - from) (drop from lent)) = omega arith in
    let copied : IsHeld c.copy_at.new.units (take (length lent - from) (drop from lent)) = ap (λ (n : ℕ). take n c.copy_at.new.units) (sym size) ∙ c.copy_at.ensures.front in
    subst (λ (s : OpenSet). Holds g told c.copy_at.new.units s []) (sym is)
    (holds_nothing g told area key c.args.flags c.args.size c.args.at c.copy_at.new.units valid (c.copy_at.ensures.len ∙ unit)
    c.as_slice-bytes.ensures.valid
    c.requires.header (subst (λ (n : ℕ). IsMultipleOf n c.args.at) unit c.requires.aligned) inside erased (subst (IsHeld c.copy_at.new.units) (all_behind lent from ∙ rest_is) copied))
