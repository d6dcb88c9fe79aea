use Rattle.std.proofs.Common.{◌≡◌, ◌==◌, ℕ, List, sym, ◌∙◌, ap, subst, arith}
use Rattle.std.specs.Prelude.{IsTrue}
use Rattle.std.specs.FinMap.{contains_key}
use Rattle.std.specs.Cmp.Lexicographic.{slice_cmp}
use Rattle.std.specs.Ordering.{nat_cmp}
use Rattle.std.proofs.lemmas.Bool.{eq-eqb}
use Rattle.std.proofs.lemmas.List.Sums.{count_by_more_yes}
use Rattle.ram_table.specs.declared.table.Entry.{Entry}
use Rattle.ram_table.specs.Table.{entry_at}
use Rattle.ram_table.proofs.PlaceLemmas.{above_from_bytes, above_from_hash, absent, all_above, ascend_by_hash, below_from_bytes, below_from_hash, equal_bytes, key_that_is_read, one_more_below, present}
use Rattle.ram_table.proofs.ReaderLemmas.{CountsStand-refl, CountsStand-trans, Keeps-refl, Keeps-trans, all_answered, read_later, refusal_handed}
use Rattle.ram_table.proofs.table.RamTable.place_from.Goals as goal

pub loop-at-init : goal.loop-at-init
loop-at-init g c =
    let entries = c.args.self.now.entries in
    record {
      kept = Keeps-refl (g.R.KeyReader.state c.args.reader.now);
      stand = CountsStand-refl (g.R.KeyReader.state c.args.reader.now);
      follows = g.met.R.KeyReader.stays c.args.reader.now;
      below = λ keys told i lt.
          let bits = (g.R.KeyReader.state c.args.reader.now).hash_bits in
          let index = c.requires.can.index keys told in
          let smaller = c.requires.below (ascend_by_hash bits keys entries index) i lt in
          below_from_hash bits keys entries c.args.key.now index i (omega (arith, c.requires.inside)) (omega (arith, smaller, c.requires.hash));
      not_fewer = omega arith;
      steps = omega arith;
    }

pub returns-then-entry_hash-hash-clause-place : goal.returns-then-entry_hash-hash-clause-place
returns-then-entry_hash-hash-clause-place g c keys told =
    let bits = (g.R.KeyReader.state c.args.reader.now).hash_bits in
    let entries = c.args.self.now.entries in
    let key = c.args.key.now in
    let at = c.loop-at.at in
    let index = c.requires.can.index keys told in
    let is = c.look-entry_hash.ensures.hash in
    let least = c.requires.above (ascend_by_hash bits keys entries index) at (omega arith) (omega arith) in
    let here = above_from_hash bits keys entries key index at (omega arith) (omega (arith, is, least, c.requires.hash, c.if-entry_hash-hash.true)) in
    absent bits keys entries key index at (c.loop-at.invariant.below keys told) (all_above bits keys entries key index at here)

pub key_at-requires : goal.key_at-requires
key_at-requires g c =
    let at = c.loop-at.at in
    let kept = c.loop-at.invariant.kept in
    let is = c.look-entry_hash.ensures.offset in
    record {
      within = omega (arith, is, kept.bound, c.requires.can.within at (omega arith));
      has = λ keys told. subst (λ (n : ℕ). IsTrue (contains_key keys n)) (sym is)
          ((c.requires.can.index keys (sym kept.keys ∙ told)).has at (omega arith));
    }

pub returns-in-Equal-clause-place : goal.returns-in-Equal-clause-place
returns-in-Equal-clause-place g c keys told =
    let bits = (g.R.KeyReader.state c.args.reader.now).hash_bits in
    let entries = c.args.self.now.entries in
    let at = c.loop-at.at in
    let is = c.look-entry_hash.ensures.offset in
    let read = c.in_ok-key_at.ensures.reads.bytes keys (c.loop-at.invariant.kept.keys ∙ told) in
    let key_is = key_that_is_read keys c.key_at.new.out entries at c.look-entry_hash.result.1 is read in
    present bits keys entries c.args.key.now (c.requires.can.index keys told) at (omega arith) (c.loop-at.invariant.below keys told)
    (key_is ∙ equal_bytes c.key_at.new.out c.args.key.now (sym c.cmp.ensures ∙ c.in-Equal.is))

pub returns-in-Equal-clause-last : goal.returns-in-Equal-clause-last
returns-in-Equal-clause-last g c found =
    let reader = c.key_at.new.self in
    let last : List ℕ → ℕ → Type 0 = λ key offset. g.R.KeyReader.read_last reader offset key in
    let same = equal_bytes c.key_at.new.out c.args.key.now (sym c.cmp.ensures ∙ c.in-Equal.is) in
    subst (last c.args.key.now) c.look-entry_hash.ensures.offset
    (subst (λ (k : List ℕ). last k c.look-entry_hash.result.1) same c.in_ok-key_at.ensures.last)

pub returns-in-Greater-clause-place : goal.returns-in-Greater-clause-place
returns-in-Greater-clause-place g c keys told =
    let bits = (g.R.KeyReader.state c.args.reader.now).hash_bits in
    let entries = c.args.self.now.entries in
    let key = c.args.key.now in
    let at = c.loop-at.at in
    let index = c.requires.can.index keys told in
    let has_hash = c.look-entry_hash.ensures.hash in
    let is = c.look-entry_hash.ensures.offset in
    let read = c.in_ok-key_at.ensures.reads.bytes keys (c.loop-at.invariant.kept.keys ∙ told) in
    let key_is = key_that_is_read keys c.key_at.new.out entries at c.look-entry_hash.result.1 is read in
    let greater = ap (λ (k : List ℕ). slice_cmp nat_cmp k key) key_is ∙ sym c.cmp.ensures ∙ c.in-Greater.is in
    let here = above_from_bytes bits keys entries key index at (omega arith) (sym has_hash ∙ c.if-entry_hash-hash.false ∙ c.requires.hash) greater in
    absent bits keys entries key index at (c.loop-at.invariant.below keys told) (all_above bits keys entries key index at here)

pub loop-at-preserved : goal.loop-at-preserved
loop-at-preserved g c =
    let entries = c.args.self.now.entries in
    let key = c.args.key.now in
    let at = c.loop-at.at in
    let has_hash = c.look-entry_hash.ensures.hash in
    let same : (entry_at entries at).hash ≡ c.args.hash = sym has_hash ∙ c.if-entry_hash-hash.false in
    let one_more = count_by_more_yes (λ (e : Entry). e.hash == c.args.hash) entries at (record { hash = 0; offset = 0 }) (omega arith) (eq-eqb (entry_at entries at).hash c.args.hash same) in
    record {
      kept = Keeps-trans c.loop-at.invariant.kept c.key_at.ensures.reads.read.kept;
      stand = CountsStand-trans c.loop-at.invariant.stand c.in_ok-key_at.ensures.reads.read.answered;
      follows = g.met.R.KeyReader.chains _ _ _ c.loop-at.invariant.follows c.key_at.ensures.follows;
      below = λ keys told.
          let bits = (g.R.KeyReader.state c.args.reader.now).hash_bits in
          let index = c.requires.can.index keys told in
          let is = c.look-entry_hash.ensures.offset in
          let read = c.in_ok-key_at.ensures.reads.bytes keys (c.loop-at.invariant.kept.keys ∙ told) in
          let key_is = key_that_is_read keys c.key_at.new.out entries at c.look-entry_hash.result.1 is read in
          let less = ap (λ (k : List ℕ). slice_cmp nat_cmp k key) key_is ∙ sym c.cmp.ensures ∙ c.in-Less.is in
          one_more_below bits keys entries key index at (c.loop-at.invariant.below keys told)
          (below_from_bytes bits keys entries key index at (omega arith) (same ∙ c.requires.hash) less);
      not_fewer = omega (arith, c.look-entry_hash.ensures.steps, c.loop-at.invariant.not_fewer);
      steps = omega (arith, c.look-entry_hash.ensures.steps, c.loop-at.invariant.steps, one_more);
    }

pub returns-clause-place : goal.returns-clause-place
returns-clause-place g c keys told =
    let bits = (g.R.KeyReader.state c.args.reader.now).hash_bits in
    absent bits keys c.args.self.now.entries c.args.key.now (c.requires.can.index keys told) c.len.result
    (λ i lt. c.loop-at.invariant.below keys told i (omega (arith, c.len.ensures)))
    (λ i le inside. absurd (omega (arith, c.len.ensures)))

-- ---- what the reader has done

pub returns-then-entry_hash-hash-clause-reads : goal.returns-then-entry_hash-hash-clause-reads
returns-then-entry_hash-hash-clause-reads g c = all_answered _ c.loop-at.invariant.kept c.loop-at.invariant.stand

pub returns-in_err-key_at-clause-reads : goal.returns-in_err-key_at-clause-reads
returns-in_err-key_at-clause-reads g c =
    refusal_handed c.from_residual.result c.in_err-key_at.field-0.0 c.from_residual.ensures.1
    (read_later _ _ _ c.loop-at.invariant.kept c.loop-at.invariant.stand _ c.in_err-key_at.ensures.reads.read)

pub returns-in-Equal-clause-reads : goal.returns-in-Equal-clause-reads
returns-in-Equal-clause-reads g c = read_later _ _ _ c.loop-at.invariant.kept c.loop-at.invariant.stand _
    (all_answered _ c.in_ok-key_at.ensures.reads.read.kept c.in_ok-key_at.ensures.reads.read.answered)

pub returns-in-Greater-clause-reads : goal.returns-in-Greater-clause-reads
returns-in-Greater-clause-reads g c = read_later _ _ _ c.loop-at.invariant.kept c.loop-at.invariant.stand _
    (all_answered _ c.in_ok-key_at.ensures.reads.read.kept c.in_ok-key_at.ensures.reads.read.answered)

pub returns-clause-reads : goal.returns-clause-reads
returns-clause-reads g c = all_answered _ c.loop-at.invariant.kept c.loop-at.invariant.stand
