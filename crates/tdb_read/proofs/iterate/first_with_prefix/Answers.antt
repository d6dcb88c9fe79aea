use Rattle.std.proofs.Common.{rules, ◌≡◌, ◌⊎◌, ℕ, ◌-◌, List, [], sym, ◌∙◌, subst, arith}
use Rattle.std.specs.Prelude.{IsTrue, Option, MatchResult, Result}
use Rattle.std.specs.Option.{ForSome, unwrap_or}
use Rattle.std.specs.FinMap.{contains_key, get}
use Rattle.std.proofs.lemmas.Result.{err_from_is_err_and}
use Rattle.flash_core.specs.declared.geometry.Geometry.{Geometry}
use Rattle.flash_core.specs.State.{FlashState}
use Rattle.flash_core.proofs.KeptLaws.{OnlyReads-trans}
use Rattle.kv_model.specs.declared.error.KvError.{KvError}
use Rattle.record_core.specs.Lookup.{HeadBroken, IsReadFault, KeyBroken, KeySeen}
use Rattle.area_log.specs.Areas.{end_of}
use Rattle.ram_table.specs.Table.{entry_at}
use Rattle.tdb_mount.specs.Keys.{keys_in}
use Rattle.tdb_read.specs.Reads.{IsFirstOrNone, IsReadRefusal}
use Rattle.tdb_read.proofs.GetLemmas.{refusal_since}
use Rattle.tdb_read.proofs.NextLemmas.{key_is_read, key_refused, lack_more}
use Rattle.tdb_read.proofs.iterate.first_with_prefix.Goals as goal

-- the device of now tells the key of the entry at hand
has_now : (P : Geometry → List ℕ → Type 0) (old now : FlashState) → now.geometry ≡ old.geometry → now.image ≡ old.image
    → ForSome old.image (P old.geometry) → ForSome now.image (P now.geometry)
has_now P old now same_geometry same_image holds = λ image told.
    subst (λ (g : Geometry). P g image) (sym same_geometry) (holds image (sym same_image ∙ told))

pub returns-in_err-key-clause-first : goal.returns-in_err-key-clause-first
returns-in_err-key-clause-first g c =
    let old = g.F.Flash.state c.args.flash.now in
    let now = g.F.Flash.state c.loop-at.flash in
    let new = g.F.Flash.state c.read_key_at.new.flash in
    let offset : ℕ = (entry_at c.args.table.now.entries c.loop-at.at).offset in
    let reads = c.loop-at.invariant.reads in
    let inside = (c.requires.within c.loop-at.at (omega arith)).1 in
    let has = has_now (λ (x : Geometry) (image : List ℕ). IsTrue (contains_key (keys_in x c.args.area image) offset)) old now reads.geometry reads.image
    (λ image told. c.requires.keys image told c.loop-at.at (omega arith)) in
    let cause = subst (λ (p : ℕ). IsReadFault now new c.in_err-key.field-0.0 ⊎ (HeadBroken now p (end_of c.args.area - p) c.in_err-key.field-0.0 ⊎ KeyBroken now p (end_of c.args.area - p) c.in_err-key.field-0.0))
    c.entry.ensures.offset c.in_err-key.ensures.answer in
    let refused = refusal_since new c.in_err-key.field-0.0 reads (key_refused now new c.args.area offset inside has c.in_err-key.field-0.0 c.in_err-key.ensures.counts cause) in
    let p = err_from_is_err_and c.from_residual.result c.from_residual.ensures.1 in
    subst (λ (r : Result (Option (List ℕ)) KvError). MatchResult r (λ found. ForSome old.image (λ image. IsFirstOrNone (keys_in old.geometry c.args.area image) c.args.table.now.entries c.args.prefix.now c.args.from found)) (IsReadRefusal old new)) (sym p.1)
    (subst (IsReadRefusal old new) (sym p.2) refused)

pub returns-then-starts_with-clause-first : goal.returns-then-starts_with-clause-first
returns-then-starts_with-clause-first g c image told =
    let old = g.F.Flash.state c.args.flash.now in
    let now = g.F.Flash.state c.loop-at.flash in
    let new = g.F.Flash.state c.read_key_at.new.flash in
    let offset : ℕ = (entry_at c.args.table.now.entries c.loop-at.at).offset in
    let reads = c.loop-at.invariant.reads in
    let inside = (c.requires.within c.loop-at.at (omega arith)).1 in
    let has = has_now (λ (x : Geometry) (image : List ℕ). IsTrue (contains_key (keys_in x c.args.area image) offset)) old now reads.geometry reads.image
    (λ image told. c.requires.keys image told c.loop-at.at (omega arith)) in
    let seen = subst (λ (p : ℕ). KeySeen now p (end_of c.args.area - p) c.in_ok-key.key) c.entry.ensures.offset c.in_ok-key.ensures.answer in
    let is = key_is_read now new c.args.area offset inside has c.in_ok-key.key seen image (reads.image ∙ told) in
    record {
      at = c.loop-at.at;
      from_on = omega arith;
      inside = omega arith;
      key_is = subst (λ (x : Geometry). unwrap_or (get (keys_in x c.args.area image) offset) [] ≡ c.in_ok-key.key) reads.geometry is;
      has = search rules;
      before = c.loop-at.invariant.lack image told;
    }

pub loop-at-preserved : goal.loop-at-preserved
loop-at-preserved g c =
    let old = g.F.Flash.state c.args.flash.now in
    let now = g.F.Flash.state c.loop-at.flash in
    let new = g.F.Flash.state c.read_key_at.new.flash in
    let offset : ℕ = (entry_at c.args.table.now.entries c.loop-at.at).offset in
    let reads = c.loop-at.invariant.reads in
    let inside = (c.requires.within c.loop-at.at (omega arith)).1 in
    let has = has_now (λ (x : Geometry) (image : List ℕ). IsTrue (contains_key (keys_in x c.args.area image) offset)) old now reads.geometry reads.image
    (λ image told. c.requires.keys image told c.loop-at.at (omega arith)) in
    let seen = subst (λ (p : ℕ). KeySeen now p (end_of c.args.area - p) c.in_ok-key.key) c.entry.ensures.offset c.in_ok-key.ensures.answer in
    record {
      reads = OnlyReads-trans reads c.in_ok-key.ensures.reads;
      lack = λ image told.
          let is = key_is_read now new c.args.area offset inside has c.in_ok-key.key seen image (reads.image ∙ told) in
          lack_more (keys_in old.geometry c.args.area image) c.args.table.now.entries c.args.prefix.now c.in_ok-key.key c.args.from c.loop-at.at (c.loop-at.invariant.lack image told)
          (subst (λ (x : Geometry). unwrap_or (get (keys_in x c.args.area image) offset) [] ≡ c.in_ok-key.key) reads.geometry is)
          (search rules);
    }
