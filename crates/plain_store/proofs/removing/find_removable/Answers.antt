use Rattle.std.proofs.Common.{true, false, inl, inr, refl, arith}
use Rattle.tdb_read.specs.Views.{view_of}
use Rattle.tdb_read.proofs.GetLemmas.{read_then, refusal_since}
use Rattle.tdb_write.proofs.BeginLemmas.{found_since}
use Rattle.tdb_write.proofs.SpaceLemmas.{match_handed}
use Rattle.plain_store.specs.Removing.{CanRemove, IsRemoveRefusal}
use Rattle.plain_store.proofs.RemoveLemmas.{missing_if, never_if, once_if, placed_so, there_if, there_since}
use Rattle.plain_store.proofs.removing.find_removable.Goals as goal

pub returns-in_err-place-clause-can : goal.returns-in_err-place-clause-can
returns-in_err-place-clause-can g c =
    let old = view_of g.F.Flash.state c.args.log.now in
    let new = view_of g.F.Flash.state c.find.new.self in
    match_handed (CanRemove new c.args.key.now) (IsRemoveRefusal old new c.args.key.now) c.from_residual.result c.in_err-place.field-0.0 c.from_residual.ensures.1
    (inr (inr c.in_err-place.ensures.finds))

pub returns-then-not-place-clause-can : goal.returns-then-not-place-clause-can
returns-then-not-place-clause-can g c =
    inl (refl, missing_if (view_of g.F.Flash.state c.args.log.now) c.args.key.now c.in_ok-place.place c.in_ok-place.ensures.finds c.if-not-place.true)

pub returns-in_err-header-clause-can : goal.returns-in_err-header-clause-can
returns-in_err-header-clause-can g c =
    let old = view_of g.F.Flash.state c.args.log.now in
    let new = view_of g.F.Flash.state c.read_header.new.self in
    let e = c.in_err-header.field-0.0 in
    match_handed (CanRemove new c.args.key.now) (IsRemoveRefusal old new c.args.key.now) c.from_residual-in_err-header.result e c.from_residual-in_err-header.ensures.1
    (inr (inr (refusal_since new.device e c.in_ok-place.ensures.reads.device c.in_err-header.ensures.gives)))

pub returns-then-header-eq1-clause-can : goal.returns-then-header-eq1-clause-can
returns-then-header-eq1-clause-can g c =
    let old = view_of g.F.Flash.state c.args.log.now in
    let mid = view_of g.F.Flash.state c.find.new.self in
    let new = view_of g.F.Flash.state c.read_header.new.self in
    inr (inl (
      refl,
      there_if old mid new c.args.key.now c.in_ok-place.place c.in_ok-header.header true c.in_ok-place.ensures.reads c.in_ok-place.ensures.finds (placed_so c.in_ok-place.place c.if-not-place.false)
          c.in_ok-header.ensures.gives (once_if c.in_ok-header.header.flags (omega (arith, c.if-header-eq1.true))),
    ))

pub returns-clause-can : goal.returns-clause-can
returns-clause-can g c =
    let old = view_of g.F.Flash.state c.args.log.now in
    let mid = view_of g.F.Flash.state c.find.new.self in
    let new = view_of g.F.Flash.state c.read_header.new.self in
    let key = c.args.key.now in
    let place = c.in_ok-place.place in
    let read = read_then c.in_ok-place.ensures.reads c.in_ok-header.ensures.reads in
    let there = placed_so place c.if-not-place.false in
    record {
      found = found_since old new key place read c.in_ok-place.ensures.finds;
      there = there;
      replaceable = there_since old new key false read
          (there_if old mid new key place c.in_ok-header.header false c.in_ok-place.ensures.reads c.in_ok-place.ensures.finds there c.in_ok-header.ensures.gives (never_if c.in_ok-header.header.flags (λ is. omega (arith, c.if-header-eq1.false, is))));
    }
