use Rattle.std.proofs.Common.{inl, refl}
use Rattle.tdb_read.specs.Views.{view_of}
use Rattle.plain_store.proofs.LookLemmas.{header_opens, header_protects}
use Rattle.plain_store.proofs.setting.check_protected.Goals as goal

pub returns-then-is_protected-clause-unprotected : goal.returns-then-is_protected-clause-unprotected
returns-then-is_protected-clause-unprotected g c =
    inl (refl, header_protects (view_of g.F.Flash.state c.args.log.now) c.args.key.now c.args.place c.requires.found c.if-not-place.false c.in_ok-header.header c.in_ok-header.ensures.gives c.if-is_protected.true)

pub returns-clause-unprotected : goal.returns-clause-unprotected
returns-clause-unprotected g c =
    header_opens (view_of g.F.Flash.state c.args.log.now) c.args.key.now c.args.place c.requires.found c.if-not-place.false c.in_ok-header.header c.in_ok-header.ensures.gives c.if-is_protected.false
