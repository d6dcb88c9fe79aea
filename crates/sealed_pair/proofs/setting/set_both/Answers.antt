use Rattle.std.proofs.Common.{◌≤◌, ℕ, List, [], length, subst, arith}
use Rattle.kv_model.specs.Operations.{Set}
use Rattle.secure_record.specs.declared.metadata.Metadata.{Metadata}
use Rattle.secure_record.specs.Sealed.{sealed_metadata}
use Rattle.secure_record.specs.Streams.{HasSealed}
use Rattle.sealed_pair.specs.Setting.{vector_of}
use Rattle.sealed_pair.proofs.BehindLemmas.{run_behind}
use Rattle.sealed_pair.proofs.SettingCheckLemmas.{set_refused, set_unnamed, unspent_number}
use Rattle.sealed_pair.proofs.SettingRunLemmas.{asks_set}
use Rattle.sealed_pair.proofs.setting.set_both.Goals as goal

pub returns-in-Err-clause-run : goal.returns-in-Err-clause-run
returns-in-Err-clause-run g c =
    set_unnamed c.args.root.now c.args.number g.U.Kv.rules_by g.R.Kv.rules_by (g.U.Kv.state c.args.primary.now) (g.U.Kv.state c.args.primary.now) (g.R.Kv.state c.args.rollback.now) (g.R.Kv.state c.args.rollback.now)
    c.args.set.who c.args.set.key.now (length c.args.set.value.now) c.args.set.flags.bits (Set c.args.set.key.now c.args.set.value.now c.args.set.flags.bits) (asks_set c.args.set.key.now c.args.set.value.now c.args.set.flags.bits)
    c.in-Err.refusal c.in-Err.ensures.0 c.in-Err.ensures.1

pub returns-in-Err-check_set-clause-run : goal.returns-in-Err-check_set-clause-run
returns-in-Err-check_set-clause-run g c =
    set_refused c.args.root.now c.args.number g.U.Kv.rules_by g.R.Kv.rules_by (g.U.Kv.state c.args.primary.now) (g.U.Kv.state c.check_set.new.primary) (g.R.Kv.state c.args.rollback.now) (g.R.Kv.state c.check_set.new.rollback)
    c.args.set.who c.args.set.key.now (length c.args.set.value.now) c.args.set.flags.bits (Set c.args.set.key.now c.args.set.value.now c.args.set.flags.bits) (asks_set c.args.set.key.now c.args.set.value.now c.args.set.flags.bits)
    c.in-Err-check_set.ensures.above c.in-Err-check_set.ensures.below c.in-Err-check_set.refusal (c.in-Err-check_set.ensures.refused c.args.root.now)

pub returns-in-Err-check_set-clause-unspent : goal.returns-in-Err-check_set-clause-unspent
returns-in-Err-check_set-clause-unspent g c fault = absurd ((c.in-Err-check_set.ensures.refused c.args.root.now).unwritten fault)

pub overflow_cast-value : goal.overflow_cast-value
overflow_cast-value g c =
    let most : length c.args.set.value.now ≤ 65536 = (c.in-Ok-check_set.ensures.admitted c.args.root.now).most in
    omega (arith, most)

pub write_both-requires-clause-size : goal.write_both-requires-clause-size
write_both-requires-clause-size g c = (c.in-Ok-check_set.ensures.admitted c.args.root.now).most

pub returns-in-Ok-write_both-clause-run : goal.returns-in-Ok-write_both-clause-run
returns-in-Ok-write_both-clause-run g c =
    let m : ℕ → Metadata = λ v. sealed_metadata (length c.args.set.value.now) c.args.set.flags.bits v c.in-Ok-check_set.prior in
    run_behind c.args.root.now c.args.number g.U.Kv.rules_by g.R.Kv.rules_by (g.U.Kv.state c.args.primary.now) (g.U.Kv.state c.check_set.new.primary) (g.R.Kv.state c.args.rollback.now) (g.R.Kv.state c.check_set.new.rollback)
    c.in-Ok-check_set.ensures.above c.in-Ok-check_set.ensures.below _ (g.U.Kv.state c.write_both.new.primary) (g.R.Kv.state c.write_both.new.rollback) _
    (c.in-Ok-write_both.ensures c.args.root.now c.args.number c.in-Ok-check_set.prior (c.in-Ok-check_set.ensures.admitted c.args.root.now)
    (subst (λ (k : List ℕ). HasSealed c.new-stream.result c.args.root.now k (m (vector_of c.args.number c.args.set.flags.bits)) []) c.in-Ok.ensures.0
    (subst (λ (v : ℕ). HasSealed c.new-stream.result c.args.root.now c.in-Ok.name (m v) []) c.vector_for-vector.ensures c.new-stream.ensures.sealed)))

pub returns-in-Err-write_both-clause-run : goal.returns-in-Err-write_both-clause-run
returns-in-Err-write_both-clause-run g c =
    let m : ℕ → Metadata = λ v. sealed_metadata (length c.args.set.value.now) c.args.set.flags.bits v c.in-Ok-check_set.prior in
    run_behind c.args.root.now c.args.number g.U.Kv.rules_by g.R.Kv.rules_by (g.U.Kv.state c.args.primary.now) (g.U.Kv.state c.check_set.new.primary) (g.R.Kv.state c.args.rollback.now) (g.R.Kv.state c.check_set.new.rollback)
    c.in-Ok-check_set.ensures.above c.in-Ok-check_set.ensures.below _ (g.U.Kv.state c.write_both.new.primary) (g.R.Kv.state c.write_both.new.rollback) _
    (c.in-Err-write_both.ensures c.args.root.now c.args.number c.in-Ok-check_set.prior (c.in-Ok-check_set.ensures.admitted c.args.root.now)
    (subst (λ (k : List ℕ). HasSealed c.new-stream.result c.args.root.now k (m (vector_of c.args.number c.args.set.flags.bits)) []) c.in-Ok.ensures.0
    (subst (λ (v : ℕ). HasSealed c.new-stream.result c.args.root.now c.in-Ok.name (m v) []) c.vector_for-vector.ensures c.new-stream.ensures.sealed)))

pub returns-in-Ok-write_both-clause-unspent : goal.returns-in-Ok-write_both-clause-unspent
returns-in-Ok-write_both-clause-unspent g c =
    unspent_number c.args.number c.args.set.flags.bits c.ranges.number.fits (c.in-Ok-check_set.ensures.admitted c.args.root.now).unspent

pub returns-in-Err-write_both-clause-unspent : goal.returns-in-Err-write_both-clause-unspent
returns-in-Err-write_both-clause-unspent g c fault =
    unspent_number c.args.number c.args.set.flags.bits c.ranges.number.fits (c.in-Ok-check_set.ensures.admitted c.args.root.now).unspent
