use Rattle.std.proofs.Common.{◌≡◌, ℕ, List, [], Option, Some, None, Ok, true, sym, subst}
use Rattle.kv_model.specs.declared.call.Reply.TheVariants.{Done, Refused}
use Rattle.kv_model.specs.Flags.{is_mirrored}
use Rattle.kv_model.specs.Kv.{answered}
use Rattle.kv_model.specs.Operations.{Start}
use Rattle.kv_model.specs.Rules.{number_taken}
use Rattle.sealed_pair.specs.declared.partial.PartialSet.{PartialSet}
use Rattle.sealed_pair.specs.Begun.{active_set, parts_in}
use Rattle.sealed_pair.specs.Running.{HasRun, parts}
use Rattle.sealed_pair.specs.Sealing.{is_numbered}
use Rattle.sealed_pair.specs.Setting.{HasMoved, IsAdmitted, StartsSet, record_set, tag_set}
use Rattle.sealed_pair.proofs.BehindLemmas.{run_behind, run_since}
use Rattle.sealed_pair.proofs.PieceRunLemmas.{set_started}
use Rattle.sealed_pair.proofs.SettingCheckLemmas.{set_refused, unspent_number}
use Rattle.sealed_pair.proofs.SettingRunLemmas.{asks_start, start_given_up}
use Rattle.sealed_pair.proofs.pieces.start_set.Goals as goal

pub returns-in-Err-clause-run : goal.returns-in-Err-clause-run
returns-in-Err-clause-run g c =
    subst (λ (k : List ℕ). HasRun (parts c.args.root.now c.args.number g.U.Kv.rules_by (g.U.Kv.state c.args.primary.now) g.R.Kv.rules_by (g.R.Kv.state c.args.rollback.now)) (parts c.args.root.now c.args.number g.U.Kv.rules_by (g.U.Kv.state c.check_set.new.primary) g.R.Kv.rules_by (g.R.Kv.state c.check_set.new.rollback)) (answered c.args.start.who (Start k c.args.start.size c.args.start.flags.bits) (Refused c.in-Err.refusal))) c.as_slice-key.ensures.bytes
    (set_refused c.args.root.now c.args.number g.U.Kv.rules_by g.R.Kv.rules_by (g.U.Kv.state c.args.primary.now) (g.U.Kv.state c.check_set.new.primary) (g.R.Kv.state c.args.rollback.now) (g.R.Kv.state c.check_set.new.rollback)
    c.args.start.who c.as_slice-key.result.now c.args.start.size c.args.start.flags.bits (Start c.as_slice-key.result.now c.args.start.size c.args.start.flags.bits) (asks_start c.as_slice-key.result.now c.args.start.size c.args.start.flags.bits) c.in-Err.ensures.above c.in-Err.ensures.below c.in-Err.refusal (c.in-Err.ensures.refused c.args.root.now))

pub returns-in-Err-clause-unspent : goal.returns-in-Err-clause-unspent
returns-in-Err-clause-unspent g c fault = absurd ((c.in-Err.ensures.refused c.args.root.now).unwritten fault)

pub start_both-requires : goal.start_both-requires
start_both-requires g c = (c.in-Ok.ensures.admitted c.args.root.now).most

pub returns-in-Err-start_both-clause-run : goal.returns-in-Err-start_both-clause-run
returns-in-Err-start_both-clause-run g c =
    let e = c.in-Err-start_both.refusal in
    let prior = c.in-Ok.prior in
    let admitted = c.in-Ok.ensures.admitted c.args.root.now in
    subst (λ (k : List ℕ). HasRun (parts c.args.root.now c.args.number g.U.Kv.rules_by (g.U.Kv.state c.args.primary.now) g.R.Kv.rules_by (g.R.Kv.state c.args.rollback.now)) (parts c.args.root.now c.args.number g.U.Kv.rules_by (g.U.Kv.state c.start_both.new.primary) g.R.Kv.rules_by (g.R.Kv.state c.start_both.new.rollback)) (answered c.args.start.who (Start k c.args.start.size c.args.start.flags.bits) (Refused e))) c.as_slice-key.ensures.bytes
    (run_behind c.args.root.now c.args.number g.U.Kv.rules_by g.R.Kv.rules_by (g.U.Kv.state c.args.primary.now) (g.U.Kv.state c.check_set.new.primary) (g.R.Kv.state c.args.rollback.now) (g.R.Kv.state c.check_set.new.rollback)
    c.in-Ok.ensures.above c.in-Ok.ensures.below c.args.number (g.U.Kv.state c.start_both.new.primary) (g.R.Kv.state c.start_both.new.rollback) (answered c.args.start.who (Start c.as_slice-key.result.now c.args.start.size c.args.start.flags.bits) (Refused e))
    (start_given_up c.args.root.now c.args.number g.U.Kv.rules_by g.R.Kv.rules_by (g.U.Kv.state c.check_set.new.primary) (g.R.Kv.state c.check_set.new.rollback) (g.U.Kv.state c.start_both.new.primary) (g.R.Kv.state c.start_both.new.rollback)
    c.args.start.who c.as_slice-key.result.now c.args.start.size c.args.start.flags.bits prior (Start c.as_slice-key.result.now c.args.start.size c.args.start.flags.bits) (asks_start c.as_slice-key.result.now c.args.start.size c.args.start.flags.bits)
    admitted (g.met.U.Kv.lawful c.start_both.new.primary) (g.met.R.Kv.lawful c.start_both.new.rollback) e c.in-Err-start_both.ensures.refused
    (c.in-Err-start_both.ensures.room c.args.root.now c.args.number prior admitted)))

pub returns-in-Err-start_both-clause-unspent : goal.returns-in-Err-start_both-clause-unspent
returns-in-Err-start_both-clause-unspent g c fault =
    unspent_number c.args.number c.args.start.flags.bits c.ranges.number.fits (c.in-Ok.ensures.admitted c.args.root.now).unspent

pub returns-clause-run : goal.returns-clause-run
returns-clause-run g c =
    let prior = c.in-Ok.prior in
    let taken : ℕ = number_taken (is_numbered c.args.start.flags.bits) c.args.number in
    let set = c.fresh_set-set.result in
    let one : IsAdmitted (parts c.args.root.now c.args.number g.U.Kv.rules_by (g.U.Kv.state c.check_set.new.primary) g.R.Kv.rules_by (g.R.Kv.state c.check_set.new.rollback)) c.args.start.key c.args.start.size c.args.start.flags.bits prior =
    subst (λ (k : List ℕ). IsAdmitted (parts c.args.root.now c.args.number g.U.Kv.rules_by (g.U.Kv.state c.check_set.new.primary) g.R.Kv.rules_by (g.R.Kv.state c.check_set.new.rollback)) k c.args.start.size c.args.start.flags.bits prior) c.as_slice-key.ensures.bytes (c.in-Ok.ensures.admitted c.args.root.now) in
    let above : HasMoved g.U.Kv.rules_by (g.U.Kv.state c.check_set.new.primary) (g.U.Kv.state c.start_both.new.primary) None (Some (record_set c.args.start.who c.args.start.key c.args.start.size c.args.start.flags.bits [])) =
    subst (λ (k : List ℕ). HasMoved g.U.Kv.rules_by (g.U.Kv.state c.check_set.new.primary) (g.U.Kv.state c.start_both.new.primary) None (Some (record_set c.args.start.who k c.args.start.size c.args.start.flags.bits []))) c.as_slice-key.ensures.bytes c.in-Ok-start_both.ensures.above in
    let below : HasMoved g.R.Kv.rules_by (g.R.Kv.state c.check_set.new.rollback) (g.R.Kv.state c.start_both.new.rollback) None (tag_set c.args.start.who c.args.start.key c.args.start.flags.bits []) =
    subst (λ (k : List ℕ). HasMoved g.R.Kv.rules_by (g.R.Kv.state c.check_set.new.rollback) (g.R.Kv.state c.start_both.new.rollback) None (tag_set c.args.start.who k c.args.start.flags.bits [])) c.as_slice-key.ensures.bytes c.in-Ok-start_both.ensures.below in
    let room : StartsSet (parts c.args.root.now c.args.number g.U.Kv.rules_by (g.U.Kv.state c.check_set.new.primary) g.R.Kv.rules_by (g.R.Kv.state c.check_set.new.rollback)) c.args.start.key c.args.start.size c.args.start.flags.bits (Ok tt) =
    subst (λ (k : List ℕ). StartsSet (parts c.args.root.now c.args.number g.U.Kv.rules_by (g.U.Kv.state c.check_set.new.primary) g.R.Kv.rules_by (g.R.Kv.state c.check_set.new.rollback)) k c.args.start.size c.args.start.flags.bits (Ok tt)) c.as_slice-key.ensures.bytes (c.in-Ok-start_both.ensures.room c.args.root.now c.args.number prior (c.in-Ok.ensures.admitted c.args.root.now)) in
    run_since c.args.root.now c.args.number g.U.Kv.rules_by g.R.Kv.rules_by (g.U.Kv.state c.args.primary.now) (g.U.Kv.state c.check_set.new.primary) (g.R.Kv.state c.args.rollback.now) (g.R.Kv.state c.check_set.new.rollback) c.in-Ok.ensures.above c.in-Ok.ensures.below
    (parts_in c.args.root.now taken (active_set c.args.start.who set true (is_mirrored c.args.start.flags.bits)) g.U.Kv.rules_by (g.U.Kv.state c.start_both.new.primary) g.R.Kv.rules_by (g.R.Kv.state c.start_both.new.rollback)) (answered c.args.start.who (Start c.args.start.key c.args.start.size c.args.start.flags.bits) Done)
    (subst (λ (s : PartialSet). HasRun (parts c.args.root.now c.args.number g.U.Kv.rules_by (g.U.Kv.state c.check_set.new.primary) g.R.Kv.rules_by (g.R.Kv.state c.check_set.new.rollback)) (parts_in c.args.root.now taken (active_set c.args.start.who s true (is_mirrored c.args.start.flags.bits)) g.U.Kv.rules_by (g.U.Kv.state c.start_both.new.primary) g.R.Kv.rules_by (g.R.Kv.state c.start_both.new.rollback)) (answered c.args.start.who (Start c.args.start.key c.args.start.size c.args.start.flags.bits) Done))
    (sym c.fresh_set-set.ensures.fresh)
    (set_started c.args.root.now c.args.number g.U.Kv.rules_by g.R.Kv.rules_by (g.U.Kv.state c.check_set.new.primary) (g.R.Kv.state c.check_set.new.rollback) (g.U.Kv.state c.start_both.new.primary) (g.R.Kv.state c.start_both.new.rollback) c.args.start prior one above below room set.head set.stream true (is_mirrored c.args.start.flags.bits)))

pub returns-clause-unspent : goal.returns-clause-unspent
returns-clause-unspent g c =
    unspent_number c.args.number c.args.start.flags.bits c.ranges.number.fits (c.in-Ok.ensures.admitted c.args.root.now).unspent
