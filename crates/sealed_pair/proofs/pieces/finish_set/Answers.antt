use Rattle.std.proofs.Common.{rules, ◌≡◌, ◌<◌, [], true, false}
use Rattle.kv_model.specs.Flags.{is_mirrored}
use Rattle.kv_model.specs.Given.{done_or}
use Rattle.sealed_pair.proofs.PieceFinishLemmas.{finished_alone, finished_both, given_up, half_finished, not_finished, record_stopped, tag_refused, value_whole}
use Rattle.sealed_pair.proofs.pieces.finish_set.Goals as goal

pub returns-then-set-gt0 : goal.returns-then-set-gt0
returns-then-set-gt0 g c root next above below sealing =
    let some : 0 < c.args.set.left = search rules in
    given_up root next g.U.Kv.rules_by g.R.Kv.rules_by (g.U.Kv.state c.args.primary.now) (g.R.Kv.state c.args.rollback.now) c.args.who c.args.set sealing above below (g.U.Kv.state c.set_abort.new.self) (g.R.Kv.state c.abort_tag.new.rollback) some (done_or c.set_abort.result) c.set_abort.ensures (c.abort_tag.ensures c.args.set.key [])

pub returns-in-Err : goal.returns-in-Err
returns-in-Err g c root next above below sealing =
    let none : c.args.set.left ≡ 0 = search rules in
    let whole = value_whole root next c.args.set sealing none in
    record_stopped root next g.U.Kv.rules_by g.R.Kv.rules_by (g.U.Kv.state c.args.primary.now) (g.R.Kv.state c.args.rollback.now) c.args.who c.args.set sealing above below whole (g.U.Kv.state c.end_record.new.store) (g.R.Kv.state c.abort_tag-in-Err.new.rollback) c.in-Err.refusal c.in-Err.ensures.fails
    (c.abort_tag-in-Err.ensures c.args.set.key []) (g.met.R.Kv.lawful c.abort_tag-in-Err.new.rollback)

pub returns-in-Err-set_finish : goal.returns-in-Err-set_finish
returns-in-Err-set_finish g c root next above below sealing =
    let none : c.args.set.left ≡ 0 = search rules in
    let whole = value_whole root next c.args.set sealing none in
    let ended = c.in-Ok.ensures.ended in
    not_finished root next g.U.Kv.rules_by g.R.Kv.rules_by (g.U.Kv.state c.args.primary.now) (g.R.Kv.state c.args.rollback.now) c.args.who c.args.set sealing above below whole (g.U.Kv.state c.end_record.new.store) c.in-Ok.tag ended (g.U.Kv.state c.set_finish.new.self) (g.R.Kv.state c.abort_tag-in-Err-set_finish.new.rollback) (c.abort_tag-in-Err-set_finish.ensures c.args.set.key [])
    (g.met.U.Kv.lawful c.set_finish.new.self) (g.met.R.Kv.lawful c.abort_tag-in-Err-set_finish.new.rollback) c.in-Err-set_finish.refusal c.in-Err-set_finish.ensures

pub returns-then-not-is_mirrored : goal.returns-then-not-is_mirrored
returns-then-not-is_mirrored g c root next above below sealing =
    let none : c.args.set.left ≡ 0 = search rules in
    let whole = value_whole root next c.args.set sealing none in
    let ended = c.in-Ok.ensures.ended in
    let plain : is_mirrored c.args.set.flags.bits ≡ false = search rules in
    finished_alone root next g.U.Kv.rules_by g.R.Kv.rules_by (g.U.Kv.state c.args.primary.now) (g.R.Kv.state c.args.rollback.now) c.args.who c.args.set sealing above below whole (g.U.Kv.state c.end_record.new.store) c.in-Ok.tag ended (g.U.Kv.state c.set_finish.new.self) c.in-Ok-set_finish.ensures plain

pub returns-in-Err-set_add : goal.returns-in-Err-set_add
returns-in-Err-set_add g c root next above below sealing =
    let none : c.args.set.left ≡ 0 = search rules in
    let whole = value_whole root next c.args.set sealing none in
    let ended = c.in-Ok.ensures.ended in
    let mirrored : is_mirrored c.args.set.flags.bits ≡ true = search rules in
    tag_refused root next g.U.Kv.rules_by g.R.Kv.rules_by (g.U.Kv.state c.args.primary.now) (g.R.Kv.state c.args.rollback.now) c.args.who c.args.set sealing above below whole (g.U.Kv.state c.end_record.new.store) c.in-Ok.tag ended (g.U.Kv.state c.set_finish.new.self) c.in-Ok-set_finish.ensures mirrored (g.R.Kv.state c.set_add.new.self)
    (g.met.U.Kv.lawful c.set_finish.new.self) (g.met.R.Kv.lawful c.set_add.new.self) c.in-Err-set_add.refusal c.in-Err-set_add.ensures

pub returns-in-Ok-set_finish-2 : goal.returns-in-Ok-set_finish-2
returns-in-Ok-set_finish-2 g c root next above below sealing =
    let none : c.args.set.left ≡ 0 = search rules in
    let whole = value_whole root next c.args.set sealing none in
    let ended = c.in-Ok.ensures.ended in
    let mirrored : is_mirrored c.args.set.flags.bits ≡ true = search rules in
    finished_both root next g.U.Kv.rules_by g.R.Kv.rules_by (g.U.Kv.state c.args.primary.now) (g.R.Kv.state c.args.rollback.now) c.args.who c.args.set sealing above below whole (g.U.Kv.state c.end_record.new.store) c.in-Ok.tag ended (g.U.Kv.state c.set_finish.new.self) c.in-Ok-set_finish.ensures mirrored (g.R.Kv.state c.set_add.new.self) c.in-Ok-set_add.ensures
    (g.R.Kv.state c.set_finish-2.new.self) c.in-Ok-set_finish-2.ensures

pub returns-in-Err-set_finish-2 : goal.returns-in-Err-set_finish-2
returns-in-Err-set_finish-2 g c root next above below sealing =
    let none : c.args.set.left ≡ 0 = search rules in
    let whole = value_whole root next c.args.set sealing none in
    let ended = c.in-Ok.ensures.ended in
    let mirrored : is_mirrored c.args.set.flags.bits ≡ true = search rules in
    half_finished root next g.U.Kv.rules_by g.R.Kv.rules_by (g.U.Kv.state c.args.primary.now) (g.R.Kv.state c.args.rollback.now) c.args.who c.args.set sealing above below whole (g.U.Kv.state c.end_record.new.store) c.in-Ok.tag ended (g.U.Kv.state c.set_finish.new.self) c.in-Ok-set_finish.ensures mirrored (g.R.Kv.state c.set_add.new.self) c.in-Ok-set_add.ensures
    (g.R.Kv.state c.set_finish-2.new.self) (g.met.U.Kv.lawful c.set_finish.new.self) (g.met.R.Kv.lawful c.set_finish-2.new.self) c.in-Err-set_finish-2.refusal c.in-Err-set_finish-2.ensures
