use Rattle.std.proofs.Common.{◌≡◌, true, arith}
use Rattle.kv_model.specs.Keys.{is_prefix}
use Rattle.kv_iters.proofs.SlotLemmas.{start_refused_full, start_granted}
use Rattle.kv_iters.proofs.named.place_for.Goals as goal

pub returns-in-Err-clause-refused : goal.returns-in-Err-clause-refused
returns-in-Err-clause-refused c =
    let good : is_prefix c.args.prefix.now ≡ true = cc in
    start_refused_full c.args.slots.now c.args.who c.args.n c.args.prefix.now c.requires good c.in-Err.ensures.absent (omega arith)

pub returns-in-Err-2-clause-granted : goal.returns-in-Err-2-clause-granted
returns-in-Err-2-clause-granted c =
    let good : is_prefix c.args.prefix.now ≡ true = cc in
    start_granted c.args.slots.now c.args.who c.args.n c.args.prefix.now c.requires good c.in-Err-2.ensures.absent (omega arith)
