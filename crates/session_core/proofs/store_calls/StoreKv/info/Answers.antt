use Rattle.std.proofs.Common.{rules}
use Rattle.session_core.proofs.store_calls.StoreKv.info.Goals as goal

pub returns : goal.returns
returns c who =
    let answers = c.info.ensures who in
    search (rules, answers)
