use Rattle.std.proofs.Common.{rules}
use Rattle.session_core.proofs.store_calls.StoreKv.get.Goals as goal

pub returns-clause-answers : goal.returns-clause-answers
returns-clause-answers c who =
    let answers = c.get.ensures.answers who in
    search (rules, answers)
