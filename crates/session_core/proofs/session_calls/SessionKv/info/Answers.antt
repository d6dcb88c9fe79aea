use Rattle.std.proofs.Common.{rules}
use Rattle.session_core.proofs.CallLemmas.{kept_bits}
use Rattle.session_core.proofs.session_calls.SessionKv.info.Goals as goal

pub invariant_of-self-clause-same_bits : goal.invariant_of-self-clause-same_bits
invariant_of-self-clause-same_bits c =
    let answers = c.info.ensures 0 in
    search (rules, kept_bits, answers)

pub returns-in-Some-clause-answers : goal.returns-in-Some-clause-answers
returns-in-Some-clause-answers c who =
    let answers = c.info.ensures who in
    search (rules, answers)
