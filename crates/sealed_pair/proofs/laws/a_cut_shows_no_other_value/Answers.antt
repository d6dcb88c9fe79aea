use Rattle.sealed_pair.proofs.AnyCutLemmas.{cut_finish, cut_finish_remove, cut_remove, cut_reset, cut_set}
use Rattle.sealed_pair.proofs.laws.a_cut_shows_no_other_value.Goals as goal

pub returns-clause-set : goal.returns-clause-set
returns-clause-set c constants state who key value flags secure =
    cut_set constants state who c.sealed_records_are_opened.ensures.second secure.next_vector key value flags

pub returns-clause-finish : goal.returns-clause-finish
returns-clause-finish c constants state who set secure is ends =
    cut_finish constants state who c.sealed_records_are_opened.ensures.second secure.next_vector state.next_vector set is ends secure.open_set

pub returns-clause-remove : goal.returns-clause-remove
returns-clause-remove c = cut_remove

pub returns-clause-finish_remove : goal.returns-clause-finish_remove
returns-clause-finish_remove c = cut_finish_remove

pub returns-clause-reset : goal.returns-clause-reset
returns-clause-reset c = cut_reset
