use Rattle.sealed_pair.proofs.SetLemmas.{set_shows, finish_shows}
use Rattle.sealed_pair.proofs.laws.a_set_is_shown.Goals as goal

pub returns-clause-set : goal.returns-clause-set
returns-clause-set c constants state who key value flags secure done =
    set_shows c.sealed_records_are_opened.ensures.second constants state secure.next_vector who key value flags done

pub returns-clause-finish : goal.returns-clause-finish
returns-clause-finish c constants state who set secure is ends done =
    finish_shows c.sealed_records_are_opened.ensures.second constants state secure.next_vector state.next_vector who set secure.open_set is ends done
