use Rattle.sealed_pair.proofs.RemoveLemmas.{remove_shows, reset_shows}
use Rattle.sealed_pair.proofs.laws.a_removed_key_is_absent.Goals as goal

pub returns : goal.returns
returns c = record { remove = remove_shows; reset = reset_shows }
