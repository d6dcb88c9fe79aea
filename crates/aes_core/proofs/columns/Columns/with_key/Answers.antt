use Rattle.aes_core.specs.Aes.{add_round_key}
use Rattle.aes_core.proofs.WordBytes.{to_be_bytes-⊕, four}
use Rattle.aes_core.proofs.columns.Columns.with_key.Goals as goal

pub returns : goal.returns
unfolding add_round_key
returns c = four _ _ _ _ _ _ _ _ (to_be_bytes-⊕ _ _) (to_be_bytes-⊕ _ _) (to_be_bytes-⊕ _ _) (to_be_bytes-⊕ _ _)
