use Rattle.sealed_pair.proofs.ProtectedLemmas.{refused_where_protected}
use Rattle.sealed_pair.proofs.laws.write_once_keys_are_refused.Goals as goal

pub returns : goal.returns
returns c = refused_where_protected
