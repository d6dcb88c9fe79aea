use Rattle.std.proofs.Common.{◌≡◌, ℕ, List, subst, rules}
use Rattle.record_core.specs.Mounts.{Mounts}
use Rattle.session_core.specs.Views.{primary_in}
use Rattle.session_core.proofs.MountLemmas.{told_log, told_map}
use Rattle.session_core.proofs.session.Session.images.Goals as goal

pub returns-clause-told : goal.returns-clause-told
returns-clause-told c m mounts =
    let self = c.args.self.now in
    let same : c.image.result.now ≡ (primary_in self).image = search rules in
    told_map self.hash_bits self.store self.chips m (subst (λ (l : List ℕ). Mounts (primary_in self).geometry l m) same mounts)

pub returns-clause-log : goal.returns-clause-log
returns-clause-log c = let self = c.args.self.now in told_log self.hash_bits self.store self.chips
