use Rattle.std.proofs.Common.{◌≡◌, ℕ, List, length, sym, subst, rules}
use Rattle.std.specs.FinMap as map
use Rattle.base_core.specs.Sizes.{record_size}
use Rattle.kv_tools.specs.Surveying.{StandsFor}
use Rattle.kv_tools.proofs.LiveLemmas.{key_set}
use Rattle.kv_tools.proofs.live.Live.set.Goals as goal

pub returns-clause-stands : goal.returns-clause-stands
returns-clause-stands c prog m value sized stands =
    let same : c.copied.result ≡ c.args.key.now = c.copied.ensures in
    subst (λ (k : List ℕ). StandsFor prog (record { sizes = c.insert.new.self; used = c.saturating_sub-self.result }) (map.insert m k value)) same
    (key_set prog c.args.self.now (record { sizes = c.insert.new.self; used = c.saturating_sub-self.result }) m stands c.copied.result c.args.size value c.in_ok-insert.field-0
    (subst (λ (k : List ℕ). c.args.size ≡ record_size prog (length k) (length value.bytes)) (sym same) sized)
    c.in_ok-insert.ensures.old c.in_ok-insert.ensures.updates c.in_ok-insert.ensures.len (search rules))
