use Rattle.std.proofs.Common.{◌≡◌, subst, refl, rules, inr}
use Rattle.std.specs.Prelude.{None}
use Rattle.flash_sim.specs.ChipState.{ChipState}
use Rattle.session_core.specs.Backing.{chip_behind, chip_in, told_by}
use Rattle.session_core.specs.Mounting.{HasKept, HasMounted}
use Rattle.session_core.specs.Views.{primary_in}
use Rattle.session_core.proofs.MountLemmas.{leads_session}
use Rattle.session_core.proofs.SettleLemmas.{unmounted_by}
use Rattle.session_core.proofs.session.Session.mount_again.Goals as goal

pub returns-in-Ok : goal.returns-in-Ok
returns-in-Ok c =
    let self = c.args.self.now in
    let store = c.in-Ok.store in
    let same : chip_in c.chips_of-chips.result ≡ primary_in self = search rules in
    let mounted : HasMounted (primary_in self) (chip_behind store) self.hash_bits (told_by store) =
    subst (λ (x : ChipState). HasMounted x (chip_behind store) self.hash_bits (told_by store)) same c.in-Ok.ensures in
    record {
      unlikely = c.requires;
      is_mounted = refl;
      mounted = mounted;
      leads = leads_session self.hash_bits self.store self.chips (told_by store) self.same_bits mounted.fresh c.requires;
    }

pub returns-in-Err : goal.returns-in-Err
returns-in-Err c =
    let self = c.args.self.now in
    let gone : c.take.new.self ≡ None = search rules in
    let same : chip_in c.chips_of-chips.result ≡ primary_in self = search rules in
    let kept : HasKept (primary_in self) (chip_in c.in-Err.chips) =
    subst (λ (x : ChipState). HasKept x (chip_in c.in-Err.chips)) same c.in-Err.ensures in
    inr (unmounted_by self _ c.in-Err.chips gone refl refl kept c.requires)
