-- Entries of a history of one run as events.
use Rattle.std.proofs.Common.{◌≡◌, ℕ, arith, Option, Some, None, MatchOption, refl}
use Rattle.std.specs.List.{Contains}
use Rattle.kv_model.specs.declared.call.Reply.{Reply}
use Rattle.kv_model.specs.declared.call.Reply.TheVariants.{Done}
use Rattle.kv_model.specs.declared.call.Entry.{Entry}
use Rattle.kv_model.specs.Constants.{Constants}
use Rattle.kv_model.specs.History.{Follows as FollowsBy}
use Rattle.kv_model.specs.Operations.{Operation, operation_of}
use Rattle.kv_model.specs.Rules.{Mounts, Steps, cuts, mounted}
use Rattle.kv_model.specs.StoreState.{Doubt, Maps, StoreState, maps_of}
use Rattle.sealed_pair.specs.Heal.{heal}
use Rattle.sealed_pair.specs.Limits.{IsSecure}
use Rattle.sealed_pair.specs.Sealing.{secure_of}
use Rattle.sealed_pair.specs.SecureStep.{secure_rules}
use Rattle.fresh_numbers.specs.Histories.{Began, Called, HasEvent}

module _ (constants : Constants) (old new : StoreState) (within : IsSecure old) where
  -- the maps that a mount found
  record HasFound (doubt : Option Doubt) : Type 0 where
    maps : Maps
    finds : MatchOption doubt (maps ≡ maps_of old) (λ (d : Doubt). Contains (cuts (secure_rules constants) old d.who d.operation) maps)
    is : new ≡ mounted old (heal (secure_of constants) maps)

  found : (doubt : Option Doubt) → MatchOption doubt (new ≡ mounted old (heal (secure_of constants) (maps_of old)))
      (λ d. (maps : Maps) × Contains (cuts (secure_rules constants) old d.who d.operation) maps × (new ≡ mounted old (heal (secure_of constants) maps)))
      → HasFound doubt
  found None is = record { maps = maps_of old; finds = refl; is = is }
  found (Some d) (maps, cut, is) = record { maps = maps; finds = cut; is = is }

  of_mount : Mounts (secure_rules constants) old new → HasEvent constants old new
  of_mount mounts =
      let f = found old.doubt mounts in
      record {
        event = Began f.maps old.next_vector;
        follows = record { finds = f.finds; fresh = omega arith; fits = within.next_vector; begun_so = f.is };
      }

  by_call : (who : ℕ) (reply : Reply) (asks : Option Operation) → MatchOption asks ((reply ≡ Done) × Mounts (secure_rules constants) old new)
      (λ operation. Steps (secure_rules constants) old who operation (record { state = new; reply = reply })) → HasEvent constants old new
  by_call who reply None follows = of_mount follows.1
  by_call who reply (Some operation) follows = record { event = Called who operation reply; follows = follows }

pub entry_is_event : (constants : Constants) (old new : StoreState) (entry : Entry) → IsSecure old → FollowsBy (secure_rules constants) old entry new → HasEvent constants old new
entry_is_event constants old new entry within follows = by_call constants old new within entry.who entry.reply (operation_of entry.call) follows
