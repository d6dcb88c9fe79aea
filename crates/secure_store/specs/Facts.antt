-- That what a secure store knows of its two stores is a fact.
use Rattle.std.specs.Coded.{Coded, Coded-set, coded×, coded_bool, coded_list, coded_ℕ, coded_option, code_by}
use Rattle.std.proofs.Common.{ℕ, Bool, List, Option, Some, None, refl}
use Rattle.std.proofs.Props.{props}
use Rattle.std.specs.FinMap as map
use Rattle.kv_model.specs.FlaggedMap.{FlaggedMap, Stored}
use Rattle.kv_model.specs.StoreState.{Iterators, OpenSet, Position, StoreState}
use Rattle.kv_model.specs.Constants.{Constants}
use Rattle.kv_model.specs.Rules.{Rules}
use Rattle.kv_model.specs.Kv.{KvState}
use Rattle.cipher_core.specs.Ctr.{CtrState}
use Rattle.sealed_pair.specs.declared.active.Active.{Active}
use Rattle.sealed_pair.specs.declared.active.Begun.{Begun}
use Rattle.sealed_pair.specs.declared.active.Begun.TheVariants.{Remove, Set}
use Rattle.sealed_pair.specs.Active.{IsActive, IsBegun}
use Rattle.sealed_pair.specs.Shares.{Holds, Share, NoShare, HasSet, LacksKey}
use Rattle.sealed_pair.specs.Store.{IsPlainWhile}

pub stored_code : Coded Stored
stored_code = code_by (ℕ × List ℕ) (coded× coded_ℕ (coded_list coded_ℕ)) (λ (s : Stored). (s.flags, s.bytes)) (λ t. record { flags = t.0; bytes = t.1 }) (λ _. refl)

map_set : IsSet FlaggedMap
map_set = Coded-set (map.code (coded_list coded_ℕ) stored_code)

found_set : IsSet (Option Stored)
found_set = Coded-set (coded_option stored_code)

abbrev SetFields : Type 0
SetFields = ℕ × (List ℕ × (ℕ × (ℕ × (List ℕ × (Option (List ℕ) × Bool)))))

fields_code : Coded SetFields
fields_code = coded× coded_ℕ (coded× (coded_list coded_ℕ) (coded× coded_ℕ (coded× coded_ℕ (coded× (coded_list coded_ℕ) (coded× (coded_option (coded_list coded_ℕ)) coded_bool)))))

set_code : Coded OpenSet
set_code = code_by SetFields fields_code
    (λ (s : OpenSet). (s.owner, (s.key, (s.flags, (s.size, (s.bytes, (s.prior, s.is_remove)))))))
    (λ t. record { owner = t.0; key = t.1.0; flags = t.1.1.0; size = t.1.1.1.0; bytes = t.1.1.1.1.0; prior = t.1.1.1.1.1.0; is_remove = t.1.1.1.1.1.1 }) (λ _. refl)

open_set : IsSet (Option OpenSet)
open_set = Coded-set (coded_option set_code)

iterators_set : IsSet Iterators
iterators_set = Coded-set (map.code (coded× coded_ℕ coded_ℕ) (code_by (List ℕ × Option (List ℕ)) (coded× (coded_list coded_ℕ) (coded_option (coded_list coded_ℕ)))
    (λ (p : Position). (p.prefix, p.last)) (λ t. record { prefix = t.0; last = t.1 }) (λ _. refl)))

holds_prop : (share : Share) (state : StoreState) → IsProp (Holds share state)
holds_prop NoShare state = hlevel (open_set, props)
holds_prop (HasSet set) state = hlevel (open_set, props)
holds_prop (LacksKey key) state = hlevel (open_set, found_set, props)

pub plain_prop : {runs : Bool} {share : Share} {rules_by : Constants → Rules} {s : KvState} → IsProp (IsPlainWhile runs share rules_by s)
plain_prop = hlevel (map_set, iterators_set, holds_prop, props)

cipher_set : IsSet (Option CtrState)
cipher_set = Coded-set (coded_option (code_by (List ℕ × (ℕ × ℕ)) (coded× (coded_list coded_ℕ) (coded× coded_ℕ coded_ℕ)) (λ (s : CtrState). (s.key, (s.start, s.place)))
    (λ t. record { key = t.0; start = t.1.0; place = t.1.1 }) (λ _. refl)))

begun_prop : (root : List ℕ) (next : ℕ) (begun : Begun) → IsProp (IsBegun root next begun)
begun_prop root next (Remove key) = hlevel
begun_prop root next (Set set) = hlevel (cipher_set, props)

pub active_prop : (root : List ℕ) (next : ℕ) (active : Option Active) → IsProp (IsActive root next active)
active_prop root next None = hlevel
active_prop root next (Some active) = begun_prop root next active.begun
