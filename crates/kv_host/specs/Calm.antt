-- A host in memory that is calm takes a file, and stays calm.
use Rattle.std.proofs.Common.{◌≡◌, ℕ, ◌+◌, ◌≤◌, List, [], length, Bool, true, false, cond, arith, inr, sym, subst}
use Rattle.std.specs.Prelude.{Result, Ok, Err, IsOk, OnOk}
use Rattle.std.specs.Ordering.{nat_cmp}
use Rattle.std.specs.Cmp.Lexicographic.{slice_cmp, nat_list_cmp_total}
use Rattle.std.specs.FinMap.{contains_key, len, insert, len-insert, len-empty}
use Rattle.kv_host.specs.MemState.{MemState, IsCalm, CanStore, called, new_state, stored}

at_most : (b : Bool) (n k : ℕ) → k ≡ cond b n (n + 1) → k ≤ n + 1
at_most true n k e = omega arith
at_most false n k e = omega arith

pub IsCalm-can : (s : MemState) (name bytes : List ℕ) (names more : ℕ) → IsCalm s (names + 1) (length bytes + more) → length name ≤ 64 → CanStore s name bytes
IsCalm-can s name bytes names more calm short = record { room = omega (arith, calm.room); short = short; place = inr (omega (arith, calm.places)) }

pub IsCalm-stored : (s : MemState) (name bytes : List ℕ) (names more : ℕ) → IsCalm s (names + 1) (length bytes + more) → IsCalm (stored s name bytes) names more
IsCalm-stored s name bytes names more calm = record {
  unlisted = calm.unlisted;
  places = let h = at_most (contains_key s.contents.files name) (len s.contents.files) (len (insert s.contents.files name bytes)) (len-insert nat_list_cmp_total s.contents.files name bytes) in omega (arith, h, calm.places);
  room = omega (arith, calm.room);
}

-- of an answer that is Ok holds what is said of Ok
pub at_ok : {T E : Type 0} (r : Result T E) (P : Type 0) → IsOk r → OnOk r P → P
at_ok (Ok x) P ok h = h
at_ok (Err e) P ok h = let wrong : false ≡ true = ok in cc

-- a call that was counted leaves it calm
pub IsCalm-called : (s mid : MemState) (names bytes : ℕ) → mid ≡ called s → IsCalm s names bytes → IsCalm mid names bytes
IsCalm-called s mid names bytes counted calm =
    subst (λ m. IsCalm m names bytes) (sym counted) (record { unlisted = calm.unlisted; places = calm.places; room = calm.room })

-- a host that stores a file when it can takes it when it is calm
pub IsCalm-takes : {T E : Type 0} (s new : MemState) (r : Result T E) (name bytes : List ℕ) (names room fewer less : ℕ) → (CanStore s name bytes → IsOk r) → OnOk r (new ≡ stored s name bytes) → IsCalm s names room → fewer + 1 ≤ names → less + length bytes ≤ room → length name ≤ 64 → IsOk r × IsCalm new fewer less
IsCalm-takes s new r name bytes names room fewer less takes after calm places fits short =
    let enough : IsCalm s (fewer + 1) (length bytes + less) = record { unlisted = calm.unlisted; places = omega (arith, calm.places, places); room = omega (arith, calm.room, fits) } in
    let ok : IsOk r = takes (IsCalm-can s name bytes fewer less enough short) in
    let stands : new ≡ stored s name bytes = at_ok r (new ≡ stored s name bytes) ok after in
    (ok, subst (λ m. IsCalm m fewer less) (sym stands) (IsCalm-stored s name bytes fewer less enough))

-- a new host with no call listed is calm
pub IsCalm-new : (failing : List ℕ) (room : ℕ) → failing ≡ [] → IsCalm (new_state failing room) 8 room
IsCalm-new failing room none = record { unlisted = none; places = omega (arith, len-empty (slice_cmp nat_cmp) (List ℕ)); room = omega arith }
