-- What follows from the definitions of a host, for its callers.
use Rattle.std.specs.Prelude.{◌≡◌, ◌≢◌, ℕ, ◌<◌, ◌≤◌, ◌⊎◌, List, ◌++◌, length, Some, IsSomeAnd, true, false, cond, refl}
use Rattle.std.proofs.Common.{sym, ◌∙◌, ap, subst, inl, inr, append_assoc, arith}
use Rattle.std.specs.Ordering.{nat_cmp, eq_by_cmp}
use Rattle.std.specs.Cmp.{Equal-is, eq_by_cmp_equiv}
use Rattle.std.specs.Cmp.Lexicographic.{slice_cmp, nat_list_cmp_total}
use Rattle.std.specs.FinMap.{get-insert, get, nat_cmp-IsAntisymmetric, slice_cmp-IsAntisymmetric}
use Rattle.kv_host.specs.declared.interface.HostFault.{HostFault}
use Rattle.kv_host.specs.declared.interface.HostFault.TheVariants.{Fault, TooLong, Absent, Memory}
use Rattle.kv_host.specs.Contents.{HostContents, file_at, with_file, with_printed}
use Rattle.base_core.specs.Counts.{Rose}
use Rattle.kv_host.specs.Refusal.{ReadRefusal}

-- a rise is seen by who looks later, and by who began earlier
-- to print twice is to print the one behind the other
pub with_printed-join : (a b : List ℕ) (c : HostContents) → with_printed b (with_printed a c) ≡ with_printed (a ++ b) c
with_printed-join a b c = ap (λ p. record { files = c.files; printed = p }) (append_assoc c.printed a b)

-- the file that was written is there, and every other file is as before
pub file_at-same : (name bytes : List ℕ) (c : HostContents) → file_at name (with_file name bytes c) ≡ Some bytes
file_at-same name bytes c =
    get-insert nat_list_cmp_total c.files name bytes name ∙ ap (λ b. cond b (Some bytes) (get c.files name)) ((eq_by_cmp_equiv nat_list_cmp_total).refl name)

pub file_at-other : (name other bytes : List ℕ) (c : HostContents) → other ≢ name → file_at other (with_file name bytes c) ≡ file_at other c
file_at-other name other bytes c ne =
    get-insert nat_list_cmp_total c.files name bytes other
    ∙ ap (λ b. cond b (Some bytes) (get c.files other))
    (elim (eq_by_cmp (slice_cmp nat_cmp) other name) as (λ b. eq_by_cmp (slice_cmp nat_cmp) other name ≡ b → b ≡ false) [
      | true ↦ λ t. absurd (ne (slice_cmp-IsAntisymmetric nat_cmp-IsAntisymmetric other name ((Equal-is (slice_cmp nat_cmp other name)).0 t)))
      | false ↦ λ t. refl
    ] refl)

not_past : (seen size limit : ℕ) → limit < seen → seen ≤ size → size ≤ limit → ⊥
not_past seen size limit a b c = omega arith

-- a file within the limit is refused only by a fault or for want of memory
pub within-refused : (c : HostContents) (name bytes : List ℕ) (limit before after : ℕ) (e : HostFault) → file_at name c ≡ Some bytes → length bytes ≤ limit → ReadRefusal (Some c) name limit before after e → ((e ≡ Fault) × Rose before after) ⊎ (e ≡ Memory)
within-refused c name bytes limit before after Fault there short why = inl (refl, why)
within-refused c name bytes limit before after (TooLong seen) there short why =
    absurd (not_past seen (length bytes) limit why.0 (subst (λ o. IsSomeAnd o (λ b. seen ≤ length b)) there why.1) short)
within-refused c name bytes limit before after Absent there short why = let e = sym there ∙ why in cc
within-refused c name bytes limit before after Memory there short why = inr refl
