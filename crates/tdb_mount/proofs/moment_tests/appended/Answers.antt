use Rattle.std.proofs.Common.{◌≡◌, ℕ, ◌+◌, ◌-◌, ◌<◌, ◌≤◌, List, length, true, sym, ◌∙◌, ap, rules}
use native.Mathlib.Omega.{arith}
use Rattle.base_core.specs.Sizes.{record_size}
use Rattle.flash_core.specs.declared.geometry.Geometry.{Geometry}
use Rattle.tdb_mount.proofs.moment_tests.appended.Goals as goal

pub append_record-answer-requires-clause-erased : goal.append_record-answer-requires-clause-erased
append_record-answer-requires-clause-erased g c image told i from to =
    let read = c.in_ok-is_erased.ensures.reads in
    let yes : c.in_ok-is_erased.is_erased ≡ true = search rules in
    let tail = (c.in_ok-is_erased.ensures.erased image (sym read.kept.image ∙ told)).0 yes in
    let low : c.size_of_record-size.result ≤ 216 = search rules in
    let key : length c.in_ok-key.key ≡ 1 = ap length c.in_ok-key.ensures.bytes in
    let size : record_size 8 (length c.in_ok-key.key) 2 ≡ c.size_of_record-size.result = ap (λ (n : ℕ). record_size 8 n 2) key ∙ sym c.size_of_record-size.ensures in
    tail i from (omega (arith, size, low, to, ap (λ (x : Geometry). record_size x.prog (length c.in_ok-key.key) 2) read.kept.geometry, ap (λ (x : Geometry). record_size x.prog (length c.in_ok-key.key) 2) c.in_ok-flash.ensures.geometry_is))
