use Rattle.std.proofs.Common.{◌≡◌, ℕ, ◌+◌, ◌*◌, ◌≤◌, ◌%◌, List, length, replicate, refl, sym, ◌∙◌, ap, subst, arith}
use Rattle.flash_core.specs.declared.geometry.Geometry.{Geometry}
use Rattle.flash_core.specs.Images.{IsErased}
use Rattle.std.specs.Prelude.{Some}
use Rattle.flash_core.specs.State.{FlashState}
use Rattle.flash_core.proofs.ImageLaws.{IsErased-replicate}
use Rattle.base_core.specs.Sizes.{record_size}
use Rattle.record_core.specs.declared.writer_tests.TheConstants.{SMALL}
use Rattle.record_core.specs.Written.{CanWrite}
use Rattle.std.proofs.lemmas.Option.{same_Some}
use Rattle.record_core.proofs.writer_tests.write_at_40.Goals as goal

-- a range of an erased device
can_write : (s : FlashState) (n : ℕ) → s.geometry ≡ SMALL → s.image ≡ Some (replicate 512 255) → n ≤ 472 → CanWrite s 40 n
can_write s n geometry_is image_is small =
    let fits : 40 + n ≤ 512 = omega arith in
    record {
      aligned = subst (λ (x : Geometry). 40 % x.prog ≡ 0) (sym geometry_is) refl;
      inside = subst (λ (x : Geometry). 40 + n ≤ 2 * x.units_per_area * x.erase) (sym geometry_is) fits;
      erased = λ image told. subst (λ (l : List ℕ). IsErased l 40 n) (same_Some _ image (sym image_is ∙ told)) (IsErased-replicate 512 40 n fits);
    }

pub write_record-requires-clause-can : goal.write_record-requires-clause-can
write_record-requires-clause-can g c =
    let device = c.args.flash.now in
    let prog : device.geometry.prog ≡ 8 = ap (λ (x : Geometry). x.prog) c.requires.geometry in
    let key : c.from.result ≡ length c.in_ok-key.key = c.from.ensures ∙ ap length c.as_slice.ensures.bytes in
    let size : record_size device.geometry.prog (length c.in_ok-key.key) (length c.args.value.now) ≡ c.size_of_record-size.result =
    ap (λ (p : ℕ). record_size p (length c.in_ok-key.key) (length c.args.value.now)) prog
    ∙ sym (c.size_of_record-size.ensures ∙ ap (λ (k : ℕ). record_size 8 k (length c.args.value.now)) key) in
    can_write _ _ c.requires.geometry c.requires.erased (omega (arith, size))
