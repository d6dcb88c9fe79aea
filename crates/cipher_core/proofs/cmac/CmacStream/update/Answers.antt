use Rattle.std.proofs.Common.{◌≡◌, ℕ, List, ◌++◌, length, take, drop, ap, ap₂, ◌∙◌, sym, arith}
use Rattle.std.proofs.lemmas.List.{length-take, take-append-drop}
use Rattle.cipher_core.specs.Cmac.{CmacState}
use Rattle.cipher_core.proofs.Chain.{HasFed-hold, HasFed-over}
use Rattle.cipher_core.proofs.cmac.CmacStream.update.Goals as goal

cut : (xs a b : List ℕ) (n : ℕ) → a ≡ take n xs → b ≡ drop n xs → xs ≡ a ++ b
cut xs a b n front back = sym (ap₂ (λ (x y : List ℕ). x ++ y) front back ∙ take-append-drop n xs)

pub returns-then-bytes-room-clause-fed : goal.returns-then-bytes-room-clause-fed
returns-then-bytes-room-clause-fed c message fed =
    let held = ap (λ (s : CmacState). length s.part) (sym c.self.view_is) ∙ length-take c.self.inside.held c.self.inside.part in
    HasFed-hold _ _ message _ fed (omega (arith, held, c.self.told.1)) c.hold.ensures

pub returns-clause-fed : goal.returns-clause-fed
returns-clause-fed c message fed =
    let held = ap (λ (s : CmacState). length s.part) (sym c.self.view_is) ∙ length-take c.self.inside.held c.self.inside.part in
    let told = c.self.told.1 in
    HasFed-over _ _ _ _ _ message _ c.split_at.result.0.now c.split_at.result.1.now c.split_at-2.result.0.now c.split_at-2.result.1.now _ fed
    (cut _ _ _ _ c.split_at.ensures.front c.split_at.ensures.back) (cut _ _ _ _ c.split_at-2.ensures.front c.split_at-2.ensures.back)
    (omega arith) (omega arith) (omega arith) (omega arith)
    c.hold-2.ensures c.absorb_part.ensures c.absorb_whole.ensures c.hold-3.ensures
