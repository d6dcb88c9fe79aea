-- What comes of two passes that were one.
use Rattle.std.proofs.Common.{◌≡◌, ℕ, ◌+◌, ◌-◌, ◌<◌, ◌≤◌, Bool, true, false, ◌&&◌, List, length, refl, sym, ◌∙◌, ap, subst, arith}
use Rattle.kv_model.specs.Orders.{Line}
use Rattle.turn_lock.specs.Passes.{HasBoth}
use Rattle.turn_lock.specs.Views.{joined}
use Rattle.turn_lock.specs.declared.view.View.{View}
use Rattle.serve_core.specs.Clients.{is_client, is_from}
use Rattle.serve_core.specs.Owning.{IsSamePass, IsSplit, Owns}
use Rattle.serve_core.proofs.OwnsLemmas.{owns_both}

-- a pass was split, and what became of both was joined
module _ (first mid own v w u : View) (who k : ℕ) (split : IsSplit first mid own who k) (both : u ≡ joined v w) where
  pub is_whole : IsSamePass mid v → IsSamePass own w → IsSamePass first u
  is_whole one other = record {
    opening = ap (λ (x : View). x.opening) both ∙ one.opening ∙ ap (λ (x : View). x.opening) split.kept;
    parts = omega (
      arith,
      split.enough,
      ap (λ (x : View). x.parts) both,
      one.parts,
      other.parts,
      ap (λ (x : View). x.parts) split.kept,
      ap (λ (x : View). x.parts) split.given,
    );
  }

  -- the client of the one, and those behind it of the other
  pub own_both : (lines : List Line) (rest made result : Bool) → HasBoth v w u → result ≡ (made && rest) → Owns (is_from (who + 1)) lines rest v → Owns (is_client own.who) lines made w
      → Owns (is_from who) lines result u
  own_both lines rest made result begins is others one =
      subst (λ (b : Bool). Owns (is_from who) lines b u) (sym is)
      (owns_both who lines rest made v w u others
      (subst (λ (k : ℕ). Owns (is_client k) lines made w) (ap (λ (x : View). x.who) split.given) one)
      (ap (λ (x : View). x.own) both) begins.0 begins.1)
