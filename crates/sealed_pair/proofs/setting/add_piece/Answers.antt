use Rattle.std.proofs.Common.{List, ℕ, ◌++◌, ◌≡◌, length, sym, ◌∙◌, ap, subst, arith}
use Rattle.secure_record.specs.Streams.{HasSealed}
use Rattle.secure_record.specs.Sealed.{stored}
use Rattle.sealed_pair.proofs.PieceLemmas.{may_refuse}
use Rattle.sealed_pair.proofs.SettingLemmas.{add_failed, added}
use Rattle.sealed_pair.proofs.setting.add_piece.Goals as goal

pub returns-in-Ok-clause-added : goal.returns-in-Ok-clause-added
returns-in-Ok-clause-added g c = record {
  bytes = c.seal.new.buf;
  long = c.seal.auto.buf ∙ ap length c.copy_from_slice.ensures.after;
  left = omega (arith, c.seal.ensures.left, ap length c.copy_from_slice.ensures.after);
  head = c.seal.ensures.head;
  added = λ set room. added g.K.Kv.rules_by _ _ c.args.who c.seal.new.buf set room c.in-Ok.ensures;
  sealed = λ root key m front is.
      subst (λ (l : List ℕ). HasSealed c.seal.new.self root key m (front ++ l)) c.copy_from_slice.ensures.after (c.seal.ensures.sealed root key m front is);
  pieces = λ root key m front is.
      ap (λ (l : List ℕ). stored root key m.flags m.vector (front ++ l)) (sym c.copy_from_slice.ensures.after) ∙ c.seal.ensures.pieces root key m front is;
}

pub returns-in-Err-clause-fails : goal.returns-in-Err-clause-fails
returns-in-Err-clause-fails g c set room =
    let long : length c.seal.new.buf ≡ length c.args.piece.now = c.seal.auto.buf ∙ ap length c.copy_from_slice.ensures.after in
    add_failed g.K.Kv.rules_by _ _ c.args.who c.seal.new.buf set (record { owner = room.owner; fits = omega (arith, room.fits, long) }) c.in-Err.refusal c.in-Err.ensures (g.met.K.Kv.lawful c.set_add.new.self)

pub returns-in-Err-clause-may : goal.returns-in-Err-clause-may
returns-in-Err-clause-may g c =
    may_refuse g.K.Kv.rules_by (g.K.Kv.state c.args.store.now) (g.K.Kv.state c.set_add.new.self) c.args.who c.seal.new.buf c.in-Err.refusal c.in-Err.ensures
