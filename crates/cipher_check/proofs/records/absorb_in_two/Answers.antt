use Rattle.std.proofs.Common.{◌≡◌, ℕ, List, [], ◌++◌, sym, ap, ◌∙◌, subst}
use Rattle.secure_record.specs.declared.metadata.Metadata.{Metadata}
use Rattle.secure_record.specs.Sealed.{opened}
use Rattle.secure_record.specs.Streams.{HasOpened}
use Rattle.secure_record.proofs.BodyLemmas.{stored-empty}
use Rattle.cipher_check.proofs.records.absorb_in_two.Goals as goal

-- two pieces are the whole
joined : (root key : List ℕ) (m n : Metadata) (whole a b x y : List ℕ) → whole ≡ a ++ b → n ≡ m
    → opened root key m.flags m.vector a ≡ opened root key m.flags m.vector [] ++ x
    → opened root key n.flags n.vector (a ++ b) ≡ opened root key n.flags n.vector a ++ y → x ++ y ≡ opened root key m.flags m.vector whole
joined root key m n whole a b x y cut same first second =
    let first_piece = first ∙ ap (λ (xs : List ℕ). xs ++ x) (stored-empty root key m.flags m.vector) in
    let second_piece = subst (λ (k : Metadata). opened root key k.flags k.vector (a ++ b) ≡ opened root key k.flags k.vector a ++ y) same second in
    sym (ap (opened root key m.flags m.vector) cut ∙ second_piece ∙ ap (λ (xs : List ℕ). xs ++ y) first_piece)

pub returns-clause-opened : goal.returns-clause-opened
returns-clause-opened c root key begun =
    subst (HasOpened c.absorb-2.new.self root key) (sym c.split_at_mut-front.ensures.value)
    (c.absorb-2.ensures.opened root key _ (c.absorb.ensures.opened root key [] begun))

pub returns-clause-value : goal.returns-clause-value
returns-clause-value c root key begun =
    joined root key c.args.stream.now.metadata c.absorb.new.self.metadata c.args.bytes.now _ _ c.absorb.new.buf c.absorb-2.new.buf
    c.split_at_mut-front.ensures.value c.absorb.ensures.metadata (c.absorb.ensures.pieces root key [] begun)
    (c.absorb-2.ensures.pieces root key _ (c.absorb.ensures.opened root key [] begun))
