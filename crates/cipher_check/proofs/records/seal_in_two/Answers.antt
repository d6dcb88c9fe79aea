use Rattle.std.proofs.Common.{◌≡◌, ℕ, List, [], ◌++◌, length, sym, ap, ap₂, ◌∙◌, subst}
use Rattle.secure_record.specs.declared.metadata.Metadata.{Metadata}
use Rattle.secure_record.specs.Sealed.{sealed_metadata, stored}
use Rattle.secure_record.specs.Streams.{HasSealed}
use Rattle.secure_record.proofs.BodyLemmas.{stored-empty}
use Rattle.cipher_check.proofs.records.seal_in_two.Goals as goal

pub returns : goal.returns
returns c =
    let what = c.args.what.now in
    let root : List ℕ = what.root.now in
    let key : List ℕ = what.key.now in
    let m : Metadata = sealed_metadata (length c.args.value.now) what.flags.bits what.iv what.prior in
    let text : List ℕ → List ℕ = stored root key m.flags m.vector in
    let begun = c.new-stream.ensures.sealed in
    let half = c.seal.ensures.sealed root key m [] begun in
    let all = c.seal-2.ensures.sealed root key m _ half in
    let first = c.seal.ensures.pieces root key m [] begun ∙ ap (λ (xs : List ℕ). xs ++ c.seal.new.buf) (stored-empty root key m.flags m.vector) in
    let both = c.seal-2.ensures.pieces root key m _ half ∙ ap (λ (xs : List ℕ). xs ++ c.seal-2.new.buf) first in
    let whole : text c.args.value.now ≡ c.seal.new.buf ++ c.seal-2.new.buf = ap text c.split_at_mut-front.ensures.value ∙ both in
    let head = c.head-head.ensures ∙ sym c.seal.ensures.head ∙ sym c.seal-2.ensures.head in
    ap₂ (λ (a b : List ℕ). a ++ b ++ c.finish.result) head (sym whole)
    ∙ c.finish.ensures root key what.flags.bits what.iv what.prior c.args.value.now
    (subst (HasSealed c.seal-2.new.self root key m) (sym c.split_at_mut-front.ensures.value) all)
