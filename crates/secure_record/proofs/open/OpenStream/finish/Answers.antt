use Rattle.std.proofs.Common.{◌≡◌, ℕ, List, length, refl, sym, ap, ◌∙◌, subst, arith}
use Rattle.std.proofs.lemmas.Bool.{false≢true}
use Rattle.std.proofs.lemmas.Slice.Eq.{bytes_eq-Decides}
use Rattle.secure_record.specs.declared.body.BodyStream.{BodyStream}
use Rattle.secure_record.specs.Sealed.{record_tag}
use Rattle.secure_record.specs.States.{OpenState}
use Rattle.secure_record.specs.Streams.{HasTaken}
use Rattle.secure_record.proofs.RecordLemmas.{unseal_right, unseal_wrong}
use Rattle.secure_record.proofs.open.OpenStream.finish.Goals as goal

pub returns-then-eq : goal.returns-then-eq
returns-then-eq c root key bytes h =
    let m = c.args.self.metadata in
    let tag : List ℕ = c.args.tag.now in
    let body = subst (λ (b : BodyStream). HasTaken b root key m bytes) (sym (ap (λ (s : OpenState). s.body) c.self.view_is)) h.body in
    let computed = c.finish-computed.ensures root key m bytes body in
    let long : length bytes ≡ m.size = omega (arith, h.body.left, c.requires) in
    let tag_long : length tag ≡ 16 = omega arith in
    let same : c.finish-computed.result ≡ tag = (bytes_eq-Decides c.finish-computed.result tag).0 (sym c.eq.ensures ∙ c.if-eq.true) in
    let right : tag ≡ record_tag root key m bytes = sym same ∙ computed in
    (computed, right, unseal_right root key m bytes tag h.metadata long tag_long right)

pub returns-else-eq : goal.returns-else-eq
returns-else-eq c root key bytes h =
    let m = c.args.self.metadata in
    let tag : List ℕ = c.args.tag.now in
    let body = subst (λ (b : BodyStream). HasTaken b root key m bytes) (sym (ap (λ (s : OpenState). s.body) c.self.view_is)) h.body in
    let computed = c.finish-computed.ensures root key m bytes body in
    let long : length bytes ≡ m.size = omega (arith, h.body.left, c.requires) in
    let tag_long : length tag ≡ 16 = omega arith in
    let wrong : tag ≡ record_tag root key m bytes → ⊥ =
    λ is. false≢true (sym c.if-eq.false ∙ c.eq.ensures ∙ (bytes_eq-Decides c.finish-computed.result tag).1 (computed ∙ sym is)) in
    (refl, wrong, unseal_wrong root key m bytes tag h.metadata long tag_long wrong)
