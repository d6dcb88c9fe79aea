use Rattle.std.proofs.Common.{◌≡◌, ℕ, ◌+◌, ◌*◌, ◌%◌, ◌^◌, ap, ◌∙◌, arith}
use Rattle.std.specs.Int.{from_be_bytes, w128}
use Rattle.cipher_core.specs.Ctr.{CtrState, ctr_text}
use Rattle.cipher_core.proofs.CtrText.{ctr_text-moved}
use Rattle.cipher_core.proofs.CounterBytes.{from_be_bytes-to_be_bytes_16}
use Rattle.cipher_core.proofs.ctr.CtrStream.use_blocks.Goals as goal

pub returns-clause-text : goal.returns-clause-text
returns-clause-text c =
    let key = c.self.inside.cipher in
    let start = c.self.inside.start in
    let blocks = c.self.inside.blocks in
    let bytes = c.args.bytes.now in
    let place = ap (λ (s : CtrState). s.place) c.self.view_is in
    let first : from_be_bytes w128 c.to_be_bytes-counter.result ≡ (start + blocks) % 2 ^ 128 =
    ap (from_be_bytes w128) c.to_be_bytes-counter.ensures ∙ from_be_bytes-to_be_bytes_16 ((start + blocks) % 2 ^ 128) (omega arith) in
    let at : 16 * blocks ≡ 16 * blocks + c.self.inside.used = omega arith in
    c.ctr_blocks.ensures.text ∙ ctr_text-moved key start _ blocks bytes first
    ∙ ap (λ (p : ℕ). ctr_text key start p bytes) at
    ∙ ap (λ (s : CtrState). ctr_text s.key s.start s.place bytes) c.self.view_is
