use Rattle.std.proofs.Common.{◌≡◌, ℕ, ◌+◌, ◌*◌, ap, sym, ◌∙◌, arith}
use Rattle.cipher_core.specs.Ctr.{ctr_text, counter_block}
use Rattle.cipher_core.proofs.CtrText.{ctr_text-block}
use Rattle.cipher_core.proofs.laws.each_block_meets_its_counter.Goals as goal

pub returns : goal.returns
returns c key start n block le =
    let place : 16 * n ≡ 16 * n + 0 = omega arith in
    ap (λ (p : ℕ). ctr_text key start p block) place
    ∙ sym (ctr_text-block key start n 0 block (c.ciphers_are_blocks.ensures key (counter_block start n)) (omega (arith, le)))
