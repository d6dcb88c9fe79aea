use Rattle.std.proofs.Common.{◌≡◌, List, ℕ, length, sym, ap, ◌∙◌, arith}
use Rattle.std.specs.Prelude.{bit_xor}
use Rattle.std.specs.Simd.Lanes.{zip2, chunk, put_chunk}
use Rattle.std.proofs.lemmas.List.{take_all}
use Rattle.std.proofs.lemmas.Simd.{length-zip2, put_chunk_whole}
use Rattle.aes_lanes.proofs.Slicing.{block_of_bits, xor_bytes-zip2}
use Rattle.aes_lanes.proofs.ctr.combine.Goals as goal

pub returns-clause-text : goal.returns-clause-text
returns-clause-text c =
    let bytes = c.args.bytes.now in
    let pad = c.args.pad in
    let all : chunk 0 16 bytes ≡ bytes = take_all 16 bytes (omega arith) in
    let long : length bytes ≡ length pad = c.requires ∙ sym c.fits-pad.0 in
    ap (λ (xs : List ℕ). put_chunk 0 bytes (zip2 bit_xor xs pad)) all
    ∙ put_chunk_whole bytes (zip2 bit_xor bytes pad) (sym (length-zip2 bit_xor bytes pad long)) ∙ xor_bytes-zip2 bytes pad

pub returns-clause-pad : goal.returns-clause-pad
returns-clause-pad c block h = block_of_bits c.args.pad block (record { long = c.fits-pad.0; fits = c.fits-pad.1 }) h
