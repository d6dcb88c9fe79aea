use Rattle.std.proofs.Common.{◌≡◌, ℕ, ◌-◌, ◌++◌, List, length, replicate, ◌∙◌, ap, arith, rules, Some}
use Rattle.std.specs.Prelude.{Ok}
use Rattle.flash_core.specs.Images.{part, put}
use Rattle.record_core.proofs.EndingLemmas.{handed_error}
use Rattle.area_collect.proofs.PayloadLemmas.{read_within, same_units, within_then}
use Rattle.area_collect.proofs.payload.copy_piece.Goals as goal

pub returns-in_err-program_units-clause-runs : goal.returns-in_err-program_units-clause-runs
returns-in_err-program_units-clause-runs g c =
    let n : ℕ = length c.args.units.now in
    let filled : c.fill.new.self ≡ replicate (n - c.args.read) 255 = search rules in
    let long : length (c.crc_of_piece.new.piece ++ c.fill.new.self) ≡ n = same_units c.crc_of_piece.new.piece c.fill.new.self c.args.read n (c.crc_of_piece.auto.piece ∙ c.split_at_mut-bytes.ensures.front_len) filled c.requires.read in
    handed_error c.from_residual-in_err-program_units.result c.in_err-program_units.field-0.0 c.from_residual-in_err-program_units.ensures.1
    (within_then c.args.target n c.args.target _ (omega arith) (omega (arith, long))
    (read_within c.args.target n (Ok c.in_ok-sum.sum) c.in_ok-sum.ensures.reads) c.in_err-program_units.ensures.runs)

pub returns-clause-runs : goal.returns-clause-runs
returns-clause-runs g c =
    let n : ℕ = length c.args.units.now in
    let filled : c.fill.new.self ≡ replicate (n - c.args.read) 255 = search rules in
    let long : length (c.crc_of_piece.new.piece ++ c.fill.new.self) ≡ n = same_units c.crc_of_piece.new.piece c.fill.new.self c.args.read n (c.crc_of_piece.auto.piece ∙ c.split_at_mut-bytes.ensures.front_len) filled c.requires.read in
    within_then c.args.target n c.args.target _ (omega arith) (omega (arith, long))
    (read_within c.args.target n (Ok c.in_ok-sum.sum) c.in_ok-sum.ensures.reads) c.in_ok-program_units.ensures.runs

pub returns-clause-copied : goal.returns-clause-copied
returns-clause-copied g c =
    let n : ℕ = length c.args.units.now in
    let piece : List ℕ = c.crc_of_piece.new.piece in
    let filled : c.fill.new.self ≡ replicate (n - c.args.read) 255 = search rules in
    let front : length c.split_at_mut-bytes.result.0.now ≡ c.args.read = c.split_at_mut-bytes.ensures.front_len in
    record {
      bytes = piece;
      seen = record { long = c.crc_of_piece.auto.piece ∙ front; told = λ image told. c.in_ok-sum.ensures.bytes image told ∙ ap (part image c.args.source) front };
      sum_is = c.in_ok-sum.ensures.sum;
      written = λ image told.
          c.in_ok-program_units.ensures.written image (c.in_ok-sum.ensures.reads.kept.image ∙ told)
          ∙ ap (λ (l : List ℕ). Some (put image c.args.target (piece ++ l))) filled;
    }
