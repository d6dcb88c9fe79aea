use Rattle.std.proofs.Common.{ℕ, ◌+◌, ◌*◌, ◌<◌, List, [], map, get_or, ap, ◌∙◌, arith}
use Rattle.std.specs.List.{range_with_len}
use Rattle.std.proofs.lemmas.List.FromFn.{get_or-map-range_with_len}
use Rattle.kv_model.specs.Crc.{shifted_times}
use Rattle.record_core.proofs.shifts.shifted_byte.Goals as goal

pub returns : goal.returns
returns c =
    let in_rows : c.args.row < 8 = omega arith in
    let in_table : c.args.byte < 256 = omega arith in
    ap (λ (rows : List (List ℕ)). get_or (get_or rows c.args.row []) c.args.byte 0) c.shifted_bytes.ensures
    ∙ ap (λ (row : List ℕ). get_or row c.args.byte 0) (get_or-map-range_with_len (λ row. map (λ byte. shifted_times (8 * (row + 1)) byte) (range_with_len 0 256)) 0 8 c.args.row c.args.row [] in_rows (omega arith))
    ∙ get_or-map-range_with_len (λ byte. shifted_times (8 * (c.args.row + 1)) byte) 0 256 c.args.byte c.args.byte 0 in_table (omega arith)
