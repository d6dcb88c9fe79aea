use Rattle.std.proofs.Common.{◌≡◌, ℕ, ◌+◌, ◌≤◌, ◌++◌, List, length, take, drop, refl, sym, ◌∙◌, ap, arith}
use Rattle.std.proofs.lemmas.List.{length-take-le}
use Rattle.flash_core.specs.Images.{part}
use Rattle.area_log.specs.Reading.{filled}
use Rattle.area_log.proofs.ReadLemmas.{filled_front, length-front}
use Rattle.area_log.proofs.read.read_value.Goals as goal

pub returns-clause-gives : goal.returns-clause-gives
returns-clause-gives g c =
    let buf : List ℕ = c.args.buf.now in
    let read : ℕ = c.min-read.result in
    let out : List ℕ = c.read_checked.new.out in
    let most : read ≤ length buf = omega (arith, c.min-read.ensures) in
    let long : length (take read buf) ≡ read = length-take-le read buf most in
    let key : ℕ = c.args.header.now.key_size in
    let passes = c.in_ok-read_checked.ensures.right in
    let skipped : c.min-skipped.result ≡ c.args.offset = omega (arith, c.min-skipped.ensures, c.if-offset-size.false) in
    let out_long : length out ≡ read = c.read_checked.auto.out ∙ long in
    let is : out ≡ part passes.payload (key + c.args.offset) read =
    passes.bytes
    ∙ ap (λ (k : ℕ). part passes.payload (key + k) (length out)) skipped
    ∙ ap (part passes.payload (key + c.args.offset)) out_long in
    let same : length buf ≡ length (out ++ drop read buf) = sym (length-front buf out read out_long most) in
    record {
      payload = passes.payload;
      seen = passes.seen;
      right = passes.right;
      in_value = c.if-offset-size.false;
      flags = refl;
      size = refl;
      count = omega (arith, c.min-read.ensures, skipped, same);
      bytes =
          filled_front buf out read c.requires.zeros out_long most
          ∙ ap (filled (length buf)) is
          ∙ ap (λ (n : ℕ). filled n (part passes.payload (key + c.args.offset) read)) same;
    }
