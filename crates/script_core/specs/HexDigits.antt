-- Words of hexadecimal digits.
use Rattle.std.specs.Prelude.{ℕ, List, [], Result, Ok, Err}
use Rattle.hex.specs.Hex.{decode_of}
use Rattle.hex.specs.declared.error.FromHexError.{FromHexError}

abbrev pub bytes_or_none : Result (List ℕ) FromHexError → List ℕ
bytes_or_none (Ok bytes) = bytes
bytes_or_none (Err e) = []

-- the bytes of a word of digits, two for each
abbrev pub decoded : List ℕ → List ℕ
decoded digits = bytes_or_none (decode_of digits)
