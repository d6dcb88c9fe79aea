-- Scripts that are drawn from a number.
use Rattle.std.specs.Prelude.{ℕ, zero, suc, ◌+◌, ◌/◌, ◌%◌, ◌^◌, ◌==◌, nat_lt, if◌then◌else◌, List, [], ◌∷◌, ◌++◌, replicate, codes}
use Rattle.std.specs.Fmt.{decimal}
use Rattle.flash_sim.specs.Patterns.{next_number}
use Rattle.kv_model.specs.declared.call.Call.{Call}
use Rattle.kv_model.specs.declared.call.Call.TheVariants as call
use Rattle.script_core.specs.declared.line.Act.TheVariants.{Do}
use Rattle.script_core.specs.declared.line.Line.{Line}

-- the draw that a number of the generator gives
abbrev pub drawn : ℕ → ℕ
drawn number = number / 2 ^ 16

-- the numbers of a line's four draws, behind this number
abbrev pub second : ℕ → ℕ
second number = next_number (next_number number)

abbrev pub third : ℕ → ℕ
third number = next_number (second number)

abbrev pub fourth : ℕ → ℕ
fourth number = next_number (third number)

-- whether the second draw asks for a set, which alone takes a fourth
abbrev pub kind_of : ℕ → ℕ
kind_of number = drawn (second number) % 8

abbrev pub number_behind : ℕ → ℕ
number_behind number = if nat_lt (kind_of number) 4 then fourth number else third number

-- half of the calls are sets, without flags
abbrev pub call_of : ℕ → List ℕ → List ℕ → Call
call_of kind key value =
    if nat_lt kind 4 then call.Set key value (record { bits = 0 })
    else (if nat_lt kind 6 then call.Get key else (if kind == 6 then call.Remove key else call.Info key))

-- one of 24 keys
abbrev pub key_of : ℕ → List ℕ
key_of draw = codes "k" ++ decimal (draw % 24)

-- the call of a line: its kind and its key, and of a set a value of fewer than 40 bytes
abbrev pub drawn_call : ℕ → ℕ → Call
drawn_call place first = call_of (kind_of first) (key_of (drawn (third first))) (replicate (drawn (fourth first) % 40) (place % 256))

-- the line of this place, behind this number
abbrev pub line_at : ℕ → ℕ → ℕ → Line
line_at clients place number = record {
  who = drawn (next_number number) % clients + 1;
  act = Do (drawn_call place number);
}

-- so many lines, from this place on
unfoldable pub lines_from : ℕ → ℕ → ℕ → ℕ → List Line
lines_from clients place number zero = []
lines_from clients place number (suc n) = line_at clients place number ∷ lines_from clients (place + 1) (number_behind number) n

-- the script of this seed
abbrev pub generated : ℕ → ℕ → ℕ → List Line
generated seed clients calls = lines_from clients 1 seed calls
