-- What each kernel computes over its buffer.
use Rattle.std.specs.Prelude.{ℕ, zero, suc, ◌*◌, List, [], ◌++◌, length, codes}
use Rattle.std.specs.Int.{from_be_bytes, to_be_bytes, w128}
use Rattle.cipher_core.specs.Ctr.{CtrState, advanced, text_from}
use Rattle.cipher_core.specs.Cmac.{cmac}
use Rattle.kv_model.specs.Crc.{crc_of}
use Rattle.kv_bench.specs.declared.kernels.Kernel.{Kernel}
use Rattle.kv_bench.specs.declared.kernels.Kernel.TheVariants.{Ctr, Cmac, Crc}
use Rattle.kv_bench.specs.declared.kernels.TheConstants.{KEY, START}

abbrev pub name_of : Kernel → List ℕ
name_of Ctr = codes "ctr"
name_of Cmac = codes "cmac"
name_of Crc = codes "crc"

-- the bytes so many times, one after another
unfoldable pub repeated : List ℕ → ℕ → List ℕ
repeated bytes zero = []
repeated bytes (suc n) = repeated bytes n ++ bytes

-- a buffer after so many passes of one stream over it
unfoldable pub passed : CtrState → List ℕ → ℕ → List ℕ
passed s buffer zero = buffer
passed s buffer (suc n) = text_from (advanced s (n * length buffer)) (passed s buffer n)

abbrev pub first_state : CtrState
first_state = record { key = KEY; start = from_be_bytes w128 START; place = 0 }

abbrev pub checksum_of : Kernel → List ℕ → ℕ → List ℕ
checksum_of Ctr buffer rounds = cmac KEY (passed first_state buffer rounds)
checksum_of Cmac buffer rounds = cmac KEY (repeated buffer rounds)
checksum_of Crc buffer rounds = to_be_bytes w128 (crc_of (repeated buffer rounds))
