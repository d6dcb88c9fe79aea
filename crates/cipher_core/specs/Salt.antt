-- Keys that are derived from a root key.
use Rattle.std.specs.Prelude.{ℕ, List, [], ◌∷◌, ◌++◌}
use Rattle.std.specs.Prelude.{codes}
use Rattle.cipher_core.specs.Cmac.{cmac}
use Rattle.cipher_core.specs.declared.derivation.Salt.{Salt}
use Rattle.cipher_core.specs.declared.derivation.Salt.TheVariants.{Enc, Auth}

-- the text that tells the cipher key from the CMAC key
abbrev pub salt_text : Salt → List ℕ
salt_text Enc = codes "ENC"
salt_text Auth = codes "AUTH"

-- the CMAC of a counter 1, the salt's text, the key that it is derived for, a separator, and the length of 128 bits
abbrev pub derived : List ℕ → Salt → List ℕ → List ℕ
derived root salt key = cmac root (0x01 ∷ (salt_text salt ++ key ++ 0x00 ∷ 0x00 ∷ 0x80 ∷ []))
