use Rattle.cipher_core.specs.Cmac.{cmac, tag_of}
use Rattle.cipher_core.proofs.laws.cmacs_have_sixteen_bytes.Goals as goal

pub returns : goal.returns
unfolding cmac tag_of
returns c key message = c.ciphers_are_blocks.ensures key _
