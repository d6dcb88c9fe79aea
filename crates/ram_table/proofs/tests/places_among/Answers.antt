use Rattle.ram_table.proofs.LetterLemmas.{letters_can_find}
use Rattle.ram_table.proofs.tests.places_among.Goals as goal

pub place_after-requires-clause-can : goal.place_after-requires-clause-can
place_after-requires-clause-can g c = letters_can_find c.loop-other.invariant.index
