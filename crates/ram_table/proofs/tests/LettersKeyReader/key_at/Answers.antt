use Rattle.std.proofs.Common.{◌≡◌, ℕ, List, sym, ◌∙◌, ap, subst, refl}
use Rattle.std.specs.Prelude.{Some}
use Rattle.std.specs.FinMap.{get}
use Rattle.std.proofs.lemmas.Option.{same_Some}
use Rattle.ram_table.specs.Letters.{letters, letters_state}
use Rattle.ram_table.specs.Reader.{KeyMap}
use Rattle.ram_table.proofs.LetterLemmas.{key_of_letter}
use Rattle.ram_table.proofs.ReaderLemmas.{CountsStand-refl, Keeps-refl, all_answered}
use Rattle.ram_table.proofs.tests.LettersKeyReader.key_at.Goals as goal

pub returns-clause-reads : goal.returns-clause-reads
returns-clause-reads c =
    let here : get letters c.args.offset ≡ Some c.letter_key.result =
    key_of_letter c.args.offset (c.requires.has letters refl) ∙ ap (λ (key : List ℕ). Some key) (sym c.letter_key.ensures) in
    record {
      read = all_answered tt (Keeps-refl (letters_state c.args.self.now.hash_bits)) (CountsStand-refl (letters_state c.args.self.now.hash_bits));
      bytes = λ keys told. subst (λ (map : KeyMap). get map c.args.offset ≡ Some c.letter_key.result) (same_Some letters keys told) here;
    }
