use Rattle.std.proofs.Common.{◌≡◌, List, false, map, rules}
use Rattle.std.specs.Rc.{rc_str_bytes}
use Rattle.command_words.specs.Commands.{Session, fits_mode}
use Rattle.command_words.specs.Items.{Item, items_of, session_options}
use Rattle.command_words.specs.Shown.{names_in}
use Rattle.command_words.proofs.MeaningLemmas.{IsSaid, unfit}
use Rattle.command_words.proofs.session.read_session.Goals as goal

pub returns-then-not-fits_mode : goal.returns-then-not-fits_mode
returns-then-not-fits_mode c =
    let items : List Item = items_of session_options (map rc_str_bytes c.args.words.now) in
    let s : Session = record {
      names = names_in c.in_ok-names_of.field-0;
      geometry = c.in_ok-geometry_of.field-0;
      rollback_geometry = c.in_ok-geometry_of-2.field-0;
      root_key = c.in_ok-root_key_of.field-0;
      first_vector = c.in_ok-vector_of.field-0;
      hash_bits = c.in_ok-hash_bits_of.field-0;
      cut = c.in_ok-cut_of.field-0;
      secure = c.in_ok-is_given.field-0;
      by_client = c.in_ok-is_given-2.field-0;
    } in
    let told : IsSaid items s = record {
      names = search rules;
      geometry = search rules;
      rollback_geometry = search rules;
      root_key = search rules;
      first_vector = search rules;
      hash_bits = search rules;
      cut = search rules;
      secure = search rules;
      by_client = search rules;
    } in
    let breaks : fits_mode s ≡ false = search rules in
    unfit items s told breaks
