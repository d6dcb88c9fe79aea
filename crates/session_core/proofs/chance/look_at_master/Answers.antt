use Rattle.std.proofs.Common.{◌≡◌, false, rules}
use Rattle.std.specs.Prelude.{is_none}
use Rattle.session_core.proofs.SearchLemmas.{master_looked}
use Rattle.session_core.proofs.chance.look_at_master.Goals as goal

pub returns : goal.returns
returns c =
    let images = c.args.images.now in
    let there : is_none c.args.version ≡ false = search rules in
    master_looked images.before.now images.after.now images.torn.now c.args.prog c.args.area c.args.found c.look.result c.args.version there
    c.requires.master c.size_of_record-size.result c.size_of_record-size.ensures c.look.ensures
