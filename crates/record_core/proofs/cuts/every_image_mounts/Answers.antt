use Rattle.std.proofs.Common.{refl}
use Rattle.kv_model.specs.Write.{map_of}
use Rattle.record_core.proofs.Existence.{some_contents}
use Rattle.record_core.proofs.cuts.every_image_mounts.Goals as goal

pub returns : goal.returns
returns c = record {
  contents = λ g image valid. some_contents g valid image;
  map = λ g image valid. let held = some_contents g valid image in (map_of held.0.records, (held.0, held.1, refl));
}
