use Rattle.std.proofs.Common.{ap, sym, arith, ◌∙◌}
use Rattle.secure_record.specs.declared.metadata.Metadata.{Metadata}
use Rattle.secure_record.specs.Metadata.{first_in, second_in, is_metadata}
use Rattle.secure_record.proofs.MetadataLemmas.{is_metadata-short, metadata_of-none}
use Rattle.secure_record.proofs.metadata.Metadata.read.Goals as goal

pub returns-then-head-lt20 : goal.returns-then-head-lt20
returns-then-head-lt20 c =
    sym (metadata_of-none c.args.head.now c.args.size
    (is_metadata-short (first_in c.args.head.now) c.args.head.now c.args.size (omega arith))
    (is_metadata-short (second_in c.args.head.now) c.args.head.now c.args.size (omega arith)))

pub returns-then-head-lt40 : goal.returns-then-head-lt40
returns-then-head-lt40 c =
    sym (metadata_of-none c.args.head.now c.args.size
    (ap (λ (m : Metadata). is_metadata m c.args.head.now c.args.size) (sym c.first_in-first.ensures) ∙ sym c.is_in.ensures ∙ c.if-is_in.false)
    (is_metadata-short (second_in c.args.head.now) c.args.head.now c.args.size (omega arith)))
