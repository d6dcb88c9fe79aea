use Rattle.ram_table.proofs.PlaceLemmas.{first_where_absent, first_where_present}
use Rattle.ram_table.proofs.table.RamTable.first_after.Goals as goal

pub returns-then-place-clause-first : goal.returns-then-place-clause-first
returns-then-place-clause-first g c keys told =
    first_where_present (g.R.KeyReader.state c.args.reader.now).hash_bits keys c.args.self.now.entries c.args.key.now
    (c.requires.can.index keys told) c.in_ok-place.place c.if-place.true (c.in_ok-place.ensures.place keys told)

pub returns-clause-first : goal.returns-clause-first
returns-clause-first g c keys told =
    first_where_absent (g.R.KeyReader.state c.args.reader.now).hash_bits keys c.args.self.now.entries c.args.key.now
    (c.requires.can.index keys told) c.in_ok-place.place c.if-place.false (c.in_ok-place.ensures.place keys told)
