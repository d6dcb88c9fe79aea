use Rattle.std.proofs.Common.{◌≡◌, refl, arith}
use Rattle.base_core.specs.Counts.{counted}
use Rattle.tdb_mount.proofs.ReaderLemmas.{head_later, key_answered, key_read, key_refused, refusal_of_read}
use Rattle.tdb_mount.proofs.keys.DeviceKeysKeyReader.key_at.Goals as goal

pub returns-in-Err-clause-reads : goal.returns-in-Err-clause-reads
returns-in-Err-clause-reads g c =
    let reader = c.args.self.now in
    let old = g.F.Flash.state reader.flash.now in
    let new = g.F.Flash.state c.read_keyed_header_at.new.flash in
    let now = c.saturating_add-self.result in
    let rose : now ≡ counted reader.refusals = omega (arith, c.saturating_add-self.ensures) in
    record {
      read = key_refused reader.area reader.hash_bits reader.refusals now c.in-Err.error c.in-Err.ensures.reads rose
          (refusal_of_read old new reader.area reader.hash_bits reader.refusals now c.args.offset c.requires c.in-Err.error c.in-Err.ensures.counts c.in-Err.ensures.answer);
      bytes = λ keys told. tt;
    }

pub returns-in-Ok-clause-reads : goal.returns-in-Ok-clause-reads
returns-in-Ok-clause-reads g c =
    let reader = c.args.self.now in
    let old = g.F.Flash.state reader.flash.now in
    let new = g.F.Flash.state c.read_keyed_header_at.new.flash in
    record {
      read = key_answered reader.area reader.hash_bits reader.refusals tt c.in-Ok.ensures.reads c.in-Ok.ensures.counts;
      bytes = key_read old new reader.area reader.hash_bits reader.refusals reader.refusals c.args.offset c.requires c.in-Ok.keyed.header c.in-Ok.keyed.key c.in-Ok.ensures.answer;
    }

pub returns-in-Ok-clause-last : goal.returns-in-Ok-clause-last
returns-in-Ok-clause-last g c =
    head_later c.args.self.now.area c.args.offset c.in-Ok.keyed.key (record { at = c.args.offset; header = c.in-Ok.keyed.header }) c.in-Ok.ensures.reads refl c.in-Ok.ensures.answer
