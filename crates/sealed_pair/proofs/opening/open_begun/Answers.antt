use Rattle.std.proofs.Common.{◌+◌, ℕ, [], ◌++◌, drop, length-take, Result, IfErr, inl, inr, sym, ◌∙◌, ap, ap₂, arith}
use Rattle.std.specs.FinMap.{get}
use Rattle.kv_model.specs.declared.error.KvError.{KvError}
use Rattle.kv_model.specs.declared.flags.Flags.{Flags}
use Rattle.sealed_pair.specs.declared.opening.Found.{Found}
use Rattle.sealed_pair.specs.Absorbing.{source, OpensTo}
use Rattle.sealed_pair.specs.Reading.{IsUnread, part_at}
use Rattle.sealed_pair.proofs.AbsorbingLemmas.{still_plain}
use Rattle.sealed_pair.proofs.OpeningLemmas.{authentic_by, gives_in, handed, no_record_by, record_long, shows_by, unread_record}
use Rattle.sealed_pair.proofs.opening.open_begun.Goals as goal

pub returns-in_err-absorb_all-clause-shows : goal.returns-in_err-absorb_all-clause-shows
returns-in_err-absorb_all-clause-shows g c state tells head =
    let m = c.args.stream.metadata in
    let there = ap (get state.primary) c.as_slice.ensures.bytes ∙ head.there in
    let parts = c.metadata_divides_records.ensures.parts head.stored.bytes m head.head in
    let long = record_long m head.stored.bytes c.requires.fresh.opened.metadata parts in
    handed (λ (r : Result Found KvError). OpensTo c.args.root.now c.args.key.now (get state.primary c.args.key.now) r c.args.offset (c.absorb_all.new.buf ++ drop c.min-read.result c.args.buf.now)) c.from_residual.result
    c.in_err-absorb_all.field-0.0 c.from_residual.ensures.1 (inl (c.in_err-absorb_all.ensures.fails head.stored state tells there (omega (arith, long))))

pub returns-in_err-read_part-clause-shows : goal.returns-in_err-read_part-clause-shows
returns-in_err-read_part-clause-shows g c state tells head =
    let m = c.args.stream.metadata in
    let there = ap (get state.primary) c.as_slice-2.ensures.bytes ∙ head.there in
    let parts = c.metadata_divides_records.ensures.parts head.stored.bytes m head.head in
    let long = record_long m head.stored.bytes c.requires.fresh.opened.metadata parts in
    handed (λ (r : Result Found KvError). OpensTo c.args.root.now c.args.key.now (get state.primary c.args.key.now) r c.args.offset (c.absorb_all.new.buf ++ drop c.min-read.result c.args.buf.now)) c.from_residual-in_err-read_part.result
    c.in_err-read_part.field-0.0 c.from_residual-in_err-read_part.ensures.1
    (inl (c.in_err-read_part.ensures.part head.stored state (still_plain c.in_ok-absorb_all.ensures.read tells) there (omega (arith, long, c.head_size.ensures, c.size-size.ensures))))

pub returns-in_err-tag-clause-refusal : goal.returns-in_err-tag-clause-refusal
returns-in_err-tag-clause-refusal g c =
    let root = c.args.root.now in
    let key = c.args.key.now in
    let all = c.in_ok-absorb_all.ensures.absorbed in
    let ends = c.in_err-tag.ensures root key all.absorbed.bytes (all.absorbed.opened_on root key [] c.requires.fresh.opened) in
    handed (λ (r : Result Found KvError). IfErr r (IsUnread (g.K.Kv.state c.args.store.now) (g.K.Kv.state c.read_part.new.store))) c.from_residual-in_err-tag.result
    c.in_err-tag.field-0.0 c.from_residual-in_err-tag.ensures.1 (unread_record _ _ c.in_err-tag.field-0.0 ends.0)

pub returns-in_err-tag-clause-shows : goal.returns-in_err-tag-clause-shows
returns-in_err-tag-clause-shows g c state tells head =
    let root = c.args.root.now in
    let key = c.args.key.now in
    let m = c.args.stream.metadata in
    let all = c.in_ok-absorb_all.ensures.absorbed in
    let there = ap (get state.primary) c.as_slice.ensures.bytes ∙ head.there in
    let there2 = ap (get state.primary) c.as_slice-2.ensures.bytes ∙ head.there in
    let parts = c.metadata_divides_records.ensures.parts head.stored.bytes m head.head in
    let long = record_long m head.stored.bytes c.requires.fresh.opened.metadata parts in
    let read = c.in_ok-read_part.ensures.part head.stored state (still_plain c.in_ok-absorb_all.ensures.read tells) there2 (omega (arith, long, c.head_size.ensures, c.size-size.ensures))
    ∙ ap₂ (part_at head.stored.bytes) (ap₂ (λ (a b : ℕ). a + b) c.head_size.ensures c.size-size.ensures) c.read_part.auto.buf in
    let ends = c.in_err-tag.ensures root key all.absorbed.bytes (all.absorbed.opened_on root key [] c.requires.fresh.opened) in
    handed (λ (r : Result Found KvError). OpensTo root key (get state.primary key) r c.args.offset (c.absorb_all.new.buf ++ drop c.min-read.result c.args.buf.now)) c.from_residual-in_err-tag.result
    c.in_err-tag.field-0.0 c.from_residual-in_err-tag.ensures.1
    (inr (no_record_by root key (source g.K.Kv.rules_by (g.K.Kv.state c.args.store.now) c.as_slice.result.now) c.args.stream c.absorb_all.new.stream c.min-start.result c.absorb_all.new.buf
    c.requires.fresh all (get state.primary key) head parts (all.absorbed.told head.stored state tells there) c.in_err-tag.field-0.0 c.read_part.new.buf read ends))

pub returns-clause-authentic : goal.returns-clause-authentic
returns-clause-authentic g c =
    let root = c.args.root.now in
    let key = c.args.key.now in
    let all = c.in_ok-absorb_all.ensures.absorbed in
    let found : Found = record { flags = c.flags-flags.result; size = c.size-size.result; read = c.min-read.result; tag = c.in_ok-tag.tag } in
    let gives = gives_in all.values c.absorb_all.new.buf c.args.buf.now c.args.offset c.min-start.result found (c.size-size.ensures ∙ sym all.whole) c.min-start.ensures c.min-read.ensures
    (omega (arith, c.absorb_all.auto.buf, length-take c.min-read.result c.args.buf.now, c.min-read.ensures)) all.part in
    let ends = c.in_ok-tag.ensures root key all.absorbed.bytes (all.absorbed.opened_on root key [] c.requires.fresh.opened) in
    authentic_by root key (source g.K.Kv.rules_by (g.K.Kv.state c.args.store.now) c.as_slice.result.now) c.args.stream c.absorb_all.new.stream c.min-start.result c.absorb_all.new.buf
    c.requires.fresh all c.args.offset found _ c.read_part.new.buf ends (ap (λ (f : Flags). f.bits) c.flags-flags.ensures) gives

pub returns-clause-shows : goal.returns-clause-shows
returns-clause-shows g c state tells head =
    let root = c.args.root.now in
    let key = c.args.key.now in
    let m = c.args.stream.metadata in
    let all = c.in_ok-absorb_all.ensures.absorbed in
    let there = ap (get state.primary) c.as_slice.ensures.bytes ∙ head.there in
    let there2 = ap (get state.primary) c.as_slice-2.ensures.bytes ∙ head.there in
    let parts = c.metadata_divides_records.ensures.parts head.stored.bytes m head.head in
    let long = record_long m head.stored.bytes c.requires.fresh.opened.metadata parts in
    let read = c.in_ok-read_part.ensures.part head.stored state (still_plain c.in_ok-absorb_all.ensures.read tells) there2 (omega (arith, long, c.head_size.ensures, c.size-size.ensures))
    ∙ ap₂ (part_at head.stored.bytes) (ap₂ (λ (a b : ℕ). a + b) c.head_size.ensures c.size-size.ensures) c.read_part.auto.buf in
    let found : Found = record { flags = c.flags-flags.result; size = c.size-size.result; read = c.min-read.result; tag = c.in_ok-tag.tag } in
    let gives = gives_in all.values c.absorb_all.new.buf c.args.buf.now c.args.offset c.min-start.result found (c.size-size.ensures ∙ sym all.whole) c.min-start.ensures c.min-read.ensures
    (omega (arith, c.absorb_all.auto.buf, length-take c.min-read.result c.args.buf.now, c.min-read.ensures)) all.part in
    let ends = c.in_ok-tag.ensures root key all.absorbed.bytes (all.absorbed.opened_on root key [] c.requires.fresh.opened) in
    shows_by root key (source g.K.Kv.rules_by (g.K.Kv.state c.args.store.now) c.as_slice.result.now) c.args.stream c.absorb_all.new.stream c.min-start.result c.absorb_all.new.buf
    c.requires.fresh all (get state.primary key) head parts (all.absorbed.told head.stored state tells there) c.args.offset found _ c.read_part.new.buf ends read
    (ap (λ (f : Flags). f.bits) c.flags-flags.ensures) gives
