use Rattle.std.proofs.Common.{◌≡◌, ◌∙◌, ℕ, List, ◌++◌, length, drop, take, ap, refl, subst, sym}
use Rattle.std.specs.Prelude.{◌==◌}
use Rattle.std.proofs.lemmas.List.{take_at}
use Rattle.flash_core.specs.Runs.{Ending, Done}
use Rattle.kv_model.specs.Crc.{key_hash}
use Rattle.kv_model.specs.Flags.{remove_flags}
use Rattle.kv_model.specs.Write.{applied}
use Rattle.kv_model.specs.declared.error.KvError.{KvError}
use Rattle.record_core.specs.Endings.{kv_ending}
use Rattle.inc_set.specs.declared.open_set.OpenSet.{OpenSet as Writer}
use Rattle.inc_set.specs.Sets.{Appended, Holds, record_of}
use Rattle.tdb_read.specs.Views.{LogPart, view_of}
use Rattle.tdb_write.specs.Changes.{Changes}
use Rattle.tdb_write.specs.Writing.{IsAppended}
use Rattle.tdb_write.proofs.AppendLemmas.{longer, seal_changes, seal_failed}
use Rattle.tdb_write.proofs.FeedLemmas.{view}
use Rattle.tdb_write.proofs.JoinLemmas.{handed_fault}
use Rattle.tdb_write.proofs.StayLemmas.{with_tail}
use Rattle.tdb_write.proofs.writing.seal.Goals as goal

pub returns-in_err-log-clause-changes : goal.returns-in_err-log-clause-changes
returns-in_err-log-clause-changes g c bytes writing =
    let s = g.F.Flash.state c.args.log.now.flash in
    let t = g.F.Flash.state c.seal.new.flash in
    let log = (view_of g.F.Flash.state c.args.log.now).log in
    let set = c.args.set.now in
    let held : Holds s.geometry s.image c.deref_mut.result.now set bytes = subst (λ (u : List ℕ). Holds s.geometry s.image u set bytes) (sym c.deref_mut.ensures.value) writing.holds in
    let unit = c.args.log.now.unit in
    let later : LogPart = with_tail log log.is_clean (take unit.len (c.seal.new.rest ++ drop (length c.seal.new.rest) unit.items)) in
    handed_fault (λ (ending : Ending). Changes (view s log) (view t later) (applied (record_of set bytes)) (IsAppended (record_of set bytes)) ending) c.from_residual.result c.in_err-log.field-0.0 c.from_residual.ensures.1 c.in_err-log.ensures.fault
    (seal_failed s t log set bytes (g.met.F.Flash.lawful c.args.log.now.flash) c.requires.ready writing c.requires.whole later refl refl
    (subst (λ (e : KvError). Appended s t set bytes (kv_ending e)) c.in_err-log.ensures.fault (c.in_err-log.ensures.appends bytes held)))

pub returns-clause-changes : goal.returns-clause-changes
returns-clause-changes g c bytes writing =
    let s = g.F.Flash.state c.args.log.now.flash in
    let t = g.F.Flash.state c.seal.new.flash in
    let log = (view_of g.F.Flash.state c.args.log.now).log in
    let set = c.args.set.now in
    let unit = c.args.log.now.unit in
    let rest = c.seal.new.rest in
    let done = c.in_ok-log.ensures in
    let held : Holds s.geometry s.image c.deref_mut.result.now set bytes = subst (λ (u : List ℕ). Holds s.geometry s.image u set bytes) (sym c.deref_mut.ensures.value) writing.holds in
    let same = take_at rest (drop (length rest) unit.items) unit.len (done.len ∙ c.deref_mut.ensures.len) in
    let hash : c.hash_of-hash.result ≡ key_hash log.hash_bits set.key = c.hash_of-hash.ensures ∙ ap (key_hash log.hash_bits) (c.key.ensures ∙ ap (λ (w : Writer). w.key) done.set) in
    let removes : (c.flags.result == remove_flags) ≡ (set.flags == remove_flags) = ap (λ (n : ℕ). n == remove_flags) (c.flags.ensures ∙ ap (λ (w : Writer). w.flags) done.set) in
    subst (λ (u : List ℕ). Changes (view s log) (view t (longer log c.in_ok-log.field-0 c.take_in.new.self u)) (applied (record_of set bytes)) (IsAppended (record_of set bytes)) Done) (sym same)
    (seal_changes s t log set bytes (g.met.F.Flash.lawful c.args.log.now.flash) c.requires.ready writing c.requires.whole (done.appends bytes held) c.args.place c.requires.found c.requires.room
    c.hash_of-hash.result hash (c.flags.result == remove_flags) removes c.take_in.new.self c.take_in.ensures.entries c.in_ok-log.field-0 done.end rest (done.len ∙ ap length c.deref_mut.ensures.value ∙ c.requires.ready.safe.unit))
