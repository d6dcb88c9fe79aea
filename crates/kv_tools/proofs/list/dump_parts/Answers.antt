use Rattle.std.proofs.Common.{◌≡◌, ℕ, ◌<◌, List, ◌++◌, length, take, sym, ◌∙◌, subst, rules}
use Rattle.std.specs.Prelude.{All}
use Rattle.std.proofs.lemmas.List.Elements.{All-push}
use Rattle.flash_core.specs.declared.geometry.Geometry.{Geometry}
use Rattle.flash_core.proofs.KeptLaws.{OnlyReads-trans}
use Rattle.ram_table.specs.declared.table.Entry.{Entry}
use Rattle.ram_table.specs.Table.{entry_at}
use Rattle.tdb_read.specs.Records.{record_at}
use Rattle.kv_tools.specs.Listing.{IsSpelled, set_line}
use Rattle.kv_tools.specs.Placing.{records_at}
use Rattle.kv_tools.proofs.ListLemmas.{more_entries, one_more}
use Rattle.kv_tools.proofs.list.dump_parts.Goals as goal

pub loop-at-preserved : goal.loop-at-preserved
loop-at-preserved g c =
    let s = g.F.Flash.state c.args.flash.now in
    let so_far = c.loop-at.invariant in
    let es : List Entry = c.args.parts.now.table.entries in
    let at : ℕ = c.loop-at.at in
    let lt : at < length es = search rules in
    let record_of = λ (image : List ℕ) (e : Entry). record_at s.geometry.prog image e.offset in
    record {
      reads = OnlyReads-trans so_far.reads c.dump_at.ensures.reads;
      text = λ image told.
          let here : c.dump_at.new.text.items ≡ c.loop-at.text.items ++ set_line (record_at s.geometry.prog image (entry_at es at).offset) =
          subst (λ (n : ℕ). c.dump_at.new.text.items ≡ c.loop-at.text.items ++ set_line (record_at s.geometry.prog image n)) c.entry-place.ensures.offset
          (subst (λ (x : Geometry). c.dump_at.new.text.items ≡ c.loop-at.text.items ++ set_line (record_at x.prog image c.entry-place.result.1)) so_far.reads.geometry
          (c.in_ok-dump_at.ensures.line image (so_far.reads.image ∙ told))) in
          one_more set_line (record_of image) es at c.loop-at.text.items c.dump_at.new.text.items lt (so_far.text image told) here;
      spells = λ image told.
          let here : IsSpelled (record_at s.geometry.prog image (entry_at es at).offset) =
          subst (λ (n : ℕ). IsSpelled (record_at s.geometry.prog image n)) c.entry-place.ensures.offset
          (subst (λ (x : Geometry). IsSpelled (record_at x.prog image c.entry-place.result.1)) so_far.reads.geometry
          (c.in_ok-dump_at.ensures.spells image (so_far.reads.image ∙ told))) in
          subst (All IsSpelled) (sym (more_entries set_line (record_of image) es at lt))
          (All-push IsSpelled (records_at s.geometry.prog image (take at es)) (record_of image (entry_at es at)) (so_far.spells image told) here);
    }
