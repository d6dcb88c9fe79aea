use Rattle.std.proofs.Common.{List, ℕ, Ok, Result, subst, sym, ◌∙◌}
use Rattle.std.specs.FinMap.{get}
use Rattle.kv_model.specs.declared.error.KvError.{KvError}
use Rattle.sealed_pair.specs.declared.opening.Found.{Found}
use Rattle.sealed_pair.specs.Absorbing.{IsAuthentic}
use Rattle.sealed_pair.specs.View.{view_by}
use Rattle.sealed_pair.specs.Viewing.{MirrorsOr, ViewsOr}
use Rattle.sealed_pair.proofs.ViewingLemmas.{all_view, mirrored_tag, of_found}
use Rattle.sealed_pair.proofs.viewing.view_key.Goals as goal

pub returns-in-Ok-clause-views : goal.returns-in-Ok-clause-views
returns-in-Ok-clause-views g c above tells_above below tells_below =
    let mirrors = subst (λ (k : List ℕ). MirrorsOr (get below.primary k) (Ok c.in_ok-mirror.mirror)) c.as_slice-bytes.ensures.bytes (c.in_ok-mirror.ensures.mirrors below tells_below) in
    subst (λ (r : Result Found KvError). ViewsOr (view_by c.args.root.now c.args.key.now (get above.primary c.args.key.now) (get below.primary c.args.key.now)) r c.args.offset c.open_record.new.buf)
    (sym c.judge.ensures ∙ c.in-Ok.is)
    (all_view c.args.root.now c.args.key.now (get above.primary c.args.key.now) (get below.primary c.args.key.now) c.args.offset c.open_record.new.buf
    c.in_ok-found.found c.in_ok-mirror.mirror (c.in_ok-found.ensures.shows above tells_above) mirrors)

pub returns-in-Err-clause-views : goal.returns-in-Err-clause-views
returns-in-Err-clause-views g c above tells_above below tells_below =
    let mirrors = subst (λ (k : List ℕ). MirrorsOr (get below.primary k) (Ok c.in_ok-mirror.mirror)) c.as_slice-bytes.ensures.bytes (c.in_ok-mirror.ensures.mirrors below tells_below) in
    subst (λ (r : Result Found KvError). ViewsOr (view_by c.args.root.now c.args.key.now (get above.primary c.args.key.now) (get below.primary c.args.key.now)) r c.args.offset c.open_record.new.buf)
    (sym c.judge.ensures ∙ c.in-Err.is)
    (all_view c.args.root.now c.args.key.now (get above.primary c.args.key.now) (get below.primary c.args.key.now) c.args.offset c.open_record.new.buf
    c.in_ok-found.found c.in_ok-mirror.mirror (c.in_ok-found.ensures.shows above tells_above) mirrors)

pub returns-in-Ok-clause-foreign : goal.returns-in-Ok-clause-foreign
returns-in-Ok-clause-foreign g c =
    let is = sym c.judge.ensures ∙ c.in-Ok.is in
    record {
      authentic = of_found (λ (f : Found). IsAuthentic c.args.root.now c.args.key.now c.args.offset f c.open_record.new.buf)
          c.in_ok-found.found c.in_ok-mirror.mirror c.in-Ok.found is c.in_ok-found.ensures.authentic;
      mirrored = λ below tells_below mirrored.
          let mirrors = subst (λ (k : List ℕ). MirrorsOr (get below.primary k) (Ok c.in_ok-mirror.mirror)) c.as_slice-bytes.ensures.bytes (c.in_ok-mirror.ensures.mirrors below tells_below) in
          mirrored_tag c.in_ok-found.found c.in_ok-mirror.mirror c.in-Ok.found (get below.primary c.args.key.now) is mirrors mirrored;
    }
