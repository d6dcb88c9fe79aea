use Rattle.std.proofs.Common.{ℕ, ◌+◌, ◌%◌, List, [], get_or, refl, sym, ◌∙◌, subst, arith}
use Rattle.std.proofs.lemmas.Bool.{not-false}
use Rattle.ram_table.specs.Find.{IsPlaceOf}
use Rattle.kv_bench.specs.Lookups.{told, HasLooked}
use Rattle.kv_bench.proofs.LookupLemmas.{one_look_more}
use Rattle.kv_bench.specs.declared.lookup.ListedKeys.{ListedKeys}
use Rattle.kv_bench.proofs.lookup.total_of.Goals as goal

pub loop-find-init : goal.loop-find-init
unfolding HasLooked
loop-find-init g c = record { keys = refl; looked = refl; most = omega arith }

pub loop-find-preserved : goal.loop-find-preserved
loop-find-preserved g c =
    let keys : List (List ℕ) = c.args.reader.now.keys.now in
    let place = c.in_ok-place.place in
    let is : IsPlaceOf 32 (told keys) c.args.table.now.entries (get_or keys (c.loop-find.find % c.args.count) []) place =
    subst (λ (r : ListedKeys). IsPlaceOf 32 (told r.keys.now) c.args.table.now.entries (get_or r.keys.now (c.loop-find.find % c.args.count) []) place) c.loop-find.invariant.keys c.in_ok-place.ensures.place in
    record {
      keys = c.place_of.ensures.keys ∙ c.loop-find.invariant.keys;
      looked = subst (λ (n : ℕ). HasLooked keys c.args.table.now.entries (c.loop-find.find + 1) (c.loop-find.total + n)) (sym c.widened-total.ensures.same)
          (one_look_more keys c.args.table.now.entries c.args.count c.loop-find.find c.loop-find.total place c.requires.count (not-false place.found c.if-not-place.false) is c.loop-find.invariant.looked);
      most = let before = c.loop-find.invariant.most in let small = c.widened-total.ensures.small in omega arith;
    }
