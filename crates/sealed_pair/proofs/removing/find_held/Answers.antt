use Rattle.std.proofs.Common.{rules, ◌≡◌, true, false}
use Rattle.std.specs.Prelude.{◌&&◌, ◌||◌, is_none}
use Rattle.kv_model.specs.Keys.{is_key}
use Rattle.sealed_pair.specs.Removing.{is_once}
use Rattle.sealed_pair.proofs.HeldLemmas.{held_as, remove_absent, remove_bad, remove_protected, remove_unread_above, remove_unread_below}
use Rattle.sealed_pair.proofs.removing.find_held.Goals as goal

pub returns-then-not-is_key-clause-refusal : goal.returns-then-not-is_key-clause-refusal
returns-then-not-is_key-clause-refusal g c how who root number =
    let bad : is_key c.args.key.now ≡ false = search rules in
    remove_bad c.args.key.now who how root number g.U.Kv.rules_by g.R.Kv.rules_by (g.U.Kv.state c.args.primary.now) (g.U.Kv.state c.args.primary.now)
    (g.R.Kv.state c.args.rollback.now) (g.R.Kv.state c.args.rollback.now) bad

pub returns-in-Err-clause-refusal : goal.returns-in-Err-clause-refusal
returns-in-Err-clause-refusal g c how who root number =
    let good : is_key c.args.key.now ≡ true = search rules in
    remove_unread_above c.args.key.now who how root number g.U.Kv.rules_by g.R.Kv.rules_by (g.U.Kv.state c.args.primary.now) (g.U.Kv.state c.flags_of.new.store)
    (g.R.Kv.state c.args.rollback.now) (g.R.Kv.state c.args.rollback.now) good c.in-Err.ensures.read c.in-Err.refusal c.in-Err.ensures.refusal c.in-Err.ensures.holds

pub returns-in-Err-flags_of-clause-refusal : goal.returns-in-Err-flags_of-clause-refusal
returns-in-Err-flags_of-clause-refusal g c how who root number =
    let good : is_key c.args.key.now ≡ true = search rules in
    remove_unread_below c.args.key.now who how root number g.U.Kv.rules_by g.R.Kv.rules_by (g.U.Kv.state c.args.primary.now) (g.U.Kv.state c.flags_of.new.store)
    (g.R.Kv.state c.args.rollback.now) (g.R.Kv.state c.flags_of-2.new.store) good c.in-Ok.ensures.read c.in-Err-flags_of.ensures.read
    c.in-Err-flags_of.refusal c.in-Err-flags_of.ensures.refusal c.in-Err-flags_of.ensures.holds

pub returns-then-is_none-2-clause-refusal : goal.returns-then-is_none-2-clause-refusal
returns-then-is_none-2-clause-refusal g c how who root number =
    let good : is_key c.args.key.now ≡ true = search rules in
    let none : is_none c.in-Ok.flags ≡ true = search rules in
    let none_too : is_none c.in-Ok-flags_of.flags ≡ true = search rules in
    remove_absent c.args.key.now who how root number g.U.Kv.rules_by g.R.Kv.rules_by (g.U.Kv.state c.args.primary.now) (g.U.Kv.state c.flags_of.new.store)
    (g.R.Kv.state c.args.rollback.now) (g.R.Kv.state c.flags_of-2.new.store) good c.in-Ok.ensures.read c.in-Ok-flags_of.ensures.read
    c.in-Ok.flags c.in-Ok-flags_of.flags c.in-Ok.ensures.holds c.in-Ok-flags_of.ensures.holds none none_too

pub returns-then-is_once-clause-refusal : goal.returns-then-is_once-clause-refusal
returns-then-is_once-clause-refusal g c how who root number =
    let good : is_key c.args.key.now ≡ true = search rules in
    let held : (is_none c.in-Ok.flags && is_none c.in-Ok-flags_of.flags) ≡ false = search rules in
    let once : (is_once c.in-Ok.flags || is_once c.in-Ok-flags_of.flags) ≡ true = search rules in
    remove_protected c.args.key.now who how root number g.U.Kv.rules_by g.R.Kv.rules_by (g.U.Kv.state c.args.primary.now) (g.U.Kv.state c.flags_of.new.store)
    (g.R.Kv.state c.args.rollback.now) (g.R.Kv.state c.flags_of-2.new.store) good c.in-Ok.ensures.read c.in-Ok-flags_of.ensures.read
    c.in-Ok.flags c.in-Ok-flags_of.flags c.in-Ok.ensures.holds c.in-Ok-flags_of.ensures.holds held once

pub returns-clause-held : goal.returns-clause-held
returns-clause-held g c =
    let free : is_once c.in-Ok.flags ≡ false = search rules in
    let free_too : is_once c.in-Ok-flags_of.flags ≡ false = search rules in
    record {
      valid = search rules;
      primary_read = c.in-Ok.ensures.read;
      rollback_read = c.in-Ok-flags_of.ensures.read;
      primary = held_as c.args.key.now 0 g.U.Kv.rules_by (g.U.Kv.state c.args.primary.now) (g.U.Kv.state c.flags_of.new.store) c.in-Ok.flags free c.in-Ok.ensures.read c.in-Ok.ensures.holds;
      rollback = held_as c.args.key.now 0 g.R.Kv.rules_by (g.R.Kv.state c.args.rollback.now) (g.R.Kv.state c.flags_of-2.new.store) c.in-Ok-flags_of.flags free_too c.in-Ok-flags_of.ensures.read
          c.in-Ok-flags_of.ensures.holds;
      one_has = search rules;
    }
