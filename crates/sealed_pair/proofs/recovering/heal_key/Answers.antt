use Rattle.std.proofs.Common.{rules, ◌≡◌, ℕ, List, Option, Ok, Err, true, false, ◌∙◌, ap₂, subst}
use Rattle.std.specs.FinMap.{get}
use Rattle.kv_model.specs.Constants.{Constants}
use Rattle.kv_model.specs.StoreState.{StoreState}
use Rattle.sealed_pair.specs.declared.recovering.Entry.{Entry}
use Rattle.sealed_pair.specs.declared.recovering.Successor.{Successor}
use Rattle.sealed_pair.specs.Recovering.{EntryOr, SuccessorOr, goal_of, replaces, secure_by, tag_by, with_tag}
use Rattle.kv_model.specs.declared.call.Reply.TheVariants.{Refused}
use Rattle.kv_model.specs.Kv.{kind_of}
use Rattle.sealed_pair.specs.Running.{StaysIdle}
use Rattle.sealed_pair.proofs.IdleLemmas.{idle_read, idle_rewritten, idle_same, idle_then, unless_kind, unless_then}
use Rattle.sealed_pair.proofs.HealingLemmas.{kept_stays, none_stays, other_stays, plain_of, replaced_is, rewrites_behind, rewrites_still}
use Rattle.sealed_pair.proofs.PairLemmas.{read_none}
use Rattle.sealed_pair.proofs.recovering.heal_key.Goals as goal

pub returns-in-Ok-None-clause-heals : goal.returns-in-Ok-None-clause-heals
returns-in-Ok-None-clause-heals g c above tells =
    let old = g.R.Kv.state c.args.rollback.now in
    let none = subst (λ (o : Option Successor). SuccessorOr c.args.root.now c.args.key.now (get above.primary c.args.key.now) (Ok o)) c.in-Ok-None.field-0-is (c.in-Ok-None.ensures.found above tells) in
    rewrites_still g.R.Kv.rules_by old old (goal_of (secure_by c.args.root.now old.known.constants) above.primary c.args.key.now) (read_none old)
    (λ s idle. none_stays c.args.root.now c.args.key.now above.primary s.primary old.known.constants none)

pub returns-in-Ok-None-find_entry-clause-heals : goal.returns-in-Ok-None-find_entry-clause-heals
returns-in-Ok-None-find_entry-clause-heals g c above tells =
    let old = g.R.Kv.state c.args.rollback.now in
    rewrites_still g.R.Kv.rules_by old (g.R.Kv.state c.find_entry.new.rollback) (goal_of (secure_by c.args.root.now old.known.constants) above.primary c.args.key.now)
    c.in-Ok-None-find_entry.ensures.read
    (λ s idle. other_stays c.args.root.now c.args.key.now above.primary s.primary old.known.constants
    (subst (λ (o : Option Entry). EntryOr (get s.primary c.args.key.now) (Ok o)) c.in-Ok-None-find_entry.field-0-is
    (subst (λ (k : List ℕ). EntryOr (get s.primary k) (Ok c.in-Ok-None-find_entry.field-0)) c.as_slice-bytes.ensures.bytes (c.in-Ok-None-find_entry.ensures.found s (plain_of idle)))))

pub returns-then-not-replaces-clause-heals : goal.returns-then-not-replaces-clause-heals
returns-then-not-replaces-clause-heals g c above tells =
    let old = g.R.Kv.state c.args.rollback.now in
    let is = subst (λ (o : Option Successor). SuccessorOr c.args.root.now c.args.key.now (get above.primary c.args.key.now) (Ok o)) c.in-Ok-Some.field-0-is (c.in-Ok-Some.ensures.found above tells) in
    let kept : replaces c.in-Ok-Some.successor c.in-Ok-Some-find_entry.entry ≡ false = search rules in
    rewrites_still g.R.Kv.rules_by old (g.R.Kv.state c.find_entry.new.rollback) (goal_of (secure_by c.args.root.now old.known.constants) above.primary c.args.key.now)
    c.in-Ok-Some-find_entry.ensures.read
    (λ s idle. kept_stays c.args.root.now c.args.key.now above.primary s.primary old.known.constants c.in-Ok-Some.successor c.in-Ok-Some-find_entry.entry is
    (subst (λ (o : Option Entry). EntryOr (get s.primary c.args.key.now) (Ok o)) c.in-Ok-Some-find_entry.field-0-is
    (subst (λ (k : List ℕ). EntryOr (get s.primary k) (Ok c.in-Ok-Some-find_entry.field-0)) c.as_slice-bytes.ensures.bytes (c.in-Ok-Some-find_entry.ensures.found s (plain_of idle)))) kept)

pub returns-in-Ok-clause-heals : goal.returns-in-Ok-clause-heals
returns-in-Ok-clause-heals g c above tells =
    let old = g.R.Kv.state c.args.rollback.now in
    let mid = g.R.Kv.state c.find_entry.new.rollback in
    let is = subst (λ (o : Option Successor). SuccessorOr c.args.root.now c.args.key.now (get above.primary c.args.key.now) (Ok o)) c.in-Ok-Some.field-0-is (c.in-Ok-Some.ensures.found above tells) in
    let holds : replaces c.in-Ok-Some.successor c.in-Ok-Some-find_entry.entry ≡ true = search rules in
    rewrites_behind g.R.Kv.rules_by old mid (g.R.Kv.state c.replace.new.rollback) (goal_of (secure_by c.args.root.now old.known.constants) above.primary c.args.key.now)
    (λ (s : StoreState). with_tag mid.known.constants c.as_slice-bytes.result.now (tag_by c.in-Ok-Some.successor) s.primary) (Ok c.in-Ok.changed)
    c.in-Ok-Some-find_entry.ensures.read
    (λ s idle. ap₂ (λ (k : List ℕ) (x : Constants). with_tag x k (tag_by c.in-Ok-Some.successor) s.primary) c.as_slice-bytes.ensures.bytes c.in-Ok-Some-find_entry.ensures.read.keeps.constants
    ∙ replaced_is c.args.root.now c.args.key.now above.primary s.primary old.known.constants c.in-Ok-Some.successor c.in-Ok-Some-find_entry.entry is
    (subst (λ (o : Option Entry). EntryOr (get s.primary c.args.key.now) (Ok o)) c.in-Ok-Some-find_entry.field-0-is
    (subst (λ (k : List ℕ). EntryOr (get s.primary k) (Ok c.in-Ok-Some-find_entry.field-0)) c.as_slice-bytes.ensures.bytes (c.in-Ok-Some-find_entry.ensures.found s (plain_of idle)))) holds)
    c.in-Ok.ensures.rewrites

pub returns-in-Err-replace-clause-heals : goal.returns-in-Err-replace-clause-heals
returns-in-Err-replace-clause-heals g c above tells =
    let old = g.R.Kv.state c.args.rollback.now in
    let mid = g.R.Kv.state c.find_entry.new.rollback in
    let is = subst (λ (o : Option Successor). SuccessorOr c.args.root.now c.args.key.now (get above.primary c.args.key.now) (Ok o)) c.in-Ok-Some.field-0-is (c.in-Ok-Some.ensures.found above tells) in
    let holds : replaces c.in-Ok-Some.successor c.in-Ok-Some-find_entry.entry ≡ true = search rules in
    rewrites_behind g.R.Kv.rules_by old mid (g.R.Kv.state c.replace.new.rollback) (goal_of (secure_by c.args.root.now old.known.constants) above.primary c.args.key.now)
    (λ (s : StoreState). with_tag mid.known.constants c.as_slice-bytes.result.now (tag_by c.in-Ok-Some.successor) s.primary) (Err c.in-Err-replace.refusal)
    c.in-Ok-Some-find_entry.ensures.read
    (λ s idle. ap₂ (λ (k : List ℕ) (x : Constants). with_tag x k (tag_by c.in-Ok-Some.successor) s.primary) c.as_slice-bytes.ensures.bytes c.in-Ok-Some-find_entry.ensures.read.keeps.constants
    ∙ replaced_is c.args.root.now c.args.key.now above.primary s.primary old.known.constants c.in-Ok-Some.successor c.in-Ok-Some-find_entry.entry is
    (subst (λ (o : Option Entry). EntryOr (get s.primary c.args.key.now) (Ok o)) c.in-Ok-Some-find_entry.field-0-is
    (subst (λ (k : List ℕ). EntryOr (get s.primary k) (Ok c.in-Ok-Some-find_entry.field-0)) c.as_slice-bytes.ensures.bytes (c.in-Ok-Some-find_entry.ensures.found s (plain_of idle)))) holds)
    c.in-Err-replace.ensures.rewrites

pub returns-in-Err-clause-stays : goal.returns-in-Err-clause-stays
returns-in-Err-clause-stays g c =
    let old = g.R.Kv.state c.args.rollback.now in
    unless_kind (StaysIdle g.R.Kv.rules_by old old) (kind_of (Refused c.in-Err.refusal)) (idle_same g.R.Kv.rules_by old)

pub returns-in-Ok-None-find_entry-clause-stays : goal.returns-in-Ok-None-find_entry-clause-stays
returns-in-Ok-None-find_entry-clause-stays g c =
    idle_read g.R.Kv.rules_by (g.R.Kv.state c.args.rollback.now) (g.R.Kv.state c.find_entry.new.rollback) c.in-Ok-None-find_entry.ensures.read

pub returns-in-Err-find_entry-clause-stays : goal.returns-in-Err-find_entry-clause-stays
returns-in-Err-find_entry-clause-stays g c =
    let old = g.R.Kv.state c.args.rollback.now in
    let mid = g.R.Kv.state c.find_entry.new.rollback in
    unless_kind (StaysIdle g.R.Kv.rules_by old mid) (kind_of (Refused c.in-Err-find_entry.refusal)) (idle_read g.R.Kv.rules_by old mid c.in-Err-find_entry.ensures.read)

pub returns-then-not-replaces-clause-stays : goal.returns-then-not-replaces-clause-stays
returns-then-not-replaces-clause-stays g c =
    idle_read g.R.Kv.rules_by (g.R.Kv.state c.args.rollback.now) (g.R.Kv.state c.find_entry.new.rollback) c.in-Ok-Some-find_entry.ensures.read

pub returns-in-Ok-clause-stays : goal.returns-in-Ok-clause-stays
returns-in-Ok-clause-stays g c =
    let old = g.R.Kv.state c.args.rollback.now in
    let mid = g.R.Kv.state c.find_entry.new.rollback in
    let new = g.R.Kv.state c.replace.new.rollback in
    idle_then g.R.Kv.rules_by old mid new (idle_read g.R.Kv.rules_by old mid c.in-Ok-Some-find_entry.ensures.read)
    (idle_rewritten g.R.Kv.rules_by mid new (λ (s : StoreState). with_tag mid.known.constants c.as_slice-bytes.result.now (tag_by c.in-Ok-Some.successor) s.primary) (Ok c.in-Ok.changed) c.in-Ok.ensures.rewrites)

pub returns-in-Err-replace-clause-stays : goal.returns-in-Err-replace-clause-stays
returns-in-Err-replace-clause-stays g c =
    let old = g.R.Kv.state c.args.rollback.now in
    let mid = g.R.Kv.state c.find_entry.new.rollback in
    let new = g.R.Kv.state c.replace.new.rollback in
    unless_then (StaysIdle g.R.Kv.rules_by mid new) (StaysIdle g.R.Kv.rules_by old new) (kind_of (Refused c.in-Err-replace.refusal))
    (idle_then g.R.Kv.rules_by old mid new (idle_read g.R.Kv.rules_by old mid c.in-Ok-Some-find_entry.ensures.read))
    (idle_rewritten g.R.Kv.rules_by mid new (λ (s : StoreState). with_tag mid.known.constants c.as_slice-bytes.result.now (tag_by c.in-Ok-Some.successor) s.primary) (Err c.in-Err-replace.refusal) c.in-Err-replace.ensures.rewrites)
