use Rattle.std.proofs.Common.{ℕ, List, Option, refl, sym, ◌∙◌, ap, take}
use Rattle.kv_model.specs.Given.{found_or}
use Rattle.kv_model.specs.declared.call.Reply.TheVariants.{Found, Refused}
use Rattle.std.specs.Prelude.{Ok, Err}
use Rattle.sealed_pair.proofs.StayingLemmas.{Gives, turn_stayed}
use Rattle.sealed_pair.proofs.WalkingLemmas.{gives_end, gives_key, gives_memory, gives_refusal}
use Rattle.sealed_pair.proofs.walking.next_key.Goals as goal

pub returns-in-Ok-None-clause-stays : goal.returns-in-Ok-None-clause-stays
returns-in-Ok-None-clause-stays g c = turn_stayed g.U.Kv.rules_by c.args.who Gives (g.U.Kv.state c.args.primary.now) (g.U.Kv.state c.next.new.self) _ c.in-Ok-None.ensures.answers

pub returns-in-Ok-None-clause-gives : goal.returns-in-Ok-None-clause-gives
returns-in-Ok-None-clause-gives g c walk last same at =
    gives_end g.U.Kv.rules_by walk last (g.U.Kv.state c.args.primary.now) (g.U.Kv.state c.next.new.self) at c.args.who same _ c.in-Ok-None.ensures.answers
    (ap (λ (o : Option ℕ). found_or (Ok o) c.next.new.out) c.in-Ok-None.field-0-is)

pub returns-in-Some-clause-stays : goal.returns-in-Some-clause-stays
returns-in-Some-clause-stays g c = turn_stayed g.U.Kv.rules_by c.args.who Gives (g.U.Kv.state c.args.primary.now) (g.U.Kv.state c.next.new.self) _ c.in-Ok-Some.ensures.answers

pub returns-in-Some-clause-gives : goal.returns-in-Some-clause-gives
returns-in-Some-clause-gives g c walk last same at =
    gives_key g.U.Kv.rules_by walk last (g.U.Kv.state c.args.primary.now) (g.U.Kv.state c.next.new.self) at c.args.who same _ c.in-Ok-Some.ensures.answers c.in-Some.key
    (ap (λ (o : Option ℕ). found_or (Ok o) c.next.new.out) c.in-Ok-Some.field-0-is ∙ ap Found (sym c.in-Some.ensures))

pub returns-in-None-clause-stays : goal.returns-in-None-clause-stays
returns-in-None-clause-stays g c = turn_stayed g.U.Kv.rules_by c.args.who Gives (g.U.Kv.state c.args.primary.now) (g.U.Kv.state c.next.new.self) _ c.in-Ok-Some.ensures.answers

pub returns-in-None-clause-gives : goal.returns-in-None-clause-gives
returns-in-None-clause-gives g c walk last same at =
    gives_memory g.U.Kv.rules_by walk last (g.U.Kv.state c.args.primary.now) (g.U.Kv.state c.next.new.self) at c.args.who same _ c.in-Ok-Some.ensures.answers (take c.in-Ok-Some.length c.next.new.out)
    (ap (λ (o : Option ℕ). found_or (Ok o) c.next.new.out) c.in-Ok-Some.field-0-is)

pub returns-in-Err-clause-stays : goal.returns-in-Err-clause-stays
returns-in-Err-clause-stays g c = turn_stayed g.U.Kv.rules_by c.args.who Gives (g.U.Kv.state c.args.primary.now) (g.U.Kv.state c.next.new.self) _ c.in-Err.ensures.answers

pub returns-in-Err-clause-gives : goal.returns-in-Err-clause-gives
returns-in-Err-clause-gives g c walk last same at =
    gives_refusal g.U.Kv.rules_by walk last (g.U.Kv.state c.args.primary.now) (g.U.Kv.state c.next.new.self) at c.args.who same _ c.in-Err.ensures.answers c.in-Err.refusal refl
