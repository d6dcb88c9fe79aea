use Rattle.std.proofs.Common.{◌≡◌, ℕ, suc, ◌+◌, ◌-◌, List, ◌++◌, ◌∷◌, [], ◌∙◌, ap, arith}
use Rattle.script_core.specs.declared.line.Line.{Line}
use Rattle.kv_tools.specs.Generating.{lines_from}
use Rattle.kv_tools.proofs.GenerateLemmas.{are_lines, no_more, one_more}
use Rattle.kv_tools.proofs.generate.gen_script.Goals as goal

pub new-requires : goal.new-requires
new-requires c =
    are_lines c.args.clients c.requires.some c.requires.most c.args.seed c.args.calls _ c.requires.calls
    (no_more c.args.clients c.loop-place.place c.loop-place.draws.number (c.args.calls + 1 - c.loop-place.place) _ _ (omega (arith, c.loop-place-test.false)) c.loop-place.invariant)

pub loop-place-preserved : goal.loop-place-preserved
loop-place-preserved c =
    let clients : ℕ = c.args.clients in
    let place : ℕ = c.loop-place.place in
    let left : ℕ = c.args.calls + 1 - (place + 1) in
    let lines : List Line = c.loop-place.lines.items in
    let line : Line = c.in_ok-draw_line.field-0 in
    let one : c.args.calls + 1 - place ≡ suc left = omega (arith, c.loop-place-test.true) in
    ap (λ (xs : List Line). xs ++ lines_from clients (place + 1) c.draw_line.new.draws.number left) c.in_ok-push.ensures.items
    ∙ ap (λ (n : ℕ). (lines ++ line ∷ []) ++ lines_from clients (place + 1) n left) c.in_ok-draw_line.ensures.behind
    ∙ one_more clients place c.loop-place.draws.number (c.args.calls + 1 - place) left lines _ line one c.loop-place.invariant c.in_ok-draw_line.ensures.line

pub returns : goal.returns
returns c =
    c.new.ensures
    ∙ no_more c.args.clients c.loop-place.place c.loop-place.draws.number (c.args.calls + 1 - c.loop-place.place) _ _ (omega (arith, c.loop-place-test.false)) c.loop-place.invariant
