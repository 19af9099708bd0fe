use Rattle.std.proofs.Common.{◌≡◌, ℕ, ◌<◌, length, ap, ◌∙◌, arith}
use Rattle.programs.specs.Parts.{body}
use Rattle.programs.proofs.Sizes.{at_most}
use Rattle.mapping.specs.declared.placement.Placement.{Placement}
use Rattle.mapping.proofs.Plans.{plan_read}
use Rattle.compiler.specs.Compiled.{compiled}
use Rattle.compiler.proofs.Appending.{statement_more}
use Rattle.compiler.proofs.Positions.{length_compiled}
use Rattle.compiler.proofs.translate.compile_thread.Goals as goal

pub append_statement-requires : goal.append_statement-requires
append_statement-requires g c =
    let t = body c.args.thread.now in
    omega (arith, ap length c.loop-place.invariant, ap length c.as_slice-statement-items.ensures, length_compiled (g.M.Mapping.meaning c.args.mapping.now t) t c.loop-place.place, at_most c.args.thread.now, c.loop-place-test.true)

pub loop-place-preserved : goal.loop-place-preserved
loop-place-preserved g c =
    let t = body c.args.thread.now in
    let f : ℕ → Placement = g.M.Mapping.meaning c.args.mapping.now t in
    let at = c.loop-place.place in
    let inside : at < length t = omega (arith, ap length c.as_slice-statement-items.ensures, c.loop-place-test.true) in
    let placed = c.planned.ensures ∙ plan_read f c.plan-plan.result at c.plan-plan.ensures (omega (arith, inside, at_most c.args.thread.now)) in
    (rw (placed, c.as_slice-statement-items.ensures, c.loop-place.invariant) at c.append_statement.ensures) ∙ statement_more f t at _ inside

pub returns : goal.returns
returns g c =
    let t = body c.args.thread.now in
    let all : c.loop-place.place ≡ length t = omega (arith, ap length c.as_slice-statement-items.ensures, c.loop-place-test.false, c.loop-place.auto.place-end) in
    c.loop-place.invariant ∙ ap (compiled (g.M.Mapping.meaning c.args.mapping.now t) t) all
