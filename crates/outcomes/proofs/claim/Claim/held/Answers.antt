use Rattle.std.proofs.Common.{◌≡◌, ◌+◌, ◌-◌, Some, Option, rules, sym, ap, ◌∙◌, arith}
use Rattle.lang.specs.declared.syntax.Statement.{Statement}
use Rattle.programs.specs.Parts.{bodies, event_number}
use Rattle.outcomes.specs.Values.{reads_into, value_read, held}
use Rattle.outcomes.proofs.Flow.{held_none, held_filled, held_left}
use Rattle.outcomes.proofs.Limits.{numbered}
use Rattle.outcomes.proofs.claim.Claim.held.Goals as goal

pub returns-then-reads_into : goal.returns-then-reads_into
returns-then-reads_into c =
    let h = held (bodies c.args.self.now.program.now) c.args.self.now.graph.now.events c.args.thread c.args.register in
    let next : c.loop-at.at - 1 + 1 ≡ c.loop-at.at = omega arith in
    let fills = c.reads_into.ensures ∙ ap (λ (o : Option Statement). reads_into o c.args.register) c.statement.ensures in
    let here : c.event-event.result ≡ Some (event_number c.args.thread (c.loop-at.at - 1)) =
    c.event-event.ensures ∙ numbered (bodies c.args.self.now.program.now) c.args.thread (c.loop-at.at - 1) c.args.register (sym fills ∙ c.if-reads_into.true) in
    let read : c.value_of.result ≡ value_read c.args.self.now.graph.now.events c.args.thread (c.loop-at.at - 1) = search rules in
    read ∙ held_filled _ _ _ _ (c.loop-at.at - 1) (sym fills ∙ c.if-reads_into.true) ∙ ap h next ∙ c.loop-at.invariant

pub loop-at-preserved : goal.loop-at-preserved
loop-at-preserved c =
    let h = held (bodies c.args.self.now.program.now) c.args.self.now.graph.now.events c.args.thread c.args.register in
    let next : c.loop-at.at - 1 + 1 ≡ c.loop-at.at = omega arith in
    let fills = c.reads_into.ensures ∙ ap (λ (o : Option Statement). reads_into o c.args.register) c.statement.ensures in
    held_left _ _ _ _ (c.loop-at.at - 1) (sym fills ∙ c.if-reads_into.false) ∙ ap h next ∙ c.loop-at.invariant

pub returns : goal.returns
returns c =
    let h = held (bodies c.args.self.now.program.now) c.args.self.now.graph.now.events c.args.thread c.args.register in
    let none : 0 ≡ c.loop-at.at = omega arith in
    held_none _ _ _ _ ∙ ap h none ∙ c.loop-at.invariant
