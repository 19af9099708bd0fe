use Rattle.std.proofs.Common.{◌≡◌, get_or, Option, sym, refl, ap, ◌∙◌, arith}
use Rattle.std.proofs.lemmas.List.FromFn.{fill_by_all}
use Rattle.std.proofs.lemmas.List.{length-set}
use Rattle.std.specs.List.{slice_get}
use Rattle.lang.specs.declared.syntax.Statement.{Statement}
use Rattle.programs.specs.Parts.{body}
use Rattle.mapping.specs.declared.placement.Placement.{Placement}
use Rattle.mapping.specs.Rule.{nothing}
use Rattle.layers.specs.Sparing.{kept, still_pending, spared_at}
use Rattle.mapping.proofs.Plans.{plan_read}
use Rattle.layers.proofs.Filling.{filled_more}
use Rattle.layers.specs.Spared.{spared_spares}
use Rattle.layers.proofs.Walk.{pending_start}
use Rattle.layers.proofs.Passing.{kept_turn, pending_turn}
use Rattle.layers.proofs.sparing.spared_plan.Goals as goal

pub loop-at-init : goal.loop-at-init
loop-at-init c = (refl, λ f e. (sym (pending_start f (body c.args.thread.now)), λ k h. absurd (omega arith)))

pub loop-at-preserved : goal.loop-at-preserved
loop-at-preserved c =
    let t = body c.args.thread.now in
    let at = c.loop-at.at in (
      length-set c.loop-at.plan at c.pass-left.result.0 ∙ c.loop-at.invariant.0,
      λ f e.
          let read : get_or c.args.below at nothing ≡ f at = plan_read f c.args.below at e (omega arith) in
          let held = c.loop-at.invariant.1 f e in (
            c.pass-left.ensures.pending
                ∙ ap (λ (s : Option Statement). still_pending s (get_or c.args.below at nothing) c.loop-at.pending) c.get.ensures
                ∙ ap (λ (p : Placement). still_pending (slice_get t at) p c.loop-at.pending) read
                ∙ ap (still_pending (slice_get t at) (f at)) held.0
                ∙ pending_turn f t at,
            filled_more (spared_at f t) c.loop-at.plan at c.pass-left.result.0 (omega (arith, c.loop-at.invariant.0))
                (c.pass-left.ensures.placement
                ∙ ap (λ (s : Option Statement). kept s (get_or c.args.below at nothing) c.loop-at.pending) c.get.ensures
                ∙ ap (λ (p : Placement). kept (slice_get t at) p c.loop-at.pending) read
                ∙ ap (kept (slice_get t at) (f at)) held.0
                ∙ kept_turn f t at)
                held.1,
          ),
    )

pub returns : goal.returns
returns c = λ f e.
    let t = body c.args.thread.now in
    (fill_by_all (spared_at f t) c.loop-at.plan 8 nothing c.loop-at.invariant.0 (λ k h. (c.loop-at.invariant.1 f e).1 k (omega arith)), spared_spares f t)
