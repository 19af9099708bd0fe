use Rattle.std.proofs.Common.{◌≡◌, ℕ, ◌+◌, ◌<◌, List, map, length, get_or, drop, sym, refl, ap, ◌∙◌, arith}
use Rattle.std.proofs.lemmas.List.{at_drop_more, at_drop_all}
use Rattle.std.specs.List.{range_with_len}
use Rattle.lang.specs.declared.syntax.Statement.{Statement}
use Rattle.programs.specs.Parts.{body}
use Rattle.mapping.specs.declared.placement.Placement.{Placement}
use Rattle.piles.specs.declared.pile.Layer.{Layer}
use Rattle.piles.specs.declared.pile.Layer.TheVariants.{Sparing, Exchange}
use Rattle.piles.specs.Piled.{base_meaning, layered, piled}
use Rattle.piles.proofs.placing.PileMapping.plan.Goals as goal
use Rattle.piles.proofs.placing.PileMapping.plan.Goals.{in-Sparing, in-Exchange}

pub loop-layer-init : goal.loop-layer-init
loop-layer-init c = (base_meaning c.args.self.now.base, c.base_plan-plan.ensures, refl)

-- A layer more: the layers still to come are one less.
turn : (f : List Statement → ℕ → Placement) (ls : List Layer) (i : ℕ) (l : Layer) → i < length ls → get_or ls i Sparing ≡ l → piled f (drop i ls) ≡ piled (layered l f) (drop (i + 1) ls)
turn f ls i l h e = at_drop_more (piled f) ls i Sparing h ∙ ap (λ k. piled (layered k f) (drop (i + 1) ls)) e

pub loop-layer-preserved : goal.loop-layer-preserved
loop-layer-preserved c =
    let ls = c.as_slice-layers.result.now in
    let i = c.loop-layer.layer-index in
    let f : List Statement → ℕ → Placement = c.loop-layer.invariant.0 in
    elim c.match-layer.branch [
      | in-Sparing w ↦ (
        layered Sparing f,
        w.plan-is ∙ (w.spared_plan-plan.ensures (f (body c.args.thread.now)) c.loop-layer.invariant.1).0,
        sym (turn f ls i Sparing (omega arith) w.in-Sparing.is) ∙ c.loop-layer.invariant.2,
      )
      | in-Exchange w ↦ (
        layered Exchange f,
        w.plan-is ∙ w.exchanged_plan-plan.ensures (f (body c.args.thread.now)) c.loop-layer.invariant.1,
        sym (turn f ls i Exchange (omega arith) w.in-Exchange.is) ∙ c.loop-layer.invariant.2,
      )
    ]

pub returns : goal.returns
returns c =
    let ls = c.as_slice-layers.result.now in
    c.loop-layer.invariant.1
    ∙ ap (λ (g : List Statement → ℕ → Placement). map (g (body c.args.thread.now)) (range_with_len 0 8))
    (sym (at_drop_all (piled c.loop-layer.invariant.0) ls c.loop-layer.layer-index (omega arith))
    ∙ c.loop-layer.invariant.2
    ∙ ap (piled (base_meaning c.args.self.now.base)) c.as_slice-layers.ensures.value)
