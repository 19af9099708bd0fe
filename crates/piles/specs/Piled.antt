-- What a pile of layers over a published mapping places, and the words for both.
use Rattle.std.specs.Prelude.{ℕ, List, [], ◌∷◌, codes}
use Rattle.lang.specs.declared.syntax.Statement.{Statement}
use Rattle.mapping.specs.declared.placement.Placement.{Placement}
use Rattle.mapping.specs.Published.{trailing, locking, leading}
use Rattle.layers.specs.Exchange.{exchanged}
use Rattle.layers.specs.Sparing.{spared}
use Rattle.piles.specs.declared.pile.Base.{Base}
use Rattle.piles.specs.declared.pile.Base.TheVariants.{Trailing, Locked, Leading}
use Rattle.piles.specs.declared.pile.Layer.{Layer}
use Rattle.piles.specs.declared.pile.Layer.TheVariants.{Sparing, Exchange}

abbrev pub base_meaning : Base → List Statement → ℕ → Placement
base_meaning Trailing = trailing
base_meaning Locked = locking
base_meaning Leading = leading

abbrev pub layered : Layer → (List Statement → ℕ → Placement) → List Statement → ℕ → Placement
layered Sparing f = spared f
layered Exchange f = exchanged f

-- The layers over a mapping, the first lowest.
abbrev pub piled : (List Statement → ℕ → Placement) → List Layer → List Statement → ℕ → Placement
piled f [] = f
piled f (l ∷ ls) = piled (layered l f) ls

abbrev pub base_name : Base → List ℕ
base_name Trailing = codes "trailing"
base_name Locked = codes "locked"
base_name Leading = codes "leading"

abbrev pub layer_name : Layer → List ℕ
layer_name Sparing = codes "sparing"
layer_name Exchange = codes "exchange"
