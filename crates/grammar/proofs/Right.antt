-- What is shown of one piece of a text, whatever kind of piece it is: what reading it answers is what it spells or its least fault.
use Rattle.std.proofs.Common.{◌≡◌, ℕ, ◌≤◌, cond, eqb, Ok, Err, Result}
use Rattle.faults.specs.declared.Fault.{Fault}
use Rattle.faults.specs.declared.Fault.TheVariants.{FifthLine, NinthStatement, WrongWord, WrongMode, LargeNumber}
use Rattle.faults.specs.Refusals.{refusal}
use Rattle.grammar.specs.Pieces.{Piece, end}
use Rattle.grammar.specs.Texts.{NoLater}

pub record ReadsRight {X : Type 0} (read : Piece → Result X Fault) (R : Piece → X → Type 0) (F : Piece → Fault → Type 0) (p : Piece) : Type 0 where
  pub spelt : (x : X) → read p ≡ Ok x → R p x
  pub spells : (x : X) → R p x → read p ≡ Ok x
  pub clean : (x : X) (f : Fault) → read p ≡ Ok x → F p f → ⊥
  pub fault : (f : Fault) → read p ≡ Err f → F p f
  pub least : (f g : Fault) → read p ≡ Err f → F p g → NoLater f g

-- The fault of the second pass with a number and a place.
abbrev pub told_by : ℕ → ℕ → Fault
told_by n at =
    cond (eqb n 3) (FifthLine at) (cond (eqb n 4) (NinthStatement at) (cond (eqb n 5) (WrongWord at) (cond (eqb n 6) (WrongMode at) (LargeNumber at))))

-- Where the faults of a piece stand, and what they are: all are told by number and place.
pub record FaultsLie (low : ℕ) (F : Piece → Fault → Type 0) (p : Piece) : Type 0 where
  pub from : (f : Fault) → F p f → p.offset ≤ (refusal f).place
  pub to : (f : Fault) → F p f → (refusal f).place ≤ end p
  pub high : (f : Fault) → F p f → low ≤ (refusal f).number
  pub told : (f : Fault) → F p f → f ≡ told_by (refusal f).number (refusal f).place
