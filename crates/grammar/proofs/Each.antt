-- What holds of each piece holds of the pieces read one after the other, of which only some number may be.
-- The pieces stand in order, so a fault in one stands left of all that lie in later ones, and reading stops at the first piece
-- that has a fault. A piece too many is a fault at its own offset, with a number no higher than any inside it. By induction
-- over the pieces the answer is what they spell, and then none has a fault, or it is their least fault. So a piece that is cut
-- into parts is read right where its parts are, and its faults lie inside it where theirs lie inside them.
use Rattle.std.proofs.Common.{◌≡◌, ℕ, zero, suc, ◌+◌, ◌≤◌, ◌⊎◌, List, [], ◌∷◌, length, Some, Ok, Err, Result, refl, ap, ◌∙◌, inl, inr, arith}
use Rattle.std.specs.List.{slice_get}
use Rattle.std.proofs.lemmas.Bool.{cases_lt}
use Rattle.faults.specs.declared.Fault.{Fault}
use Rattle.faults.specs.Refusals.{refusal}
use Rattle.grammar.specs.Pieces.{Piece, end}
use Rattle.grammar.specs.Texts.{Pairwise, none, more, SpellsEach, Faults, inside, too_many, NoLater}
use Rattle.grammar.specs.Answer.{and_then, read_each}
use Rattle.grammar.proofs.Right.{ReadsRight, FaultsLie, told_by}
use Rattle.grammar.proofs.Spans.{Ordered, nth_between}

-- An answer is something spelt, and then there is no fault, or it is the least fault.
abbrev Outcome : {X : Type 0} (S : X → Type 0) (F : Fault → Type 0) → Result X Fault → Type 0
Outcome S F (Ok x) = S x × ((f : Fault) → F f → ⊥)
Outcome S F (Err f) = F f × ((g : Fault) → F g → NoLater f g)

right_outcome : {X : Type 0} {read : Piece → Result X Fault} {R : Piece → X → Type 0} {F : Piece → Fault → Type 0} {p : Piece} → ReadsRight read R F p → Outcome (R p) (F p) (read p)
right_outcome {read} {R} {F} {p} right = go (read p) refl
  where
    go : (r : Result _ Fault) → read p ≡ r → Outcome (R p) (F p) r
    go (Ok x) e = (right.spelt x e, λ f. right.clean x f e)
    go (Err f) e = (right.fault f e, λ g. right.least f g e)

-- A fault of pieces is one of the first piece or one of the others, of which one less may be.
fault_apart : {n : ℕ} {over : ℕ → Fault} {F : Piece → Fault → Type 0} {p : Piece} {ps : List Piece} {f : Fault} → Faults (suc n) over F (p ∷ ps) f → F p f ⊎ Faults n over F ps f
fault_apart {p} (inside zero q e h) = let s : q ≡ p = cc in inl (rw s at h)
fault_apart (inside (suc i) q e h) = inr (inside i q e h)
fault_apart (too_many q e h) = inr (too_many q e h)

fault_later : {n : ℕ} {over : ℕ → Fault} {F : Piece → Fault → Type 0} {p : Piece} {ps : List Piece} {f : Fault} → Faults n over F ps f → Faults (suc n) over F (p ∷ ps) f
fault_later (inside i q e h) = inside (suc i) q e h
fault_later (too_many q e h) = too_many q e h

no_later : (f g : Fault) → (refusal f).place ≤ (refusal g).place → (refusal f).number ≤ (refusal g).number → NoLater f g
no_later f g a b = elim (cases_lt (refusal f).place (refusal g).place) [ inl h ↦ inl h | inr h ↦ inr (omega arith, b) ]

-- The fault of a piece too many has the number k and says where the piece begins.
pub record Marks (k : ℕ) (over : ℕ → Fault) : Type 0 where
  pub place : (at : ℕ) → (refusal (over at)).place ≡ at
  pub number : (at : ℕ) → (refusal (over at)).number ≡ k
  pub told : (at : ℕ) → over at ≡ told_by k at

-- The faults of one piece, with that of being one too many.
abbrev At : (ℕ → Fault) → (Piece → Fault → Type 0) → Piece → Fault → Type 0
At over F p f = F p f ⊎ (f ≡ over p.offset)

fault_at : {n : ℕ} {over : ℕ → Fault} {F : Piece → Fault → Type 0} {ps : List Piece} {f : Fault} → Faults n over F ps f → (i : ℕ) × (p : Piece) × (slice_get ps i ≡ Some p) × At over F p f
fault_at (inside i p e h) = (i, p, e, inl h)
fault_at {n} (too_many p e h) = (n, p, e, inr h)

module _ {k low : ℕ} {over : ℕ → Fault} {F : Piece → Fault → Type 0} (marks : Marks k over) (below : k ≤ low) (lies : (p : Piece) → FaultsLie low F p) where
  at_lie : (p : Piece) → FaultsLie k (At over F) p
  at_lie p = record { from = from; to = to; high = high; told = told }
    where
      place : (f : Fault) → f ≡ over p.offset → (refusal f).place ≡ p.offset
      place f e = ap (λ f. (refusal f).place) e ∙ marks.place p.offset

      number : (f : Fault) → f ≡ over p.offset → (refusal f).number ≡ k
      number f e = ap (λ f. (refusal f).number) e ∙ marks.number p.offset

      from : (f : Fault) → At over F p f → p.offset ≤ (refusal f).place
      from f (inl h) = (lies p).from f h
      from f (inr e) = omega (arith, place f e)

      to : (f : Fault) → At over F p f → (refusal f).place ≤ end p
      to f (inl h) = (lies p).to f h
      to f (inr e) = omega (arith, place f e)

      high : (f : Fault) → At over F p f → k ≤ (refusal f).number
      high f (inl h) = omega (arith, (lies p).high f h)
      high f (inr e) = omega (arith, number f e)

      told : (f : Fault) → At over F p f → f ≡ told_by (refusal f).number (refusal f).place
      told f (inl h) = (lies p).told f h
      told f (inr e) = rw (place f e, number f e) (e ∙ marks.told p.offset)

  fault_from : (n first last : ℕ) (ps : List Piece) (f : Fault) → Ordered first last ps → Faults n over F ps f → first ≤ (refusal f).place
  fault_from n first last ps f o h =
      let (i, p, e, a) = fault_at h in
      omega (arith, nth_between first last ps i p o e, (at_lie p).from f a)

  fault_to : (n first last : ℕ) (ps : List Piece) (f : Fault) → Ordered first last ps → Faults n over F ps f → (refusal f).place ≤ last
  fault_to n first last ps f o h =
      let (i, p, e, a) = fault_at h in
      omega (arith, nth_between first last ps i p o e, (at_lie p).to f a)

  fault_high : (n : ℕ) (ps : List Piece) (f : Fault) → Faults n over F ps f → k ≤ (refusal f).number
  fault_high n ps f h = let (i, p, e, a) = fault_at h in (at_lie p).high f a

  pub each_faults_lie : (n : ℕ) (parts : Piece → List Piece) (p : Piece) → Ordered p.offset (end p) (parts p) → FaultsLie k (λ p. Faults n over F (parts p)) p
  each_faults_lie n parts p o =
      record {
        from = λ f. fault_from n p.offset (end p) (parts p) f o;
        to = λ f. fault_to n p.offset (end p) (parts p) f o;
        high = fault_high n (parts p);
        told = λ f h. let (i, q, e, a) = fault_at h in (at_lie q).told f a;
      }

  module _ {X : Type 0} {read : Piece → Result X Fault} {R : Piece → X → Type 0} (right : (p : Piece) → ReadsRight read R F p) where
    -- One piece in front of others, with what is answered for it and for them.
    outcome_more : (n last : ℕ) (p : Piece) (ps : List Piece) → Ordered (end p + 1) last ps → (r : Result X Fault) (rs : Result (List X) Fault) → Outcome (R p) (F p) r → Outcome (SpellsEach n R ps) (Faults n over F ps) rs → Outcome (SpellsEach (suc n) R (p ∷ ps)) (Faults (suc n) over F (p ∷ ps)) (and_then r λ x. and_then rs λ xs. Ok (x ∷ xs))
    outcome_more n last p ps o (Err f) rs a b = (
      inside 0 p refl a.0,
      λ g h. elim (fault_apart h) [
        | inl h ↦ a.1 g h
        | inr h ↦ inl (omega (arith, (lies p).to f a.0, fault_from n (end p + 1) last ps g o h))
      ],
    )
    outcome_more n last p ps o (Ok x) (Err f) a b =
        (fault_later b.0, λ g h. elim (fault_apart h) [ inl h ↦ absurd (a.1 g h) | inr h ↦ b.1 g h ])
    outcome_more n last p ps o (Ok x) (Ok xs) a b = (
      record { few = omega (arith, b.0.few); each = more a.0 b.0.each },
      λ f h. elim (fault_apart h) [ inl h ↦ a.1 f h | inr h ↦ b.1 f h ],
    )

    each_outcome : (n first last : ℕ) (ps : List Piece) → Ordered first last ps → Outcome (SpellsEach n R ps) (Faults n over F ps) (read_each n over read ps)
    each_outcome n first last [] o =
        (record { few = omega arith; each = none }, λ f h. let (i, p, e, a) = fault_at h in let z : ◌≡◌ {A = ℕ} 0 1 = cc in omega arith)
    each_outcome zero first last (p ∷ ps) o = (
      too_many p refl refl,
      λ g h. no_later (over p.offset) g
          (omega (arith, marks.place p.offset, fault_from 0 p.offset last (p ∷ ps) g (omega arith, o.1, o.2) h))
          (omega (arith, marks.number p.offset, fault_high 0 (p ∷ ps) g h)),
    )
    each_outcome (suc n) first last (p ∷ ps) o =
        outcome_more n last p ps o.2 (read p) (read_each n over read ps) (right_outcome (right p)) (each_outcome n (end p + 1) last ps o.2)

    each_spells : {ps : List Piece} {xs : List X} → Pairwise R ps xs → (n : ℕ) → length ps ≤ n → read_each n over read ps ≡ Ok xs
    each_spells none n h = refl
    each_spells (more r rs) zero h = absurd (omega arith)
    each_spells (more {x = p} {y = x} r rs) (suc n) h = rw ((right p).spells x r, each_spells rs n (omega arith))

    pub each_right : (n : ℕ) (parts : Piece → List Piece) (p : Piece) → Ordered p.offset (end p) (parts p) → ReadsRight (λ p. read_each n over read (parts p)) (λ p. SpellsEach n R (parts p)) (λ p. Faults n over F (parts p)) p
    each_right n parts p o =
        record {
          spelt = λ x e. (rw e at outcome).0;
          spells = λ x s. each_spells s.each n s.few;
          clean = λ x f e. (rw e at outcome).1 f;
          fault = λ f e. (rw e at outcome).0;
          least = λ f g e. (rw e at outcome).1 g;
        }
      where
        outcome : Outcome (SpellsEach n R (parts p)) (Faults n over F (parts p)) (read_each n over read (parts p))
        outcome = each_outcome n p.offset (end p) (parts p) o
