-- Reading a row of words by a row of slots.
-- Words are read one by one, each by its slot, until one is refused, one is missing or one is too many. What is read is right:
-- the value that the words spell, or the first fault. This is shown once for a word that is missing, for one that is refused,
-- for one that is accepted, whose value the rest may use, and for the end; a statement's form is put together from these.
-- The fault that is found is the least one: later words begin further right than a refused word, since it has a byte at least,
-- and a missing word is refused at the end, which lies right of every word.
use Rattle.std.proofs.Common.{◌≡◌, ℕ, zero, suc, ◌+◌, ◌<◌, ◌≤◌, ◌⊎◌, List, [], ◌∷◌, map, length, Some, Ok, Err, Result, sym, refl, ap, ◌∙◌, subst, inl, inr, arith}
use Rattle.std.specs.List.{slice_get, AllByRecursion as All}
use Rattle.faults.specs.declared.Fault.{Fault}
use Rattle.faults.specs.declared.Fault.TheVariants.{WrongWord}
use Rattle.faults.specs.Refusals.{refusal}
use Rattle.grammar.specs.Pieces.{Piece, end}
use Rattle.grammar.specs.Table.{Slot, RefusedWord}
use Rattle.grammar.specs.Texts.{NoLater}
use Rattle.grammar.specs.Answer.{and_then, next, done}
use Rattle.grammar.proofs.Spans.{Ordered, Solid, ordered_lower, nth_between}
use Rattle.grammar.proofs.Slots.{ReadsWord, Stands, wrong_word_stands, word_stands}

-- The faults of words that have to fill slots and end at `stop`.
pub data RowFault (ss : List Slot) (ws : List Piece) (stop : ℕ) (f : Fault) : Type 0 where
  refused : (i : ℕ) (slot : Slot) (w : Piece) → slice_get ss i ≡ Some slot → slice_get ws i ≡ Some w → RefusedWord w f slot → RowFault ss ws stop f
  missing : length ws < length ss → f ≡ WrongWord stop → RowFault ss ws stop f
  extra : (w : Piece) → slice_get ws (length ss) ≡ Some w → f ≡ WrongWord w.offset → RowFault ss ws stop f

module _ (slot : Slot) (ss : List Slot) (w : Piece) (ws : List Piece) (stop : ℕ) (f : Fault) where
  row_later : RowFault ss ws stop f → RowFault (slot ∷ ss) (w ∷ ws) stop f
  row_later (refused i s v a b h) = refused (suc i) s v a b h
  row_later (missing l e) = missing (omega arith) e
  row_later (extra v a e) = extra v a e

  row_cases : RowFault (slot ∷ ss) (w ∷ ws) stop f → RefusedWord w f slot ⊎ RowFault ss ws stop f
  row_cases (refused zero s v a b h) =
      let as_slot : s ≡ slot = cc in
      let as_word : v ≡ w = cc in
      inl (subst (λ v. RefusedWord v f slot) as_word (subst (RefusedWord v f) as_slot h))
  row_cases (refused (suc i) s v a b h) = inr (refused i s v a b h)
  row_cases (missing l e) = inr (missing (omega arith) e)
  row_cases (extra v a e) = inr (extra v a e)

pub row_stands : (at stop : ℕ) (ss : List Slot) (ws : List Piece) → at ≤ stop → Ordered at stop ws → (f : Fault) → RowFault ss ws stop f
    → (p : ℕ) × (at ≤ p) × (p ≤ stop) × Stands f p
row_stands at stop ss ws l o f (refused i s v a b h) =
    let in_row = nth_between at stop ws i v o b in (v.offset, in_row.0, omega arith, word_stands v f s h)
row_stands at stop ss ws l o f (missing _ e) = (stop, l, omega arith, wrong_word_stands f stop e)
row_stands at stop ss ws l o f (extra v a e) =
    let in_row = nth_between at stop ws (length ss) v o a in (v.offset, in_row.0, omega arith, wrong_word_stands f v.offset e)

-- What is read of a row is right: R says which words spell which value.
pub record ReadsRow {Y : Type 0} (stop : ℕ) (ss : List Slot) (R : List (List ℕ) → Y → Type 0) (ws : List Piece) (r : Result Y Fault) : Type 0 where
  pub spelt : (y : Y) → r ≡ Ok y → R (map (λ w. w.bytes) ws) y
  pub spells : (y : Y) → R (map (λ w. w.bytes) ws) y → r ≡ Ok y
  pub clean : (y : Y) (f : Fault) → r ≡ Ok y → RowFault ss ws stop f → ⊥
  pub fault : (f : Fault) → r ≡ Err f → RowFault ss ws stop f
  pub least : (at : ℕ) → Ordered at stop ws → All Solid ws → (f g : Fault) → r ≡ Err f → RowFault ss ws stop g → NoLater f g

-- A word that Q reads as x, and then what R x says.
pub data Follows {X Y : Type 0} (Q : List ℕ → X → Type 0) (R : X → List (List ℕ) → Y → Type 0) : List (List ℕ) → Y → Type 0 where
  then : {b : List ℕ} {bs : List (List ℕ)} {y : Y} (x : X) → Q b x → R x bs y → Follows Q R (b ∷ bs) y

-- No words more.
pub data Ends {Y : Type 0} (x : Y) : List (List ℕ) → Y → Type 0 where
  over : Ends x [] x

no_later_same : (f g : Fault) → f ≡ g → NoLater f g
no_later_same f g e = inr (ap (λ f. (refusal f).place) e, omega (arith, ap (λ f. (refusal f).number) e))

clash : {Y A : Type 0} {y : Y} {f : Fault} → Ok y ≡ Err f → A
clash e = let z : ◌≡◌ {A = ℕ} 0 1 = cc in absurd (omega arith)

module _ {Y : Type 0} {stop : ℕ} where
  pub done_right : (y : Y) (ws : List Piece) → ReadsRow stop [] (Ends y) ws (done y ws)
  done_right y [] = record {
    spelt = λ x e. let same : y ≡ x = cc in subst (Ends y []) same over;
    spells = λ x h. ap Ok (ended x h);
    clean = λ x f _. none f;
    fault = λ f e. clash e;
    least = λ _ _ _ f g e _. clash e;
  }
    where
      ended : (x : Y) → Ends y [] x → y ≡ x
      ended x over = refl

      none : (f : Fault) → RowFault [] [] stop f → ⊥
      none f (refused i s v a b h) = let z : ◌≡◌ {A = ℕ} 0 1 = cc in omega arith
      none f (missing l e) = omega arith
      none f (extra v a e) = let z : ◌≡◌ {A = ℕ} 0 1 = cc in omega arith
  done_right y (w ∷ ws) = record {
    spelt = λ x e. clash (sym e);
    spells = λ x h. elim h [ ];
    clean = λ x f e _. clash (sym e);
    fault = λ f e. extra w refl (cc);
    least = λ _ _ _ f g e h. no_later_same f g (let same : f ≡ WrongWord w.offset = cc in same ∙ sym (only g h));
  }
    where
      only : (g : Fault) → RowFault [] (w ∷ ws) stop g → g ≡ WrongWord w.offset
      only g (refused i s v a b h) = let z : ◌≡◌ {A = ℕ} 0 1 = cc in absurd (omega arith)
      only g (missing l e) = absurd (omega arith)
      only g (extra v a e) = let same : v ≡ w = cc in cc

module _ {X Y : Type 0} (stop : ℕ) (slot : Slot) (ss : List Slot) {Q : List ℕ → X → Type 0} {R : X → List (List ℕ) → Y → Type 0} where
  pub missing_right : ReadsRow stop (slot ∷ ss) (Follows Q R) [] (Err (WrongWord stop))
  missing_right = record {
    spelt = λ y e. clash (sym e);
    spells = λ y h. elim h [ ];
    clean = λ y f e _. clash (sym e);
    fault = λ f e. missing (omega arith) (cc);
    least = λ _ _ _ f g e h. no_later_same f g (let same : f ≡ WrongWord stop = cc in same ∙ sym (only g h));
  }
    where
      only : (g : Fault) → RowFault (slot ∷ ss) [] stop g → g ≡ WrongWord stop
      only g (refused i s v a b h) = let z : ◌≡◌ {A = ℕ} 0 1 = cc in absurd (omega arith)
      only g (missing l e) = e
      only g (extra v a e) = let z : ◌≡◌ {A = ℕ} 0 1 = cc in absurd (omega arith)

  module _ {read : Piece → Result X Fault} (w : Piece) (ws : List Piece) (reads : ReadsWord slot read Q w) where
    pub refused_right : (f : Fault) → read w ≡ Err f → ReadsRow stop (slot ∷ ss) (Follows Q R) (w ∷ ws) (Err f)
    refused_right f is = record {
      spelt = λ y e. clash (sym e);
      spells = λ y h. absurd (unspelt y h);
      clean = λ y g e _. clash (sym e);
      fault = λ g e. refused 0 slot w refl refl (reads.refuses g (cc));
      least = λ at o d h g e r. let same : f ≡ h = cc in subst (λ f. NoLater f g) same (least at o d g (row_cases slot ss w ws stop g r));
    }
      where
        unspelt : (y : Y) → Follows Q R (map (λ v. v.bytes) (w ∷ ws)) y → ⊥
        unspelt y (then x q h) = clash (sym (reads.spells x q) ∙ is)

        least : (at : ℕ) → Ordered at stop (w ∷ ws) → All Solid (w ∷ ws) → (g : Fault) → RefusedWord w g slot ⊎ RowFault ss ws stop g → NoLater f g
        least at o d g (inl h) = let same : read w ≡ Err g = reads.refused g h in no_later_same f g (cc)
        least at o d g (inr h) =
            let right = row_stands (end w) stop ss ws o.1 (ordered_lower (end w + 1) (end w) stop ws (omega arith) o.2) g h in
            let here = word_stands w f slot (reads.refuses f is) in
            inl (omega (arith, right.3.place, here.place))

    pub accepted_right : (x : X) → read w ≡ Ok x → (r : Result Y Fault) → ReadsRow stop ss (R x) ws r → ReadsRow stop (slot ∷ ss) (Follows Q R) (w ∷ ws) r
    accepted_right x is r rest = record {
      spelt = λ y e. then x (reads.spelt x is) (rest.spelt y e);
      spells = spells;
      clean = λ y f e h. rest.clean y f e (later f h);
      fault = λ f e. row_later slot ss w ws stop f (rest.fault f e);
      least = λ at o d f g e h. rest.least (end w + 1) o.2 d.1 f g e (later g h);
    }
      where
        spells : (y : Y) → Follows Q R (map (λ v. v.bytes) (w ∷ ws)) y → r ≡ Ok y
        spells y (then v q h) = let same : read w ≡ Ok v = reads.spells v q in rest.spells y (subst (λ v. R v (map (λ v. v.bytes) ws) y) (cc) h)

        later : (f : Fault) → RowFault (slot ∷ ss) (w ∷ ws) stop f → RowFault ss ws stop f
        later f h = elim (row_cases slot ss w ws stop f h) [ inl h ↦ clash (sym is ∙ reads.refused f h) | inr h ↦ h ]

pub next_right : {X Y : Type 0} {stop : ℕ} {slot : Slot} {ss : List Slot} {Q : List ℕ → X → Type 0} {R : X → List (List ℕ) → Y → Type 0}
    {read : Piece → Result X Fault} {k : X → List Piece → Result Y Fault} → ((w : Piece) → ReadsWord slot read Q w)
    → ((x : X) (ws : List Piece) → ReadsRow stop ss (R x) ws (k x ws)) → (ws : List Piece) → ReadsRow stop (slot ∷ ss) (Follows Q R) ws (next read ws stop k)
next_right {stop} {slot} {ss} reads rest [] = missing_right stop slot ss
next_right {X} {stop} {slot} {ss} {Q} {R} {read} {k} reads rest (w ∷ ws) = either (read w) refl
  where
    either : (r : Result X Fault) → read w ≡ r → ReadsRow stop (slot ∷ ss) (Follows Q R) (w ∷ ws) (and_then r (λ x. k x ws))
    either (Ok x) is = accepted_right stop slot ss w ws (reads w) x is (k x ws) (rest x ws)
    either (Err f) is = refused_right stop slot ss w ws (reads w) f is
