-- What one word is read as where it stands.
-- Each of the five slots reads a word as a value if and only if the word spells that value, and refuses it with a fault if and
-- only if that is the fault of the word in that slot. For kinds, registers and locations this follows from their names alone.
-- A value is a register's name, digits, or neither, and digits write a number of at most 255 or a larger one; no register's
-- name is of digits alone. A mode is one that the statement takes, another one, or none.
-- A refused word's fault stands at the offset of the word.
use Rattle.std.proofs.Common.{◌≡◌, ℕ, ◌<◌, ◌≤◌, true, false, cond, leb, List, Some, None, Ok, Err, Option, Result, sym, refl, ap, ◌∙◌, subst, inl, inr, arith}
use mathlib.Core.Path.{subst⁻¹}
use Rattle.std.specs.Str.{all_ascii_digits}
use Rattle.std.proofs.lemmas.Bool.{both_ways, cases_Bool, cases_lt, cond-true, cond-false, le-leb, lt-leb}
use Rattle.lang.specs.declared.syntax.Mode.{Mode}
use Rattle.lang.specs.declared.syntax.Register.{Register}
use Rattle.lang.specs.declared.syntax.Register.TheVariants.{R0, R1, R2, R3}
use Rattle.lang.specs.declared.syntax.Operand.{Operand}
use Rattle.lang.specs.declared.syntax.Operand.TheVariants.{Held, Value}
use Rattle.faults.specs.declared.Fault.{Fault}
use Rattle.faults.specs.declared.Fault.TheVariants.{WrongWord, WrongMode, LargeNumber}
use Rattle.lang.specs.Spelling.{mode_name, location_name, register_name}
use Rattle.faults.specs.Refusals.{refusal}
use Rattle.grammar.specs.declared.kinds.Kind.{Kind}
use Rattle.grammar.specs.Pieces.{Piece}
use Rattle.grammar.specs.Table.{kind_name, takes, number, SpellsOperand, held, value, Slot, a_kind, a_register, a_location, a_value, a_mode, RefusedWord, no_kind, no_register, no_location, no_value, large_value, no_mode, other_mode}
use Rattle.grammar.specs.Answer.{register_of, mode_of, known, read_kind, read_register, read_location, read_number, read_operand, moded, read_mode}
use Rattle.grammar.proofs.Right.{told_by}
use Rattle.grammar.proofs.Names.{ReadsNames, kinds_read, registers_read, locations_read, modes_read, name_read, no_name, no_name_read}

-- How a slot reads a word: R says which bytes spell which value.
pub record ReadsWord {X : Type 0} (slot : Slot) (read : Piece → Result X Fault) (R : List ℕ → X → Type 0) (w : Piece) : Type 0 where
  pub spelt : (x : X) → read w ≡ Ok x → R w.bytes x
  pub spells : (x : X) → R w.bytes x → read w ≡ Ok x
  pub refuses : (f : Fault) → read w ≡ Err f → RefusedWord w f slot
  pub refused : (f : Fault) → RefusedWord w f slot → read w ≡ Err f

-- Each word either spells a value or is refused, and reading it tells which.
data Outcome {X : Type 0} (slot : Slot) (R : List ℕ → X → Type 0) (w : Piece) (r : Result X Fault) : Type 0 where
  fits : (x : X) → r ≡ Ok x → R w.bytes x → Outcome slot R w r
  fails : (f : Fault) → r ≡ Err f → RefusedWord w f slot → Outcome slot R w r

reads_by : {X : Type 0} (slot : Slot) (read : Piece → Result X Fault) (R : List ℕ → X → Type 0) (w : Piece) → Outcome slot R w (read w)
    → ((x : X) → R w.bytes x → read w ≡ Ok x) → ((f : Fault) → RefusedWord w f slot → read w ≡ Err f) → ReadsWord slot read R w
reads_by {X} slot read R w outcome spells refused =
    record { spelt = λ x. spelt x outcome; spells = spells; refuses = λ f. refuses f outcome; refused = refused }
  where
    spelt : (x : X) → Outcome slot R w (read w) → read w ≡ Ok x → R w.bytes x
    spelt x (fits y e h) is = let same : y ≡ x = cc in subst (R w.bytes) same h
    spelt x (fails f e h) is = let z : ◌≡◌ {A = ℕ} 0 1 = cc in absurd (omega arith)

    refuses : (f : Fault) → Outcome slot R w (read w) → read w ≡ Err f → RefusedWord w f slot
    refuses f (fits x e h) is = let z : ◌≡◌ {A = ℕ} 0 1 = cc in absurd (omega arith)
    refuses f (fails g e h) is = let same : g ≡ f = cc in subst (λ f. RefusedWord w f slot) same h

-- A word that is a name.
abbrev pub Is : {X : Type 0} → (X → List ℕ) → List ℕ → X → Type 0
Is name w x = w ≡ name x

abbrev Nameless : {X : Type 0} → (X → List ℕ) → Piece → Type 0
Nameless {X} name w = (x : X) → w.bytes ≡ name x → ⊥

known_reads : {X : Type 0} (slot : Slot) {name : X → List ℕ} {of : List ℕ → Option X} (reads : ReadsNames name of) (w : Piece)
    → ((f : Fault) → Nameless name w → f ≡ WrongWord w.offset → RefusedWord w f slot)
    → ((f : Fault) → RefusedWord w f slot → Nameless name w × (f ≡ WrongWord w.offset))
    → ReadsWord slot (λ (p : Piece). known (of p.bytes) p.offset) (Is name) w
known_reads {X} slot {name} {of} reads w make parts =
    reads_by slot (λ (p : Piece). known (of p.bytes) p.offset) (Is name) w (either (of w.bytes) refl)
    (λ x e. ap (λ o. known o w.offset) (name_read reads w.bytes x e))
    (λ f r. ap (λ o. known o w.offset) (no_name_read reads w.bytes (parts f r).0) ∙ ap Err (sym (parts f r).1))
  where
    either : (o : Option X) → of w.bytes ≡ o → Outcome slot (Is name) w (known o w.offset)
    either (Some x) is = fits x refl (reads.some w.bytes x is)
    either None is = fails (WrongWord w.offset) refl (make (WrongWord w.offset) (no_name reads w.bytes is) refl)

pub kind_reads : (w : Piece) → ReadsWord a_kind read_kind (Is kind_name) w
kind_reads w = known_reads a_kind kinds_read w (λ f n e. no_kind n e) taken
  where
    taken : (f : Fault) → RefusedWord w f a_kind → Nameless kind_name w × (f ≡ WrongWord w.offset)
    taken f (no_kind n e) = (n, e)

pub register_reads : (w : Piece) → ReadsWord a_register read_register (Is register_name) w
register_reads w = known_reads a_register registers_read w (λ f n e. no_register n e) taken
  where
    taken : (f : Fault) → RefusedWord w f a_register → Nameless register_name w × (f ≡ WrongWord w.offset)
    taken f (no_register n e) = (n, e)

pub location_reads : (w : Piece) → ReadsWord a_location read_location (Is location_name) w
location_reads w = known_reads a_location locations_read w (λ f n e. no_location n e) taken
  where
    taken : (f : Fault) → RefusedWord w f a_location → Nameless location_name w × (f ≡ WrongWord w.offset)
    taken f (no_location n e) = (n, e)

-- Digits are no register's name.
digits_no_register : (bs : List ℕ) → all_ascii_digits bs ≡ true → (r : Register) → bs ≡ register_name r → ⊥
digits_no_register bs d r e = lettered r (sym (ap all_ascii_digits e) ∙ d)
  where
    lettered : (r : Register) → all_ascii_digits (register_name r) ≡ true → ⊥
    lettered R0 z = both_ways false refl z
    lettered R1 z = both_ways false refl z
    lettered R2 z = both_ways false refl z
    lettered R3 z = both_ways false refl z

-- The four ways to read a value.
module _ (w : Piece) where
  abbrev digits : Option Register → Result Operand Fault
  digits o = elim o [ Some r ↦ Ok (Held r) | None ↦ cond (all_ascii_digits w.bytes) (read_number w) (Err (WrongWord w.offset)) ]

  value_held : (r : Register) → w.bytes ≡ register_name r → read_operand w ≡ Ok (Held r)
  value_held r e = ap digits (name_read registers_read w.bytes r e)

  value_number : all_ascii_digits w.bytes ≡ true → read_operand w ≡ read_number w
  value_number d =
      ap digits (no_name_read registers_read w.bytes (digits_no_register w.bytes d)) ∙ cond-true (all_ascii_digits w.bytes) (read_number w) (Err (WrongWord w.offset)) d

  value_small : all_ascii_digits w.bytes ≡ true → number w.bytes ≤ 255 → read_operand w ≡ Ok (Value (number w.bytes))
  value_small d l = value_number d ∙ cond-true (leb (number w.bytes) 255) (Ok (Value (number w.bytes))) (Err (LargeNumber w.offset)) (le-leb (number w.bytes) 255 l)

  value_large : all_ascii_digits w.bytes ≡ true → 255 < number w.bytes → read_operand w ≡ Err (LargeNumber w.offset)
  value_large d l = value_number d ∙ cond-false (leb (number w.bytes) 255) (Ok (Value (number w.bytes))) (Err (LargeNumber w.offset)) (lt-leb (number w.bytes) 255 l)

  value_wrong : Nameless register_name w → all_ascii_digits w.bytes ≡ false → read_operand w ≡ Err (WrongWord w.offset)
  value_wrong n d = ap digits (no_name_read registers_read w.bytes n) ∙ cond-false (all_ascii_digits w.bytes) (read_number w) (Err (WrongWord w.offset)) d

  value_outcome : Outcome a_value SpellsOperand w (read_operand w)
  value_outcome = either (register_of w.bytes) refl
    where
      either : (o : Option Register) → register_of w.bytes ≡ o → Outcome a_value SpellsOperand w (read_operand w)
      either (Some r) is = let e : w.bytes ≡ register_name r = registers_read.some w.bytes r is in fits (Held r) (value_held r e) (held r e)
      either None is =
          let n : Nameless register_name w = no_name registers_read w.bytes is in
          elim (cases_Bool (all_ascii_digits w.bytes)) [
            | inl d ↦ elim (cases_lt 255 (number w.bytes)) [
              | inl l ↦ fails (LargeNumber w.offset) (value_large d l) (large_value d l refl)
              | inr l ↦ fits (Value (number w.bytes)) (value_small d l) (value (number w.bytes) d refl l)
            ]
            | inr d ↦ fails (WrongWord w.offset) (value_wrong n d) (no_value n d refl)
          ]

  value_spells : (x : Operand) → SpellsOperand w.bytes x → read_operand w ≡ Ok x
  value_spells x (held r e) = value_held r e
  value_spells x (value v d is l) = value_small d (rw is l) ∙ ap (λ n. Ok (Value n)) is

  value_refused : (f : Fault) → RefusedWord w f a_value → read_operand w ≡ Err f
  value_refused f (no_value n d e) = value_wrong n d ∙ ap Err (sym e)
  value_refused f (large_value d l e) = value_large d l ∙ ap Err (sym e)

pub value_reads : (w : Piece) → ReadsWord a_value read_operand SpellsOperand w
value_reads w = reads_by a_value read_operand SpellsOperand w (value_outcome w) (value_spells w) (value_refused w)

-- The three ways to read a mode.
abbrev pub IsTaken : Kind → List ℕ → Mode → Type 0
IsTaken k w m = (w ≡ mode_name m) × (takes k m ≡ true)

module _ (k : Kind) (w : Piece) where
  mode_named : (m : Mode) → w.bytes ≡ mode_name m → read_mode k w ≡ cond (takes k m) (Ok m) (Err (WrongMode w.offset))
  mode_named m e = ap (λ o. moded k o w.offset) (name_read modes_read w.bytes m e)

  mode_taken : (m : Mode) → w.bytes ≡ mode_name m → takes k m ≡ true → read_mode k w ≡ Ok m
  mode_taken m e t = mode_named m e ∙ cond-true (takes k m) (Ok m) (Err (WrongMode w.offset)) t

  mode_other : (m : Mode) → w.bytes ≡ mode_name m → takes k m ≡ false → read_mode k w ≡ Err (WrongMode w.offset)
  mode_other m e t = mode_named m e ∙ cond-false (takes k m) (Ok m) (Err (WrongMode w.offset)) t

  mode_wrong : Nameless mode_name w → read_mode k w ≡ Err (WrongWord w.offset)
  mode_wrong n = ap (λ o. moded k o w.offset) (no_name_read modes_read w.bytes n)

  mode_outcome : Outcome (a_mode k) (IsTaken k) w (read_mode k w)
  mode_outcome = either (mode_of w.bytes) refl
    where
      either : (o : Option Mode) → mode_of w.bytes ≡ o → Outcome (a_mode k) (IsTaken k) w (read_mode k w)
      either (Some m) is =
          let e : w.bytes ≡ mode_name m = modes_read.some w.bytes m is in
          elim (cases_Bool (takes k m)) [
            | inl t ↦ fits m (mode_taken m e t) (e, t)
            | inr t ↦ fails (WrongMode w.offset) (mode_other m e t) (other_mode m e t refl)
          ]
      either None is = let n : Nameless mode_name w = no_name modes_read w.bytes is in fails (WrongWord w.offset) (mode_wrong n) (no_mode n refl)

  mode_refused : (f : Fault) → RefusedWord w f (a_mode k) → read_mode k w ≡ Err f
  mode_refused f (no_mode n e) = mode_wrong n ∙ ap Err (sym e)
  mode_refused f (other_mode m e t is) = mode_other m e t ∙ ap Err (sym is)

pub mode_reads : (k : Kind) (w : Piece) → ReadsWord (a_mode k) (read_mode k) (IsTaken k) w
mode_reads k w = reads_by (a_mode k) (read_mode k) (IsTaken k) w (mode_outcome k w) (λ m h. mode_taken k w m h.0 h.1) (mode_refused k w)

-- A fault of a word stands at its offset, and is told by its number and place.
pub record Stands (f : Fault) (at : ℕ) : Type 0 where
  pub place : (refusal f).place ≡ at
  pub high : 5 ≤ (refusal f).number
  pub told : f ≡ told_by (refusal f).number (refusal f).place

pub wrong_word_stands : (f : Fault) (at : ℕ) → f ≡ WrongWord at → Stands f at
wrong_word_stands f at e = subst⁻¹ (λ f. Stands f at) e (record { place = refl; high = omega arith; told = refl })

pub word_stands : (w : Piece) (f : Fault) (slot : Slot) → RefusedWord w f slot → Stands f w.offset
word_stands w f slot (no_kind n e) = wrong_word_stands f w.offset e
word_stands w f slot (no_register n e) = wrong_word_stands f w.offset e
word_stands w f slot (no_location n e) = wrong_word_stands f w.offset e
word_stands w f slot (no_value n d e) = wrong_word_stands f w.offset e
word_stands w f slot (large_value d l e) = subst⁻¹ (λ f. Stands f w.offset) e (record { place = refl; high = omega arith; told = refl })
word_stands w f slot (no_mode n e) = wrong_word_stands f w.offset e
word_stands w f slot (other_mode m e t is) = subst⁻¹ (λ f. Stands f w.offset) is (record { place = refl; high = omega arith; told = refl })
