-- When a text spells a program, and what is wrong with one that is refused.
use Rattle.std.specs.Prelude.{◌≡◌, ℕ, ◌<◌, ◌≤◌, Bool, true, false, ◌&&◌, ◌||◌, ◌⊎◌, List, [], ◌∷◌, map, length, Some, Ok, Err, Result, ◌==◌, nat_le, slice_index}
use Rattle.std.specs.List.{slice_get}
use Rattle.lang.specs.declared.syntax.Statement.{Statement}
use Rattle.faults.specs.declared.Fault.{Fault}
use Rattle.faults.specs.declared.Fault.TheVariants.{TextLength, ForeignByte, FifthLine, NinthStatement}
use Rattle.faults.specs.Refusals.{refusal}
use Rattle.grammar.specs.Pieces.{Piece, SPACE, SEMICOLON, LF, lines, statements, words}
use Rattle.grammar.specs.Table.{SpellsStatement, StatementFault}

-- Two lists of one length, related entry by entry.
pub data Pairwise {X Y : Type 0} (R : X → Y → Type 0) : List X → List Y → Type 0 where
  none : Pairwise R [] []
  more : {x : X} {y : Y} {xs : List X} {ys : List Y} → R x y → Pairwise R xs ys → Pairwise R (x ∷ xs) (y ∷ ys)

-- The pieces spell xs one by one, and are at most n.
pub record SpellsEach {X : Type 0} (n : ℕ) (R : Piece → X → Type 0) (ps : List Piece) (xs : List X) : Type 0 where
  pub few : length ps ≤ n
  pub each : Pairwise R ps xs

abbrev pub SpellsWords : Piece → Statement → Type 0
SpellsWords s x = SpellsStatement (map (λ w. w.bytes) (words s)) x

-- A line spells a thread: its statements do, one by one, and are at most 8.
abbrev pub SpellsThread : Piece → List Statement → Type 0
SpellsThread line xs = SpellsEach 8 SpellsWords (statements line) xs

-- A text spells a program: its lines spell the threads, one by one, and are at most 4.
abbrev pub Spells : List ℕ → List (List Statement) → Type 0
Spells text ts = SpellsEach 4 SpellsThread (lines text) ts

-- The bytes that a text may have: a to z, 0 to 9, space, `;` and LF.
abbrev pub permitted : ℕ → Bool
permitted b = (nat_le 97 b && nat_le b 122) || ((nat_le 48 b && nat_le b 57) || (b == SPACE || (b == SEMICOLON || b == LF)))

abbrev pub AllPermitted : List ℕ → ℕ → Type 0
AllPermitted text n = (i : ℕ) → i < n → permitted (slice_index text i) ≡ true

-- A text is accepted as a program when it is of 1 to 2,048 permitted bytes and spells that program.
pub record Accepts (text : List ℕ) (ts : List (List Statement)) : Type 0 where
  pub some : 0 < length text
  pub few : length text ≤ 2048
  pub bytes : AllPermitted text (length text)
  pub spells : Spells text ts

-- The faults of pieces of which n may be: those inside a piece, and one at the offset of a piece too many.
pub data Faults (n : ℕ) (over : ℕ → Fault) (F : Piece → Fault → Type 0) (ps : List Piece) (f : Fault) : Type 0 where
  inside : (i : ℕ) (p : Piece) → slice_get ps i ≡ Some p → F p f → Faults n over F ps f
  too_many : (p : Piece) → slice_get ps n ≡ Some p → f ≡ over p.offset → Faults n over F ps f

-- In a line a `;` may stand before each statement but the first, so the piece too many begins just after the eighth `;`.
abbrev pub ThreadFault : Piece → Fault → Type 0
ThreadFault line f = Faults 8 NinthStatement StatementFault (statements line) f

-- The line too many begins just after the fourth LF, and has a byte at least.
abbrev pub TextFault : List ℕ → Fault → Type 0
TextFault text f = Faults 4 FifthLine ThreadFault (lines text) f

-- f stands further left than g, or at the same place with a number no higher.
abbrev pub NoLater : Fault → Fault → Type 0
NoLater f g =
    ((refusal f).place < (refusal g).place) ⊎ (((refusal f).place ≡ (refusal g).place) × ((refusal f).number ≤ (refusal g).number))

-- Why a text is refused. The first pass looks at the length and then at the bytes, the second at lines, statements and words;
-- each gives the leftmost fault, and of those at one place the lowest-numbered.
pub data Refuses (text : List ℕ) (f : Fault) : Type 0 where
  length_wrong : (length text ≡ 0) ⊎ (2048 < length text) → f ≡ TextLength → Refuses text f
  byte_wrong : (at : ℕ) → 0 < length text → length text ≤ 2048 → at < length text → permitted (slice_index text at) ≡ false → AllPermitted text at → f ≡ ForeignByte at → Refuses text f
  text_wrong : 0 < length text → length text ≤ 2048 → AllPermitted text (length text) → TextFault text f → ((g : Fault) → TextFault text g → NoLater f g) → Refuses text f

-- An answer is the program that the text spells, or the fault with which the text is refused; and there is no other.
pub record Right (text : List ℕ) (r : Result (List (List Statement)) Fault) : Type 0 where
  pub accepted : (ts : List (List Statement)) → r ≡ Ok ts → Accepts text ts
  pub accepts : (ts : List (List Statement)) → Accepts text ts → r ≡ Ok ts
  pub refused : (f : Fault) → r ≡ Err f → Refuses text f
  pub refuses : (f : Fault) → Refuses text f → r ≡ Err f

-- An answer seen through a view of its value; a fault stays as it is.
abbrev pub seen : {X Y : Type 0} → (X → Y) → Result X Fault → Result Y Fault
seen view (Ok x) = Ok (view x)
seen view (Err f) = Err f
