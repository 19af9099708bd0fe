-- The table of statements: which words spell a statement, and why a word or its absence is refused.
use Rattle.std.specs.Prelude.{◌≡◌, ℕ, ◌+◌, ◌-◌, ◌*◌, ◌<◌, ◌≤◌, Bool, true, false, List, [], ◌∷◌, length, Some, codes, fold, ◌≢◌}
use Rattle.std.specs.List.{slice_get}
use Rattle.std.specs.Str.{all_ascii_digits}
use Rattle.lang.specs.declared.syntax.Mode.{Mode}
use Rattle.lang.specs.declared.syntax.Mode.TheVariants.{Relaxed, Acquire, Release, AcquireRelease, SeqCst}
use Rattle.lang.specs.declared.syntax.Location.{Location}
use Rattle.lang.specs.declared.syntax.Register.{Register}
use Rattle.lang.specs.declared.syntax.Operand.{Operand}
use Rattle.lang.specs.declared.syntax.Operand.TheVariants.{Held, Value}
use Rattle.lang.specs.declared.syntax.Statement.{Statement}
use Rattle.lang.specs.declared.syntax.Statement.TheVariants.{Load, Store, Exchange, Add, Fence}
use Rattle.faults.specs.declared.Fault.{Fault}
use Rattle.faults.specs.declared.Fault.TheVariants.{WrongWord, WrongMode, LargeNumber}
use Rattle.lang.specs.Spelling.{mode_name, location_name, register_name}
use Rattle.grammar.specs.declared.kinds.Kind.{Kind}
use Rattle.grammar.specs.declared.kinds.Kind.TheVariants.{Load as Ld, Store as St, Exchange as Xchg, Add as Sum, Fence as Bar}
use Rattle.grammar.specs.Pieces.{Piece, end, words}

abbrev pub kind_name : Kind → List ℕ
kind_name Ld = codes "ld"
kind_name St = codes "st"
kind_name Xchg = codes "xchg"
kind_name Sum = codes "add"
kind_name Bar = codes "fence"

-- The modes that a statement takes.
abbrev pub takes : Kind → Mode → Bool
takes Ld m = elim m [ Relaxed ↦ true | Acquire ↦ true | Release ↦ false | AcquireRelease ↦ false | SeqCst ↦ true ]
takes St m = elim m [ Relaxed ↦ true | Acquire ↦ false | Release ↦ true | AcquireRelease ↦ false | SeqCst ↦ true ]
takes Xchg m = true
takes Sum m = true
takes Bar m = elim m [ Relaxed ↦ false | Acquire ↦ true | Release ↦ true | AcquireRelease ↦ true | SeqCst ↦ true ]

-- The number that digits write: each digit counts ten times what follows it.
abbrev pub number : List ℕ → ℕ
number ds = fold (λ n d. n * 10 + (d - 48)) 0 ds

-- A value is written as a register or in digits, with any number of zeros in front.
pub data SpellsOperand (w : List ℕ) : Operand → Type 0 where
  held : (r : Register) → w ≡ register_name r → SpellsOperand w (Held r)
  value : (v : ℕ) → all_ascii_digits w ≡ true → number w ≡ v → v ≤ 255 → SpellsOperand w (Value v)

-- The words that spell a statement, one form a row.
pub data SpellsStatement : List (List ℕ) → Statement → Type 0 where
  ld : (r : Register) (l : Location) (m : Mode) → takes Ld m ≡ true → SpellsStatement (codes "ld" ∷ register_name r ∷ location_name l ∷ mode_name m ∷ []) (Load r l m)
  st : (l : Location) (w : List ℕ) (v : Operand) (m : Mode) → SpellsOperand w v → takes St m ≡ true → SpellsStatement (codes "st" ∷ location_name l ∷ w ∷ mode_name m ∷ []) (Store l v m)
  xchg : (r : Register) (l : Location) (w : List ℕ) (v : Operand) (m : Mode) → SpellsOperand w v → takes Xchg m ≡ true → SpellsStatement (codes "xchg" ∷ register_name r ∷ location_name l ∷ w ∷ mode_name m ∷ []) (Exchange r l v m)
  add : (r : Register) (l : Location) (w : List ℕ) (v : Operand) (m : Mode) → SpellsOperand w v → takes Sum m ≡ true → SpellsStatement (codes "add" ∷ register_name r ∷ location_name l ∷ w ∷ mode_name m ∷ []) (Add r l v m)
  fence : (m : Mode) → takes Bar m ≡ true → SpellsStatement (codes "fence" ∷ mode_name m ∷ []) (Fence m)

-- What a word can stand for.
pub data Slot : Type 0 where
  a_kind : Slot
  a_register : Slot
  a_location : Slot
  a_value : Slot
  a_mode : Kind → Slot

-- What follows the first word of a statement.
abbrev pub operands : Kind → List Slot
operands Ld = a_register ∷ a_location ∷ a_mode Ld ∷ []
operands St = a_location ∷ a_value ∷ a_mode St ∷ []
operands Xchg = a_register ∷ a_location ∷ a_value ∷ a_mode Xchg ∷ []
operands Sum = a_register ∷ a_location ∷ a_value ∷ a_mode Sum ∷ []
operands Bar = a_mode Bar ∷ []

-- The words that a statement of these words has to have: one that says its kind, and those of that kind.
pub data Slots : List Piece → List Slot → Type 0 where
  unnamed : Slots [] (a_kind ∷ [])
  unknown : (w : Piece) (ws : List Piece) → ((k : Kind) → w.bytes ≢ kind_name k) → Slots (w ∷ ws) (a_kind ∷ [])
  known : (k : Kind) (w : Piece) (ws : List Piece) → w.bytes ≡ kind_name k → Slots (w ∷ ws) (a_kind ∷ operands k)

-- A word is refused where it stands: it is none of what can stand there, a mode that the statement does not take, or a number over 255.
pub data RefusedWord (w : Piece) (f : Fault) : Slot → Type 0 where
  no_kind : ((k : Kind) → w.bytes ≢ kind_name k) → f ≡ WrongWord w.offset → RefusedWord w f a_kind
  no_register : ((r : Register) → w.bytes ≢ register_name r) → f ≡ WrongWord w.offset → RefusedWord w f a_register
  no_location : ((l : Location) → w.bytes ≢ location_name l) → f ≡ WrongWord w.offset → RefusedWord w f a_location
  no_value : ((r : Register) → w.bytes ≢ register_name r) → all_ascii_digits w.bytes ≡ false → f ≡ WrongWord w.offset → RefusedWord w f a_value
  large_value : all_ascii_digits w.bytes ≡ true → 255 < number w.bytes → f ≡ LargeNumber w.offset → RefusedWord w f a_value
  no_mode : {k : Kind} → ((m : Mode) → w.bytes ≢ mode_name m) → f ≡ WrongWord w.offset → RefusedWord w f (a_mode k)
  other_mode : {k : Kind} (m : Mode) → w.bytes ≡ mode_name m → takes k m ≡ false → f ≡ WrongMode w.offset → RefusedWord w f (a_mode k)

-- The faults of a statement: a word refused, one missing at the statement's end, one too many.
pub data StatementFault (s : Piece) (f : Fault) : Type 0 where
  refused : (ss : List Slot) (i : ℕ) (slot : Slot) (w : Piece) → Slots (words s) ss → slice_get ss i ≡ Some slot → slice_get (words s) i ≡ Some w → RefusedWord w f slot → StatementFault s f
  missing : (ss : List Slot) → Slots (words s) ss → length (words s) < length ss → f ≡ WrongWord (end s) → StatementFault s f
  extra : (ss : List Slot) (w : Piece) → Slots (words s) ss → slice_get (words s) (length ss) ≡ Some w → f ≡ WrongWord w.offset → StatementFault s f
