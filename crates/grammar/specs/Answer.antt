-- What reading a text answers, computed from left to right.
use Rattle.std.specs.Prelude.{ℕ, zero, suc, cond, not, ◌&&◌, List, [], ◌∷◌, length, Some, None, Ok, Err, Option, Result, find, position, ok_or, nat_le, nat_lt}
use Rattle.std.specs.Str.{all_ascii_digits, bytes_eq}
use Rattle.lang.specs.declared.syntax.Mode.{Mode}
use Rattle.lang.specs.declared.syntax.Mode.TheVariants.{Relaxed, Acquire, Release, AcquireRelease, SeqCst}
use Rattle.lang.specs.declared.syntax.Location.{Location}
use Rattle.lang.specs.declared.syntax.Location.TheVariants.{X, Y, Z, W}
use Rattle.lang.specs.declared.syntax.Register.{Register}
use Rattle.lang.specs.declared.syntax.Register.TheVariants.{R0, R1, R2, R3}
use Rattle.lang.specs.declared.syntax.Operand.{Operand}
use Rattle.lang.specs.declared.syntax.Operand.TheVariants.{Held, Value}
use Rattle.lang.specs.declared.syntax.Statement.{Statement}
use Rattle.lang.specs.declared.syntax.Statement.TheVariants.{Load, Store, Exchange, Add, Fence}
use Rattle.faults.specs.declared.Fault.{Fault}
use Rattle.faults.specs.declared.Fault.TheVariants.{TextLength, ForeignByte, FifthLine, NinthStatement, WrongWord, WrongMode, LargeNumber}
use Rattle.lang.specs.Spelling.{mode_name, location_name, register_name}
use Rattle.grammar.specs.declared.kinds.Kind.{Kind}
use Rattle.grammar.specs.declared.kinds.Kind.TheVariants.{Load as Ld, Store as St, Exchange as Xchg, Add as Sum, Fence as Bar}
use Rattle.grammar.specs.Pieces.{Piece, end, lines, statements, words}
use Rattle.grammar.specs.Table.{kind_name, takes, number}
use Rattle.grammar.specs.Texts.{permitted}

-- The first of some things whose name a word is.
abbrev pub named : {X : Type 0} → (X → List ℕ) → List X → List ℕ → Option X
named name xs w = find (λ x. bytes_eq w (name x)) xs

abbrev pub kind_of : List ℕ → Option Kind
kind_of w = named kind_name (Ld ∷ St ∷ Xchg ∷ Sum ∷ Bar ∷ []) w

abbrev pub register_of : List ℕ → Option Register
register_of w = named register_name (R0 ∷ R1 ∷ R2 ∷ R3 ∷ []) w

abbrev pub location_of : List ℕ → Option Location
location_of w = named location_name (X ∷ Y ∷ Z ∷ W ∷ []) w

abbrev pub mode_of : List ℕ → Option Mode
mode_of w = named mode_name (Relaxed ∷ Acquire ∷ Release ∷ AcquireRelease ∷ SeqCst ∷ []) w

-- What a word is read as where it stands, or the fault at it.
abbrev pub known : {X : Type 0} → Option X → ℕ → Result X Fault
known word at = ok_or word (WrongWord at)

abbrev pub read_kind : Piece → Result Kind Fault
read_kind w = known (kind_of w.bytes) w.offset

abbrev pub read_register : Piece → Result Register Fault
read_register w = known (register_of w.bytes) w.offset

abbrev pub read_location : Piece → Result Location Fault
read_location w = known (location_of w.bytes) w.offset

abbrev pub read_number : Piece → Result Operand Fault
read_number w = cond (nat_le (number w.bytes) 255) (Ok (Value (number w.bytes))) (Err (LargeNumber w.offset))

abbrev pub read_operand : Piece → Result Operand Fault
read_operand w =
    elim (register_of w.bytes) [
      | Some r ↦ Ok (Held r)
      | None ↦ cond (all_ascii_digits w.bytes) (read_number w) (Err (WrongWord w.offset))
    ]

abbrev pub moded : Kind → Option Mode → ℕ → Result Mode Fault
moded k (Some m) at = cond (takes k m) (Ok m) (Err (WrongMode at))
moded k None at = Err (WrongWord at)

abbrev pub read_mode : Kind → Piece → Result Mode Fault
read_mode k w = moded k (mode_of w.bytes) w.offset

-- Goes on with the value, or keeps the fault.
abbrev pub and_then : {X Y : Type 0} → Result X Fault → (X → Result Y Fault) → Result Y Fault
and_then (Ok x) k = k x
and_then (Err f) k = Err f

-- Reads the next word and goes on with the words after it; a missing word is a fault at the statement's end.
abbrev pub next : {X Y : Type 0} → (Piece → Result X Fault) → List Piece → ℕ → (X → List Piece → Result Y Fault) → Result Y Fault
next read [] stop k = Err (WrongWord stop)
next read (w ∷ ws) stop k = and_then (read w) (λ x. k x ws)

-- The statement is over: a word more is a fault.
abbrev pub done : {Y : Type 0} → Y → List Piece → Result Y Fault
done y [] = Ok y
done y (w ∷ ws) = Err (WrongWord w.offset)

-- What follows the first word of a statement.
abbrev pub read_operands : Kind → List Piece → ℕ → Result Statement Fault
read_operands Ld ws stop =
    next read_register ws stop λ r ws. next read_location ws stop λ l ws. next (read_mode Ld) ws stop λ m ws. done (Load r l m) ws
read_operands St ws stop =
    next read_location ws stop λ l ws. next read_operand ws stop λ v ws. next (read_mode St) ws stop λ m ws. done (Store l v m) ws
read_operands Xchg ws stop =
    next read_register ws stop λ r ws. next read_location ws stop λ l ws. next read_operand ws stop λ v ws. next (read_mode Xchg) ws stop λ m ws. done (Exchange r l v m) ws
read_operands Sum ws stop =
    next read_register ws stop λ r ws. next read_location ws stop λ l ws. next read_operand ws stop λ v ws. next (read_mode Sum) ws stop λ m ws. done (Add r l v m) ws
read_operands Bar ws stop = next (read_mode Bar) ws stop λ m ws. done (Fence m) ws

abbrev pub read_words : List Piece → ℕ → Result Statement Fault
read_words ws stop = next read_kind ws stop λ k ws. read_operands k ws stop

abbrev pub read_statement : Piece → Result Statement Fault
read_statement s = read_words (words s) (end s)

-- Reads piece after piece, of which n may be.
abbrev pub read_each : {X : Type 0} → ℕ → (ℕ → Fault) → (Piece → Result X Fault) → List Piece → Result (List X) Fault
read_each n over read [] = Ok []
read_each zero over read (p ∷ ps) = Err (over p.offset)
read_each (suc n) over read (p ∷ ps) = and_then (read p) λ x. and_then (read_each n over read ps) λ xs. Ok (x ∷ xs)

abbrev pub read_thread : Piece → Result (List Statement) Fault
read_thread line = read_each 8 NinthStatement read_statement (statements line)

abbrev pub read_threads : List ℕ → Result (List (List Statement)) Fault
read_threads text = read_each 4 FifthLine read_thread (lines text)

-- The offset of the first byte that is not permitted.
abbrev pub foreign : List ℕ → Option ℕ
foreign text = position (λ b. not (permitted b)) text

-- The fault at a foreign byte, if there is one.
abbrev pub no_foreign : Option ℕ → Result (Unit {0}) Fault
no_foreign (Some at) = Err (ForeignByte at)
no_foreign None = Ok tt

abbrev pub read_bytes : List ℕ → Result (List (List Statement)) Fault
read_bytes text = and_then (no_foreign (foreign text)) λ _. read_threads text

-- The answer for any text.
unfoldable pub answer : List ℕ → Result (List (List Statement)) Fault
answer text = cond (nat_lt 0 (length text) && nat_le (length text) 2048) (read_bytes text) (Err TextLength)
