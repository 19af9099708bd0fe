-- The answer for any text is right, since each statement is read right.
-- A line is cut into statements and a text into lines, so both are read right. What is wrong with a text decides the answer:
-- its length, or else its first byte that is not permitted, or else the least fault of its lines, which is the only one, for
-- number and place tell a fault. And a text with nothing wrong is answered with what its lines spell. One of these always
-- holds, and the answer is then as wanted; that no other answer is right follows from the same computation.
use Rattle.std.proofs.Common.{◌≡◌, ℕ, ◌<◌, ◌≤◌, ◌⊎◌, List, length, Ok, Err, Result, sym, refl, ap, ◌∙◌, inl, inr, arith}
use Rattle.std.proofs.lemmas.Bool.{cases_lt, lt-ltb, le-ltb, le-leb, lt-leb}
use Rattle.lang.specs.declared.syntax.Statement.{Statement}
use Rattle.faults.specs.declared.Fault.{Fault}
use Rattle.faults.specs.declared.Fault.TheVariants.{TextLength, ForeignByte, FifthLine, NinthStatement}
use Rattle.faults.specs.Refusals.{refusal}
use Rattle.grammar.specs.Pieces.{Piece, piece, lines, statements}
use Rattle.grammar.specs.Texts.{SpellsThread, Spells, AllPermitted, Accepts, ThreadFault, TextFault, NoLater, Refuses, length_wrong, byte_wrong, text_wrong, Right}
use Rattle.grammar.specs.Answer.{read_thread, read_threads, read_bytes, answer}
use Rattle.grammar.proofs.Right.{ReadsRight, FaultsLie, told_by}
use Rattle.grammar.proofs.Spans.{statements_ordered, lines_ordered}
use Rattle.grammar.proofs.Statements.{statement_right, statement_faults_lie}
use Rattle.grammar.proofs.Each.{Marks, each_right, each_faults_lie}
use Rattle.grammar.proofs.Bytes.{FirstForeign, permitted_or_first, foreign_none, foreign_first}

-- Of two faults told by number and place, neither later than the other, both are one.
told_once : (f g : Fault) → f ≡ told_by (refusal f).number (refusal f).place → g ≡ told_by (refusal g).number (refusal g).place → NoLater f g → NoLater g f → f ≡ g
told_once f g a b (inl c) (inl d) = absurd (omega arith)
told_once f g a b (inl c) (inr d) = absurd (omega arith)
told_once f g a b (inr c) (inl d) = absurd (omega arith)
told_once f g a b (inr c) (inr d) =
    let n : (refusal f).number ≡ (refusal g).number = omega arith in
    let p : (refusal f).place ≡ (refusal g).place = omega arith in
    a ∙ rw (n, p) (sym b)

-- The least fault of a piece is what reading it answers.
least_read : {X : Type 0} {read : Piece → Result X Fault} {R : Piece → X → Type 0} {F : Piece → Fault → Type 0} {low : ℕ} {p : Piece} → ReadsRight read R F p → FaultsLie low F p → (f : Fault) → F p f → ((g : Fault) → F p g → NoLater f g) → read p ≡ Err f
least_read {read} {p} right lies f h least = go (read p) refl
  where
    go : (r : Result _ Fault) → read p ≡ r → r ≡ Err f
    go (Ok x) e = absurd (right.clean x f e h)
    go (Err g) e =
        let k = right.fault g e in
        ap Err (told_once g f (lies.told g k) (lies.told f h) (right.least g f e h) (least g k))

ninth : Marks 4 NinthStatement
ninth = record { place = λ at. refl; number = λ at. refl; told = λ at. refl }

fifth : Marks 3 FifthLine
fifth = record { place = λ at. refl; number = λ at. refl; told = λ at. refl }

-- What an answer says of a text: that it is accepted as this program, or refused with this fault.
abbrev Judged : List ℕ → Result (List (List Statement)) Fault → Type 0
Judged text (Ok ts) = Accepts text ts
Judged text (Err f) = Refuses text f

cases_size : (n : ℕ) → ((n ≡ 0) ⊎ (2048 < n)) ⊎ ((0 < n) × (n ≤ 2048))
cases_size n = elim (cases_lt 0 n) [
  | inr h ↦ inl (inl (omega arith))
  | inl h ↦ elim (cases_lt 2048 n) [ inl k ↦ inl (inr k) | inr k ↦ inr (h, k) ]
]

-- What is answered for a text of a wrong length, with a foreign byte, and with permitted bytes only.
pub answer_length : (text : List ℕ) → (length text ≡ 0) ⊎ (2048 < length text) → answer text ≡ Err TextLength
unfolding answer
answer_length text (inl h) = rw (le-ltb 0 (length text) (omega arith))
answer_length text (inr h) = rw (lt-ltb 0 (length text) (omega arith), lt-leb (length text) 2048 h)

pub answer_bytes : (text : List ℕ) → 0 < length text → length text ≤ 2048 → answer text ≡ read_bytes text
unfolding answer
answer_bytes text a b = rw (lt-ltb 0 (length text) a, le-leb (length text) 2048 b)

answer_foreign : (text : List ℕ) → 0 < length text → length text ≤ 2048 → (i : ℕ) → FirstForeign text i → answer text ≡ Err (ForeignByte i)
answer_foreign text a b i h = answer_bytes text a b ∙ rw (foreign_first text i h)

answer_threads : (text : List ℕ) → 0 < length text → length text ≤ 2048 → AllPermitted text (length text) → answer text ≡ read_threads text
answer_threads text a b h = answer_bytes text a b ∙ rw (foreign_none text h)

thread_right : (line : Piece) → ReadsRight read_thread SpellsThread ThreadFault line
thread_right line = each_right ninth (omega arith) statement_faults_lie statement_right 8 statements line (statements_ordered line)

thread_faults_lie : (line : Piece) → FaultsLie 4 ThreadFault line
thread_faults_lie line = each_faults_lie ninth (omega arith) statement_faults_lie 8 statements line (statements_ordered line)

text_right : (text : List ℕ) → ReadsRight (λ p. read_threads p.bytes) (λ p. Spells p.bytes) (λ p. TextFault p.bytes) (piece 0 text)
text_right text = each_right fifth (omega arith) thread_faults_lie thread_right 4 (λ p. lines p.bytes) (piece 0 text) (lines_ordered text)

text_faults_lie : (text : List ℕ) → FaultsLie 3 (λ p. TextFault p.bytes) (piece 0 text)
text_faults_lie text = each_faults_lie fifth (omega arith) thread_faults_lie 4 (λ p. lines p.bytes) (piece 0 text) (lines_ordered text)

threads_judged : (text : List ℕ) → 0 < length text → length text ≤ 2048 → AllPermitted text (length text) → (r : Result (List (List Statement)) Fault) → read_threads text ≡ r → Judged text r
threads_judged text a b c (Ok ts) e = record { some = a; few = b; bytes = c; spells = (text_right text).spelt ts e }
threads_judged text a b c (Err f) e = text_wrong a b c ((text_right text).fault f e) (λ g. (text_right text).least f g e)

bytes_judged : (text : List ℕ) → 0 < length text → length text ≤ 2048 → AllPermitted text (length text) ⊎ ((i : ℕ) × FirstForeign text i) → Judged text (answer text)
bytes_judged text a b (inl c) = rw (answer_threads text a b c) (threads_judged text a b c (read_threads text) refl)
bytes_judged text a b (inr (i, h)) = rw (answer_foreign text a b i h) (byte_wrong i a b h.within h.wrong h.before refl)

judged : (text : List ℕ) → Judged text (answer text)
judged text = elim (cases_size (length text)) [
  | inl h ↦ rw (answer_length text h) (length_wrong h refl)
  | inr h ↦ bytes_judged text h.0 h.1 (permitted_or_first text)
]

text_refuses : (text : List ℕ) (f : Fault) → Refuses text f → answer text ≡ Err f
text_refuses text f (length_wrong h e) = answer_length text h ∙ ap Err (sym e)
text_refuses text f (byte_wrong at a b l w p e) = answer_foreign text a b at (record { within = l; wrong = w; before = p }) ∙ ap Err (sym e)
text_refuses text f (text_wrong a b c h least) = answer_threads text a b c ∙ least_read (text_right text) (text_faults_lie text) f h least

pub answer_right : (text : List ℕ) → Right text (answer text)
answer_right text =
    record {
      accepted = λ ts e. rw e at (judged text);
      accepts = λ ts h. answer_threads text h.some h.few h.bytes ∙ (text_right text).spells ts h.spells;
      refused = λ f e. rw e at (judged text);
      refuses = text_refuses text;
    }

-- So is whatever equals it.
pub right_if : (text : List ℕ) (r : Result (List (List Statement)) Fault) → r ≡ answer text → Right text r
right_if text r e = rw e (answer_right text)
