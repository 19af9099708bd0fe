-- How a word is read as what it names.
use Rattle.std.specs.Prelude.{◌≡◌, ◌≢◌, ℕ, List, Result, Ok, Err}

-- What is read is what the word names; where nothing is read, the word names none.
abbrev pub Reads : {X E : Type 0} → (X → List ℕ) → List ℕ → Result X E → Type 0
Reads name word (Ok x) = word ≡ name x
Reads {X} name word (Err e) = (x : X) → word ≢ name x
