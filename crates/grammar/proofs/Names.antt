-- What the names of kinds, registers, locations and modes are read as.
-- A word that is read as a thing is that thing's name, whatever the list of things. The other way round, each thing's name
-- is read as that thing: no two names are the same, which computing shows for each of the four kinds of names.
-- So a word that is read as nothing is no name at all.
use Rattle.std.proofs.Common.{◌≡◌, ℕ, List, [], ◌∷◌, Some, None, Option, refl, ap, ◌∙◌, arith}
use Rattle.std.specs.Str.{bytes_eq}
use Rattle.std.proofs.lemmas.Bool.{cond_both}
use Rattle.std.proofs.lemmas.Slice.Eq.{bytes_eq-Decides}
use Rattle.lang.specs.declared.syntax.Mode.{Mode}
use Rattle.lang.specs.declared.syntax.Mode.TheVariants.{Relaxed, Acquire, Release, AcquireRelease, SeqCst}
use Rattle.lang.specs.declared.syntax.Location.{Location}
use Rattle.lang.specs.declared.syntax.Location.TheVariants.{X, Y, Z, W}
use Rattle.lang.specs.declared.syntax.Register.{Register}
use Rattle.lang.specs.declared.syntax.Register.TheVariants.{R0, R1, R2, R3}
use Rattle.lang.specs.Spelling.{mode_name, location_name, register_name}
use Rattle.grammar.specs.declared.kinds.Kind.{Kind}
use Rattle.grammar.specs.declared.kinds.Kind.TheVariants.{Load as Ld, Store as St, Exchange as Xchg, Add as Sum, Fence as Bar}
use Rattle.grammar.specs.Table.{kind_name}
use Rattle.grammar.specs.Answer.{named, kind_of, register_of, location_of, mode_of}

-- A word and what it is read as: `of` reads the names that `name` gives, and nothing else.
pub record ReadsNames {A : Type 0} (name : A → List ℕ) (of : List ℕ → Option A) : Type 0 where
  pub some : (w : List ℕ) (x : A) → of w ≡ Some x → w ≡ name x
  pub back : (x : A) → of (name x) ≡ Some x

pub named_some : {A : Type 0} (name : A → List ℕ) (xs : List A) (w : List ℕ) (x : A) → named name xs w ≡ Some x → w ≡ name x
named_some name [] w x e = let z : ◌≡◌ {A = ℕ} 0 1 = cc in absurd (omega arith)
named_some name (y ∷ xs) w x e =
    cond_both (bytes_eq w (name y)) (Some y) (named name xs w) (λ o. o ≡ Some x → w ≡ name x)
    (λ same e. let first : w ≡ name y = (bytes_eq-Decides w (name y)).0 same in cc)
    (λ _. named_some name xs w x) e

kind_back : (k : Kind) → kind_of (kind_name k) ≡ Some k
kind_back Ld = refl
kind_back St = refl
kind_back Xchg = refl
kind_back Sum = refl
kind_back Bar = refl

register_back : (r : Register) → register_of (register_name r) ≡ Some r
register_back R0 = refl
register_back R1 = refl
register_back R2 = refl
register_back R3 = refl

location_back : (l : Location) → location_of (location_name l) ≡ Some l
location_back X = refl
location_back Y = refl
location_back Z = refl
location_back W = refl

mode_back : (m : Mode) → mode_of (mode_name m) ≡ Some m
mode_back Relaxed = refl
mode_back Acquire = refl
mode_back Release = refl
mode_back AcquireRelease = refl
mode_back SeqCst = refl

pub kinds_read : ReadsNames kind_name kind_of
kinds_read = record { some = named_some kind_name (Ld ∷ St ∷ Xchg ∷ Sum ∷ Bar ∷ []); back = kind_back }

pub registers_read : ReadsNames register_name register_of
registers_read = record { some = named_some register_name (R0 ∷ R1 ∷ R2 ∷ R3 ∷ []); back = register_back }

pub locations_read : ReadsNames location_name location_of
locations_read = record { some = named_some location_name (X ∷ Y ∷ Z ∷ W ∷ []); back = location_back }

pub modes_read : ReadsNames mode_name mode_of
modes_read = record { some = named_some mode_name (Relaxed ∷ Acquire ∷ Release ∷ AcquireRelease ∷ SeqCst ∷ []); back = mode_back }

module _ {A : Type 0} {name : A → List ℕ} {of : List ℕ → Option A} (reads : ReadsNames name of) (w : List ℕ) where
  pub name_read : (x : A) → w ≡ name x → of w ≡ Some x
  name_read x e = ap of e ∙ reads.back x

  pub no_name : of w ≡ None → (x : A) → w ≡ name x → ⊥
  no_name e x is = let found : of w ≡ Some x = name_read x is in let z : ◌≡◌ {A = ℕ} 0 1 = cc in omega arith

  pub no_name_read : ((x : A) → w ≡ name x → ⊥) → of w ≡ None
  no_name_read none = go (of w) refl
    where
      go : (o : Option A) → of w ≡ o → of w ≡ None
      go (Some x) e = absurd (none x (reads.some w x e))
      go None e = e
