-- Which events a set holds, after each way to make one: both, either, the rest, one event, those that pass a test, those that are reached.
use Rattle.std.proofs.Common.{◌≡◌, ℕ, zero, suc, ◌+◌, ◌-◌, ◌/◌, ◌%◌, ◌^◌, ◌<◌, Bool, true, false, cond, not, ◌&&◌, ◌||◌, eqb, ltb, List, Decides, sym, refl, ap, ◌∙◌, ⊎_elim, mod-lt, one-mul, pow-suc, arith, lit<}
use native.Mathlib.Nat.{zero-div, div-eq_of_lt, mul-mod_left}
use lib.Bits.{bit_and, bit_or, bit_xor, and_shr, and_mod, or_shr, or_mod, xor_shr, xor_mod, xor_add_and, and_comm, and_mask}
use Rattle.std.proofs.lemmas.Nat.{shl-shr, pow-add, pow_below, or_lt}
use Rattle.std.proofs.lemmas.Bool.{cases_order, eq-eqb, ne_eqb, le-ltb, cond_both}
use Rattle.std.proofs.lemmas.Bool.Decides.{nat_tests, Decides-below_or}
use Rattle.relations.specs.Rows.{bit, has, row, related, chosen, every, gathered}
use Rattle.relations.proofs.Every.{every_below}

pub bit_small : (m b : ℕ) → bit m b < 2
bit_small m b = mod-lt (m / 2 ^ b) (lit< tt)

-- An operation on two bits, as a test of two tests, by its four cases.
by_bits : (f : ℕ → ℕ → ℕ) (g : Bool → Bool → Bool) → eqb (f 0 0) 1 ≡ g false false → eqb (f 0 1) 1 ≡ g false true → eqb (f 1 0) 1 ≡ g true false → eqb (f 1 1) 1 ≡ g true true → (x y : ℕ) → x < 2 → y < 2 → eqb (f x y) 1 ≡ g (eqb x 1) (eqb y 1)
by_bits f g p q r s zero zero h k = p
by_bits f g p q r s zero (suc zero) h k = q
by_bits f g p q r s (suc zero) zero h k = r
by_bits f g p q r s (suc zero) (suc zero) h k = s
by_bits f g p q r s zero (suc (suc y)) h k = absurd (omega arith)
by_bits f g p q r s (suc zero) (suc (suc y)) h k = absurd (omega arith)
by_bits f g p q r s (suc (suc x)) y h k = absurd (omega arith)

-- The same on two sets, for an operation that works bit by bit.
has_by : (f : ℕ → ℕ → ℕ) (g : Bool → Bool → Bool) → ((m n k : ℕ) → f m n / 2 ^ k ≡ f (m / 2 ^ k) (n / 2 ^ k)) → ((m n k : ℕ) → f m n % 2 ^ k ≡ f (m % 2 ^ k) (n % 2 ^ k)) → ((x y : ℕ) → x < 2 → y < 2 → eqb (f x y) 1 ≡ g (eqb x 1) (eqb y 1)) → (m n e : ℕ) → has (f m n) e ≡ g (has m e) (has n e)
has_by f g shifts rests bits m n e = ap (λ (v : ℕ). eqb (v % 2) 1) (shifts m n e) ∙ ap (λ (v : ℕ). eqb v 1) (rests (m / 2 ^ e) (n / 2 ^ e) 1) ∙ bits (bit m e) (bit n e) (bit_small m e) (bit_small n e)

pub has_or : (m n e : ℕ) → has (bit_or m n) e ≡ (has m e || has n e)
has_or = has_by bit_or ◌||◌ or_shr or_mod (by_bits bit_or ◌||◌ refl refl refl refl)

pub has_and : (m n e : ℕ) → has (bit_and m n) e ≡ (has m e && has n e)
has_and = has_by bit_and ◌&&◌ and_shr and_mod (by_bits bit_and ◌&&◌ refl refl refl refl)

-- Just one of two.
abbrev one_of : Bool → Bool → Bool
one_of x y = cond x (not y) y

has_xor : (m n e : ℕ) → has (bit_xor m n) e ≡ one_of (has m e) (has n e)
has_xor = has_by bit_xor one_of xor_shr xor_mod (by_bits bit_xor one_of refl refl refl refl)

pub has_zero : (e : ℕ) → has 0 e ≡ false
has_zero e = ap (λ (v : ℕ). eqb (v % 2) 1) (zero-div (2 ^ e))

-- A set, or none.
pub has_kept : (t : Bool) (set e : ℕ) → has (cond t set 0) e ≡ (t && has set e)
has_kept true set e = refl
has_kept false set e = has_zero e

-- The 64 bits hold every event below 64.
has_full : (e : ℕ) → e < 64 → has (2 ^ 64 - 1) e ≡ true
unfolding every
has_full = every_below 64 (has (2 ^ 64 - 1)) refl

rest_is : (n : ℕ) → n < 2 ^ 64 → 2 ^ 64 - 1 - n ≡ bit_xor (2 ^ 64 - 1) n
rest_is n h =
    let both : bit_and (2 ^ 64 - 1) n ≡ n % 2 ^ 64 = and_comm (2 ^ 64 - 1) n ∙ and_mask n 64 in
    omega (arith, xor_add_and (2 ^ 64 - 1) n)

-- The rest of the 64 bits.
pub has_rest : (n e : ℕ) → n < 2 ^ 64 → e < 64 → has (2 ^ 64 - 1 - n) e ≡ not (has n e)
has_rest n e h k =
    ap (λ (v : ℕ). has v e) (rest_is n h) ∙ has_xor (2 ^ 64 - 1) n e ∙ ap (λ (t : Bool). one_of t (has n e)) (has_full e k)

-- The set of one event.
pub has_power : (a e : ℕ) → has (2 ^ a) e ≡ eqb a e
has_power a e =
    ⊎_elim same (⊎_elim below above) (cases_order a e)
  where
    same : a ≡ e → has (2 ^ a) e ≡ eqb a e
    same p = ap (λ (v : ℕ). has (2 ^ v) e) p ∙ ap (λ (v : ℕ). eqb (v / 2 ^ e % 2) 1) (sym (one-mul (2 ^ e))) ∙ ap (λ (v : ℕ). eqb (v % 2) 1) (shl-shr 1 e) ∙ sym (eq-eqb a e p)

    below : a < e → has (2 ^ a) e ≡ eqb a e
    below p = ap (λ (v : ℕ). eqb (v % 2) 1) (div-eq_of_lt (pow_below a e p)) ∙ sym (ne_eqb a e (λ q. omega arith))

    above : e < a → has (2 ^ a) e ≡ eqb a e
    above p =
        let d : ℕ = a - suc e in
        let split : a ≡ suc d + e = omega arith in
        ap (λ (v : ℕ). has (2 ^ v) e) split
        ∙ ap (λ (v : ℕ). has v e) (pow-add 2 (suc d) e)
        ∙ ap (λ (v : ℕ). eqb (v % 2) 1) (shl-shr (2 ^ suc d) e)
        ∙ ap (λ (v : ℕ). eqb (v % 2) 1) (pow-suc 2 d)
        ∙ ap (λ (v : ℕ). eqb v 1) (mul-mod_left (2 ^ d) 2)
        ∙ sym (ne_eqb a e (λ q. omega arith))

one_more : (e n : ℕ) (t : Bool) → (e ≡ n → t ≡ true) → ((ltb e n && t) || eqb n e) ≡ (ltb e (suc n) && t)
one_more e n t h = grind (arith, nat_tests)

no_more : (e n : ℕ) (t : Bool) → (e ≡ n → t ≡ false) → (ltb e n && t) ≡ (ltb e (suc n) && t)
no_more e n t h = grind (arith, nat_tests)

pub has_chosen : (n : ℕ) (test : ℕ → Bool) (e : ℕ) → has (chosen n test) e ≡ (ltb e n && test e)
unfolding chosen
has_chosen zero test e = has_zero e ∙ sym (ap (λ (t : Bool). t && test e) (le-ltb e zero (omega arith)))
has_chosen (suc n) test e =
    let before = has_chosen n test e in
    cond_both (test n) (bit_or (chosen n test) (2 ^ n)) (chosen n test) (λ v. has v e ≡ (ltb e (suc n) && test e))
    (λ t.
    has_or (chosen n test) (2 ^ n) e
    ∙ ap (λ (x : Bool). x || has (2 ^ n) e) before
    ∙ ap (λ (x : Bool). (ltb e n && test e) || x) (has_power n e)
    ∙ one_more e n (test e) (λ p. ap test p ∙ t))
    (λ t. before ∙ no_more e n (test e) (λ p. ap test p ∙ t))

-- The events below n that pass a test are numbered below n.
pub chosen_below : (n : ℕ) (test : ℕ → Bool) → chosen n test < 2 ^ n
unfolding chosen
chosen_below zero test = lit< tt
chosen_below (suc n) test =
    let less : 2 ^ n < 2 ^ suc n = pow_below n (suc n) (omega arith) in
    cond_both (test n) (bit_or (chosen n test) (2 ^ n)) (chosen n test) (λ v. v < 2 ^ suc n) (λ t. or_lt (suc n) (chosen n test) (2 ^ n) (omega (arith, chosen_below n test)) less) (λ t. omega (arith, chosen_below n test))

-- An event is reached from a set when one of the set is related to it.
pub gathered_tells : (n set : ℕ) (r : List ℕ) (e : ℕ) → Decides (has (gathered n set r) e) ((k : ℕ) × (k < n) × ((has set k && related r k e) ≡ true))
unfolding gathered
gathered_tells n set r e = Decides-below_or (λ k. has set k && related r k e) (λ k. (has set k && related r k e) ≡ true) (λ m. has (gathered m set r) e) (λ k. (λ p. p, λ p. p)) (has_zero e) step n
  where
    step : (m : ℕ) → has (gathered (suc m) set r) e ≡ ((has set m && related r m e) || has (gathered m set r) e)
    step m =
        cond_both (has set m) (bit_or (gathered m set r) (row r m)) (gathered m set r) (λ v. has v e ≡ ((has set m && related r m e) || has (gathered m set r) e))
        (λ t. has_or (gathered m set r) (row r m) e ∙ grind arith)
        (λ t. grind arith)
