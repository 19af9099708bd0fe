-- How many bits a number has, against how many events pass the test of being in it.
use Rattle.std.proofs.Common.{◌≡◌, ℕ, zero, suc, ◌+◌, ◌%◌, ◌^◌, ◌<◌, ◌≤◌, List, take, length, length-take, get_or, sum_by, cond, eqb, sym, refl, ap, ◌∙◌, add-one, one-add, arith}
use native.Mathlib.Nat.{mod-one}
use lib.Bits.{bit_and, and_mask, mask_lt}
use lib.Count.{ones, ones_cat, ones-le}
use Rattle.std.proofs.lemmas.Nat.{mod-pow-add, pow_pos, mod_below}
use Rattle.std.proofs.lemmas.List.Sums.{sum_by_more, sum_by-le}
use Rattle.relations.specs.Rows.{bit, has, row, related, counted, summed}
use Rattle.relations.proofs.Bits.{bit_small}

ones_bit : (x : ℕ) → x < 2 → ones x ≡ cond (eqb x 1) 1 0
unfolding ones
ones_bit zero h = refl
ones_bit (suc zero) h = refl
ones_bit (suc (suc x)) h = absurd (omega arith)

-- The ones among the first k bits.
pub ones_counted : (k n : ℕ) → ones (n % 2 ^ k) ≡ counted k (has n)
unfolding counted ones
ones_counted zero n = ap ones (mod-one n)
ones_counted (suc k) n =
    ap (λ (v : ℕ). ones (n % 2 ^ v)) (sym (one-add k))
    ∙ ap ones (mod-pow-add n 1 k)
    ∙ ones_cat k (bit n k) (n % 2 ^ k) (mod_below n (2 ^ k) (pow_pos k))
    ∙ ap (λ (v : ℕ). v + ones (n % 2 ^ k)) (ones_bit (bit n k) (bit_small n k))
    ∙ ap (λ (v : ℕ). cond (has n k) 1 0 + v) (ones_counted k n)

-- The ones of the low 32 bits.
pub ones_low : (n : ℕ) → ones (bit_and n 4294967295) ≡ counted 32 (has n)
ones_low n = ap ones (and_mask n 32) ∙ ones_counted 32 n

pub ones_few : (n : ℕ) → ones (bit_and n 4294967295) ≤ 32
ones_few n = ones-le 32 (bit_and n 4294967295) (mask_lt n 32)

-- The same, over the first rows.
abbrev low : ℕ → ℕ
low row = ones (bit_and row 4294967295)

pub low_summed : (rows : List ℕ) (n : ℕ) → n ≤ length rows → sum_by (λ row. ones (bit_and row 4294967295)) (take n rows) ≡ summed n (λ a. counted 32 (related rows a))
unfolding summed
low_summed rows zero h = refl
low_summed rows (suc n) h =
    ap (λ (v : ℕ). sum_by low (take v rows)) (sym (add-one n))
    ∙ sum_by_more low rows n 0 (omega arith)
    ∙ omega (arith, low_summed rows n (omega arith), ones_low (row rows n))

pub low_few : (rows : List ℕ) → sum_by (λ row. ones (bit_and row 4294967295)) (take 32 rows) ≤ 1024
low_few rows = omega (arith, sum_by-le low 32 (take 32 rows) (λ k d l. ones_few (get_or (take 32 rows) k d)), length-take 32 rows)
