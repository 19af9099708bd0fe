-- Sets of events and relations between them, held in bits. There are 36 events. A set is a number: bit e tells if event e is in it. A relation is
-- a list of 36 sets: the row of a holds the events that a is related to.
use Rattle.std.specs.Prelude.{ℕ, zero, suc, ◌+◌, ◌-◌, ◌/◌, ◌%◌, ◌^◌, Bool, true, cond, not, ◌&&◌, ◌||◌, List, map, ◌==◌, bit_and, bit_or, slice_index}
use Rattle.std.specs.List.{range_with_len}

abbrev pub bit : ℕ → ℕ → ℕ
bit set e = set / 2 ^ e % 2

-- If event e is in a set.
abbrev pub has : ℕ → ℕ → Bool
has set e = (bit set e) == 1

-- The events that a is related to.
abbrev pub row : List ℕ → ℕ → ℕ
row rows a = slice_index rows a

-- If a is related to b.
abbrev pub related : List ℕ → ℕ → ℕ → Bool
related rows a b = has (row rows a) b

-- A row for each event.
unfoldable pub rows_by : (ℕ → ℕ) → List ℕ
rows_by f = map f (range_with_len 0 36)

-- The set of the events below n that pass a test.
unfoldable pub chosen : ℕ → (ℕ → Bool) → ℕ
chosen zero test = 0
chosen (suc n) test = cond (test n) (bit_or (chosen n test) (2 ^ n)) (chosen n test)

-- If all events below n pass a test.
unfoldable pub every : ℕ → (ℕ → Bool) → Bool
every zero test = true
every (suc n) test = test n && every n test

-- How many events below n pass a test.
unfoldable pub counted : ℕ → (ℕ → Bool) → ℕ
counted zero test = 0
counted (suc n) test = cond (test n) 1 0 + counted n test

-- The rows of what passes a test of two events.
unfoldable pub tested : (ℕ → ℕ → Bool) → List ℕ
tested test = rows_by (λ a. chosen 36 (test a))

-- Either, both, the first without the second.
unfoldable pub union : List ℕ → List ℕ → List ℕ
union r s = rows_by (λ a. bit_or (row r a) (row s a))

unfoldable pub common : List ℕ → List ℕ → List ℕ
common r s = rows_by (λ a. bit_and (row r a) (row s a))

unfoldable pub without : List ℕ → List ℕ → List ℕ
without r s = rows_by (λ a. bit_and (row r a) (2 ^ 64 - 1 - row s a))

-- Only what starts in a set; only what ends in one; from each event of a set to itself.
unfoldable pub from : ℕ → List ℕ → List ℕ
from set r = rows_by (λ a. cond (has set a) (row r a) 0)

unfoldable pub to : List ℕ → ℕ → List ℕ
to r set = rows_by (λ a. bit_and (row r a) set)

unfoldable pub identity : ℕ → List ℕ
identity set = rows_by (λ a. bit_and set (2 ^ a))

-- All that the events of a set below n are related to.
unfoldable pub gathered : ℕ → ℕ → List ℕ → ℕ
gathered zero set r = 0
gathered (suc n) set r = cond (has set n) (bit_or (gathered n set r) (row r n)) (gathered n set r)

-- A step of the first, then a step of the second.
unfoldable pub composed : List ℕ → List ℕ → List ℕ
composed r s = rows_by (λ a. gathered 36 (row r a) s)

-- The same pairs, turned round.
unfoldable pub inverse : List ℕ → List ℕ
inverse r = tested (λ a b. related r b a)

-- Warshall's closure: pass k adds to each row that holds k what k is related to.
abbrev pub joined : ℕ → ℕ → ℕ → ℕ
joined pivot k line = cond (has line k) (bit_or line pivot) line

unfoldable pub passed : List ℕ → ℕ → List ℕ
passed r k = rows_by (λ a. joined (row r k) k (row r a))

unfoldable pub passes : ℕ → List ℕ → List ℕ
passes zero r = r
passes (suc k) r = passed (passes k r) k

abbrev pub closed : List ℕ → List ℕ
closed r = passes 36 r

-- If no event is related to itself; if every pair of the first is a pair of the second.
unfoldable pub irreflexive : List ℕ → Bool
irreflexive r = every 36 (λ a. not (related r a a))

unfoldable pub within : List ℕ → List ℕ → Bool
within r s = every 36 (λ a. every 36 (λ b. not (related r a b) || related s a b))

-- A sum over the events below n; how many pairs of them there are.
unfoldable pub summed : ℕ → (ℕ → ℕ) → ℕ
summed zero f = 0
summed (suc n) f = f n + summed n f

abbrev pub pairs_below : ℕ → List ℕ → ℕ
pairs_below n r = summed n (λ a. counted n (related r a))
