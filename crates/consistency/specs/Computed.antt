-- The relations and the rules of RC11, computed: the same page over rows of bits. That the two agree is proved.
use Rattle.std.specs.Prelude.{ℕ, ◌/◌, Bool, cond, not, ◌&&◌, ◌||◌, List, ◌==◌, nat_le, nat_lt}
use Rattle.relations.specs.Rows.{chosen, tested, union, common, without, from, to, identity, composed, inverse, closed, irreflexive, within}
use Rattle.orders.specs.Orders.{position}
use Rattle.graph.specs.Execution.{Execution}
use Rattle.consistency.specs.Relations.{accesses, update, release_write, release_fence, acquire_read, acquire_fence, sc, sc_fence}

-- The set of the events that pass a test.
abbrev pub events : (ℕ → Bool) → ℕ
events test = chosen 36 test

module _ (g : Execution) where
  abbrev pub is_sb : ℕ → ℕ → Bool
  is_sb a b = (g.present a && g.present b) && (nat_lt b 32 && ((a / 8 == b / 8 && nat_lt a b) || nat_le 32 a))

  abbrev pub is_rf : ℕ → ℕ → Bool
  is_rf w r = g.reads r && g.source r == w

  abbrev pub is_mo : ℕ → ℕ → Bool
  is_mo a b = (g.writes a && g.writes b) && (g.location a == g.location b && nat_lt (position (g.mo (g.location a)) a) (position (g.mo (g.location a)) b))

  abbrev pub is_apart : ℕ → ℕ → Bool
  is_apart a b = (g.present a && g.present b) && not (a == b)

  abbrev pub shares : ℕ → ℕ → Bool
  shares a b = (accesses g a && accesses g b) && g.location a == g.location b

  unfoldable pub sb_rows : List ℕ
  sb_rows = tested is_sb

  unfoldable pub rf_rows : List ℕ
  rf_rows = tested is_rf

  unfoldable pub mo_rows : List ℕ
  mo_rows = tested is_mo

  unfoldable pub apart_rows : List ℕ
  apart_rows = tested is_apart

  unfoldable pub sharing_rows : List ℕ
  sharing_rows = tested shares

  unfoldable pub rb_rows : List ℕ
  rb_rows = common (composed (inverse rf_rows) mo_rows) apart_rows

  unfoldable pub eco_rows : List ℕ
  eco_rows = closed (union rf_rows (union mo_rows rb_rows))

  unfoldable pub sequence_rows : List ℕ
  sequence_rows = union (identity (events g.writes)) (from (events g.writes) (closed (to rf_rows (events (update g)))))

  unfoldable pub releases_rows : List ℕ
  releases_rows = union (identity (events (release_write g))) (from (events (release_fence g)) sb_rows)

  unfoldable pub acquires_rows : List ℕ
  acquires_rows = union (identity (events (acquire_read g))) (to sb_rows (events (acquire_fence g)))

  unfoldable pub sw_rows : List ℕ
  sw_rows = composed releases_rows (composed sequence_rows (composed rf_rows acquires_rows))

  unfoldable pub hb_rows : List ℕ
  hb_rows = closed (union sb_rows sw_rows)

  unfoldable pub unshared_rows : List ℕ
  unshared_rows = without sb_rows sharing_rows

  unfoldable pub scb_rows : List ℕ
  scb_rows = union sb_rows (union (composed unshared_rows (composed hb_rows unshared_rows)) (union (common hb_rows sharing_rows) (union mo_rows rb_rows)))

  unfoldable pub psc_base_rows : List ℕ
  psc_base_rows = composed (union (identity (events (sc g))) (from (events (sc_fence g)) hb_rows)) (composed scb_rows (union (identity (events (sc g))) (to hb_rows (events (sc_fence g)))))

  unfoldable pub psc_fence_rows : List ℕ
  psc_fence_rows = from (events (sc_fence g)) (to (union hb_rows (composed hb_rows (composed eco_rows hb_rows))) (events (sc_fence g)))

  unfoldable pub psc_rows : List ℕ
  psc_rows = union psc_base_rows psc_fence_rows

  unfoldable pub keeps_1 : Bool
  keeps_1 = irreflexive (closed (union sb_rows rf_rows))

  unfoldable pub keeps_2 : Bool
  keeps_2 = irreflexive hb_rows && irreflexive (composed hb_rows eco_rows)

  unfoldable pub keeps_3 : Bool
  keeps_3 = within (to rf_rows (events (update g))) (without mo_rows (composed mo_rows mo_rows))

  unfoldable pub keeps_4 : Bool
  keeps_4 = irreflexive (closed psc_rows)

  -- The number of the first rule that is broken, or 0.
  unfoldable pub verdict : ℕ
  verdict = cond keeps_1 (cond keeps_2 (cond keeps_3 (cond keeps_4 0 4) 3) 2) 1
