-- The computed page and the page of relations agree: each row maker keeps what its rows show, so the proofs repeat the definitions.
use Rattle.std.proofs.Common.{◌≡◌, ℕ, ◌^◌, ◌<◌, Bool, true, ◌&&◌}
use Rattle.std.proofs.lemmas.Bool.{and_parts}
use Rattle.lang.specs.Strengths.{is_release, is_acquire, is_sc}
use Rattle.relations.specs.Rows.{row, composed}
use Rattle.relations.proofs.Shown.{Shows, Collects, collects_chosen, shows_union, shows_common, shows_without, shows_from, shows_to, shows_identity, shows_composed, shows_inverse, shows_closed, tested_small, composed_small}
use Rattle.graph.specs.Execution.{Execution}
use Rattle.consistency.specs.Relations.{Sb, Rf, Mo, Rb, Eco, Sequence, Releases, Acquires, Sw, Hb, Shares, Scb, PscBase, PscFence, Psc, update, sc, sc_fence}
use Rattle.relations.specs.Algebra.{◌∖◌}
use Rattle.consistency.specs.Computed.{events, is_mo, shares, sb_rows, rf_rows, mo_rows, sharing_rows, rb_rows, eco_rows, sequence_rows, releases_rows, acquires_rows, sw_rows, hb_rows, unshared_rows, scb_rows, psc_base_rows, psc_fence_rows, psc_rows}
use Rattle.consistency.specs.Bounded.{Bounded}
use Rattle.consistency.proofs.Bases.{shows_sb, shows_rf, shows_mo, shows_apart, shows_sharing}

-- The events of a kind with a further test are among the 36.
collects_and : (A B : ℕ → Bool) → ((e : ℕ) → A e ≡ true → e < 36) → Collects (events (λ e. A e && B e)) (λ e. A e && B e)
collects_and A B inside = collects_chosen (λ e. A e && B e) (λ e t. inside e (and_parts (A e) (B e) t).0)

module _ (g : Execution) (bound : Bounded g) where
  base_sb : Shows (sb_rows g) (Sb g)
  base_sb = shows_sb g bound

  base_rf : Shows (rf_rows g) (Rf g)
  base_rf = shows_rf g bound

  base_mo : Shows (mo_rows g) (Mo g)
  base_mo = shows_mo g bound

  writing : Collects (events g.writes) g.writes
  writing = collects_chosen g.writes bound.writes

  pub updating : Collects (events (update g)) (update g)
  updating = collects_and g.reads g.writes bound.reads

  strong : Collects (events (sc g)) (sc g)
  strong = collects_and g.present (λ e. is_sc (g.mode e)) bound.present

  strong_fence : Collects (events (sc_fence g)) (sc_fence g)
  strong_fence = collects_and g.fence (λ e. is_sc (g.mode e)) bound.fence

  pub shows_rb : Shows (rb_rows g) (Rb g)
  unfolding rb_rows
  shows_rb = shows_common (shows_composed (shows_inverse base_rf) base_mo) (shows_apart g bound)

  pub shows_eco : Shows (eco_rows g) (Eco g)
  unfolding eco_rows
  shows_eco = shows_closed (shows_union base_rf (shows_union base_mo shows_rb))

  pub shows_sequence : Shows (sequence_rows g) (Sequence g)
  unfolding sequence_rows
  shows_sequence = shows_union (shows_identity writing) (shows_from writing (shows_closed (shows_to base_rf updating)))

  pub shows_releases : Shows (releases_rows g) (Releases g)
  unfolding releases_rows
  shows_releases = shows_union (shows_identity (collects_and g.writes (λ e. is_release (g.mode e)) bound.writes)) (shows_from (collects_and g.fence (λ e. is_release (g.mode e)) bound.fence) base_sb)

  pub shows_acquires : Shows (acquires_rows g) (Acquires g)
  unfolding acquires_rows
  shows_acquires = shows_union (shows_identity (collects_and g.reads (λ e. is_acquire (g.mode e)) bound.reads)) (shows_to base_sb (collects_and g.fence (λ e. is_acquire (g.mode e)) bound.fence))

  pub shows_sw : Shows (sw_rows g) (Sw g)
  unfolding sw_rows
  shows_sw = shows_composed shows_releases (shows_composed shows_sequence (shows_composed base_rf shows_acquires))

  pub shows_hb : Shows (hb_rows g) (Hb g)
  unfolding hb_rows
  shows_hb = shows_closed (shows_union base_sb shows_sw)

  sharing_small : (a : ℕ) → row (sharing_rows g) a < 2 ^ 64
  unfolding sharing_rows
  sharing_small = tested_small (shares g)

  pub shows_unshared : Shows (unshared_rows g) (Sb g ∖ Shares g)
  unfolding unshared_rows
  shows_unshared = shows_without sharing_small base_sb (shows_sharing g bound)

  pub shows_scb : Shows (scb_rows g) (Scb g)
  unfolding scb_rows
  shows_scb =
      shows_union base_sb (shows_union (shows_composed shows_unshared (shows_composed shows_hb shows_unshared)) (shows_union (shows_common shows_hb (shows_sharing g bound)) (shows_union base_mo shows_rb)))

  pub shows_psc_base : Shows (psc_base_rows g) (PscBase g)
  unfolding psc_base_rows
  shows_psc_base = shows_composed (shows_union (shows_identity strong) (shows_from strong_fence shows_hb)) (shows_composed shows_scb (shows_union (shows_identity strong) (shows_to shows_hb strong_fence)))

  pub shows_psc_fence : Shows (psc_fence_rows g) (PscFence g)
  unfolding psc_fence_rows
  shows_psc_fence = shows_from strong_fence (shows_to (shows_union shows_hb (shows_composed shows_hb (shows_composed shows_eco shows_hb))) strong_fence)

  pub shows_psc : Shows (psc_rows g) (Psc g)
  unfolding psc_rows
  shows_psc = shows_union shows_psc_base shows_psc_fence

  mo_small : (a : ℕ) → row (mo_rows g) a < 2 ^ 64
  unfolding mo_rows
  mo_small = tested_small (is_mo g)

  pub steps_small : (a : ℕ) → row (composed (mo_rows g) (mo_rows g)) a < 2 ^ 64
  steps_small = composed_small (mo_rows g) (mo_rows g) mo_small
