-- The relations that are tested pair by pair: the test decides the relation, and both events are among the 36.
use Rattle.std.proofs.Common.{◌≡◌, ℕ, ◌/◌, ◌<◌, ◌≤◌, Bool, true, ◌&&◌, eqb, ltb, leb, ◌⊎◌, Decides, subst, inl, inr, ⊎_elim}
use Rattle.std.proofs.lemmas.Bool.{or_cases, leb-true, le-leb}
use Rattle.std.proofs.lemmas.Bool.Decides.{Decides-like, Decides-and, Decides-or, Decides-not, Decides-eqb, Decides-ltb}
use Rattle.relations.proofs.Shown.{Shows, shows_tested}
use Rattle.orders.specs.Orders.{position}
use Rattle.graph.specs.Execution.{Execution}
use Rattle.consistency.specs.Relations.{Sb, in_thread, from_initial, Rf, Mo, Apart, Shares, accesses}
use Rattle.consistency.specs.Computed.{is_sb, is_rf, is_mo, is_apart, shares, sb_rows, rf_rows, mo_rows, apart_rows, sharing_rows}
use Rattle.consistency.specs.Bounded.{Bounded}

-- A test of events that passes decides that it does.
passes : (b : Bool) → Decides b (b ≡ true)
passes b = (λ t. t, λ t. t)

-- A conjunction of two tests of events, as two facts.
both : (x y : Bool) → Decides (x && y) ((x ≡ true) × (y ≡ true))
both x y = Decides-and x y (passes x) (passes y)

decides_leb : (a b : ℕ) → Decides (leb a b) (a ≤ b)
decides_leb a b = (leb-true a b, le-leb a b)

module _ (g : Execution) (bound : Bounded g) where
  sb_tells : (a b : ℕ) → Decides (is_sb g a b) (Sb g a b)
  sb_tells a b =
      Decides-like (is_sb g a b) to_sb from_sb
      (Decides-and (g.present a && g.present b) _ (both (g.present a) (g.present b))
      (Decides-and (ltb b 32) _ (Decides-ltb b 32)
      (Decides-or (eqb (a / 8) (b / 8) && ltb a b) (leb 32 a) (Decides-and (eqb (a / 8) (b / 8)) (ltb a b) (Decides-eqb (a / 8) (b / 8)) (Decides-ltb a b)) (decides_leb 32 a))))
    where
      to_sb : ((g.present a ≡ true) × (g.present b ≡ true)) × ((b < 32) × (((a / 8 ≡ b / 8) × (a < b)) ⊎ (32 ≤ a))) → Sb g a b
      to_sb t = ⊎_elim (λ h. in_thread t.0.0 t.0.1 t.1.0 h.0 h.1) (λ h. from_initial t.0.0 t.0.1 h t.1.0) t.1.1

      from_sb : Sb g a b → ((g.present a ≡ true) × (g.present b ≡ true)) × ((b < 32) × (((a / 8 ≡ b / 8) × (a < b)) ⊎ (32 ≤ a)))
      from_sb (in_thread p q h e l) = ((p, q), (h, inl (e, l)))
      from_sb (from_initial p q l h) = ((p, q), (h, inr l))

  sb_inside : (a b : ℕ) → Sb g a b → (a < 36) × (b < 36)
  sb_inside a b (in_thread p q h e l) = (bound.present a p, bound.present b q)
  sb_inside a b (from_initial p q l h) = (bound.present a p, bound.present b q)

  pub shows_sb : Shows (sb_rows g) (Sb g)
  unfolding sb_rows
  shows_sb = shows_tested (is_sb g) (Sb g) sb_tells sb_inside

  pub shows_rf : Shows (rf_rows g) (Rf g)
  unfolding rf_rows
  shows_rf =
      shows_tested (is_rf g) (Rf g)
      (λ w r. Decides-like (is_rf g w r) (λ t. record { reads = t.0; source = t.1 }) (λ t. (t.reads, t.source)) (Decides-and (g.reads r) (eqb (g.source r) w) (passes (g.reads r)) (Decides-eqb (g.source r) w)))
      (λ w r t. (subst (λ (v : ℕ). v < 36) t.source (bound.source r t.reads), bound.reads r t.reads))

  pub shows_mo : Shows (mo_rows g) (Mo g)
  unfolding mo_rows
  shows_mo =
      shows_tested (is_mo g) (Mo g)
      (λ a b.
      let p = position (g.mo (g.location a)) a in
      let q = position (g.mo (g.location a)) b in
      Decides-like (is_mo g a b)
      (λ t. record { left = t.0.0; right = t.0.1; same = t.1.0; before = t.1.1 })
      (λ t. ((t.left, t.right), (t.same, t.before)))
      (Decides-and (g.writes a && g.writes b) _ (both (g.writes a) (g.writes b)) (Decides-and (eqb (g.location a) (g.location b)) (ltb p q) (Decides-eqb (g.location a) (g.location b)) (Decides-ltb p q))))
      (λ a b t. (bound.writes a t.left, bound.writes b t.right))

  pub shows_apart : Shows (apart_rows g) (Apart g)
  unfolding apart_rows
  shows_apart =
      shows_tested (is_apart g) (Apart g)
      (λ a b.
      Decides-like (is_apart g a b) (λ t. record { left = t.0.0; right = t.0.1; differ = t.1 }) (λ t. ((t.left, t.right), t.differ))
      (Decides-and (g.present a && g.present b) _ (both (g.present a) (g.present b)) (Decides-not (eqb a b) (Decides-eqb a b))))
      (λ a b t. (bound.present a t.left, bound.present b t.right))

  access_inside : (e : ℕ) → accesses g e ≡ true → e < 36
  access_inside e t = ⊎_elim (bound.reads e) (bound.writes e) (or_cases (g.reads e) (g.writes e) t)

  pub shows_sharing : Shows (sharing_rows g) (Shares g)
  unfolding sharing_rows
  shows_sharing =
      shows_tested (shares g) (Shares g)
      (λ a b.
      Decides-like (shares g a b) (λ t. record { left = t.0.0; right = t.0.1; same = t.1 }) (λ t. ((t.left, t.right), t.same))
      (Decides-and (accesses g a && accesses g b) _ (both (accesses g a) (accesses g b)) (Decides-eqb (g.location a) (g.location b))))
      (λ a b t. (access_inside a t.left, access_inside b t.right))
