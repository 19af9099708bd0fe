-- The verdict is right: it is the number of the first rule that does not hold, and no other number fits.
use Rattle.std.proofs.Common.{◌≡◌, ℕ, Bool, true, false, cond, Decides, sym, refl, ◌∙◌, ⊎_elim}
use Rattle.std.proofs.lemmas.Bool.{cases_Bool, cond-true, cond-false}
use Rattle.std.proofs.lemmas.Bool.Decides.{Decides-and, Decides-like, not_from_Decides}
use Rattle.relations.specs.Rows.{irreflexive, composed}
use Rattle.relations.proofs.Shown.{shows_union, shows_to, shows_without, shows_composed, shows_closed, irreflexive_tells, within_tells}
use Rattle.graph.specs.Execution.{Execution}
use Rattle.consistency.specs.Relations.{HasNoThinAir, Coherence, Atomicity, IsScOrdered, FirstBroken, none, rule1, rule2, rule3, rule4}
use Rattle.consistency.specs.Computed.{hb_rows, eco_rows, keeps_1, keeps_2, keeps_3, keeps_4, verdict}
use Rattle.consistency.specs.Bounded.{Bounded}
use Rattle.consistency.proofs.Bases.{shows_sb, shows_rf, shows_mo}
use Rattle.consistency.proofs.Agreement.{shows_hb, shows_eco, shows_psc, updating, steps_small}

false_by : {P : Type 0} (r : Bool) → Decides r P → (P → ⊥) → r ≡ false
false_by r d n = ⊎_elim (λ t. absurd (n (d.0 t))) (λ f. f) (cases_Bool r)

module _ (g : Execution) (bound : Bounded g) where
  tells_1 : Decides (keeps_1 g) (HasNoThinAir g)
  unfolding keeps_1
  tells_1 = irreflexive_tells (shows_closed (shows_union (shows_sb g bound) (shows_rf g bound)))

  tells_2 : Decides (keeps_2 g) (Coherence g)
  unfolding keeps_2
  tells_2 =
      Decides-like (keeps_2 g) (λ t. record { no_loop = t.0; no_return = t.1 }) (λ t. (t.no_loop, t.no_return))
      (Decides-and (irreflexive (hb_rows g)) (irreflexive (composed (hb_rows g) (eco_rows g))) (irreflexive_tells (shows_hb g bound)) (irreflexive_tells (shows_composed (shows_hb g bound) (shows_eco g bound))))

  tells_3 : Decides (keeps_3 g) (Atomicity g)
  unfolding keeps_3
  tells_3 = within_tells (shows_to (shows_rf g bound) (updating g bound)) (shows_without (steps_small g bound) (shows_mo g bound) (shows_composed (shows_mo g bound) (shows_mo g bound)))

  tells_4 : Decides (keeps_4 g) (IsScOrdered g)
  unfolding keeps_4
  tells_4 = irreflexive_tells (shows_closed (shows_psc g bound))

  -- The first test that fails gives the number.
  broken_by : (a b c d : Bool) → Decides a (HasNoThinAir g) → Decides b (Coherence g) → Decides c (Atomicity g) → Decides d (IsScOrdered g) → FirstBroken g (cond a (cond b (cond c (cond d 0 4) 3) 2) 1)
  broken_by false b c d p q r s = rule1 (not_from_Decides false p refl)
  broken_by true false c d p q r s = rule2 (p.0 refl) (not_from_Decides false q refl)
  broken_by true true false d p q r s = rule3 (p.0 refl) (q.0 refl) (not_from_Decides false r refl)
  broken_by true true true false p q r s = rule4 (p.0 refl) (q.0 refl) (r.0 refl) (not_from_Decides false s refl)
  broken_by true true true true p q r s = none (record { no_thin_air = p.0 refl; coherence = q.0 refl; atomicity = r.0 refl; sc_order = s.0 refl })

  pub verdict_right : FirstBroken g (verdict g)
  unfolding verdict
  verdict_right = broken_by (keeps_1 g) (keeps_2 g) (keeps_3 g) (keeps_4 g) tells_1 tells_2 tells_3 tells_4

  -- And the number that fits is the one so found.
  found_by : (a b c d : Bool) → Decides a (HasNoThinAir g) → Decides b (Coherence g) → Decides c (Atomicity g) → Decides d (IsScOrdered g) → (v : ℕ) → FirstBroken g v → v ≡ cond a (cond b (cond c (cond d 0 4) 3) 2) 1
  found_by a b c d p q r s v (none all) =
      sym (cond-true a _ _ (p.1 all.no_thin_air) ∙ cond-true b _ _ (q.1 all.coherence) ∙ cond-true c _ _ (r.1 all.atomicity) ∙ cond-true d 0 4 (s.1 all.sc_order))
  found_by a b c d p q r s v (rule1 n) = sym (cond-false a _ _ (false_by a p n))
  found_by a b c d p q r s v (rule2 h n) = sym (cond-true a _ _ (p.1 h) ∙ cond-false b _ _ (false_by b q n))
  found_by a b c d p q r s v (rule3 h k n) = sym (cond-true a _ _ (p.1 h) ∙ cond-true b _ _ (q.1 k) ∙ cond-false c _ _ (false_by c r n))
  found_by a b c d p q r s v (rule4 h k l n) = sym (cond-true a _ _ (p.1 h) ∙ cond-true b _ _ (q.1 k) ∙ cond-true c _ _ (r.1 l) ∙ cond-false d 0 4 (false_by d s n))

  pub verdict_only : (v : ℕ) → FirstBroken g v → v ≡ verdict g
  unfolding verdict
  verdict_only v t = found_by (keeps_1 g) (keeps_2 g) (keeps_3 g) (keeps_4 g) tells_1 tells_2 tells_3 tells_4 v t
