-- Every graph that exists is bounded: nothing happens past the initial writes, these read nothing, and a source is a write.
use Rattle.std.proofs.Common.{◌≡◌, ℕ, zero, suc, ◌-◌, ◌<◌, Bool, true, false, not, ◌&&◌, eqb, List, [], ◌∷◌, get_or, is_some, Some, None, Option, sym, refl, ap, ◌∙◌, ⊎_elim}
use Rattle.std.specs.List.{slice_get}
use Rattle.std.proofs.lemmas.Bool.{cases_lt, cond-false, le-ltb, false≢true, and_parts}
use Rattle.lang.specs.declared.syntax.Location.TheVariants.{X, Y, Z, W}
use Rattle.events.specs.declared.event.Event.{Event}
use Rattle.events.specs.declared.event.Access.{Access}
use Rattle.events.specs.Events.{initial_write, event_at, said, read_by, written_by, read_at, written_at, is_fence}
use Rattle.graph.specs.declared.graph.Graph.{Graph}
use Rattle.graph.specs.Execution.{known, view}
use Rattle.graph.specs.Formed.{agree}
use Rattle.graph.proofs.Fitting.{no_event}
use Rattle.consistency.specs.Bounded.{Bounded}

-- What is not so of an absent event is so of the 36 only.
inside : (P : Option Event → Bool) → P None ≡ false → (events : List (Option Event)) (e : ℕ) → P (event_at events e) ≡ true → e < 36
inside P n events e t = ⊎_elim (λ h. h) (λ h. absurd (false≢true (sym n ∙ ap P (sym (no_event events e h)) ∙ t))) (cases_lt e 36)

-- The initial writes read nothing, so a reading event is one of a statement.
silent : (k : ℕ) → said read_by None (slice_get (initial_write X ∷ initial_write Y ∷ initial_write Z ∷ initial_write W ∷ []) k) ≡ None
silent zero = refl
silent (suc zero) = refl
silent (suc (suc zero)) = refl
silent (suc (suc (suc zero))) = refl
silent (suc (suc (suc (suc k)))) = refl

reader_below : (events : List (Option Event)) (r : ℕ) → is_some (read_at events r) ≡ true → r < 32
reader_below events r t =
    ⊎_elim (λ h. h)
    (λ h.
    let none : read_at events r ≡ None = ap (said read_by None) (cond-false _ _ _ (le-ltb r 32 h)) ∙ silent (r - 32) in
    absurd (false≢true (sym (ap (λ (o : Option Access). is_some o) none) ∙ t)))
    (cases_lt r 32)

writer : (w r : Option Access) → agree w r ≡ true → is_some w ≡ true
writer (Some w) (Some r) t = refl
writer (Some w) None t = refl
writer None (Some r) t = absurd (false≢true t)
writer None None t = absurd (false≢true t)

-- The source that fits a reading event is a write.
source_below : (events : List (Option Event)) (r : ℕ) (o : Option ℕ) → is_some (read_at events r) ≡ true → elim o [ Some s ↦ not (eqb s r) && agree (written_at events s) (read_at events r) | None ↦ not (is_some (read_at events r)) ] ≡ true → known o < 36
source_below events r (Some s) t fits = inside (λ o. is_some (said written_by None o)) refl events s (writer (written_at events s) (read_at events r) (and_parts _ _ fits).1)
source_below events r None t fits = absurd (false≢true (sym (ap not t) ∙ fits))

pub bounded : (g : Graph) → Bounded (view g)
bounded g =
    record {
      present = inside is_some refl g.events;
      reads = inside (λ o. is_some (said read_by None o)) refl g.events;
      writes = inside (λ o. is_some (said written_by None o)) refl g.events;
      fence = inside (said is_fence false) refl g.events;
      source = λ r t. source_below g.events r (get_or g.sources r None) t (g.formed.rf r (reader_below g.events r t));
    }
