-- Which numbers a write of a location can have, and what the tests and loops over orders decide.
use Rattle.std.proofs.Common.{◌≡◌, ℕ, ◌-◌, ◌<◌, ◌≤◌, Bool, true, false, eqb, List, [], ◌∷◌, length, Some, None, Decides, Option, sym, ap, ◌∙◌, inl, inr, arith}
use Rattle.std.proofs.lemmas.Option.{slice_get_past}
use Rattle.std.proofs.lemmas.Bool.{eqb-true, false≢true, cond-false, le-ltb, cases_lt}
use Rattle.lang.specs.declared.syntax.Location.TheVariants.{X, Y, Z, W}
use Rattle.lang.specs.Numbering.{location_index}
use Rattle.events.specs.declared.event.Event.{Event}
use Rattle.events.specs.declared.event.Access.{Access}
use Rattle.events.specs.Events.{initial_write, event_at, said, written_by, written_at}
use Rattle.orders.specs.Orders.{position}
use Rattle.graph.specs.Formed.{writes_to}
use Rattle.graph.proofs.Locations.{index_small}

-- If what an event writes, if it writes, is at l.
abbrev at_location : ℕ → Option Access → Bool
at_location l o = elim o [ Some a ↦ eqb (location_index a.location) l | None ↦ false ]

location_small : (l : ℕ) (o : Option Access) → at_location l o ≡ true → l < 4
location_small l (Some a) e = omega (arith, eqb-true (location_index a.location) l e, index_small a.location)
location_small l None e = absurd (false≢true e)

-- There is no event past the initial writes.
pub no_event : (events : List (Option Event)) (w : ℕ) → 36 ≤ w → event_at events w ≡ None
no_event events w h =
    cond-false _ _ _ (le-ltb w 32 (omega arith)) ∙ slice_get_past (initial_write X ∷ initial_write Y ∷ initial_write Z ∷ initial_write W ∷ []) (w - 32) (omega arith)

-- What writes to l writes to one of the four locations,
pub writes_below_4 : (events : List (Option Event)) (l w : ℕ) → writes_to events l w ≡ true → l < 4
writes_below_4 events l w e = location_small l (written_at events w) e

-- and is one of the 36 events.
pub writes_below_36 : (events : List (Option Event)) (l w : ℕ) → writes_to events l w ≡ true → w < 36
writes_below_36 events l w e =
    elim (cases_lt w 36) [
      | inl h ↦ h
      | inr h ↦ absurd (false≢true (sym (ap (λ (o : Option Event). at_location l (said written_by None o)) (no_event events w h)) ∙ e))
    ]

-- So what is decided of the writes among those is decided of all.
pub each_below_36 : (events : List (Option Event)) (l : ℕ) (order : List ℕ) (b : Bool)
    → Decides b ((w : ℕ) → w < 36 → writes_to events l w ≡ true → position order w < length order)
    → Decides b ((w : ℕ) → writes_to events l w ≡ true → position order w < length order)
each_below_36 events l order b d = (λ t w e. d.0 t w (writes_below_36 events l w e) e, λ all. d.1 (λ w h e. all w e))
