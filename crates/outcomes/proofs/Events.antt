-- Events by their numbers, 8 × thread + place: what is decided of all 32 is decided of all places of all threads.
use Rattle.std.proofs.Common.{◌≡◌, ℕ, ◌+◌, ◌*◌, ◌/◌, ◌%◌, ◌<◌, Bool, List, Decides, Option, subst, arith}
use Rattle.lang.specs.declared.syntax.Statement.{Statement}
use Rattle.events.specs.declared.event.Event.{Event}
use Rattle.events.specs.Events.{event_at}
use Rattle.programs.specs.Parts.{event_number}
use Rattle.outcomes.specs.Source.{expected, EventFits}

pub each_event : (P : ℕ → ℕ → Type 0) (b : Bool) → Decides b ((e : ℕ) → e < 32 → P (e / 8) (e % 8)) → Decides b ((t p : ℕ) → t < 4 → p < 8 → P t p)
each_event P b d = (
  λ y t p h k.
      let e = 8 * t + p in
      let thread : e / 8 ≡ t = omega arith in
      let place : e % 8 ≡ p = omega arith in
      subst (λ x. P x p) thread (subst (P (e / 8)) place (d.0 y e (omega arith))),
  λ all. d.1 (λ e h. all (e / 8) (e % 8) (omega arith) (omega arith)),
)

-- An event fits by its number as by its thread and place.
pub event_decided : (ts : List (List Statement)) (events : List (Option Event)) (e : ℕ) (b : Bool) → Decides b (event_at events e ≡ expected ts events (e / 8) (e % 8)) → Decides b (EventFits ts events (e / 8) (e % 8))
event_decided ts events e b d =
    let number : e ≡ event_number (e / 8) (e % 8) = omega arith in
    subst (λ n. Decides b (event_at events n ≡ expected ts events (e / 8) (e % 8))) number d
