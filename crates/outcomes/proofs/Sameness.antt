-- What `==` of two events, if there are any, says: they are the same.
use Rattle.std.proofs.Common.{◌≡◌, Bool, true, ◌&&◌, eqb, Decides, Option, None, Some, refl, rules, subst, sym, ap, ◌∙◌}
use Rattle.std.proofs.lemmas.Bool.{false≢true, eqb-true, and_parts}
use Rattle.std.specs.Option.{option_eq}
use denote.Enum.Bare.{sameb, same_true}
use Rattle.lang.specs.declared.syntax.Location.{Location}
use Rattle.lang.specs.contracts.syntax.Location as location
use Rattle.lang.specs.declared.syntax.Mode.{Mode}
use Rattle.lang.specs.contracts.syntax.Mode as mode
use Rattle.events.specs.declared.event.Event.{Event}
use Rattle.events.specs.declared.event.Event.TheVariants.{Load, Store, Update, Fence}
use Rattle.events.specs.contracts.event.EventPartialEq.TheImpl as impl
use Rattle.events.specs.contracts.event.EventEq.TheImpl.Laws as laws

same_location : (x y : Location) → sameb location.the_type x y ≡ true → x ≡ y
same_location x y e = same_true location.the_type (search rules) x y e

same_mode : (x y : Mode) → sameb mode.the_type x y ≡ true → x ≡ y
same_mode x y e = same_true mode.the_type (search rules) x y e

-- Two events of one kind agree on location and mode, and on what else they have.
parts : (l k : Location) (m n : Mode) (b : Bool) → (sameb location.the_type l k && (sameb mode.the_type m n && b)) ≡ true → (l ≡ k) × ((m ≡ n) × (b ≡ true))
parts l k m n b e =
    let a = and_parts (sameb location.the_type l k) (sameb mode.the_type m n && b) e in
    let d = and_parts (sameb mode.the_type m n) b a.1 in
    (same_location l k a.0, (same_mode m n d.0, d.1))

same_event : (x y : Event) → impl.eq-value.it x y ≡ true → x ≡ y
same_event (Load l m v) (Load k n w) e =
    let s = parts l k m n (eqb v w) e in
    cc (eqb-true v w s.1.1)
same_event (Store l m v) (Store k n w) e =
    let s = parts l k m n (eqb v w) e in
    cc (eqb-true v w s.1.1)
same_event (Update l m v u) (Update k n w t) e =
    let s = parts l k m n (eqb v w && eqb u t) e in
    let d = and_parts (eqb v w) (eqb u t) s.1.1 in
    cc (eqb-true v w d.0, eqb-true u t d.1)
same_event (Fence m) (Fence n) e = ap Fence (same_mode m n e)
same_event x y e = absurd (false≢true e)

itself : (x : Option Event) → option_eq impl.eq-value.it x x ≡ true
itself None = refl
itself (Some x) = laws.laws-law.refl x

same : (x y : Option Event) → option_eq impl.eq-value.it x y ≡ true → x ≡ y
same None None e = refl
same None (Some y) e = absurd (false≢true e)
same (Some x) None e = absurd (false≢true e)
same (Some x) (Some y) e = ap Some (same_event x y e)

pub same_decided : (x y : Option Event) (b : Bool) → b ≡ option_eq impl.eq-value.it x y → Decides b (x ≡ y)
same_decided x y b e = (λ t. same x y (sym e ∙ t), λ s. e ∙ subst (λ z. option_eq impl.eq-value.it x z ≡ true) s (itself x))
