-- RC11: the relations of an execution graph, and the four rules by which it is consistent. Event e below 32 is place e % 8 of thread e / 8;
-- 32 to 35 are the initial writes.
use Rattle.std.specs.Prelude.{◌≡◌, ℕ, ◌/◌, ◌<◌, ◌≤◌, Bool, true, ◌&&◌, ◌||◌}
use Rattle.lang.specs.Strengths.{is_release, is_acquire, is_sc}
use Rattle.relations.specs.Algebra.{◌∪◌, ◌∩◌, ◌∖◌, ◌⨾◌, On, Inverse, Plus, Irreflexive, Acyclic, Within}
use Rattle.orders.specs.Orders.{position}
use Rattle.graph.specs.Execution.{Execution}

module _ (g : Execution) where
  -- Sets of events: accesses, which have a location; updates, which read and write in one; the release side and the acquire side, of accesses
  -- and of fences; what has mode sc, and the sc fences.
  abbrev pub accesses : ℕ → Bool
  accesses e = g.reads e || g.writes e

  abbrev pub update : ℕ → Bool
  update e = g.reads e && g.writes e

  abbrev pub release_write : ℕ → Bool
  release_write e = g.writes e && is_release (g.mode e)

  abbrev pub release_fence : ℕ → Bool
  release_fence e = g.fence e && is_release (g.mode e)

  abbrev pub acquire_read : ℕ → Bool
  acquire_read e = g.reads e && is_acquire (g.mode e)

  abbrev pub acquire_fence : ℕ → Bool
  acquire_fence e = g.fence e && is_acquire (g.mode e)

  abbrev pub sc : ℕ → Bool
  sc e = g.present e && is_sc (g.mode e)

  abbrev pub sc_fence : ℕ → Bool
  sc_fence e = g.fence e && is_sc (g.mode e)

  -- sb: same thread and earlier place; also each initial write before every statement event.
  pub data Sb (a b : ℕ) : Type 0 where
    in_thread : g.present a ≡ true → g.present b ≡ true → b < 32 → a / 8 ≡ b / 8 → a < b → Sb a b
    from_initial : g.present a ≡ true → g.present b ≡ true → 32 ≤ a → b < 32 → Sb a b

  -- rf: w is the write that r reads from.
  pub record Rf (w r : ℕ) : Type 0 where
    pub reads : g.reads r ≡ true
    pub source : g.source r ≡ w

  -- mo: two writes of one location, by their places in its order.
  pub record Mo (a b : ℕ) : Type 0 where
    pub left : g.writes a ≡ true
    pub right : g.writes b ≡ true
    pub same : g.location a ≡ g.location b
    pub before : position (g.mo (g.location a)) a < position (g.mo (g.location a)) b

  -- Two different events.
  pub record Apart (a b : ℕ) : Type 0 where
    pub left : g.present a ≡ true
    pub right : g.present b ≡ true
    pub differ : a ≡ b → ⊥

  -- Two events that share a location; a fence shares none.
  pub record Shares (a b : ℕ) : Type 0 where
    pub left : accesses a ≡ true
    pub right : accesses b ≡ true
    pub same : g.location a ≡ g.location b

  -- rb: r's source is earlier in mo than w, and r is not w.
  abbrev pub Rb : ℕ → ℕ → Type 0
  Rb = (Inverse Rf ⨾ Mo) ∩ Apart

  -- eco: one or more steps of rf, mo or rb.
  abbrev pub Eco : ℕ → ℕ → Type 0
  Eco = Plus (Rf ∪ (Mo ∪ Rb))

  -- A release sequence: from a write to itself, and to each update that reads from a member.
  abbrev pub Sequence : ℕ → ℕ → Type 0
  Sequence = On g.writes ∪ (On g.writes ⨾ Plus (Rf ⨾ On update))

  -- From a write on the release side to itself, and from a release fence to what is sb-after it.
  abbrev pub Releases : ℕ → ℕ → Type 0
  Releases = On release_write ∪ (On release_fence ⨾ Sb)

  -- From a read on the acquire side to itself, and from what is sb-before an acquire fence to the fence.
  abbrev pub Acquires : ℕ → ℕ → Type 0
  Acquires = On acquire_read ∪ (Sb ⨾ On acquire_fence)

  -- sw: a releases a write w, a member of w's release sequence is read by r, and b acquires r.
  abbrev pub Sw : ℕ → ℕ → Type 0
  Sw = Releases ⨾ (Sequence ⨾ (Rf ⨾ Acquires))

  -- hb: one or more steps of sb or sw.
  abbrev pub Hb : ℕ → ℕ → Type 0
  Hb = Plus (Sb ∪ Sw)

  -- scb: sb; or sb, hb, sb where neither sb shares a location; or hb at one location; or mo; or rb.
  abbrev pub Scb : ℕ → ℕ → Type 0
  Scb = Sb ∪ (((Sb ∖ Shares) ⨾ (Hb ⨾ (Sb ∖ Shares))) ∪ ((Hb ∩ Shares) ∪ (Mo ∪ Rb)))

  -- psc, first form: from s to t when c scb d, s is c with mode sc or an sc fence hb-before c, and t is d with mode sc or an sc fence hb-after d.
  abbrev pub PscBase : ℕ → ℕ → Type 0
  PscBase = (On sc ∪ (On sc_fence ⨾ Hb)) ⨾ (Scb ⨾ (On sc ∪ (Hb ⨾ On sc_fence)))

  -- psc, second form: from an sc fence to an sc fence by hb, or by hb, eco, hb.
  abbrev pub PscFence : ℕ → ℕ → Type 0
  PscFence = On sc_fence ⨾ ((Hb ∪ (Hb ⨾ (Eco ⨾ Hb))) ⨾ On sc_fence)

  abbrev pub Psc : ℕ → ℕ → Type 0
  Psc = PscBase ∪ PscFence

  -- Rule 1: sb and rf together have no cycle.
  abbrev pub HasNoThinAir : Type 0
  HasNoThinAir = Acyclic (Sb ∪ Rf)

  -- Rule 2: no event a has a hb a, or a hb b with b eco a.
  pub record Coherence : Type 0 where
    pub no_loop : Irreflexive Hb
    pub no_return : Irreflexive (Hb ⨾ Eco)

  -- Rule 3: an update stands in mo directly after its source.
  abbrev pub Atomicity : Type 0
  Atomicity = Within (Rf ⨾ On update) (Mo ∖ (Mo ⨾ Mo))

  -- Rule 4: psc has no cycle.
  abbrev pub IsScOrdered : Type 0
  IsScOrdered = Acyclic Psc

  pub record Consistent : Type 0 where
    pub no_thin_air : HasNoThinAir
    pub coherence : Coherence
    pub atomicity : Atomicity
    pub sc_order : IsScOrdered

  -- The first rule that does not hold, by its number; 0 where all hold.
  pub data FirstBroken : ℕ → Type 0 where
    none : Consistent → FirstBroken 0
    rule1 : (HasNoThinAir → ⊥) → FirstBroken 1
    rule2 : HasNoThinAir → (Coherence → ⊥) → FirstBroken 2
    rule3 : HasNoThinAir → Coherence → (Atomicity → ⊥) → FirstBroken 3
    rule4 : HasNoThinAir → Coherence → Atomicity → (IsScOrdered → ⊥) → FirstBroken 4
