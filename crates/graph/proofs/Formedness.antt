-- Parts that fit one by one are formed, and the orders of formed parts fit one by one.
use Rattle.std.proofs.Common.{◌≡◌, ℕ, ◌<◌, Bool, true, List, [], get_or, Decides, Option}
use Rattle.events.specs.declared.event.Event.{Event}
use Rattle.graph.specs.Formed.{source_fits, OrderFits, Formed}
use Rattle.graph.proofs.Fitting.{writes_below_4}

module _ {events : List (Option Event)} {sources : List (Option ℕ)} {orders : List (List ℕ)} where
  -- Sources and orders that fit one by one are those of a graph,
  pub formed_from_fits : ((r : ℕ) → r < 32 → source_fits events sources r ≡ true) → ((l : ℕ) → l < 4 → OrderFits events (get_or orders l []) l) → Formed events sources orders
  formed_from_fits rf fit =
      record {
        rf = rf;
        begins = λ l h. (fit l h).begins;
        only = λ l i s. (fit l s.0).only i s.1;
        all = λ l w e. (fit l (writes_below_4 events l w e)).all w e;
        once = λ l i s. (fit l s.0).once i s.1;
      }

  -- and the orders of a graph fit one by one.
  pub fits_from_formed : Formed events sources orders → (l : ℕ) → l < 4 → OrderFits events (get_or orders l []) l
  fits_from_formed f l h =
      record {
        begins = f.begins l h;
        only = λ i s. f.only l i (h, s);
        all = f.all l;
        once = λ i s. f.once l i (h, s);
      }

  pub formed_decided : ((r : ℕ) → r < 32 → source_fits events sources r ≡ true) → (b : Bool) → Decides b ((l : ℕ) → l < 4 → OrderFits events (get_or orders l []) l) → Decides b (Formed events sources orders)
  formed_decided rf b d = (λ e. formed_from_fits rf (d.0 e), λ f. d.1 (fits_from_formed f))
