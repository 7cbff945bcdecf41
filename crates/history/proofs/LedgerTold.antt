-- A ledger is told by its answered history, every part of it, and no other ledger is told so. Assumes nothing.
use Prim.Native.Nat.{ℕ}
use mathlib.Core.Path.{◌≡◌, refl, sym, ap, ◌∙◌}
use mathlib.Core.Bool.{true}
use mathlib.Core.List.{List, [], ◌∷◌, ◌++◌, append-nil}
use lib.Dec.{eqb, leb}
use Rattle.common.proofs.Cases.{pick-by}
use Rattle.common.specs.Choice.{pick, both}
use Rattle.row.specs.Places.{small}
use Rattle.row.specs.declared.Row.{Row}
use Rattle.ledger.specs.Ledgers.{most_rows, held, is_ledger, is_open}
use Rattle.ledger.specs.Answers.{Came, closing_rule}
use Rattle.ledger.specs.Steps.{start_of}
use Rattle.ledger.specs.declared.Ledger.{Ledger}
use Rattle.ledger.specs.declared.Part.{Part}
use Rattle.ledger.specs.declared.Rule.TheVariants.{R1, R2, R3, R4, R5, R6, R7}
use Rattle.ledger.specs.declared.Session.{Session}
use Rattle.ledger.specs.declared.Session.TheVariants.{Open, Closed}
use Rattle.orders.proofs.LedgersFollow.{view-once}
use Rattle.ledger.specs.Views.{view_of}
use Rattle.orders.specs.Events.{Event, comes}
use Rattle.history.specs.Events.{ledger_after, Logged, log_of}
use Rattle.history.specs.Deeds.{deed_of}
use Rattle.history.specs.Rows.{rows_of}
use Rattle.history.specs.Ledgers.{through, next_by, maximum_by, ShownBy}
use Rattle.history.proofs.Closing.{kept-after}
use Rattle.history.proofs.RowsByDeeds.{laters, no-laters, laters-none, laters-on}
use Rattle.history.proofs.DeedsDone.{Did, did}

-- ---- from any ledger

record From (l : Ledger) (ts : List Logged) (after : Ledger) : Type 0 where
  part : after.part ≡ l.part
  capacity : after.capacity ≡ l.capacity
  rows : held after ≡ laters (held l) ts ++ rows_of ts
  next : after.next ≡ through next_by l.next ts
  maximum : after.maximum ≡ through maximum_by l.maximum ts

from-now : (l : Ledger) → From l [] l
unfolding rows_of through
from-now l =
    record {
      part = refl;
      capacity = refl;
      rows = sym (append-nil (laters (held l) []) ∙ laters-none (held l));
      next = refl;
      maximum = refl;
    }

from_on : {l k after : Ledger} {t : Logged} {ts : List Logged} → Did (view_of l) (deed_of t) (view_of k) → From k ts after → From l (t ∷ ts) after
unfolding through
from_on {l} {t = t} {ts = ts} d f =
    record {
      part = f.part ∙ d.part;
      capacity = f.capacity ∙ d.capacity;
      rows = f.rows ∙ ap (λ (rs : List Row). laters rs ts ++ rows_of ts) d.rows ∙ laters-on t ts (held l);
      next = f.next ∙ ap (λ (n : ℕ). through next_by n ts) d.next;
      maximum = f.maximum ∙ ap (λ (n : ℕ). through maximum_by n ts) d.maximum;
    }

from : (l : Ledger) (es : List Event) → From l (log_of l es) (ledger_after l es)
unfolding ledger_after log_of
from l [] = from-now l
from l (e ∷ es) = from_on (did l e) (from (comes l e).next es)

-- ---- from a start, where no row is held and no ID was accepted

record Starts (l : Ledger) : Type 0 where
  rows : held l ≡ []
  next : l.next ≡ 0
  opened : is_open l.session ≡ true

starting : (part : Part) (capacity maximum : ℕ) → Starts (start_of part capacity maximum).next
unfolding start_of held
starting part capacity maximum =
    pick-by (λ (c : Came). Starts c.next) (both (leb 1 capacity) (both (leb capacity most_rows) (small maximum)))
    (λ _. record { rows = refl; next = refl; opened = refl }) (λ _. record { rows = refl; next = refl; opened = refl })

told-from : (l : Ledger) (es : List Event) → Starts l → ShownBy l (log_of l es) (ledger_after l es)
told-from l es s =
    let f = from l es in
    record {
      part = f.part;
      capacity = f.capacity;
      rows =
          f.rows
          ∙ ap (λ (rs : List Row). rs ++ rows_of (log_of l es))
          (ap (λ (rs : List Row). laters rs (log_of l es)) s.rows ∙ no-laters (log_of l es));
      next = f.next ∙ ap (λ (n : ℕ). through next_by n (log_of l es)) s.next;
      maximum = f.maximum;
      closing = kept-after l es s.opened;
    }

pub told-from-start : (part : Part) (capacity maximum : ℕ) (es : List Event) → let l = (start_of part capacity maximum).next in ShownBy l (log_of l es) (ledger_after l es)
told-from-start part capacity maximum es =
    told-from (start_of part capacity maximum).next es (starting part capacity maximum)

-- ---- one ledger

-- the session that keeps a rule
standing : ℕ → Session
standing n =
    pick (eqb n 0) Open
    (pick (eqb n 1) (Closed R1)
    (pick (eqb n 2) (Closed R2)
    (pick (eqb n 3) (Closed R3)
    (pick (eqb n 4) (Closed R4) (pick (eqb n 5) (Closed R5) (pick (eqb n 6) (Closed R6) (Closed R7)))))))

standing-back : (s : Session) → standing (closing_rule s) ≡ s
unfolding standing
standing-back Open = refl
standing-back (Closed R1) = refl
standing-back (Closed R2) = refl
standing-back (Closed R3) = refl
standing-back (Closed R4) = refl
standing-back (Closed R5) = refl
standing-back (Closed R6) = refl
standing-back (Closed R7) = refl

pub told-once : {l x y : Ledger} {ts : List Logged} → is_ledger x ≡ true → is_ledger y ≡ true → ShownBy l ts x → ShownBy l ts y → x ≡ y
told-once {x = x} {y = y} v w a b =
    let session : x.session ≡ y.session =
    sym (standing-back x.session) ∙ ap standing (a.closing ∙ sym b.closing) ∙ standing-back y.session
    in
    view-once x y v w
    (λ i. record {
      standing = record {
        part = (a.part ∙ sym b.part) i;
        session = session i;
        capacity = (a.capacity ∙ sym b.capacity) i;
        maximum = (a.maximum ∙ sym b.maximum) i;
        next = (a.next ∙ sym b.next) i;
      };
      rows = (a.rows ∙ sym b.rows) i;
    })
