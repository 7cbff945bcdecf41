-- A ledger follows the step of its view. Assumes nothing.
use mathlib.Core.Path.{◌≡◌, refl, sym, ap, ◌∙◌}
use mathlib.Core.Bool.{Bool, true, false}
use lib.Dec.{eqb}
use Rattle.common.specs.Choice.{pick}
use Rattle.ledger.specs.Ledgers.{is_ledger, is_open}
use Rattle.ledger.specs.Answers.{same, gated, gate_of, stops}
use Rattle.ledger.specs.Views.{Seen, view_of, ledger_of, came_of, seen_of}
use Rattle.ledger.specs.Steps.{unchanged, take_of, malformed_of, arrival_of}
use Rattle.ledger.specs.declared.Ledger.{Ledger}
use Rattle.ledger.proofs.Facts.{parts}
use Rattle.ledger.proofs.Shapes.{shaped, ledger-is}
use Rattle.ledger.proofs.Keeps.{Good, good, seen_as, good-message, good-malformed, good-arrival}
use Rattle.orders.specs.Events.{Event, message, malformed, arrival, comes, is_sound}
use Rattle.orders.specs.Steps.{event_step, view_step}

comes-gated : (l : Ledger) (e : Event) → comes l e ≡ gated l (is_sound e) (came_of (event_step (view_of l) e))
unfolding take_of malformed_of arrival_of
comes-gated l (message m) = refl
comes-gated l malformed = refl
comes-gated l (arrival a) = refl

good-event : (l : Ledger) (e : Event) → is_ledger l ≡ true → is_sound e ≡ true → Good (event_step (view_of l) e).next
good-event l (message m) w s = good-message (view_of l) (good l w) m s
good-event l malformed w s = good-malformed (view_of l) (good l w)
good-event l (arrival a) w s = good-arrival (view_of l) (good l w) a s

pub no-ledger : (l : Ledger) (e : Event) → is_ledger l ≡ false → comes l e ≡ same l 14
unfolding gated gate_of stops
no-ledger l e w = rw (comes-gated l e, w)

-- What is said, and the view of the next ledger, are what the view's step says, for every ledger and event.
pub ledger-follows : (l : Ledger) (e : Event) → is_ledger l ≡ true → seen_of (comes l e) ≡ view_step (view_of l) e
unfolding view_step gated gate_of stops
ledger-follows l e w = rw (comes-gated l e, w) (go (is_sound e) refl (is_open l.session))
  where
    go : (s : Bool) → is_sound e ≡ s → (o : Bool) → seen_of (pick (eqb (pick s (pick o 0 10) 5) 0) (came_of (event_step (view_of l) e)) (same l (pick s (pick o 0 10) 5))) ≡ pick s (pick o (event_step (view_of l) e) (unchanged (view_of l) 10)) (unchanged (view_of l) 5)
    go true h true = seen_as (event_step (view_of l) e) (good-event l e w h)
    go true h false = refl
    go false h o = refl

-- Every ledger and event, also what is no ledger.
pub seen_by : (l : Ledger) (e : Event) (P : Seen → Type 0) → (is_ledger l ≡ true → P (view_step (view_of l) e)) → P (unchanged (view_of l) 14) → P (seen_of (comes l e))
seen_by l e P follows otherwise = go (is_ledger l) refl
  where
    go : (b : Bool) → is_ledger l ≡ b → P (seen_of (comes l e))
    go true w = rw (ledger-follows l e w) (follows w)
    go false w = rw (no-ledger l e w) otherwise

-- The view of a ledger loses nothing of it.
pub view-once : (k l : Ledger) → is_ledger k ≡ true → is_ledger l ≡ true → view_of k ≡ view_of l → k ≡ l
view-once k l v w e = sym (ledger-is k (shaped k (parts k v))) ∙ ap ledger_of e ∙ ledger-is l (shaped l (parts l w))
