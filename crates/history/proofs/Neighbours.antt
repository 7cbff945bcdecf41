-- Two neighbouring events in either order, at any ledger: what holds of views is carried to the ledgers. Assumes nothing.
use mathlib.Core.Path.{◌≡◌, refl, sym, ap, subst, ◌∙◌}
use mathlib.Core.Bool.{Bool, true, false}
use Rattle.field.specs.declared.Arrival.{Arrival}
use Rattle.message.specs.declared.Message.{Message}
use Rattle.ledger.specs.Answers.{Came}
use Rattle.ledger.specs.Ledgers.{is_ledger, is_open}
use Rattle.ledger.specs.declared.Ledger.{Ledger}
use Rattle.ledger.specs.Views.{Seen, view_of, seen_of}
use Rattle.orders.specs.Events.{Event, message, arrival, comes}
use Rattle.orders.specs.Steps.{view_step}
use Rattle.orders.specs.Apart.{Apart, SeenInEitherOrder}
use Rattle.orders.proofs.LedgersFollow.{ledger-follows, no-ledger, view-once}
use Rattle.orders.proofs.EitherOrder as views
use Rattle.history.specs.Orders.{EitherOrder}
use Rattle.history.proofs.Keeping.{comes-keeps}

module _ (l : Ledger) (w : is_ledger l ≡ true) where
  -- the views after two events
  after_both : (e f : Event) → seen_of (comes (comes l e).next f) ≡ view_step (view_step (view_of l) e).next f
  after_both e f =
      ledger-follows (comes l e).next f (comes-keeps l e w) ∙ ap (λ (s : Seen). view_step s.next f) (ledger-follows l e w)

  carried : {e f : Event} → SeenInEitherOrder (view_of l) e f → EitherOrder l e f
  carried {e} {f} x =
      record {
        next =
            view-once _ _ (comes-keeps (comes l e).next f (comes-keeps l e w)) (comes-keeps (comes l f).next e (comes-keeps l f w))
            (ap (λ (s : Seen). s.next) (after_both e f) ∙ x.next ∙ sym (ap (λ (s : Seen). s.next) (after_both f e)));
        first = ap (λ (s : Seen). s.says) (after_both f e) ∙ x.first ∙ sym (ap (λ (s : Seen). s.says) (ledger-follows l e w));
        second = ap (λ (s : Seen). s.says) (after_both e f) ∙ x.second ∙ sym (ap (λ (s : Seen). s.says) (ledger-follows l f w));
      }

-- what is no ledger stays as it is
neither-changes : (l : Ledger) (e f : Event) → (comes l e).next ≡ l → (comes l f).next ≡ l → EitherOrder l e f
neither-changes l e f a b =
    record {
      next = ap (λ (x : Ledger). (comes x f).next) a ∙ b ∙ sym a ∙ ap (λ (x : Ledger). (comes x e).next) (sym b);
      first = ap (λ (x : Ledger). (comes x e).says) b;
      second = ap (λ (x : Ledger). (comes x f).says) a;
    }

either-by : (l : Ledger) (e f : Event) → (is_ledger l ≡ true → SeenInEitherOrder (view_of l) e f) → EitherOrder l e f
either-by l e f x = go (is_ledger l) refl
  where
    go : (b : Bool) → is_ledger l ≡ b → EitherOrder l e f
    go true w = carried l w (x w)
    go false w =
        neither-changes l e f (ap (λ (c : Came). c.next) (no-ledger l e w)) (ap (λ (c : Came). c.next) (no-ledger l f w))

-- Two arrivals may change places, in any ledger.
pub arrivals-either : (l : Ledger) (a b : Arrival) → EitherOrder l (arrival a) (arrival b)
arrivals-either l a b = either-by l (arrival a) (arrival b) (λ _. views.arrivals-either (view_of l) a b)

-- So may two messages that are apart, where the session is open after both;
module _ (l : Ledger) {m n : Message} (apart : Apart m n) (opened : is_open (comes (comes l (message m)).next (message n)).next.session ≡ true) where
  pub messages-either : EitherOrder l (message m) (message n)
  messages-either =
      either-by l (message m) (message n) (λ w.
      views.messages-either (view_of l) apart
      (subst (λ (s : Seen). is_open s.next.standing.session ≡ true) (after_both l w (message m) (message n)) opened))

  -- and it is open after both in the other order too.
  pub open-either : is_open (comes (comes l (message n)).next (message m)).next.session ≡ true
  open-either = ap (λ (k : Ledger). is_open k.session) (sym messages-either.next) ∙ opened
