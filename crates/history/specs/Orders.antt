-- Histories that differ only in their order.
use Rattle.std.specs.Prelude.{◌≡◌, true, List, [], ◌∷◌}
use Rattle.field.specs.declared.Arrival.{Arrival}
use Rattle.message.specs.declared.Message.{Message}
use Rattle.ledger.specs.Ledgers.{is_open}
use Rattle.ledger.specs.declared.Ledger.{Ledger}
use Rattle.orders.specs.Events.{Event, message, arrival, comes}
use Rattle.orders.specs.Apart.{Apart}
use Rattle.history.specs.Events.{ledger_after}

-- the same things in another order
pub data Reordered {A : Type 0} : List A → List A → Type 0 where
  same : {xs : List A} → Reordered xs xs
  swap : {x y : A} {zs : List A} → Reordered (x ∷ y ∷ zs) (y ∷ x ∷ zs)
  after : {x : A} {xs ys : List A} → Reordered xs ys → Reordered (x ∷ xs) (x ∷ ys)
  then : {xs ys zs : List A} → Reordered xs ys → Reordered ys zs → Reordered xs zs

-- two events in either order: the same ledger, and each its own answer
pub record EitherOrder (l : Ledger) (e f : Event) : Type 0 where
  pub next : (comes (comes l e).next f).next ≡ (comes (comes l f).next e).next
  pub first : (comes (comes l f).next e).says ≡ (comes l e).says
  pub second : (comes (comes l e).next f).says ≡ (comes l f).says

-- histories that differ by exchanges of neighbours: two arrivals; or two messages that may change places, the session
-- open after both
pub data Exchanged : Ledger → List Event → List Event → Type 0 where
  same : {l : Ledger} {es : List Event} → Exchanged l es es
  arrivals : {l : Ledger} {a b : Arrival} {es : List Event} →
      Exchanged l (arrival a ∷ arrival b ∷ es) (arrival b ∷ arrival a ∷ es)
  messages : {l : Ledger} {m n : Message} {es : List Event} → Apart m n →
      is_open (ledger_after l (message m ∷ message n ∷ [])).session ≡ true → Exchanged l (message m ∷ message n ∷ es)
      (message n ∷ message m ∷ es)
  after : {l : Ledger} {e : Event} {es fs : List Event} → Exchanged (comes l e).next es fs →
      Exchanged l (e ∷ es) (e ∷ fs)
  then : {l : Ledger} {es fs gs : List Event} → Exchanged l es fs → Exchanged l fs gs → Exchanged l es gs
