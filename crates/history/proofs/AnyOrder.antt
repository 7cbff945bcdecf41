-- Histories that differ by exchanges of neighbours lead to one ledger, and each event keeps its answer. Assumes nothing.
use mathlib.Core.Path.{◌≡◌, refl, sym, ap, subst, ◌∙◌}
use mathlib.Core.List.{List, [], ◌∷◌, ◌++◌, map}
use Rattle.field.specs.declared.Arrival.{Arrival}
use Rattle.ledger.specs.Answers.{Verdict}
use Rattle.ledger.specs.Steps.{arrival_of}
use Rattle.ledger.specs.declared.Ledger.{Ledger}
use Rattle.orders.specs.Events.{Event, arrival, comes}
use Rattle.history.specs.Events.{ledger_after, Logged, log_of}
use Rattle.history.specs.Orders.{Reordered, EitherOrder, Exchanged}
use Rattle.history.proofs.Neighbours.{arrivals-either, messages-either}

-- ---- an exchange of two neighbours

abbrev answered : Event → Verdict → Logged
answered e says = record { event = e; says = says }

module _ {l : Ledger} {e f : Event} (x : EitherOrder l e f) (es : List Event) where
  history-either : ledger_after l (e ∷ f ∷ es) ≡ ledger_after l (f ∷ e ∷ es)
  unfolding ledger_after
  history-either = ap (λ (k : Ledger). ledger_after k es) x.next

  told-either : Reordered (log_of l (e ∷ f ∷ es)) (log_of l (f ∷ e ∷ es))
  unfolding log_of
  told-either =
      subst (Reordered (log_of l (e ∷ f ∷ es)))
      (λ i. answered f (x.second i) ∷ answered e (sym x.first i) ∷ log_of (x.next i) es) Reordered.swap

-- ---- histories

pub history-exchanged : {l : Ledger} {es fs : List Event} → Exchanged l es fs → ledger_after l es ≡ ledger_after l fs
unfolding ledger_after
history-exchanged Exchanged.same = refl
history-exchanged (Exchanged.arrivals {l} {a} {b} {es}) = history-either (arrivals-either l a b) es
history-exchanged (Exchanged.messages {l} {es = es} apart opened) = history-either (messages-either l apart opened) es
history-exchanged (Exchanged.after x) = history-exchanged x
history-exchanged (Exchanged.then x y) = history-exchanged x ∙ history-exchanged y

pub told-exchanged : {l : Ledger} {es fs : List Event} → Exchanged l es fs → Reordered (log_of l es) (log_of l fs)
unfolding ledger_after log_of
told-exchanged Exchanged.same = Reordered.same
told-exchanged (Exchanged.arrivals {l} {a} {b} {es}) = told-either (arrivals-either l a b) es
told-exchanged (Exchanged.messages {l} {es = es} apart opened) = told-either (messages-either l apart opened) es
told-exchanged (Exchanged.after x) = Reordered.after (told-exchanged x)
told-exchanged (Exchanged.then x y) = Reordered.then (told-exchanged x) (told-exchanged y)

-- ---- arrivals between two parts of a history

among : (l : Ledger) {xs ys : List Arrival} (later : List Event) → Reordered xs ys → Exchanged l (map arrival xs ++ later) (map arrival ys ++ later)
among l later Reordered.same = Exchanged.same
among l later Reordered.swap = Exchanged.arrivals
among l later (Reordered.after {x} r) = Exchanged.after (among (comes l (arrival x)).next later r)
among l later (Reordered.then r s) = Exchanged.then (among l later r) (among l later s)

behind : (l : Ledger) (es : List Event) {fs gs : List Event} → Exchanged (ledger_after l es) fs gs → Exchanged l (es ++ fs) (es ++ gs)
unfolding ledger_after
behind l [] x = x
behind l (e ∷ es) x = Exchanged.after (behind (comes l e).next es x)

pub between : (l : Ledger) (es : List Event) {xs ys : List Arrival} (later : List Event) → Reordered xs ys → Exchanged l (es ++ (map arrival xs ++ later)) (es ++ (map arrival ys ++ later))
between l es later r = behind l es (among (ledger_after l es) later r)

-- each is answered as if it came first
abbrev alone : Ledger → Arrival → Logged
alone l a = answered (arrival a) (arrival_of l a).says

alone-behind : (l : Ledger) (a : Arrival) (xs : List Arrival) → map (alone (arrival_of l a).next) xs ≡ map (alone l) xs
alone-behind l a [] = refl
alone-behind l a (b ∷ xs) =
    λ i. answered (arrival b) ((arrivals-either l a b).second i) ∷ alone-behind l a xs i

pub told-alone : (l : Ledger) (xs : List Arrival) → log_of l (map arrival xs) ≡ map (alone l) xs
unfolding log_of
told-alone l [] = refl
told-alone l (a ∷ xs) =
    ap (λ (t : List Logged). alone l a ∷ t) (told-alone (arrival_of l a).next xs ∙ alone-behind l a xs)
