-- What holds of every history of a ledger. Each theorem with its sentence, and nothing else. Assumes nothing.
use Rattle.std.specs.Prelude.{Some, None}
use Prim.Native.Nat.{ℕ, ◌≤◌, ◌<◌}
use mathlib.Core.Path.{◌≡◌}
use mathlib.Core.Bool.{true, false, not}
use mathlib.Core.List.{List, [], ◌∷◌, ◌++◌, map}
use mathlib.Core.Logic.{◌↔◌}
use lib.ListN.{length}
use Rattle.common.specs.Lists.{Each, Among}
use Rattle.field.specs.declared.Arrival.{Arrival}
use Rattle.field.specs.declared.Place.{Place}
use Rattle.subscription.specs.declared.Subscribe.{Subscribe}
use Rattle.subscription.specs.declared.SubscriptionMessage.TheVariants.{Subscribe as ASubscribe}
use Rattle.message.specs.declared.Message.{Message}
use Rattle.message.specs.declared.Message.TheVariants.{Subscription}
use Rattle.row.specs.Places.{before}
use Rattle.ledger.specs.Answers.{no_rule, closing_rule}
use Rattle.ledger.specs.Ledgers.{held, rising, distinct, is_ledger, is_open}
use Rattle.ledger.specs.Runs.{arrivals_in, run_of}
use Rattle.ledger.specs.Steps.{start_of, take_of, arrival_of}
use Rattle.ledger.specs.declared.Ledger.{Ledger}
use Rattle.ledger.specs.declared.Part.{Part}
use Rattle.ledger.proofs.Facts.{parts}
use Rattle.ledger.proofs.Keeps.{starts}
use Rattle.orders.specs.Events.{Event, message, arrival}
use Rattle.orders.specs.Apart.{Apart}
use Rattle.history.specs.Events.{ledger_after, Logged, log_of}
use Rattle.history.specs.Orders.{Reordered, EitherOrder, Exchanged}
use Rattle.history.specs.Rows.{greatest_of, rows_of}
use Rattle.history.specs.Closings.{any_broken, first_broken}
use Rattle.history.specs.Ledgers.{ShownBy}
use Rattle.history.specs.Takings.{NoneTaken}
use Rattle.history.specs.Runs.{Follows}
use Rattle.history.proofs.Keeping.{history-keeps}
use Rattle.history.proofs.Closing.{closed-later, open_after, kept-after}
use Rattle.history.proofs.Neighbours.{messages-either, open-either}
use Rattle.history.proofs.AnyOrder.{history-exchanged, told-exchanged, between, told-alone}
use Rattle.history.proofs.LedgerTold.{told-from-start, told-once}
use Rattle.history.proofs.GreatestPlace.{nowhere-only, none-nowhere, among, none_after}
use Rattle.history.proofs.AnswerEleven.{promised}
use Rattle.history.proofs.Runs.{run-follows}

-- 1. Arrivals between two control messages may come in any order: the ledger ends the same.
pub arrivals-in-any-order : (l : Ledger) (earlier : List Event) {xs ys : List Arrival} (later : List Event)
    → Reordered xs ys
    → ledger_after l (earlier ++ (map arrival xs ++ later)) ≡ ledger_after l (earlier ++ (map arrival ys ++ later))
arrivals-in-any-order l earlier later r = history-exchanged (between l earlier later r)

-- Whatever their order, each arrival keeps its own answer, and so does every other event.
pub arrivals-keep-their-answers : (l : Ledger) (earlier : List Event) {xs ys : List Arrival} (later : List Event)
    → Reordered xs ys
    → Reordered (log_of l (earlier ++ (map arrival xs ++ later))) (log_of l (earlier ++ (map arrival ys ++ later)))
arrivals-keep-their-answers l earlier later r = told-exchanged (between l earlier later r)

-- Of arrivals that follow each other, each is answered as if it came first.
pub arrivals-answered-as-if-first : (l : Ledger) (xs : List Arrival)
    → log_of l (map arrival xs) ≡ map (λ a. record { event = arrival a; says = (arrival_of l a).says }) xs
arrivals-answered-as-if-first = told-alone

-- 2. Two neighbouring messages that name different subscriptions, neither being SUBSCRIBE, or of which the ledger
-- doesn't keep one, may change places where the session is open after both: the ledger is the same, and each keeps its
-- own answer.
pub messages-in-either-order : (l : Ledger) {m n : Message} → Apart m n
    → is_open (ledger_after l (message m ∷ message n ∷ [])).session ≡ true → EitherOrder l (message m) (message n)
unfolding ledger_after
messages-in-either-order = messages-either

-- Then the session is open after both in the other order too.
pub open-in-either-order : (l : Ledger) {m n : Message} → Apart m n
    → is_open (ledger_after l (message m ∷ message n ∷ [])).session ≡ true
    → is_open (ledger_after l (message n ∷ message m ∷ [])).session ≡ true
unfolding ledger_after
open-in-either-order = open-either

-- Histories that differ by any number of such exchanges, of arrivals or of messages, lead to the same ledger.
pub exchanged-histories-agree : {l : Ledger} {es fs : List Event} → Exchanged l es fs
    → ledger_after l es ≡ ledger_after l fs
exchanged-histories-agree = history-exchanged

-- In histories that differ by such exchanges, each event keeps its own answer.
pub exchanged-histories-keep-their-answers : {l : Ledger} {es fs : List Event} → Exchanged l es fs
    → Reordered (log_of l es) (log_of l fs)
exchanged-histories-keep-their-answers = told-exchanged

-- 3. After any history, the rows held are those of the SUBSCRIBEs that were accepted and not ended since, in their
-- order. A row is active exactly when a SUBSCRIBE_OK was accepted for it, which settled its range; its count is the
-- number of 16s answered for its alias since its SUBSCRIBE was accepted, up to 4,294,967,295, and its place is the
-- greatest of their places.
pub rows-told-by-their-history : (part : Part) (capacity maximum : ℕ) (es : List Event)
    → let l = (start_of part capacity maximum).next in held (ledger_after l es) ≡ rows_of (log_of l es)
rows-told-by-their-history part capacity maximum es = (told-from-start part capacity maximum es).rows

-- So is every other part of the ledger told by its events and their answers.
pub ledger-told-by-its-history : (part : Part) (capacity maximum : ℕ) (es : List Event)
    → let l = (start_of part capacity maximum).next in ShownBy l (log_of l es) (ledger_after l es)
ledger-told-by-its-history = told-from-start

-- No other ledger is told so: the same events and answers lead to the same ledger.
pub same-answers-same-ledger : {l x y : Ledger} {ts : List Logged} → is_ledger x ≡ true → is_ledger y ≡ true
    → ShownBy l ts x → ShownBy l ts y → x ≡ y
same-answers-same-ledger = told-once

-- Places have no greatest exactly when there are none.
pub no-greatest-of-none : (ps : List Place) → (greatest_of ps ≡ None) ↔ (ps ≡ [])
no-greatest-of-none ps = (nowhere-only ps, none-nowhere ps)

-- The greatest of places is one of them, and none of them stands after it.
pub greatest-is-last : (ps : List Place) (g : Place) → greatest_of ps ≡ Some g
    → Among g ps × Each (λ p. before g p ≡ false) ps
greatest-is-last ps g e = (among ps g e, none_after ps g e)

-- 4. A session is closed after a history exactly when a message of the peer's, or malformed bytes, broke a rule in it.
pub closed-by-the-peer-alone : (l : Ledger) (es : List Event) → is_open l.session ≡ true
    → is_open (ledger_after l es).session ≡ not (any_broken l.part (log_of l es))
closed-by-the-peer-alone = open_after

-- The rule that is kept is the one that the first of them broke.
pub first-broken-rule-is-kept : (l : Ledger) (es : List Event) → is_open l.session ≡ true
    → closing_rule (ledger_after l es).session ≡ first_broken l.part (log_of l es)
first-broken-rule-is-kept = kept-after

-- Once the session is closed, nothing changes the ledger.
pub closed-for-good : (l : Ledger) (es later : List Event) → is_open (ledger_after l es).session ≡ false
    → ledger_after l (es ++ later) ≡ ledger_after l es
closed-for-good = closed-later

-- 5. A SUBSCRIBE that was answered 11 is taken once a row is free, if no SUBSCRIBE was taken between and the session is
-- open.
pub eleven-is-a-promise : (l : Ledger) (m : Subscribe) (es : List Event)
    → (take_of l (Subscription (ASubscribe m))).says ≡ no_rule 11 → NoneTaken (log_of l es)
    → is_open (ledger_after l es).session ≡ true → (ledger_after l es).used < (ledger_after l es).capacity
    → (take_of (ledger_after l es) (Subscription (ASubscribe m))).says ≡ no_rule 8
eleven-is-a-promise = promised

-- 6. After any history from an accepted start, rows rise strictly by ID, none above the highest accepted, and aliases
-- are distinct.
pub rows-rise-and-aliases-differ : (part : Part) (capacity maximum : ℕ) (es : List Event)
    → (start_of part capacity maximum).says ≡ no_rule 8
    → let after = ledger_after (start_of part capacity maximum).next es in
    (rising 0 after.next (held after) ≡ true) × (distinct (held after) ≡ true)
rows-rise-and-aliases-differ part capacity maximum es e =
    let w = parts _ (history-keeps (start_of part capacity maximum).next es (starts part capacity maximum e)) in
    (w.rises, w.apart)

-- What is a ledger stays one through any history.
pub always-a-ledger : (l : Ledger) (es : List Event) → is_ledger l ≡ true → is_ledger (ledger_after l es) ≡ true
always-a-ledger = history-keeps

-- 7. A run of arrivals, at a ledger and with room for a number for each, leaves the ledger of the history of its
-- arrivals, and the numbers that they are answered there.
pub run-is-a-history : (l : Ledger) (ns before : List ℕ) → is_ledger l ≡ true → length (arrivals_in ns) ≤ length before
    → Follows l (map arrival (arrivals_in ns)) before (run_of l ns before)
run-is-a-history = run-follows
