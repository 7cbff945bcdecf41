-- What an event comes to, one case for each way that a view goes on. Assumes nothing.
use Rattle.std.specs.Prelude.{Option}
use Prim.Native.Nat.{ℕ, ◌<◌}
use mathlib.Core.Path.{◌≡◌, refl, sym, ap}
use mathlib.Core.Bool.{Bool, false, not}
use mathlib.Core.List.{List, [], ◌∷◌, ◌++◌}
use native.Mathlib.Omega.{arith}
use borrow.Author.Tests.{leb-false}
use lib.Dec.{eqb, leb, ltb}
use lib.ListN.{length}
use Rattle.common.proofs.Cases.{pick-by}
use Rattle.common.specs.Choice.{pick}
use Rattle.field.specs.declared.Arrival.{Arrival}
use Rattle.field.specs.declared.Place.{Place}
use Rattle.subscription.specs.declared.Subscribe.{Subscribe}
use Rattle.subscription.specs.declared.SubscriptionMessage.{SubscriptionMessage}
use Rattle.subscription.specs.declared.SubscriptionMessage.TheVariants.{SubscribeUpdate as ASubscribeUpdate, Subscribe as ASubscribe, SubscribeOk as ASubscribeOk, SubscribeError as ASubscribeError, Unsubscribe as AUnsubscribe, SubscribeDone as ASubscribeDone, MaxSubscribeId as AMaxSubscribeId, SubscribesBlocked as ASubscribesBlocked}
use Rattle.message.specs.declared.Message.TheVariants.{Subscription, Fetch, Announce, Session}
use Rattle.row.specs.Ranges.{settled_of}
use Rattle.row.specs.Rows.{AtRow, counted_row, active_row, may_end}
use Rattle.row.specs.declared.Row.{Row}
use Rattle.row.specs.declared.Ending.{Ending}
use Rattle.row.specs.declared.Ending.TheVariants.{SubscribeError as Erring, SubscribeDone as Ended, Unsubscribe as Leaving}
use Rattle.row.proofs.Keeping.{arrive-by, open_by}
use Rattle.ledger.specs.Ledgers.{has_alias, is_open}
use Rattle.ledger.specs.Answers.{no_rule, is_own}
use Rattle.ledger.specs.Steps.{id_of, alias_of, new_row, Reply, answer, broken, verdict_by, standing_after, replied, unchanged, with_highest, subscribe_step, RowStep, by_key, no_row, ok_at, end_at, by_id, with_maximum, maximum_step, arrive_at, subscription_step}
use Rattle.ledger.specs.declared.Ledger.{Ledger}
use Rattle.ledger.specs.declared.Part.{Part}
use Rattle.ledger.specs.declared.Part.TheVariants.{Subscriber, Publisher}
use Rattle.ledger.specs.declared.Rule.{Rule}
use Rattle.ledger.specs.declared.Rule.TheVariants.{R1, R2, R3, R4, R5, R6, R7}
use Rattle.ledger.specs.Keys.{Looked, none, one, look, on_looked, Change, gone, now, turn}
use Rattle.ledger.specs.Views.{View, Seen, view_of, seen_of}
use Rattle.orders.specs.Events.{Event, message, malformed, arrival, comes, is_sound}
use Rattle.orders.specs.Steps.{event_step, view_step}
use Rattle.ledger.proofs.Keyed.{turn-found, turn-same}
use Rattle.orders.proofs.LedgersFollow.{seen_by}
use Rattle.history.specs.Closings.{is_peers}
use Rattle.history.specs.Deeds.{Deed, opened, ended, deed_by}

-- the answers that leave the ledger as it was, 13 apart
pub data Quiet : ℕ → Type 0 where
  forbidden : Quiet 5
  not-kept : Quiet 9
  closed : Quiet 10
  full : Quiet 11
  stale : Quiet 12
  not-a-ledger : Quiet 14
  outside : Quiet 17
  no-row : Quiet 18
  pending : Quiet 19

-- such an answer is none of 8, 13 and 16
pub quiet : {n : ℕ} → Quiet n → (eqb n 8 ≡ false) × (eqb n 13 ≡ false) × (eqb n 16 ≡ false)
quiet forbidden = (refl, refl, refl)
quiet not-kept = (refl, refl, refl)
quiet closed = (refl, refl, refl)
quiet full = (refl, refl, refl)
quiet stale = (refl, refl, refl)
quiet not-a-ledger = (refl, refl, refl)
quiet outside = (refl, refl, refl)
quiet no-row = (refl, refl, refl)
quiet pending = (refl, refl, refl)

-- the view with other rows
abbrev pub with_rows : View → List Row → View
with_rows v rows = record { standing = v.standing; rows = rows }

abbrev pub counting : Place → Row → Change Row
counting place r = now (counted_row r place)

-- what a deed makes of the row of an ID
pub data Turns : Deed → ℕ → (Row → Change Row) → Type 0 where
  opens : {id : ℕ} {content : Option Place} → Turns (opened id content) id (λ r. now (active_row r (settled_of r.range content)))
  frees : {id : ℕ} → Turns (ended id) id (λ _. gone)

pub data Moves (v : View) : Event → Seen → Type 0 where
  -- it changes nothing
  stayed : {e : Event} {n : ℕ} → Quiet n → Moves v e (unchanged v n)
  -- it breaks a rule: an own message, or the peer's
  broke : {e : Event} (own : Bool) (rule : Rule) → is_peers v.standing.part e ≡ not own → Moves v e (replied v own (broken rule))
  -- an arrival is counted
  counted : {a : Arrival} → Moves v (arrival a) (record { says = no_rule 16; next = with_rows v (turn alias_of a.alias (counting a.place) v.rows) })
  -- a row is opened or freed
  turned : {m : SubscriptionMessage} (id : ℕ) (f : Row → Change Row) → Turns (deed_by m) id f → Moves v (message (Subscription m)) (record { says = no_rule 8; next = with_rows v (turn id_of id f v.rows) })
  -- a SUBSCRIBE is taken
  taken : {m : Subscribe} → Moves v (message (Subscription (ASubscribe m))) (record { says = no_rule 8; next = record { standing = with_highest v.standing m.id; rows = v.rows ++ (new_row m ∷ []) } })
  -- the maximum rises
  raised : {id : ℕ} → v.standing.maximum < id → Moves v (message (Subscription (AMaxSubscribeId id))) (record { says = no_rule 8; next = record { standing = with_maximum v.standing id; rows = v.rows } })

-- ---- at the row that is named

-- it is turned with a number, it stays, or a rule is broken
data Meets (number : ℕ) (f : Row → Change Row) (r : Row) : RowStep → Type 0 where
  turns : Meets number f r (record { reply = answer number; row = f r })
  stays : {n : ℕ} → Quiet n → Meets number f r (record { reply = answer n; row = now r })
  breaks : {rule : Rule} → Meets number f r (record { reply = broken rule; row = now r })

arrival-meets : (place : Place) (r : Row) → Meets 16 (counting place) r (arrive_at place r)
unfolding arrive_at
arrival-meets place r =
    arrive-by (λ (x : AtRow). Meets 16 (counting place) r (record { reply = answer x.number; row = now x.row })) place r
    (stays pending) (stays outside) (λ _. turns)

ok-meets : (content : Option Place) (r : Row) → Meets 8 (λ r. now (active_row r (settled_of r.range content))) r (ok_at content r)
unfolding ok_at
ok-meets content r =
    open_by (λ (x : AtRow). Meets 8 (λ r. now (active_row r (settled_of r.range content))) r (record { reply = pick (eqb x.number 8) (answer 8) (broken R6); row = now x.row })) content r
    breaks turns

end-meets : (ending : Ending) (r : Row) → Meets 8 (λ _. gone) r (end_at ending r)
unfolding end_at
end-meets ending r = pick-by (Meets 8 (λ _. gone) r) (may_end ending r.state) (λ _. turns) (λ _. breaks)

module _ (v : View) (own : Bool) (key : Row → ℕ) (n : ℕ) (missing : Reply) (at : Row → RowStep) (number : ℕ) (f : Row → Change Row) (meets : (r : Row) → Meets number f r (at r)) where
  abbrev seen_with : Reply → List Row → Seen
  seen_with reply rows = record { says = verdict_by reply; next = record { standing = standing_after own reply v.standing; rows = rows } }

  row : Row → Change Row
  row r = (at r).row

  named_by : (P : Seen → Type 0) → P (replied v own missing) → P (seen_with (answer number) (turn key n f v.rows)) → ((m : ℕ) → Quiet m → P (unchanged v m)) → ((rule : Rule) → P (replied v own (broken rule))) → P (by_key v own key n missing at)
  unfolding by_key row
  named_by P nowhere turning staying breaking = go (look key n v.rows) refl
    where
      still : ((r : Row) → look key n v.rows ≡ one r → row r ≡ now r) → turn key n row v.rows ≡ v.rows
      still = turn-same key n row v.rows

      there : (r : Row) → look key n v.rows ≡ one r → (x : RowStep) → at r ≡ x → Meets number f r x → P (seen_with x.reply (turn key n row v.rows))
      there r e x is turns =
          rw (turn-found key n row f v.rows (λ y h. let same : r ≡ y = cc in rw (sym same) (ap (λ (x : RowStep). x.row) is))) turning
      there r e x is (stays q) =
          rw (still (λ y h. let same : r ≡ y = cc in rw (sym same) (ap (λ (x : RowStep). x.row) is))) (staying _ q)
      there r e x is (breaks {rule}) =
          rw (still (λ y h. let same : r ≡ y = cc in rw (sym same) (ap (λ (x : RowStep). x.row) is))) (breaking rule)

      go : (looked : Looked Row) → look key n v.rows ≡ looked → P (seen_with (on_looked missing (λ r. (at r).reply) looked) (turn key n row v.rows))
      go none e = rw (still (λ r h. absurd (let z : ◌≡◌ {A = ℕ} 0 1 = cc in omega arith))) nowhere
      go (one r) e = there r e (at r) refl (meets r)

-- ---- each event

module _ (v : View) where
  module _ (m : SubscriptionMessage) (by : Part) (peers : is_peers v.standing.part (message (Subscription m)) ≡ not (is_own v.standing.part by)) where
    no-row-moves : (id : ℕ) → Moves v (message (Subscription m)) (replied v (is_own v.standing.part by) (no_row v.standing id))
    unfolding no_row
    no-row-moves id =
        pick-by (λ (r : Reply). Moves v (message (Subscription m)) (replied v (is_own v.standing.part by) r)) (leb v.standing.next id)
        (λ _. broke (is_own v.standing.part by) R5 peers) (λ _. stayed stale)

    id-moves : (id : ℕ) (at : Row → RowStep) (f : Row → Change Row) → ((r : Row) → Meets 8 f r (at r)) → Turns (deed_by m) id f → Moves v (message (Subscription m)) (by_id v by id at)
    id-moves id at f meets is =
        named_by v (is_own v.standing.part by) id_of id (no_row v.standing id) at 8 f meets (Moves v (message (Subscription m)))
        (no-row-moves id) (turned id f is) (λ _ q. stayed q) (λ rule. broke (is_own v.standing.part by) rule peers)

  arrival-moves : (a : Arrival) → Moves v (arrival a) (event_step v (arrival a))
  arrival-moves a =
      named_by v (is_own v.standing.part Publisher) alias_of a.alias (answer 18) (arrive_at a.place) 16 (counting a.place) (arrival-meets a.place) (Moves v (arrival a))
      (stayed no-row) counted (λ _ q. stayed q) (λ rule. broke (is_own v.standing.part Publisher) rule refl)

  subscribe-moves : (m : Subscribe) → Moves v (message (Subscription (ASubscribe m))) (subscribe_step v m)
  unfolding subscribe_step
  subscribe-moves m =
      pick-by P (ltb m.id v.standing.next) (λ _. broke own R2 refl) (λ _.
      pick-by P (leb v.standing.maximum m.id) (λ _. broke own R3 refl) (λ _.
      pick-by P (has_alias m.alias v.rows) (λ _. broke own R4 refl) (λ _.
      pick-by P (leb v.standing.capacity (length v.rows)) (λ _. stayed full) (λ _. taken))))
    where
      own : Bool
      own = is_own v.standing.part Subscriber

      P : Seen → Type 0
      P = Moves v (message (Subscription (ASubscribe m)))

  maximum-moves : (id : ℕ) → Moves v (message (Subscription (AMaxSubscribeId id))) (maximum_step v id)
  unfolding maximum_step
  maximum-moves id =
      pick-by (Moves v (message (Subscription (AMaxSubscribeId id)))) (leb id v.standing.maximum)
      (λ _. broke (is_own v.standing.part Publisher) R7 refl) (λ more. raised (leb-false id v.standing.maximum more))

  message-moves : (m : SubscriptionMessage) → Moves v (message (Subscription m)) (subscription_step v m)
  message-moves (ASubscribeUpdate m) = stayed not-kept
  message-moves (ASubscribe m) = subscribe-moves m
  message-moves (ASubscribeOk m) = id-moves (ASubscribeOk m) Publisher refl m.id (ok_at m.largest) _ (ok-meets m.largest) opens
  message-moves (ASubscribeError m) = id-moves (ASubscribeError m) Publisher refl m.id (end_at Erring) _ (end-meets Erring) frees
  message-moves (AUnsubscribe id) = id-moves (AUnsubscribe id) Subscriber refl id (end_at Leaving) _ (end-meets Leaving) frees
  message-moves (ASubscribeDone m) = id-moves (ASubscribeDone m) Publisher refl m.id (end_at Ended) _ (end-meets Ended) frees
  message-moves (AMaxSubscribeId id) = maximum-moves id
  message-moves (ASubscribesBlocked id) = stayed not-kept

  event-moves : (e : Event) → Moves v e (event_step v e)
  event-moves (message (Subscription m)) = message-moves m
  event-moves (message (Fetch m)) = stayed not-kept
  event-moves (message (Announce m)) = stayed not-kept
  event-moves (message (Session m)) = stayed not-kept
  event-moves malformed = broke false R1 refl
  event-moves (arrival a) = arrival-moves a

  -- every event of every view
  pub moves : (e : Event) → Moves v e (view_step v e)
  unfolding view_step
  moves e =
      pick-by (Moves v e) (is_sound e)
      (λ _. pick-by (Moves v e) (is_open v.standing.session) (λ _. event-moves e) (λ _. stayed closed))
      (λ _. stayed forbidden)

-- and of every ledger
pub ledger-moves : (l : Ledger) (e : Event) → Moves (view_of l) e (seen_of (comes l e))
ledger-moves l e = seen_by l e (Moves (view_of l) e) (λ _. moves (view_of l) e) (stayed not-a-ledger)
