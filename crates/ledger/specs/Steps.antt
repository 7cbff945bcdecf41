-- The ledger's steps, in the order and the words of document 01. A step is said of a view: what stands beside the rows,
-- and the list of rows held.
use Rattle.std.specs.Prelude.{ℕ, ◌+◌, Bool, true, false, [], ◌∷◌, ◌++◌, length, leb, ltb, eqb, Option}
use Rattle.common.specs.Choice.{guard, pick, both}
use Rattle.field.specs.declared.Arrival.{Arrival}
use Rattle.field.specs.declared.Place.{Place}
use Rattle.subscription.specs.declared.Subscribe.{Subscribe}
use Rattle.subscription.specs.declared.SubscriptionMessage.{SubscriptionMessage}
use Rattle.subscription.specs.declared.SubscriptionMessage.TheVariants.{SubscribeUpdate as ASubscribeUpdate, Subscribe as ASubscribe, SubscribeOk as ASubscribeOk, SubscribeError as ASubscribeError, Unsubscribe as AUnsubscribe, SubscribeDone as ASubscribeDone, MaxSubscribeId as AMaxSubscribeId, SubscribesBlocked as ASubscribesBlocked}
use Rattle.message_writer.specs.Sound.{sound_of}
use Rattle.message.specs.declared.Message.{Message}
use Rattle.message.specs.declared.Message.TheVariants.{Subscription, Fetch, Announce, Session}
use Rattle.row.specs.Places.{small, small_place}
use Rattle.row.specs.Ranges.{asked_of}
use Rattle.row.specs.Rows.{pending_row, arrive_of, open_of, may_end}
use Rattle.row.specs.declared.Row.{Row}
use Rattle.row.specs.declared.Ending.{Ending}
use Rattle.row.specs.declared.Ending.TheVariants.{SubscribeError as Erring, SubscribeDone as Ended, Unsubscribe as Leaving}
use Rattle.ledger.specs.Ledgers.{most_rows, has_alias, empty_ledger}
use Rattle.ledger.specs.Answers.{Verdict, Came, no_rule, rule_number, done, is_own, gated}
use Rattle.ledger.specs.Senders.{sender}
use Rattle.ledger.specs.Keys.{look, on_looked, Change, gone, now, turn}
use Rattle.ledger.specs.Views.{Standing, View, Seen, view_of, came_of}
use Rattle.ledger.specs.declared.Part.{Part}
use Rattle.ledger.specs.declared.Part.TheVariants.{Publisher}
use Rattle.ledger.specs.declared.Rule.{Rule}
use Rattle.ledger.specs.declared.Rule.TheVariants.{R1, R2, R3, R4, R5, R6, R7}
use Rattle.ledger.specs.declared.Session.TheVariants.{Closed}
use Rattle.ledger.specs.declared.Ledger.{Ledger}

-- ---- starting

-- "A ledger starts with its own end's part (subscriber or publisher), a row capacity and a maximum Subscribe ID." 15,
-- "start refused: rows not 1 to 64, maximum above the greatest integer": what is then handed back has no capacity, and
-- every call on it answers 14
abbrev pub refused_start : Part → Came
refused_start part = record { says = no_rule 15; next = empty_ledger part 0 0 }

unfoldable pub start_of : Part → ℕ → ℕ → Came
start_of part capacity maximum =
    guard (both (leb 1 capacity) (both (leb capacity most_rows) (small maximum))) (refused_start part)
    (done (empty_ledger part capacity maximum))

-- ---- what is replied

-- 01's number of an answer; or 13, "breaks rule R1 to R7, number given"
pub data Reply : Type 0 where
  answer : ℕ → Reply
  broken : Rule → Reply

abbrev pub verdict_by : Reply → Verdict
verdict_by (answer number) = no_rule number
verdict_by (broken rule) = record { number = 13; rule = rule_number rule }

abbrev pub closed : Standing → Rule → Standing
closed s rule =
    record { part = s.part; session = Closed rule; capacity = s.capacity; maximum = s.maximum; next = s.next }

-- "own message: same ledger; peer's: closed, rule kept, rows unchanged"
abbrev pub standing_after : Bool → Reply → Standing → Standing
standing_after own (answer number) s = s
standing_after own (broken rule) s = pick own s (closed s rule)

-- the rows stay as they are
abbrev pub replied : View → Bool → Reply → Seen
replied v own reply =
    record {
      says = verdict_by reply;
      next = record {
        standing = standing_after own reply v.standing;
        rows = v.rows;
      };
    }

abbrev pub unchanged : View → ℕ → Seen
unchanged v number = record { says = no_rule number; next = v }

-- ---- SUBSCRIBE

-- "a pending row", "its range not known yet for filter 2 and as asked for 3 and 4"
abbrev pub new_row : Subscribe → Row
new_row m = pending_row m.id m.alias (asked_of m.filter)

-- "the ID becomes the highest"
abbrev pub with_highest : Standing → ℕ → Standing
with_highest s id =
    record { part = s.part; session = s.session; capacity = s.capacity; maximum = s.maximum; next = id + 1 }

-- "SUBSCRIBE (sent by the subscriber). R2: ID not above the highest accepted, if any. R3: ID not below the maximum. R4:
-- alias held by any row. Then 11. Else a pending row is added last, its range not known yet for filter 2 and as asked
-- for 3 and 4, and the ID becomes the highest."
unfoldable pub subscribe_step : View → Subscribe → Seen
subscribe_step v m =
    let s = v.standing in
    let own = is_own s.part (sender (ASubscribe m)) in
    pick (ltb m.id s.next) (replied v own (broken R2))
    (pick (leb s.maximum m.id) (replied v own (broken R3))
    (pick (has_alias m.alias v.rows) (replied v own (broken R4))
    (pick (leb s.capacity (length v.rows)) (unchanged v 11)
    (record { says = no_rule 8; next = record { standing = with_highest s m.id; rows = v.rows ++ new_row m ∷ [] } }))))

-- ---- what names a row: a message by its ID, an arrival by its alias

abbrev pub id_of : Row → ℕ
id_of r = r.id

abbrev pub alias_of : Row → ℕ
alias_of r = r.alias

-- what is replied at a row, and what becomes of it
pub record RowStep : Type 0 where
  pub reply : Reply
  pub row : Change Row

-- the row that has a number is looked up, and turned
unfoldable pub by_key : View → Bool → (Row → ℕ) → ℕ → Reply → (Row → RowStep) → Seen
by_key v own key n missing at =
    let reply = on_looked missing (λ r. (at r).reply) (look key n v.rows) in
    record {
      says = verdict_by reply;
      next = record { standing = standing_after own reply v.standing; rows = turn key n (λ r. (at r).row) v.rows };
    }

-- ---- SUBSCRIBE_OK, SUBSCRIBE_ERROR, SUBSCRIBE_DONE (publisher), UNSUBSCRIBE (subscriber)

-- "No row: R5 if the ID is above the highest or none was accepted, else 12."
unfoldable pub no_row : Standing → ℕ → Reply
no_row s id = pick (leb s.next id) (broken R5) (answer 12)

abbrev pub by_id : View → Part → ℕ → (Row → RowStep) → Seen
by_id v by id at = by_key v (is_own v.standing.part by) id_of id (no_row v.standing id) at

-- "R6": the row stays as it is
abbrev pub breaks_r6 : Row → RowStep
breaks_r6 r = record { reply = broken R6; row = now r }

-- "OK on pending makes it active"; "R6: OK or ERROR on active"
unfoldable pub ok_at : Option Place → Row → RowStep
ok_at content r =
    let at = open_of r content in
    record { reply = pick (eqb at.number 8) (answer 8) (broken R6); row = now at.row }

-- "ERROR on pending, DONE on active and UNSUBSCRIBE on either free it"; "R6: OK or ERROR on active, DONE on pending"
unfoldable pub end_at : Ending → Row → RowStep
end_at ending r =
    pick (may_end ending r.state) (record { reply = answer 8; row = gone }) (breaks_r6 r)

-- ---- MAX_SUBSCRIBE_ID

abbrev pub with_maximum : Standing → ℕ → Standing
with_maximum s maximum =
    record { part = s.part; session = s.session; capacity = s.capacity; maximum = maximum; next = s.next }

-- "MAX_SUBSCRIBE_ID (publisher). R7: not larger than the maximum."
unfoldable pub maximum_step : View → ℕ → Seen
maximum_step v id =
    let s = v.standing in
    pick (leb id s.maximum) (replied v (is_own s.part (sender (AMaxSubscribeId id))) (broken R7))
    (record { says = no_rule 8; next = record { standing = with_maximum s id; rows = v.rows } })

-- ---- each message; "All other messages: 9."

abbrev pub subscription_step : View → SubscriptionMessage → Seen
subscription_step v (ASubscribeUpdate m) = unchanged v 9
subscription_step v (ASubscribe m) = subscribe_step v m
subscription_step v (ASubscribeOk m) = by_id v (sender (ASubscribeOk m)) m.id (ok_at m.largest)
subscription_step v (ASubscribeError m) = by_id v (sender (ASubscribeError m)) m.id (end_at Erring)
subscription_step v (AUnsubscribe id) = by_id v (sender (AUnsubscribe id)) id (end_at Leaving)
subscription_step v (ASubscribeDone m) = by_id v (sender (ASubscribeDone m)) m.id (end_at Ended)
subscription_step v (AMaxSubscribeId id) = maximum_step v id
subscription_step v (ASubscribesBlocked id) = unchanged v 9

abbrev pub message_step : View → Message → Seen
message_step v (Subscription m) = subscription_step v m
message_step v (Fetch m) = unchanged v 9
message_step v (Announce m) = unchanged v 9
message_step v (Session m) = unchanged v 9

-- "Malformed: R1.", always the peer's
abbrev pub malformed_step : View → Seen
malformed_step v = replied v false (broken R1)

-- ---- arrivals

-- "for an arrival 18, 19, 17"; "With an active row and a place in range it is counted"
unfoldable pub arrive_at : Place → Row → RowStep
arrive_at place r = let at = arrive_of r place in record { reply = answer at.number; row = now at.row }

-- 18, "no row has this alias"; what arrives is the publisher's
abbrev pub arrival_step : View → Arrival → Seen
arrival_step v a = by_key v (is_own v.standing.part Publisher) alias_of a.alias (answer 18) (arrive_at a.place)

unfoldable pub small_arrival : Arrival → Bool
small_arrival a = both (small a.alias) (small_place a.place)

-- ---- each call: the gate, then its step, and what it comes to is kept as a ledger

-- "A message is taken by a ledger, which hands back the next ledger and an answer."
unfoldable pub take_of : Ledger → Message → Came
take_of l m = gated l (sound_of m) (came_of (message_step (view_of l) m))

unfoldable pub malformed_of : Ledger → Came
malformed_of l = gated l true (came_of (malformed_step (view_of l)))

unfoldable pub arrival_of : Ledger → Arrival → Came
arrival_of l a = gated l (small_arrival a) (came_of (arrival_step (view_of l) a))
