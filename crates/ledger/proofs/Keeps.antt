-- What every call leaves is a ledger, where it was handed one; and a start that is done gives one. Assumes nothing.
use Rattle.std.specs.Prelude.{Option}
use Prim.Native.Nat.{ℕ, zero, suc, ◌-◌, ◌≤◌}
use mathlib.Core.Path.{◌≡◌, refl, ap, ◌∙◌}
use mathlib.Core.Bool.{Bool, true, false}
use mathlib.Core.List.{List, [], ◌∷◌}
use native.Mathlib.Omega.{arith}
use borrow.Author.Tests.{leb-false, ltb-false, eqb-true, leb-true}
use lib.Dec.{leb, ltb, eqb}
use lib.ListN.{length, drop, replicate, length-append, length-replicate, drop_of_length-le}
use lib.Seq.{take-append-le, drop-append-le, take_all}
use Rattle.common.specs.Lists.{up_to}
use Rattle.common.proofs.Cases.{pick-by}
use Rattle.common.specs.Choice.{both}
use Rattle.common.proofs.Tests.{both_first, both-second}
use Rattle.integer.specs.Integer.{greatest}
use Rattle.field.specs.declared.Place.{Place}
use Rattle.field.specs.declared.Arrival.{Arrival}
use Rattle.subscription.specs.declared.Subscribe.{Subscribe}
use Rattle.subscription.specs.declared.SubscriptionMessage.{SubscriptionMessage}
use Rattle.subscription.specs.declared.SubscriptionMessage.TheVariants.{SubscribeUpdate as ASubscribeUpdate, Subscribe as ASubscribe, SubscribeOk as ASubscribeOk, SubscribeError as ASubscribeError, Unsubscribe as AUnsubscribe, SubscribeDone as ASubscribeDone, MaxSubscribeId as AMaxSubscribeId, SubscribesBlocked as ASubscribesBlocked}
use Rattle.message_writer.specs.Sound.{sound_of}
use Rattle.message.specs.declared.Message.{Message}
use Rattle.message.specs.declared.Message.TheVariants.{Subscription, Fetch, Announce, Session}
use Rattle.row.specs.Places.{small, small_place}
use Rattle.row.specs.Ranges.{asked_of, is_known}
use Rattle.row.specs.Rows.{unused_row, may_end, is_unused, is_pending, is_nowhere}
use Rattle.row.specs.declared.Row.{Row}
use Rattle.row.specs.declared.Ending.{Ending}
use Rattle.row.specs.declared.Ending.TheVariants.{SubscribeError as Erring, SubscribeDone as Ended, Unsubscribe as Leaving}
use Rattle.row.proofs.Keeping.{after, after-id, after-alias, after_is, opened, opened-id, opened-alias, opened-is, pending-is, small_content}
use Rattle.ledger.specs.Ledgers.{most_rows, held, rising, has_alias, distinct, all_unused, bounded, is_ledger, empty_ledger}
use Rattle.ledger.specs.Answers.{Came, Verdict, no_rule, is_own, gate_of, gated}
use Rattle.ledger.specs.Keys.{Change, look, on_looked, turn}
use Rattle.ledger.specs.Views.{Standing, View, Seen, view_of, ledger_of, came_of, seen_of}
use Rattle.ledger.specs.Steps.{start_of, id_of, alias_of, new_row, Reply, answer, broken, standing_after, replied, RowStep, by_key, no_row, ok_at, end_at, arrive_at, subscribe_step, maximum_step, subscription_step, message_step, malformed_step, arrival_step, small_arrival, take_of, malformed_of, arrival_of}
use Rattle.ledger.specs.declared.Part.{Part}
use Rattle.ledger.specs.declared.Part.TheVariants.{Subscriber, Publisher}
use Rattle.ledger.specs.declared.Rule.TheVariants.{R1, R2, R3, R4, R7}
use Rattle.ledger.specs.declared.Ledger.{Ledger}
use Rattle.ledger.proofs.Facts.{Bounds, parts, whole}
use Rattle.ledger.proofs.Gates.{gate-passed}
use Rattle.ledger.proofs.Keyed.{Known, turn-short}
use Rattle.ledger.proofs.Rises.{StillRow, rising-turn, distinct-turn, rising-last, distinct-last}
use Rattle.ledger.proofs.Sounds.{Asks, sound-subscribe, sound-ok, sound-maximum}
use Rattle.ledger.proofs.Shapes.{shaped, used-is}

-- ---- the view of a ledger

-- what has to be so of a view, for the ledger that has it to be one
pub record Good (v : View) : Type 0 where
  pub within : Bounds v.standing.capacity (length v.rows) v.standing.maximum v.standing.next
  pub rises : rising 0 v.standing.next v.rows ≡ true
  pub apart : distinct v.rows ≡ true

pub good : (l : Ledger) → is_ledger l ≡ true → Good (view_of l)
good l w =
    let p = parts l w in
    let b = p.within in
    let used = used-is l (shaped l p) in
    record {
      within = record { some = b.some; few = b.few; room = omega (arith, b.room); least = b.least; most = b.most };
      rises = p.rises;
      apart = p.apart;
    }

all-unused : (n : ℕ) → all_unused (replicate n unused_row) ≡ true
unfolding all_unused is_unused is_pending is_known is_nowhere
all-unused zero = refl
all-unused (suc n) = all-unused n

module _ (v : View) (g : Good v) where
  abbrev others : List Row
  others = replicate (most_rows - length v.rows) unused_row

  few-rows : length v.rows ≤ most_rows
  few-rows = omega (arith, g.within.room, g.within.few)

  held-is : held (ledger_of v) ≡ v.rows
  unfolding held up_to
  held-is = take-append-le (length v.rows) v.rows others (omega arith) ∙ take_all (length v.rows) v.rows (omega arith)

  -- the ledger that has it is one,
  pub is-ledger : is_ledger (ledger_of v) ≡ true
  unfolding up_to
  is-ledger =
      whole (ledger_of v) (record {
        long = long;
        within = g.within;
        rises = rw held-is g.rises;
        apart = rw held-is g.apart;
        rest = rest;
      })
    where
      long : length (up_to most_rows unused_row v.rows) ≡ most_rows
      long =
          let all = length-replicate (most_rows - length v.rows) unused_row in
          length-append v.rows others ∙ omega (arith, few-rows)

      rest : all_unused (drop (length v.rows) (up_to most_rows unused_row v.rows)) ≡ true
      rest =
          rw (drop-append-le (length v.rows) v.rows others (omega arith), drop_of_length-le v.rows {i = length v.rows} (omega arith))
          (all-unused (most_rows - length v.rows))

  -- and it has this view
  pub view-is : view_of (ledger_of v) ≡ v
  view-is = λ i. record { standing = v.standing; rows = held-is i }

-- so what is kept is seen as it was
pub seen_as : (s : Seen) → Good s.next → seen_of (came_of s) ≡ s
seen_as s g = λ i. record { says = s.says; next = view-is s.next g i }

-- ---- each step

-- a rule broken closes the session, or changes nothing
good-after : (s : Standing) (rows : List Row) (own : Bool) (reply : Reply) → Good (record { standing = s; rows = rows }) → Good (record { standing = standing_after own reply s; rows = rows })
good-after s rows own (answer number) g = g
good-after s rows true (broken rule) g = g
good-after s rows false (broken rule) g = record { within = g.within; rises = g.rises; apart = g.apart }

module _ (v : View) (g : Good v) where
  -- the row that has a number turned, which keeps its ID and alias
  good-turned : (own : Bool) (key : Row → ℕ) (n : ℕ) (missing : Reply) (at : Row → RowStep) → ((r : Row) → StillRow r (at r).row) → ((r : Row) → Known alias_of r (at r).row) → Good (by_key v own key n missing at).next
  unfolding by_key
  good-turned own key n missing at still known =
      let f : Row → Change Row = λ r. (at r).row in
      let b = g.within in
      good-after v.standing (turn key n f v.rows) own (on_looked missing (λ r. (at r).reply) (look key n v.rows))
      (record {
        within = record { some = b.some; few = b.few; room = omega (arith, b.room, turn-short key n f v.rows); least = b.least; most = b.most };
        rises = rising-turn key n f still 0 v.standing.next v.rows g.rises;
        apart = distinct-turn key n f known v.rows g.apart;
      })

  good-replied : (own : Bool) (reply : Reply) → Good (replied v own reply).next
  good-replied own reply = good-after v.standing v.rows own reply g

  good-subscribe : (m : Subscribe) → Asks m → Good (subscribe_step v m).next
  unfolding subscribe_step small
  good-subscribe m s =
      let own = is_own v.standing.part Subscriber in
      let b = g.within in
      let P : Seen → Type 0 = λ x. Good x.next in
      pick-by P (ltb m.id v.standing.next) (λ _. good-replied own (broken R2)) (λ above.
      pick-by P (leb v.standing.maximum m.id) (λ _. good-replied own (broken R3)) (λ _.
      pick-by P (has_alias m.alias v.rows) (λ _. good-replied own (broken R4)) (λ fresh.
      pick-by P (leb v.standing.capacity (length v.rows)) (λ _. g) (λ room.
      let more = length-append v.rows (new_row m ∷ []) in
      let free = leb-false v.standing.capacity (length v.rows) room in
      record {
        within = record { some = b.some; few = b.few; room = omega arith; least = b.least; most = omega (arith, leb-true m.id greatest s.id) };
        rises = rising-last 0 v.standing.next v.rows (new_row m) g.rises (omega arith) (ltb-false m.id v.standing.next above) (pending-is m.id m.alias (asked_of m.filter) s.id s.alias s.range);
        apart = distinct-last v.rows (new_row m) g.apart fresh;
      }))))

  good-ok : (by : Part) (id : ℕ) (content : Option Place) → small_content content ≡ true → Good (by_key v (is_own v.standing.part by) id_of id (no_row v.standing id) (ok_at content)).next
  unfolding ok_at opened
  good-ok by id content s =
      good-turned (is_own v.standing.part by) id_of id (no_row v.standing id) (ok_at content)
      (λ r. (opened-id content r, opened-is content r s)) (opened-alias content)

  good-end : (by : Part) (id : ℕ) (ending : Ending) → Good (by_key v (is_own v.standing.part by) id_of id (no_row v.standing id) (end_at ending)).next
  unfolding end_at
  good-end by id ending =
      good-turned (is_own v.standing.part by) id_of id (no_row v.standing id) (end_at ending)
      (λ r. pick-by (λ (x : RowStep). StillRow r x.row) (may_end ending r.state) (λ _. tt) (λ _. (refl, λ is. is)))
      (λ r. pick-by (λ (x : RowStep). Known alias_of r x.row) (may_end ending r.state) (λ _. tt) (λ _. refl))

  good-maximum : (id : ℕ) → small id ≡ true → Good (maximum_step v id).next
  unfolding maximum_step
  good-maximum id s =
      let b = g.within in
      pick-by (λ (x : Seen). Good x.next) (leb id v.standing.maximum) (λ _. good-replied (is_own v.standing.part Publisher) (broken R7)) (λ _.
      record {
        within = record { some = b.some; few = b.few; room = b.room; least = s; most = b.most };
        rises = g.rises;
        apart = g.apart;
      })

  good-subscription : (m : SubscriptionMessage) → sound_of (Subscription m) ≡ true → Good (subscription_step v m).next
  good-subscription (ASubscribeUpdate m) s = g
  good-subscription (ASubscribe m) s = good-subscribe m (sound-subscribe m s)
  good-subscription (ASubscribeOk m) s = good-ok Publisher m.id m.largest (sound-ok m s)
  good-subscription (ASubscribeError m) s = good-end Publisher m.id Erring
  good-subscription (AUnsubscribe id) s = good-end Subscriber id Leaving
  good-subscription (ASubscribeDone m) s = good-end Publisher m.id Ended
  good-subscription (AMaxSubscribeId id) s = good-maximum id (sound-maximum id s)
  good-subscription (ASubscribesBlocked id) s = g

  pub good-message : (m : Message) → sound_of m ≡ true → Good (message_step v m).next
  good-message (Subscription m) s = good-subscription m s
  good-message (Fetch m) s = g
  good-message (Announce m) s = g
  good-message (Session m) s = g

  pub good-malformed : Good (malformed_step v).next
  good-malformed = good-replied false (broken R1)

  pub good-arrival : (a : Arrival) → small_arrival a ≡ true → Good (arrival_step v a).next
  unfolding small_arrival arrive_at after
  good-arrival a s =
      let fits = both-second (small a.alias) (small_place a.place) s in
      good-turned (is_own v.standing.part Publisher) alias_of a.alias (answer 18) (arrive_at a.place)
      (λ r. (after-id a.place r, λ is. after_is a.place r fits is)) (after-alias a.place)

-- ---- each call, also where it is refused

module _ (l : Ledger) (w : is_ledger l ≡ true) where
  keeps-gated : (sound : Bool) (s : Seen) → (sound ≡ true → Good s.next) → is_ledger (gated l sound (came_of s)).next ≡ true
  unfolding gated
  keeps-gated sound s f =
      pick-by (λ (c : Came). is_ledger c.next ≡ true) (eqb (gate_of l sound) 0)
      (λ e. is-ledger s.next (f (gate-passed l sound (eqb-true (gate_of l sound) 0 e)).1)) (λ _. w)

  -- a message leaves a ledger
  pub keeps-take : (m : Message) → is_ledger (take_of l m).next ≡ true
  unfolding take_of
  keeps-take m = keeps-gated (sound_of m) (message_step (view_of l) m) (good-message (view_of l) (good l w) m)

  -- bytes that are none leave a ledger
  pub keeps-malformed : is_ledger (malformed_of l).next ≡ true
  unfolding malformed_of
  keeps-malformed = keeps-gated true (malformed_step (view_of l)) (λ _. good-malformed (view_of l) (good l w))

  -- an arrival leaves a ledger
  pub keeps-arrival : (a : Arrival) → is_ledger (arrival_of l a).next ≡ true
  unfolding arrival_of
  keeps-arrival a = keeps-gated (small_arrival a) (arrival_step (view_of l) a) (good-arrival (view_of l) (good l w) a)

-- ---- a start

empty-is : (part : Part) (capacity maximum : ℕ) → 1 ≤ capacity → capacity ≤ most_rows → small maximum ≡ true → is_ledger (empty_ledger part capacity maximum) ≡ true
unfolding held rising distinct all_unused is_unused is_pending is_known is_nowhere
empty-is part capacity maximum some few s =
    whole _ (record {
      long = refl;
      within = record { some = some; few = few; room = omega arith; least = s; most = omega arith };
      rises = refl;
      apart = refl;
      rest = refl;
    })

-- a start that is done gives a ledger, and one that is refused gives none
pub starts : (part : Part) (capacity maximum : ℕ) → (start_of part capacity maximum).says ≡ no_rule 8 → is_ledger (start_of part capacity maximum).next ≡ true
unfolding start_of
starts part capacity maximum =
    let t = both (leb 1 capacity) (both (leb capacity most_rows) (small maximum)) in
    pick-by (λ (c : Came). c.says ≡ no_rule 8 → is_ledger c.next ≡ true) t
    (λ e _.
    let e₁ = both-second (leb 1 capacity) _ e in
    empty-is part capacity maximum (leb-true 1 capacity (both_first (leb 1 capacity) _ e)) (leb-true capacity most_rows (both_first (leb capacity most_rows) _ e₁)) (both-second (leb capacity most_rows) _ e₁))
    (λ _ e. absurd (let n : ◌≡◌ {A = ℕ} 15 8 = ap (λ (s : Verdict). s.number) e in omega arith))

pub no_start : (part : Part) (capacity maximum : ℕ) → (start_of part capacity maximum).says ≡ no_rule 15 → is_ledger (start_of part capacity maximum).next ≡ false
unfolding start_of is_ledger bounded
no_start part capacity maximum =
    let t = both (leb 1 capacity) (both (leb capacity most_rows) (small maximum)) in
    pick-by (λ (c : Came). c.says ≡ no_rule 15 → is_ledger c.next ≡ false) t
    (λ _ e. absurd (let n : ◌≡◌ {A = ℕ} 8 15 = ap (λ (s : Verdict). s.number) e in omega arith))
    (λ _ _. refl)
