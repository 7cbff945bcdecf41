-- Two events in either order, on any view: two arrivals; two messages that name different subscriptions, or of which the ledger
-- doesn't keep one, where the session is open after both. Assumes nothing.
use Rattle.std.specs.Prelude.{Option}
use Prim.Native.Nat.{ℕ}
use mathlib.Core.Path.{◌≡◌, refl, sym, ap, subst, ◌∙◌}
use mathlib.Core.Bool.{Bool, true, false}
use mathlib.Core.List.{List}
use mathlib.Core.Logic.{◌⊎◌, inl, inr}
use native.Mathlib.Omega.{arith}
use borrow.Author.Tests.{eqb-true, eqb-false}
use lib.Dec.{eqb}
use Rattle.common.specs.Choice.{pick}
use Rattle.common.proofs.Cases.{pick-by}
use Rattle.field.specs.declared.Place.{Place}
use Rattle.field.specs.declared.Arrival.{Arrival}
use Rattle.message.specs.declared.Message.{Message}
use Rattle.row.specs.Rows.{may_end}
use Rattle.row.specs.declared.Row.{Row}
use Rattle.row.specs.declared.Ending.{Ending}
use Rattle.row.specs.declared.Ending.TheVariants.{SubscribeError as Erring, SubscribeDone as Ended, Unsubscribe as Leaving}
use Rattle.row.proofs.Keeping.{after, after-alias, opened, opened-id}
use Rattle.ledger.specs.Answers.{no_rule, is_own}
use Rattle.ledger.specs.Ledgers.{is_open}
use Rattle.ledger.specs.Steps.{id_of, alias_of, Reply, answer, broken, verdict_by, standing_after, unchanged, RowStep, by_key, no_row, ok_at, end_at, by_id, arrive_at}
use Rattle.ledger.specs.declared.Part.{Part}
use Rattle.ledger.specs.declared.Part.TheVariants.{Subscriber, Publisher}
use Rattle.ledger.specs.Keys.{Looked, none, one, look, on_looked, Change, now, turn}
use Rattle.ledger.proofs.Keyed.{Known}
use Rattle.ledger.specs.Views.{Standing, View, Seen}
use Rattle.orders.specs.Events.{Event, message, arrival, is_sound}
use Rattle.orders.specs.Steps.{event_step, view_step}
use Rattle.orders.specs.Apart.{Names, ok, error, finished, left, updated, NotKept, blocked, fetch, announce, session, Apart, different, first-not-kept, second-not-kept, SeenInEitherOrder}
use Rattle.orders.proofs.Guards.{passed, forbidden, closed-stays, open-before}
use Rattle.orders.proofs.Turns.{look-other, turn-other, found-turned, turn_twice}
use Rattle.orders.proofs.CountedRows.{number-after, after-either}

-- ---- where one changes nothing

turned-about : {v : View} {e f : Event} → SeenInEitherOrder v e f → SeenInEitherOrder v f e
turned-about x = record { next = sym x.next; first = x.second; second = x.first }

module _ (v : View) (e f : Event) where
  -- in any view, and says the same after the other
  stays-either : ((w : View) → (view_step w e).next ≡ w) → (view_step (view_step v f).next e).says ≡ (view_step v e).says → SeenInEitherOrder v e f
  stays-either stays says =
      record {
        next = ap (λ (w : View). (view_step w f).next) (stays v) ∙ sym (stays (view_step v f).next);
        first = says;
        second = ap (λ (w : View). (view_step w f).says) (stays v);
      }

  forbidden-either : is_sound e ≡ false → SeenInEitherOrder v e f
  forbidden-either s =
      stays-either (λ w. ap (λ (c : Seen). c.next) (forbidden w e s))
      (ap (λ (c : Seen). c.says) (forbidden (view_step v f).next e s) ∙ sym (ap (λ (c : Seen). c.says) (forbidden v e s)))

  closed-either : is_open v.standing.session ≡ false → SeenInEitherOrder v e f
  closed-either o =
      let a = closed-stays v e o in
      let b = closed-stays v f o in
      record {
        next = ap (λ (w : View). (view_step w f).next) a ∙ b ∙ sym a ∙ ap (λ (w : View). (view_step w e).next) (sym b);
        first = ap (λ (w : View). (view_step w e).says) b;
        second = ap (λ (w : View). (view_step w f).says) a;
      }

-- so it is enough to look after the guards
guarded : (v : View) (e f : Event) → (is_sound e ≡ true → is_sound f ≡ true → is_open v.standing.session ≡ true → SeenInEitherOrder v e f) → SeenInEitherOrder v e f
guarded v e f behind = go (is_sound e) refl (is_sound f) refl (is_open v.standing.session) refl
  where
    go : (s : Bool) → is_sound e ≡ s → (t : Bool) → is_sound f ≡ t → (o : Bool) → is_open v.standing.session ≡ o → SeenInEitherOrder v e f
    go true s true t true o = behind s t o
    go true s true t false o = closed-either v e f o
    go true s false t o h = turned-about (forbidden-either v f e t)
    go false s t h o k = forbidden-either v e f s

-- ---- events that name a row

record ByKey (key : Row → ℕ) (e : Event) : Type 0 where
  number : ℕ
  own : Part → Bool
  missing : Standing → Reply
  at : Row → RowStep
  is : (v : View) → event_step v e ≡ by_key v (own v.standing.part) key number (missing v.standing) at

module _ {key : Row → ℕ} {e : Event} (x : ByKey key e) where
  abbrev reply_of : Standing → List Row → Reply
  reply_of s rows = on_looked (x.missing s) (λ r. (x.at r).reply) (look key x.number rows)

  abbrev closing_of : Standing → List Row → Standing
  closing_of s rows = standing_after (x.own s.part) (reply_of s rows) s

  abbrev row_of : Row → Change Row
  row_of r = (x.at r).row

  abbrev rows_of : List Row → List Row
  rows_of = turn key x.number row_of

  seen-is : (v : View) → is_sound e ≡ true → is_open v.standing.session ≡ true → view_step v e ≡ record { says = verdict_by (reply_of v.standing v.rows); next = record { standing = closing_of v.standing v.rows; rows = rows_of v.rows } }
  unfolding by_key
  seen-is v s o = passed v e s o ∙ x.is v

-- what the first does leaves the second's reply as it was
abbrev Unmoved : {key : Row → ℕ} {e f : Event} → ByKey key e → ByKey key f → Type 0
Unmoved x y = (s : Standing) (rows : List Row) → reply_of y s (rows_of x rows) ≡ reply_of y s rows

module _ (v : View) (o : is_open v.standing.session ≡ true) {key : Row → ℕ} {e f : Event} (x : ByKey key e) (y : ByKey key f) (s : is_sound e ≡ true) (t : is_sound f ≡ true) (unmoved : Unmoved x y) where
  abbrev st : Standing
  st = v.standing

  -- the first does not close the session
  module _ (goes : closing_of x st v.rows ≡ st) where
    first-leaves : (view_step v e).next ≡ record { standing = st; rows = rows_of x v.rows }
    first-leaves =
        ap (λ (c : Seen). c.next) (seen-is x v s o) ∙ ap (λ (k : Standing). record { standing = k; rows = rows_of x v.rows }) goes

    second-seen : view_step (view_step v e).next f ≡ record { says = verdict_by (reply_of y st v.rows); next = record { standing = closing_of y st v.rows; rows = rows_of y (rows_of x v.rows) } }
    second-seen =
        ap (λ (w : View). view_step w f) first-leaves
        ∙ seen-is y (record { standing = st; rows = rows_of x v.rows }) t o
        ∙ ap (λ (reply : Reply). record { says = verdict_by reply; next = record { standing = standing_after (y.own st.part) reply st; rows = rows_of y (rows_of x v.rows) } }) (unmoved st v.rows)

    second-says : (view_step (view_step v e).next f).says ≡ (view_step v f).says
    second-says =
        ap (λ (c : Seen). c.says) second-seen ∙ sym (ap (λ (c : Seen). c.says) (seen-is y v t o))

module _ (v : View) (o : is_open v.standing.session ≡ true) {key : Row → ℕ} {e f : Event} (x : ByKey key e) (y : ByKey key f) (s : is_sound e ≡ true) (t : is_sound f ≡ true) (unmoved : Unmoved x y) (unmoved' : Unmoved y x) (turns : (rows : List Row) → rows_of y (rows_of x rows) ≡ rows_of x (rows_of y rows)) where
  -- nor does the second
  goes-either : closing_of x v.standing v.rows ≡ v.standing → closing_of y v.standing v.rows ≡ v.standing → SeenInEitherOrder v e f
  goes-either goes goes' =
      record {
        next =
            ap (λ (c : Seen). c.next) (second-seen v o x y s t unmoved goes)
            ∙ (λ i. record { standing = (goes' ∙ sym goes) i; rows = turns v.rows i })
            ∙ sym (ap (λ (c : Seen). c.next) (second-seen v o y x t s unmoved' goes'));
        first = second-says v o y x t s unmoved' goes';
        second = second-says v o x y s t unmoved goes;
      }

-- ---- two arrivals

arrives : (a : Arrival) → ByKey alias_of (arrival a)
arrives a =
    record {
      number = a.alias;
      own = λ part. is_own part Publisher;
      missing = λ _. answer 18;
      at = arrive_at a.place;
      is = λ _. refl;
    }

-- by one alias or by two
by-alias : (m n : ℕ) (P : ℕ → Type 0) → P m → ((m ≡ n → ⊥) → P n) → P n
by-alias m n P same other = go (eqb m n) refl
  where
    go : (b : Bool) → eqb m n ≡ b → P n
    go true e = subst P (eqb-true m n e) same
    go false e = other (eqb-false m n e)

module _ (a b : Arrival) where
  arrival-unmoved : Unmoved (arrives a) (arrives b)
  unfolding arrives arrive_at after
  arrival-unmoved s rows =
      by-alias a.alias b.alias
      (λ n. on_looked (answer 18) (λ r. (arrive_at b.place r).reply) (look alias_of n (turn alias_of a.alias (λ r. now (after a.place r)) rows)) ≡ on_looked (answer 18) (λ r. (arrive_at b.place r).reply) (look alias_of n rows))
      (found-turned alias_of a.alias (after a.place) (after-alias a.place) (answer 18) (λ r. (arrive_at b.place r).reply) (λ r. ap answer (number-after a.place b.place r)) rows)
      (λ other. ap (on_looked (answer 18) (λ r. (arrive_at b.place r).reply)) (look-other alias_of b.alias a.alias (λ e. other (sym e)) (λ r. now (after a.place r)) (after-alias a.place) rows))

  arrival-turns : (rows : List Row) → rows_of (arrives b) (rows_of (arrives a) rows) ≡ rows_of (arrives a) (rows_of (arrives b) rows)
  unfolding arrives arrive_at after
  arrival-turns rows =
      by-alias a.alias b.alias
      (λ n. turn alias_of n (λ r. now (after b.place r)) (turn alias_of a.alias (λ r. now (after a.place r)) rows) ≡ turn alias_of a.alias (λ r. now (after a.place r)) (turn alias_of n (λ r. now (after b.place r)) rows))
      (turn_twice alias_of a.alias (after a.place) (after-alias a.place) (after b.place) (after-alias b.place) (after-either a.place b.place) rows)
      (λ other. turn-other alias_of b.alias a.alias (λ e. other (sym e)) (λ r. now (after a.place r)) (after-alias a.place) (λ r. now (after b.place r)) (after-alias b.place) rows)

-- an arrival breaks no rule
arrival-goes : (a : Arrival) (s : Standing) (rows : List Row) → closing_of (arrives a) s rows ≡ s
unfolding arrives arrive_at
arrival-goes a s rows = go (look alias_of a.alias rows)
  where
    go : (looked : Looked Row) → standing_after (is_own s.part Publisher) (on_looked (answer 18) (λ r. (arrive_at a.place r).reply) looked) s ≡ s
    go none = refl
    go (one r) = refl

-- Two arrivals may change places, in any view.
pub arrivals-either : (v : View) (a b : Arrival) → SeenInEitherOrder v (arrival a) (arrival b)
arrivals-either v a b =
    guarded v (arrival a) (arrival b) (λ s t o.
    goes-either v o (arrives a) (arrives b) s t (arrival-unmoved a b) (arrival-unmoved b a) (arrival-turns a b)
    (arrival-goes a v.standing v.rows) (arrival-goes b v.standing v.rows))

-- ---- two messages

-- a message that the ledger doesn't keep leaves every view as it is
not-kept : {m : Message} → NotKept m → (v : View) → event_step v (message m) ≡ unchanged v 9
not-kept updated v = refl
not-kept blocked v = refl
not-kept fetch v = refl
not-kept announce v = refl
not-kept session v = refl

module _ {m : Message} (x : NotKept m) where
  nine-stays : (v : View) → (view_step v (message m)).next ≡ v
  unfolding view_step
  nine-stays v =
      pick-by (λ (c : Seen). c.next ≡ v) (is_sound (message m))
      (λ _. pick-by (λ (c : Seen). c.next ≡ v) (is_open v.standing.session) (λ _. ap (λ (c : Seen). c.next) (not-kept x v)) (λ _. refl))
      (λ _. refl)

  nine-says : (v : View) → is_open v.standing.session ≡ true → (view_step v (message m)).says ≡ no_rule (pick (is_sound (message m)) 9 5)
  unfolding view_step
  nine-says v o =
      rw o
      (pick-by (λ (c : Seen). c.says ≡ no_rule (pick (is_sound (message m)) 9 5)) (is_sound (message m))
      (λ s. ap (λ (c : Seen). c.says) (not-kept x v) ∙ rw s) (λ s. rw s))

  -- so it may change places with any event after which the session is open
  nine-either : (v : View) (f : Event) → is_open (view_step v f).next.standing.session ≡ true → SeenInEitherOrder v (message m) f
  nine-either v f o =
      stays-either v (message m) f nine-stays (nine-says (view_step v f).next o ∙ sym (nine-says v (open-before v f o)))

-- one that names a subscription turns the row of its ID, which keeps it
record ById (m : Message) (id : ℕ) : Type 0 where
  acts : ByKey id_of (message m)
  its : acts.number ≡ id
  knows : (r : Row) → Known id_of r (acts.at r).row

ok-knows : (content : Option Place) (r : Row) → Known id_of r (ok_at content r).row
unfolding ok_at opened
ok-knows content r = opened-id content r

end-knows : (ending : Ending) (r : Row) → Known id_of r (end_at ending r).row
unfolding end_at
end-knows ending r =
    pick-by (λ (x : RowStep). Known id_of r x.row) (may_end ending r.state) (λ _. tt) (λ _. refl)

names-id : (m : Message) (by : Part) (id : ℕ) (at : Row → RowStep) → ((v : View) → event_step v (message m) ≡ by_id v by id at) → ((r : Row) → Known id_of r (at r).row) → ById m id
names-id m by id at is knows =
    record {
      acts = record { number = id; own = λ part. is_own part by; missing = λ s. no_row s id; at = at; is = is };
      its = refl;
      knows = knows;
    }

by-id : {m : Message} {id : ℕ} → Names m id → NotKept m ⊎ ById m id
by-id (ok {m}) = inr (names-id _ Publisher m.id (ok_at m.largest) (λ _. refl) (ok-knows m.largest))
by-id (error {m}) = inr (names-id _ Publisher m.id (end_at Erring) (λ _. refl) (end-knows Erring))
by-id (finished {m}) = inr (names-id _ Publisher m.id (end_at Ended) (λ _. refl) (end-knows Ended))
by-id (left {id}) = inr (names-id _ Subscriber id (end_at Leaving) (λ _. refl) (end-knows Leaving))
by-id updated = inl updated

-- a session that is still open was not closed
open-goes : (own : Bool) (reply : Reply) (s : Standing) → is_open (standing_after own reply s).session ≡ true → standing_after own reply s ≡ s
open-goes own (answer number) s o = refl
open-goes true (broken rule) s o = refl
open-goes false (broken rule) s o = absurd (let z : ◌≡◌ {A = ℕ} 0 1 = cc in omega arith)

-- of two that name different subscriptions
id-unmoved : {m n : Message} {i j : ℕ} (x : ById m i) (y : ById n j) → (y.acts.number ≡ x.acts.number → ⊥) → Unmoved x.acts y.acts
id-unmoved x y differ s rows =
    ap (on_looked (y.acts.missing s) (λ r. (y.acts.at r).reply)) (look-other id_of y.acts.number x.acts.number differ (row_of x.acts) x.knows rows)

module _ (v : View) {m n : Message} {i j : ℕ} (x : ById m i) (y : ById n j) (other : i ≡ j → ⊥) (opened : is_open (view_step (view_step v (message m)).next (message n)).next.standing.session ≡ true) where
  differ : y.acts.number ≡ x.acts.number → ⊥
  differ e = other (sym x.its ∙ sym e ∙ y.its)

  module _ (s : is_sound (message m) ≡ true) (t : is_sound (message n) ≡ true) (o : is_open v.standing.session ≡ true) where
    first_goes : closing_of x.acts v.standing v.rows ≡ v.standing
    first_goes =
        open-goes _ (reply_of x.acts v.standing v.rows) v.standing
        (subst (λ (c : Seen). is_open c.next.standing.session ≡ true) (seen-is x.acts v s o) (open-before (view_step v (message m)).next (message n) opened))

    second-goes : closing_of y.acts v.standing v.rows ≡ v.standing
    second-goes =
        open-goes _ (reply_of y.acts v.standing v.rows) v.standing
        (subst (λ (c : Seen). is_open c.next.standing.session ≡ true) (second-seen v o x.acts y.acts s t (id-unmoved x y differ) first_goes) opened)

    ids-go : SeenInEitherOrder v (message m) (message n)
    ids-go =
        goes-either v o x.acts y.acts s t (id-unmoved x y differ) (id-unmoved y x (λ e. differ (sym e)))
        (turn-other id_of y.acts.number x.acts.number differ (row_of x.acts) x.knows (row_of y.acts) y.knows)
        first_goes second-goes

  ids-either : SeenInEitherOrder v (message m) (message n)
  ids-either = guarded v (message m) (message n) ids-go

-- ---- two messages that may change places

module _ (v : View) {m n : Message} where
  first-idle : NotKept m → is_open (view_step (view_step v (message m)).next (message n)).next.standing.session ≡ true → SeenInEitherOrder v (message m) (message n)
  first-idle x opened =
      nine-either x v (message n) (subst (λ (w : View). is_open (view_step w (message n)).next.standing.session ≡ true) (nine-stays x v) opened)

  second-idle : NotKept n → is_open (view_step (view_step v (message m)).next (message n)).next.standing.session ≡ true → SeenInEitherOrder v (message m) (message n)
  second-idle y opened =
      turned-about (nine-either y v (message m) (subst (λ (w : View). is_open w.standing.session ≡ true) (nine-stays y (view_step v (message m)).next) opened))

-- Two messages that are apart may change places, in any view, where the session is open after both.
pub messages-either : (v : View) {m n : Message} → Apart m n → is_open (view_step (view_step v (message m)).next (message n)).next.standing.session ≡ true → SeenInEitherOrder v (message m) (message n)
messages-either v (first-not-kept x) opened = first-idle v x opened
messages-either v (second-not-kept y) opened = second-idle v y opened
messages-either v {m} {n} (different {i = i} {j = j} x y other) opened = go (by-id x) (by-id y)
  where
    go : NotKept m ⊎ ById m i → NotKept n ⊎ ById n j → SeenInEitherOrder v (message m) (message n)
    go (inl a) b = first-idle v a opened
    go (inr a) (inl b) = second-idle v b opened
    go (inr a) (inr b) = ids-either v a b other opened
