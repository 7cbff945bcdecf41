-- Each way that a call may go in the code, as what its step comes to. Assumes nothing.
use Rattle.std.specs.Prelude.{Option, Some, None, Result, Ok, Err}
use Rattle.std.specs.Option.{is_some}
use Prim.Native.Nat.{ℕ, ◌≤◌, ◌<◌}
use mathlib.Core.Path.{◌≡◌, refl, sym, ap, ◌∙◌}
use mathlib.Core.Bool.{Bool, true, false}
use mathlib.Core.List.{[], ◌∷◌, ◌++◌}
use native.Mathlib.Omega.{arith}
use borrow.Author.Tests.{lt-ltb, le-ltb, le-leb, lt-leb}
use lib.Dec.{eqb}
use Rattle.common.specs.Choice.{pick}
use Rattle.field.specs.declared.Place.{Place}
use Rattle.field.specs.declared.Arrival.{Arrival}
use Rattle.subscription.specs.declared.Subscribe.{Subscribe}
use Rattle.subscription.specs.declared.SubscribeOk.{SubscribeOk}
use Rattle.subscription.specs.declared.SubscribeError.{SubscribeError}
use Rattle.subscription.specs.declared.SubscribeDone.{SubscribeDone}
use Rattle.subscription.specs.declared.SubscriptionMessage.{SubscriptionMessage}
use Rattle.subscription.specs.declared.SubscriptionMessage.TheVariants.{SubscribeUpdate as ASubscribeUpdate, Subscribe as ASubscribe, SubscribeOk as ASubscribeOk, SubscribeError as ASubscribeError, Unsubscribe as AUnsubscribe, SubscribeDone as ASubscribeDone, MaxSubscribeId as AMaxSubscribeId, SubscribesBlocked as ASubscribesBlocked}
use Rattle.message.specs.declared.Message.{Message}
use Rattle.message.specs.declared.Message.TheVariants.{Subscription, Fetch, Announce, Session}
use Rattle.row.specs.Ranges.{asked_of}
use Rattle.row.specs.Rows.{pending_row, AtRow, arrive_of, open_of, may_end, told_arriving, told_opening}
use Rattle.row.specs.declared.Range.{Range}
use Rattle.row.specs.declared.Row.{Row}
use Rattle.row.specs.declared.NotCounted.{NotCounted}
use Rattle.row.specs.declared.NotCounted.TheVariants.{Waiting, Outside}
use Rattle.row.specs.declared.Ending.{Ending}
use Rattle.ledger.specs.Ledgers.{held, has_alias, is_ledger}
use Rattle.ledger.specs.Answers.{Came, rule_number, no_rule, same, done, is_own}
use Rattle.ledger.specs.Keys.{gone, now}
use Rattle.ledger.specs.Views.{View, standing_of, view_of, came_of}
use Rattle.ledger.specs.Steps.{id_of, alias_of, new_row, answer, broken, RowStep, replied, unchanged, with_highest, no_row, breaks_r6, ok_at, end_at, arrive_at, by_id, subscribe_step, maximum_step, arrival_step, subscription_step, message_step}
use Rattle.ledger.specs.Arrays.{find, row_at, changed, added, freed}
use Rattle.ledger.specs.declared.Part.{Part}
use Rattle.ledger.specs.declared.Part.TheVariants.{Subscriber, Publisher}
use Rattle.ledger.specs.declared.Rule.{Rule}
use Rattle.ledger.specs.declared.Rule.TheVariants.{R2, R3, R4, R6, R7}
use Rattle.ledger.specs.declared.Session.TheVariants.{Closed}
use Rattle.ledger.specs.declared.Ledger.{Ledger}
use Rattle.ledger.proofs.Facts.{parts}
use Rattle.ledger.proofs.Finds.{has-found, found_none, found_first}
use Rattle.ledger.proofs.HeldRows.{same_row}
use Rattle.ledger.proofs.Shapes.{Shaped, shaped, used-is, same_kept, kept-as}
use Rattle.ledger.proofs.InPlaces.{none_kept, same-kept-at, changed-kept, freed-kept, added-kept}

-- as the code makes them: a ledger that is closed, and one with another maximum
abbrev closed_by : Ledger → Rule → Ledger
closed_by l rule = record {
  rows = l.rows;
  part = l.part;
  session = Closed rule;
  capacity = l.capacity;
  maximum = l.maximum;
  next = l.next;
  used = l.used;
}

abbrev raised_to : Ledger → ℕ → Ledger
raised_to l maximum = record {
  rows = l.rows;
  part = l.part;
  session = l.session;
  capacity = l.capacity;
  maximum = maximum;
  next = l.next;
  used = l.used;
}

module _ (l : Ledger) (w : is_ledger l ≡ true) where
  shape : Shaped l.rows l.used
  shape = shaped l (parts l w)

  -- an answer that leaves the ledger as it was
  pub stays : (number : ℕ) → same l number ≡ came_of (unchanged (view_of l) number)
  stays = same_kept l shape

  -- a rule that is broken: by this end, and by the peer
  pub own-breaks : (rule : Rule) → record { says = record { number = 13; rule = rule_number rule }; next = l } ≡ came_of (replied (view_of l) true (broken rule))
  own-breaks rule = kept-as (record { says = record { number = 13; rule = rule_number rule }; next = l }) shape refl

  pub peer-breaks : (rule : Rule) → record { says = record { number = 13; rule = rule_number rule }; next = closed_by l rule } ≡ came_of (replied (view_of l) false (broken rule))
  unfolding held
  peer-breaks rule = kept-as (record { says = record { number = 13; rule = rule_number rule }; next = closed_by l rule }) shape refl

  -- ---- MAX_SUBSCRIBE_ID

  module _ (id : ℕ) where
    pub not-larger : {came : Came} → id ≤ l.maximum → came ≡ came_of (replied (view_of l) (is_own l.part Publisher) (broken R7)) → came ≡ came_of (maximum_step (view_of l) id)
    unfolding maximum_step
    not-larger h e = e ∙ rw (le-leb _ _ h)

    pub raised : l.maximum < id → done (raised_to l id) ≡ came_of (maximum_step (view_of l) id)
    unfolding maximum_step held
    raised h = kept-as (done (raised_to l id)) shape refl ∙ rw (lt-leb _ _ h)

  -- ---- an arrival

  module _ (a : Arrival) {f : Option ℕ} (found : f ≡ find alias_of a.alias 0 (held l)) where
    pub no-alias : f ≡ None → same l 18 ≡ came_of (arrival_step (view_of l) a)
    no-alias e =
        stays 18 ∙ none_kept l shape alias_of a.alias _ (answer 18) (arrive_at a.place) (found_none alias_of a.alias l found e)

    module _ {i : ℕ} (at : f ≡ Some i) where
      abbrev at_row : AtRow → Came
      at_row x = record { says = no_rule x.number; next = changed l i x.row }

      -- the step at the row
      pub by_row : at_row (arrive_of (row_at l i) a.place) ≡ came_of (arrival_step (view_of l) a)
      unfolding arrive_at
      by_row =
          changed-kept l shape alias_of a.alias _ (answer 18) (arrive_at a.place) (found_first alias_of a.alias l found at) refl

      module _ {v : Result Row NotCounted} (came : told_arriving v (row_at l i) ≡ arrive_of (row_at l i) a.place) where
        pub answered : {u : Result Row NotCounted} → v ≡ u → at_row (told_arriving u (row_at l i)) ≡ came_of (arrival_step (view_of l) a)
        answered e = ap (λ (u : Result Row NotCounted). at_row (told_arriving u (row_at l i))) (sym e) ∙ ap at_row came ∙ by_row

        pub waiting : v ≡ Err Waiting → same l 19 ≡ came_of (arrival_step (view_of l) a)
        waiting e = ap (λ (k : Ledger). same k 19) (same_row l i) ∙ answered e

        pub outside : v ≡ Err Outside → same l 17 ≡ came_of (arrival_step (view_of l) a)
        outside e = ap (λ (k : Ledger). same k 17) (same_row l i) ∙ answered e

        pub counted : {r : Row} {next : Ledger} → v ≡ Ok r → next ≡ changed l i r → record { says = no_rule 16; next = next } ≡ came_of (arrival_step (view_of l) a)
        counted {r} e n = rw n (answered e)

  -- ---- a message that names an ID

  module _ (by : Part) (id : ℕ) (at : Row → RowStep) {f : Option ℕ} (found : f ≡ find id_of id 0 (held l)) where
    pub nowhere : {came : Came} → f ≡ None → came ≡ came_of (replied (view_of l) (is_own l.part by) (no_row (standing_of l) id)) → came ≡ came_of (by_id (view_of l) by id at)
    nowhere e h = h ∙ none_kept l shape id_of id _ (no_row (standing_of l) id) at (found_none id_of id l found e)

    module _ {i : ℕ} (here : f ≡ Some i) where
      -- R6
      refused : {came : Came} → at (row_at l i) ≡ breaks_r6 (row_at l i) → came ≡ came_of (replied (view_of l) (is_own l.part by) (broken R6)) → came ≡ came_of (by_id (view_of l) by id at)
      refused e h =
          h
          ∙ same-kept-at l shape id_of id _ (no_row (standing_of l) id) at (found_first id_of id l found here) e

      changes : {r : Row} {next : Ledger} → at (row_at l i) ≡ record { reply = answer 8; row = now r } → next ≡ changed l i r → done next ≡ came_of (by_id (view_of l) by id at)
      changes e n = rw n (changed-kept l shape id_of id _ (no_row (standing_of l) id) at (found_first id_of id l found here) e)

      frees : {next : Ledger} → at (row_at l i) ≡ record { reply = answer 8; row = gone } → next ≡ freed l i → done next ≡ came_of (by_id (view_of l) by id at)
      frees e n = rw n (freed-kept l shape id_of id _ (no_row (standing_of l) id) at (found_first id_of id l found here) e)

  -- ---- SUBSCRIBE_OK

  module _ (id : ℕ) (content : Option Place) {f : Option ℕ} (found : f ≡ find id_of id 0 (held l)) {i : ℕ} (here : f ≡ Some i) {o : Option Row} (opening : told_opening o (row_at l i) ≡ open_of (row_at l i) content) where
    opens_as : {v : Option Row} → o ≡ v → ok_at content (row_at l i) ≡ (let at = told_opening v (row_at l i) in record { reply = pick (eqb at.number 8) (answer 8) (broken R6); row = now at.row })
    unfolding ok_at
    opens_as e =
        ap (λ (at : AtRow). record { reply = pick (eqb at.number 8) (answer 8) (broken R6); row = now at.row })
        (sym opening ∙ ap (λ (v : Option Row). told_opening v (row_at l i)) e)

    pub ok-refused : {came : Came} → o ≡ None → came ≡ came_of (replied (view_of l) (is_own l.part Publisher) (broken R6)) → came ≡ came_of (by_id (view_of l) Publisher id (ok_at content))
    ok-refused e = refused Publisher id (ok_at content) found here (opens_as e)

    pub ok-opened : {r : Row} {next : Ledger} → o ≡ Some r → next ≡ changed l i r → done next ≡ came_of (by_id (view_of l) Publisher id (ok_at content))
    ok-opened e = changes Publisher id (ok_at content) found here (opens_as e)

  -- ---- what ends a subscription

  module _ (ending : Ending) (id : ℕ) {f : Option ℕ} (found : f ≡ find id_of id 0 (held l)) (by : Part) {i : ℕ} {b : Bool} (here : f ≡ Some i) (may : b ≡ may_end ending (row_at l i).state) where
    ends_as : {t : Bool} → b ≡ t → end_at ending (row_at l i) ≡ pick t (record { reply = answer 8; row = gone }) (breaks_r6 (row_at l i))
    unfolding end_at
    ends_as e =
        ap (λ (t : Bool). pick {A = RowStep} t (record { reply = answer 8; row = gone }) (breaks_r6 (row_at l i))) (sym may ∙ e)

    pub end-freed : {next : Ledger} → b ≡ true → next ≡ freed l i → done next ≡ came_of (by_id (view_of l) by id (end_at ending))
    end-freed e = frees by id (end_at ending) found here (ends_as e)

    pub end_refused : {came : Came} → b ≡ false → came ≡ came_of (replied (view_of l) (is_own l.part by) (broken R6)) → came ≡ came_of (by_id (view_of l) by id (end_at ending))
    end_refused e = refused by id (end_at ending) found here (ends_as e)

  -- ---- SUBSCRIBE

  module _ (m : Subscribe) where
    pub not-higher : {came : Came} → m.id < l.next → came ≡ came_of (replied (view_of l) (is_own l.part Subscriber) (broken R2)) → came ≡ came_of (subscribe_step (view_of l) m)
    unfolding subscribe_step
    not-higher h e = e ∙ rw (lt-ltb _ _ h)

    module _ (above : l.next ≤ m.id) where
      pub not_lower : {came : Came} → l.maximum ≤ m.id → came ≡ came_of (replied (view_of l) (is_own l.part Subscriber) (broken R3)) → came ≡ came_of (subscribe_step (view_of l) m)
      unfolding subscribe_step
      not_lower h e = e ∙ rw (le-ltb _ _ above, le-leb _ _ h)

      module _ (below : m.id < l.maximum) {f : Option ℕ} (found : f ≡ find alias_of m.alias 0 (held l)) where
        has : has_alias m.alias (held l) ≡ is_some f
        has = has-found m.alias 0 (held l) ∙ ap is_some (sym found)

        pub alias-held : {came : Came} → is_some f ≡ true → came ≡ came_of (replied (view_of l) (is_own l.part Subscriber) (broken R4)) → came ≡ came_of (subscribe_step (view_of l) m)
        unfolding subscribe_step
        alias-held at e = e ∙ rw (le-ltb _ _ above, lt-leb _ _ below, has, at)

        module _ (missing : is_some f ≡ false) where
          full : l.capacity ≤ l.used → subscribe_step (view_of l) m ≡ unchanged (view_of l) 11
          unfolding subscribe_step
          full h = rw (le-ltb _ _ above, lt-leb _ _ below, has, missing, used-is l shape, le-leb _ _ h)

          pub is-full : l.capacity ≤ l.used → same l 11 ≡ came_of (subscribe_step (view_of l) m)
          is-full h = stays 11 ∙ ap came_of (sym (full h))

          taken : l.used < l.capacity → subscribe_step (view_of l) m ≡ record { says = no_rule 8; next = record { standing = with_highest (standing_of l) m.id; rows = held l ++ (new_row m ∷ []) } }
          unfolding subscribe_step
          taken h = rw (le-ltb _ _ above, lt-leb _ _ below, has, missing, used-is l shape, lt-leb _ _ h)

          pub is-added : {range : Range} {row : Row} {next : Ledger} → l.used < l.capacity → range ≡ asked_of m.filter → row ≡ pending_row m.id m.alias range → next ≡ added l row → done next ≡ came_of (subscribe_step (view_of l) m)
          is-added {row = row} h a r n =
              let new : row ≡ new_row m = r ∙ ap (pending_row m.id m.alias) a in
              let room = (parts l w).within.few in
              ap done (n ∙ ap (added l) new)
              ∙ added-kept l shape (new_row m) (omega (arith, room))
              ∙ ap came_of (sym (taken h))

-- ---- any message, by its kind

pub of_part : (l : Ledger) {m v : Message} {came : Came} → came ≡ came_of (message_step (view_of l) v) → m ≡ v → came ≡ came_of (message_step (view_of l) m)
of_part l h e = h ∙ ap (λ x. came_of (message_step (view_of l) x)) (sym e)

pub of-kind : (l : Ledger) {m v : SubscriptionMessage} {came : Came} → came ≡ came_of (subscription_step (view_of l) v) → m ≡ v → came ≡ came_of (subscription_step (view_of l) m)
of-kind l h e = h ∙ ap (λ x. came_of (subscription_step (view_of l) x)) (sym e)

-- all others aren't kept; each is told by what it is not
pub other-part : (v : View) (m : Message) → ((x : SubscriptionMessage) → m ≡ Subscription x → ⊥) → unchanged v 9 ≡ message_step v m
other-part v (Subscription x) h = absurd (h x refl)
other-part v (Fetch x) h = refl
other-part v (Announce x) h = refl
other-part v (Session x) h = refl

-- what is none of the kinds that are kept
pub record Unkept (m : SubscriptionMessage) : Type 0 where
  pub asks : (x : Subscribe) → m ≡ ASubscribe x → ⊥
  pub accepts : (x : SubscribeOk) → m ≡ ASubscribeOk x → ⊥
  pub errs : (x : SubscribeError) → m ≡ ASubscribeError x → ⊥
  pub leaves : (x : ℕ) → m ≡ AUnsubscribe x → ⊥
  pub ends : (x : SubscribeDone) → m ≡ ASubscribeDone x → ⊥
  pub raises : (x : ℕ) → m ≡ AMaxSubscribeId x → ⊥

pub other-kind : (v : View) (m : SubscriptionMessage) → Unkept m → unchanged v 9 ≡ subscription_step v m
other-kind v (ASubscribeUpdate x) h = refl
other-kind v (ASubscribe x) h = absurd (h.asks x refl)
other-kind v (ASubscribeOk x) h = absurd (h.accepts x refl)
other-kind v (ASubscribeError x) h = absurd (h.errs x refl)
other-kind v (AUnsubscribe x) h = absurd (h.leaves x refl)
other-kind v (ASubscribeDone x) h = absurd (h.ends x refl)
other-kind v (AMaxSubscribeId x) h = absurd (h.raises x refl)
other-kind v (ASubscribesBlocked x) h = refl
