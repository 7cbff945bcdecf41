-- The message that a type and fields say. Made of any fields that the layout of its type reads, it says them. Assumes nothing.
use Rattle.std.specs.Prelude.{Option, Some, None}
use Prim.Native.Nat.{ℕ}
use mathlib.Core.Path.{◌≡◌, refl}
use mathlib.Core.List.{List}
use borrow.Author.Tests.{eqb-true}
use lib.Dec.{eqb}
use Rattle.common.specs.Choice.{pick}
use Rattle.field.specs.declared.Place.{Place}
use Rattle.field.specs.declared.Piece.{Piece}
use Rattle.layout.proofs.Parts.{number_in, track_in, bytes_in, entries_in, place_in, failure_in}
use Rattle.layout.specs.Typed.{Typed}
use Rattle.layout.specs.Layout.{place, failure, parameters}
use Rattle.layout.proofs.Every.{Every}
use Rattle.types.specs.Table.{typed_as, max_subscribe_id_row, subscribe_row, subscribe_ok_row, subscribe_error_row, unsubscribe_row, subscribe_update_row, subscribe_done_row}
use Rattle.types.specs.Subscriptions.{subscribe_update, ending, filter, delivery, subscribe, content, subscribe_ok, subscribe_error, subscribe_done, id_only}
use Rattle.subscription.specs.declared.Filter.{Filter}
use Rattle.subscription.specs.declared.Filter.TheVariants.{Latest, From, Range}
use Rattle.subscription.specs.declared.Subscribe.{Subscribe}
use Rattle.subscription.specs.declared.SubscribeOk.{SubscribeOk}
use Rattle.subscription.specs.declared.SubscriptionMessage.{SubscriptionMessage}
use Rattle.subscription.specs.declared.SubscriptionMessage.TheVariants.{SubscribeUpdate as ASubscribeUpdate, Subscribe as ASubscribe, SubscribeOk as ASubscribeOk, SubscribeError as ASubscribeError, Unsubscribe as AUnsubscribe, SubscribeDone as ASubscribeDone, MaxSubscribeId as AMaxSubscribeId, SubscribesBlocked as ASubscribesBlocked}
use Rattle.types.specs.SubscriptionKinds.{type_row}
use Rattle.subscription.specs.Told.{typed_of}
use Rattle.types.specs.declared.kinds.SubscriptionKind.{SubscriptionKind}
use Rattle.types.specs.declared.kinds.SubscriptionKind.TheVariants as kinds

module _ (ps : List Piece) where
  -- of a filter, with its parameters at a place
  abbrev pub subscribe_by : Filter → ℕ → Subscribe
  subscribe_by f i = record { id = number_in ps 0; alias = number_in ps 1; track = track_in ps 2; priority = number_in ps 3; order = number_in ps 4; filter = f; parameters = entries_in ps i }

  -- by the filter type
  abbrev pub subscribe_in : Subscribe
  subscribe_in =
      pick (eqb (number_in ps 5) 2) (subscribe_by Latest 6)
      (pick (eqb (number_in ps 5) 3) (subscribe_by (From (place_in ps 6)) 8) (subscribe_by (Range (place_in ps 6) (number_in ps 8)) 9))

  abbrev pub ok_by : Option Place → ℕ → SubscribeOk
  ok_by held i = record { id = number_in ps 0; expires = number_in ps 1; order = number_in ps 2; largest = held; parameters = entries_in ps i }

  -- by whether content exists
  abbrev pub ok_in : SubscribeOk
  ok_in = pick (eqb (number_in ps 3) 0) (ok_by None 4) (ok_by (Some (place_in ps 4)) 6)

  -- by the number of its type
  abbrev pub message_in : ℕ → SubscriptionMessage
  message_in type =
      pick (eqb type subscribe_update_row.number) (ASubscribeUpdate (record { id = number_in ps 0; start = place_in ps 1; end_group = number_in ps 3; priority = number_in ps 4; parameters = entries_in ps 5 }))
      (pick (eqb type subscribe_row.number) (ASubscribe subscribe_in)
      (pick (eqb type subscribe_ok_row.number) (ASubscribeOk ok_in)
      (pick (eqb type subscribe_error_row.number) (ASubscribeError (record { id = number_in ps 0; failure = failure_in ps 1; alias = number_in ps 3 }))
      (pick (eqb type unsubscribe_row.number) (AUnsubscribe (number_in ps 0))
      (pick (eqb type subscribe_done_row.number) (ASubscribeDone (record { id = number_in ps 0; status = number_in ps 1; streams = number_in ps 2; reason = bytes_in ps 3 }))
      (pick (eqb type max_subscribe_id_row.number) (AMaxSubscribeId (number_in ps 0)) (ASubscribesBlocked (number_in ps 0))))))))

unfoldable pub message_of : Typed → SubscriptionMessage
message_of t = message_in t.pieces t.type

-- whatever fields the layout of a kind reads, the message that is made of them says them
pub made-says : (k : SubscriptionKind) → Every (type_row k).layout (λ ps. typed_of (message_of (typed_as (type_row k) ps)) ≡ typed_as (type_row k) ps)
unfolding type_row message_of place failure parameters subscribe_update ending filter delivery subscribe content subscribe_ok subscribe_error subscribe_done id_only
made-says kinds.SubscribeUpdate = λ id group object end_group priority ps. refl
made-says kinds.Subscribe =
    λ id alias track priority order. (
      (λ may type. (
        (λ latest ps. rw (eqb-true type 2 latest)),
        (λ n. (
          (λ from group object ps. rw (eqb-true type 3 from)),
          (λ n. ((λ range group object end_group. ((λ after ps. rw (eqb-true type 4 range)), (λ n. tt))), (λ n. tt))),
        )),
      )),
      (λ n. tt),
    )
made-says kinds.SubscribeOk =
    λ id expires order. (
      (λ may exists.
          ((λ none ps. rw (eqb-true exists 0 none)), (λ n. ((λ some group object ps. rw (eqb-true exists 1 some)), (λ n. tt))))),
      (λ n. tt),
    )
made-says kinds.SubscribeError = λ id code reason alias. refl
made-says kinds.Unsubscribe = λ id. refl
made-says kinds.SubscribeDone = λ id status streams reason. refl
made-says kinds.MaxSubscribeId = λ id. refl
made-says kinds.SubscribesBlocked = λ id. refl
