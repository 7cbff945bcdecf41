-- Each message as the number of its type and its fields, in the order of its layout; and what a reader answers.
use Rattle.std.specs.Prelude.{ℕ, List, [], ◌∷◌, ◌++◌, Result, Option, Some, None}
use Rattle.field.specs.declared.Place.{Place}
use Rattle.field.specs.Outcome.{Outcome}
use Rattle.field.specs.declared.Fault.{Fault}
use Rattle.field.specs.declared.Kind.TheVariants.{Parameters}
use Rattle.field.specs.declared.Piece.{Piece}
use Rattle.field.specs.declared.Piece.TheVariants.{Number, Byte, Bytes, List as Listing, Track as Tracked}
use Rattle.layout.specs.Typed.{Typed, told_typed}
use Rattle.types.specs.Table.{typed_as, max_subscribe_id_row, subscribes_blocked_row, subscribe_row, subscribe_ok_row, subscribe_error_row, unsubscribe_row, subscribe_update_row, subscribe_done_row}
use Rattle.subscription.specs.declared.Filter.{Filter}
use Rattle.subscription.specs.declared.Filter.TheVariants.{Latest, From, Range}
use Rattle.subscription.specs.declared.Subscribe.{Subscribe}
use Rattle.subscription.specs.declared.SubscribeOk.{SubscribeOk}
use Rattle.subscription.specs.declared.SubscribeError.{SubscribeError}
use Rattle.subscription.specs.declared.SubscribeUpdate.{SubscribeUpdate}
use Rattle.subscription.specs.declared.SubscribeDone.{SubscribeDone}
use Rattle.subscription.specs.declared.SubscriptionMessage.{SubscriptionMessage}
use Rattle.subscription.specs.declared.SubscriptionMessage.TheVariants.{SubscribeUpdate as ASubscribeUpdate, Subscribe as ASubscribe, SubscribeOk as ASubscribeOk, SubscribeError as ASubscribeError, Unsubscribe as AUnsubscribe, SubscribeDone as ASubscribeDone, MaxSubscribeId as AMaxSubscribeId, SubscribesBlocked as ASubscribesBlocked}

-- ---- SUBSCRIBE

abbrev pub filter_pieces : Filter → List Piece
filter_pieces Latest = Number 2 ∷ []
filter_pieces (From p) = Number 3 ∷ Number p.group ∷ Number p.object ∷ []
filter_pieces (Range p last) = Number 4 ∷ Number p.group ∷ Number p.object ∷ Number last ∷ []

abbrev pub subscribe_pieces : Subscribe → List Piece
subscribe_pieces m =
    Number m.id ∷ Number m.alias ∷ Tracked m.track ∷ Byte m.priority ∷ Byte m.order
    ∷ (filter_pieces m.filter ++ Listing Parameters m.parameters ∷ [])

-- ---- SUBSCRIBE_OK

abbrev pub content_pieces : Option Place → List Piece
content_pieces None = Byte 0 ∷ []
content_pieces (Some p) = Byte 1 ∷ Number p.group ∷ Number p.object ∷ []

abbrev pub ok_pieces : SubscribeOk → List Piece
ok_pieces m =
    Number m.id ∷ Number m.expires ∷ Byte m.order
    ∷ (content_pieces m.largest ++ Listing Parameters m.parameters ∷ [])

-- ---- the others

abbrev pub error_pieces : SubscribeError → List Piece
error_pieces m = Number m.id ∷ Number m.failure.code ∷ Bytes m.failure.reason ∷ Number m.alias ∷ []

abbrev pub update_pieces : SubscribeUpdate → List Piece
update_pieces m =
    Number m.id ∷ Number m.start.group ∷ Number m.start.object ∷ Number m.end_group ∷ Byte m.priority
    ∷ Listing Parameters m.parameters ∷ []

abbrev pub done_pieces : SubscribeDone → List Piece
done_pieces m = Number m.id ∷ Number m.status ∷ Number m.streams ∷ Bytes m.reason ∷ []

abbrev pub typed_of : SubscriptionMessage → Typed
typed_of (ASubscribeUpdate m) = typed_as subscribe_update_row (update_pieces m)
typed_of (ASubscribe m) = typed_as subscribe_row (subscribe_pieces m)
typed_of (ASubscribeOk m) = typed_as subscribe_ok_row (ok_pieces m)
typed_of (ASubscribeError m) = typed_as subscribe_error_row (error_pieces m)
typed_of (AUnsubscribe id) = typed_as unsubscribe_row (Number id ∷ [])
typed_of (ASubscribeDone m) = typed_as subscribe_done_row (done_pieces m)
typed_of (AMaxSubscribeId id) = typed_as max_subscribe_id_row (Number id ∷ [])
typed_of (ASubscribesBlocked id) = typed_as subscribes_blocked_row (Number id ∷ [])

abbrev pub told : Result (SubscriptionMessage × ℕ) Fault → Outcome Typed
told = told_typed typed_of
