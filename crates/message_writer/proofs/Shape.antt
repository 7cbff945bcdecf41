-- A message has the shape that its layout asks for exactly where it holds no forbidden value: so where its fields are good, its
-- layout then permits it. Assumes nothing.
use Rattle.std.specs.Prelude.{Option, Some, None}
use Prim.Native.Nat.{ℕ}
use mathlib.Core.Path.{◌≡◌, refl, ◌∙◌}
use mathlib.Core.Bool.{true}
use mathlib.Core.List.{List, [], ◌∷◌, ◌++◌, map}
use Rattle.field.specs.declared.Place.{Place}
use Rattle.field.specs.Value.{mean}
use Rattle.field.specs.declared.Entries.{Entries}
use Rattle.field.specs.declared.Kind.TheVariants.{Parameters}
use Rattle.field.specs.declared.Piece.TheVariants.{List as Listing}
use Rattle.layout.specs.Layout.{place, failure, parameters}
use Rattle.layout.specs.Allowed.{allowed}
use Rattle.layout.specs.Permitted.{code, permitted}
use Rattle.layout.specs.Typed.{Typed}
use Rattle.encode.proofs.Good.{AllGood}
use Rattle.encode.proofs.Fitting.{fitting, fitting-permitted}
use Rattle.types.specs.Subscriptions.{subscribe_update, ending, filter, delivery, subscribe, content, subscribe_ok, subscribe_error, subscribe_done, id_only}
use Rattle.subscription.specs.Told.{filter_pieces, content_pieces, typed_of as subscription_typed}
use Rattle.subscription.specs.declared.Filter.{Filter}
use Rattle.subscription.specs.declared.Filter.TheVariants.{Latest, From, Range}
use Rattle.subscription.specs.declared.SubscriptionMessage.{SubscriptionMessage}
use Rattle.subscription.specs.declared.SubscriptionMessage.TheVariants.{SubscribeUpdate, Subscribe, SubscribeOk, SubscribeError, Unsubscribe, SubscribeDone, MaxSubscribeId, SubscribesBlocked}
use Rattle.types.specs.Fetches.{standalone, joining, range, fetch, fetch_ok, fetch_error, fetch_cancel, track_status_request, largest, track_status}
use Rattle.fetch.specs.Told.{range_pieces, typed_of as fetch_typed}
use Rattle.fetch.specs.declared.Range.{Range as FetchRange}
use Rattle.fetch.specs.declared.Range.TheVariants.{Standalone, Joining}
use Rattle.fetch.specs.declared.FetchMessage.{FetchMessage}
use Rattle.fetch.specs.declared.FetchMessage.TheVariants.{Fetch as AFetch, FetchOk, FetchError, FetchCancel, TrackStatusRequest, TrackStatus}
use Rattle.types.specs.Announces.{named}
use Rattle.announce.specs.AfterNamespace.{rest}
use Rattle.announce.proofs.ByKind.{layout_is}
use Rattle.announce.specs.Told.{typed_of as announce_typed}
use Rattle.announce.specs.declared.AnnounceMessage.{AnnounceMessage}
use Rattle.announce.specs.declared.AnnounceMessage.TheVariants.{Named, Asked, Refused}
use Rattle.types.specs.declared.kinds.AnnounceKind.TheVariants.{Named as KindNamed, Asked as KindAsked, Refused as KindRefused}
use Rattle.types.specs.Sessions.{client_setup, server_setup, go_away}
use Rattle.session.specs.Told.{typed_of as session_typed}
use Rattle.session.specs.declared.SessionMessage.{SessionMessage}
use Rattle.session.specs.declared.SessionMessage.TheVariants.{ClientSetup, ServerSetup, GoAway}
use Rattle.types.specs.Table.{messages, type_row_in, type_row_of, known, layout_of}
use Rattle.message.specs.Types.{typed_of}
use Rattle.message_writer.specs.Writing.{allowed_of}
use Rattle.message.specs.declared.Message.{Message}
use Rattle.message.specs.declared.Message.TheVariants.{Subscription, Fetch, Announce, Session}
use Rattle.types.proofs.KindRows.{announce-known, announce-layout}

-- ---- the families

-- the type of a message is known, and its fields have the shape that it asks for exactly where its values are allowed
abbrev Fitting : List ℕ → Typed → Type 0
Fitting s t =
    let l = layout_of t.type in
    (known t.type ≡ true) × (fitting l (map (mean s) t.pieces) ≡ allowed l t.pieces)

module _ (s : List ℕ) where
  -- what a SUBSCRIBE asks for, and its parameters,
  asking : (f : Filter) (e : Entries) → fitting filter (map (mean s) (filter_pieces f ++ Listing Parameters e ∷ [])) ≡ allowed filter (filter_pieces f ++ Listing Parameters e ∷ [])
  unfolding fitting code mean allowed place parameters ending filter
  asking Latest e = refl
  asking (From start) e = refl
  asking (Range start end_group) e = refl

  -- what there is by a SUBSCRIBE_OK, and its parameters,
  existing : (c : Option Place) (e : Entries) → fitting content (map (mean s) (content_pieces c ++ Listing Parameters e ∷ [])) ≡ allowed content (content_pieces c ++ Listing Parameters e ∷ [])
  unfolding fitting code mean allowed place parameters content
  existing None e = refl
  existing (Some p) e = refl

  -- a message of subscriptions,
  subscription : (m : SubscriptionMessage) → Fitting s (subscription_typed m)
  unfolding fitting code mean allowed known layout_of type_row_of type_row_in messages place failure parameters subscribe_update delivery subscribe subscribe_ok subscribe_error subscribe_done id_only
  subscription (SubscribeUpdate m) = (refl, refl)
  subscription (Subscribe m) = (refl, rw (asking m.filter m.parameters))
  subscription (SubscribeOk m) = (refl, rw (existing m.largest m.parameters))
  subscription (SubscribeError m) = (refl, refl)
  subscription (Unsubscribe id) = (refl, refl)
  subscription (SubscribeDone m) = (refl, refl)
  subscription (MaxSubscribeId id) = (refl, refl)
  subscription (SubscribesBlocked id) = (refl, refl)

  -- what a FETCH asks for, and its parameters,
  fetching : (r : FetchRange) (e : Entries) → fitting range (map (mean s) (range_pieces r ++ Listing Parameters e ∷ [])) ≡ allowed range (range_pieces r ++ Listing Parameters e ∷ [])
  unfolding fitting code mean allowed place parameters standalone joining range
  fetching (Standalone r) e = refl
  fetching (Joining j) e = refl

  -- a message of fetches,
  retrieval : (m : FetchMessage) → Fitting s (fetch_typed m)
  unfolding fitting code mean allowed known layout_of type_row_of type_row_in messages place failure parameters fetch fetch_ok fetch_error fetch_cancel track_status_request largest track_status
  retrieval (AFetch m) = (refl, rw (fetching m.range m.parameters))
  retrieval (FetchOk m) = (refl, refl)
  retrieval (FetchError m) = (refl, refl)
  retrieval (FetchCancel id) = (refl, refl)
  retrieval (TrackStatusRequest t) = (refl, refl)
  retrieval (TrackStatus m) = (refl, refl)

  -- of namespaces,
  announcement : (m : AnnounceMessage) → Fitting s (announce_typed m)
  unfolding fitting code mean allowed failure parameters named rest
  announcement (Named k n) = (announce-known (KindNamed k), rw (announce-layout (KindNamed k), layout_is (KindNamed k)))
  announcement (Asked k m) = (announce-known (KindAsked k), rw (announce-layout (KindAsked k), layout_is (KindAsked k)))
  announcement (Refused k m) = (announce-known (KindRefused k), rw (announce-layout (KindRefused k), layout_is (KindRefused k)))

  -- and of a session
  session : (m : SessionMessage) → Fitting s (session_typed m)
  unfolding fitting code mean allowed known layout_of type_row_of type_row_in messages parameters client_setup server_setup go_away
  session (ClientSetup m) = (refl, refl)
  session (ServerSetup m) = (refl, refl)
  session (GoAway uri) = (refl, refl)

  -- ---- every message

  shape : (m : Message) → Fitting s (typed_of m)
  shape (Subscription m) = subscription m
  shape (Fetch m) = retrieval m
  shape (Announce m) = announcement m
  shape (Session m) = session m

  -- It is of a known type.
  pub known-type : (m : Message) → known (typed_of m).type ≡ true
  known-type m = (shape m).0

  -- Where its values are allowed and its fields are good, its layout permits it.
  pub shaped : (m : Message) → allowed_of m ≡ true → AllGood (map (mean s) (typed_of m).pieces) → permitted (layout_of (typed_of m).type) (map (mean s) (typed_of m).pieces) ≡ true
  unfolding allowed_of
  shaped m h = fitting-permitted (layout_of (typed_of m).type) (map (mean s) (typed_of m).pieces) ((shape m).1 ∙ h)
