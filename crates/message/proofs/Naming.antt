-- The name of a message's track: which part of the bytes is handed back, and that of a message that was read it is the name
-- itself, within the bytes that the message took. Assumes nothing.
use Prim.Native.Nat.{ℕ, ◌≤◌, ◌<◌}
use mathlib.Core.Path.{◌≡◌, refl}
use mathlib.Core.List.{List}
use native.Mathlib.Omega.{arith}
use lib.ListN.{length}
use lib.Dec.{lit≤}
use borrow.Author.Tests.{le-leb, lt-leb}
use Rattle.common.specs.Answer.{whole as answered}
use Rattle.field.specs.Value.{nowhere}
use Rattle.field.specs.declared.Span.{Span}
use Rattle.layout.specs.Inside.{Inside, Lies, Between}
use Rattle.subscription.specs.Names.{name_span as subscription_name}
use Rattle.subscription.specs.Told.{typed_of as subscription_typed}
use Rattle.subscription.specs.declared.SubscriptionMessage.{SubscriptionMessage}
use Rattle.subscription.specs.declared.SubscriptionMessage.TheVariants.{SubscribeUpdate, Subscribe, SubscribeOk, SubscribeError, Unsubscribe, SubscribeDone, MaxSubscribeId, SubscribesBlocked}
use Rattle.fetch.specs.Names.{name_span as fetch_name, range_name}
use Rattle.fetch.specs.Told.{typed_of as fetch_typed, fetch_pieces}
use Rattle.fetch.specs.declared.Fetch.{Fetch as AFetch}
use Rattle.fetch.specs.declared.Range.{Range}
use Rattle.fetch.specs.declared.Range.TheVariants.{Standalone, Joining}
use Rattle.fetch.specs.declared.FetchMessage.{FetchMessage}
use Rattle.fetch.specs.declared.FetchMessage.TheVariants.{Fetch, FetchOk, FetchError, FetchCancel, TrackStatusRequest, TrackStatus}
use Rattle.message.specs.Types.{typed_of}
use Rattle.types.specs.Limits.{longest_body}
use Rattle.message.specs.Reading.{read_of}
use Rattle.message.specs.Names.{name_span, named_span}
use Rattle.message.specs.declared.Message.{Message}
use Rattle.message.specs.declared.Message.TheVariants.{Subscription, Fetch as FetchM, Announce, Session}
use Rattle.message.proofs.Front.{parts}
use Rattle.message.proofs.Fields.{inside, used-there}

-- ---- what is handed back, by where a name stands

module _ (s : List ℕ) (m : Message) {p : Span} (e : p ≡ name_span m) where
  -- its end before its start: the part with nothing in it;
  pub named-backward : p.end < p.start → named_span s m ≡ nowhere
  unfolding named_span
  named-backward h = rw (← e, lt-leb p.start p.end h)

  -- its end past that of the bytes: the same;
  pub named_past : p.start ≤ p.end → length s < p.end → named_span s m ≡ nowhere
  unfolding named_span
  named_past h k = rw (← e, le-leb p.start p.end h, lt-leb p.end (length s) k)

  -- and within them: that part
  pub named-within : p.start ≤ p.end → p.end ≤ length s → named_span s m ≡ p
  unfolding named_span
  named-within h k = rw (← e, le-leb p.start p.end h, le-leb p.end (length s) k)

-- ---- where the name of a message stands

-- a part in order, that ends by `high`
abbrev pub By : ℕ → Span → Type 0
By high p = (p.start ≤ p.end) × (p.end ≤ high)

-- a part that lies between does,
track-by : {low start end high : ℕ} → Between low start end high → By high (record { start = start; end = end })
track-by b = (b.ordered, b.ends)

-- and so does that of a message without a name
nowhere-by : (high : ℕ) → By high nowhere
nowhere-by high = (lit≤ tt, omega arith)

module _ (low high : ℕ) where
  -- where the parts of a message lie so, its name does: of a subscription's,
  subscription-by : (m : SubscriptionMessage) → Inside low high (subscription_typed m).pieces → By high (subscription_name m)
  unfolding Inside Lies
  subscription-by (SubscribeUpdate m) h = nowhere-by high
  subscription-by (Subscribe m) h = track-by h.1.1.0.1
  subscription-by (SubscribeOk m) h = nowhere-by high
  subscription-by (SubscribeError m) h = nowhere-by high
  subscription-by (Unsubscribe id) h = nowhere-by high
  subscription-by (SubscribeDone m) h = nowhere-by high
  subscription-by (MaxSubscribeId id) h = nowhere-by high
  subscription-by (SubscribesBlocked id) h = nowhere-by high

  -- of a FETCH, by what it fetches,
  range-by : (m : AFetch) (r : Range) → m.range ≡ r → Inside low high (fetch_pieces m) → By high (range_name r)
  unfolding Inside Lies
  range-by m (Standalone r) e h = track-by (rw e at h).1.1.1.1.0.1
  range-by m (Joining j) e h = nowhere-by high

  -- of one that retrieves,
  fetch-by : (m : FetchMessage) → Inside low high (fetch_typed m).pieces → By high (fetch_name m)
  unfolding Inside Lies
  fetch-by (Fetch m) h = range-by m m.range refl h
  fetch-by (FetchOk m) h = nowhere-by high
  fetch-by (FetchError m) h = nowhere-by high
  fetch-by (FetchCancel id) h = nowhere-by high
  fetch-by (TrackStatusRequest t) h = track-by h.0.1
  fetch-by (TrackStatus m) h = track-by h.0.1

  -- of any
  name_by : (m : Message) → Inside low high (typed_of m).pieces → By high (name_span m)
  name_by (Subscription m) h = subscription-by m h
  name_by (FetchM m) h = fetch-by m h
  name_by (Announce m) h = nowhere-by high
  name_by (Session m) h = nowhere-by high

-- ---- a message that was read

module _ (s : List ℕ) (m : Message) {used : ℕ} where
  -- its name stands within the bytes that it took,
  pub name-there : read_of s ≡ answered (typed_of m) used → By used (name_span m)
  name-there h = let w = parts longest_body s h in name_by w.at used m (inside s w.head.type_at w.head.length_at w)

  -- so it is that part of the bytes which is handed back
  pub name-is : read_of s ≡ answered (typed_of m) used → named_span s m ≡ name_span m
  name-is h =
      let by = name-there h in
      let there = (used-there s (parts longest_body s h)).1 in
      named-within s m refl by.0 (omega arith)
