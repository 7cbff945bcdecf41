-- One possible answer: 01's number and values lose nothing. A type and fields are those of one message, which is made of them
-- again, each field by its position. Assumes nothing.
use mathlib.Core.Path.{◌≡◌, refl, ap}
use mathlib.Core.Bool.{Bool, true, false}
use Rattle.std.specs.Prelude.{ℕ, Result}
use Rattle.common.proofs.Telling.{once}
use Rattle.field.specs.declared.Fault.{Fault}
use Rattle.layout.proofs.Family.{told_once}
use Rattle.fetch.specs.Told.{fetch_pieces, typed_of, told}
use Rattle.fetch.proofs.Made.{fetch_of, message_of}
use Rattle.fetch.specs.declared.Range.{Range}
use Rattle.fetch.specs.declared.Range.TheVariants.{Standalone, Joining}
use Rattle.fetch.specs.declared.Fetch.{Fetch}
use Rattle.fetch.specs.declared.FetchMessage.{FetchMessage}
use Rattle.fetch.specs.declared.FetchMessage.TheVariants.{Fetch as AFetch, FetchOk as AFetchOk, FetchError as AFetchError, FetchCancel as AFetchCancel, TrackStatusRequest as ATrackStatusRequest, TrackStatus as ATrackStatus}

-- ---- it is the one that was told

-- a FETCH, by what it fetches,
fetch-back : (m : Fetch) (r : Range) → m.range ≡ r → fetch_of (fetch_pieces m) ≡ m
unfolding fetch_of
fetch-back m (Standalone r) e = rw e
fetch-back m (Joining j) e = go j.absolute refl
  where
    go : (a : Bool) → j.absolute ≡ a → fetch_of (fetch_pieces m) ≡ m
    go true f = rw (e, f)
    go false f = rw (e, f)

-- and a message
pub message-back : (m : FetchMessage) → message_of (typed_of m) ≡ m
unfolding message_of
message-back (AFetch m) = ap AFetch (fetch-back m m.range refl)
message-back (AFetchOk m) = refl
message-back (AFetchError m) = refl
message-back (AFetchCancel id) = refl
message-back (ATrackStatusRequest t) = refl
message-back (ATrackStatus m) = refl

-- ---- so nothing is lost

-- a type and fields are those of one message,
pub typed-once : (m n : FetchMessage) → typed_of m ≡ typed_of n → m ≡ n
typed-once = once typed_of message_of message-back

-- and what is told is told of one answer
pub told-once : (a b : Result (FetchMessage × ℕ) Fault) → told a ≡ told b → a ≡ b
told-once = told_once typed_of typed-once
