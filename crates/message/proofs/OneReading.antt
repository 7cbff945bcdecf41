-- FOR ALL BYTES THERE IS ONE READING that tells what reading them answers: what is answered can always be told, since a message is
-- made again of the fields that its layout reads; and it is told in one way. Assumes nothing.
use Prim.Native.Nat.{ℕ, ◌+◌}
use mathlib.Core.Path.{◌≡◌, refl, sym, ap, ◌∙◌}
use mathlib.Core.List.{List, [], ◌∷◌}
use native.Mathlib.Omega.{arith}
use borrow.Author.Tests.{eqb-true}
use lib.Dec.{eqb}
use Rattle.std.specs.Prelude.{Err}
use Rattle.common.specs.Answer.{Answer, whole as answered, refused}
use Rattle.common.proofs.Cases.{pick-by}
use Rattle.field.specs.Outcome.{Outcome, whole, no}
use Rattle.field.specs.declared.Fault.TheVariants.{Cut, Forbidden, Oversize}
use Rattle.field.specs.declared.Piece.{Piece}
use Rattle.layout.specs.Layout.{forbidden, scan}
use Rattle.layout.specs.Typed.{Typed, typed}
use Rattle.layout.proofs.Every.{Every, every-read}
use Rattle.types.specs.Table.{TypeRow, typed_as, messages, InTable, listed, unlisted, on_listed, type_row_in, type_row_of, layout_of}
use Rattle.types.specs.SubscriptionKinds.{type_row as subscription_row}
use Rattle.subscription.proofs.Made.{made-says as subscription-says}
use Rattle.types.specs.declared.kinds.SubscriptionKind.TheVariants as subscription
use Rattle.types.specs.FetchKinds.{type_row as fetch_row}
use Rattle.fetch.proofs.Made.{made-says as fetch-says}
use Rattle.types.specs.declared.kinds.FetchKind.TheVariants as fetch
use Rattle.types.specs.AnnounceKinds.{type_row as announce_row}
use Rattle.announce.proofs.Made.{made-says as announce-says}
use Rattle.types.specs.declared.kinds.AnnounceKind.TheVariants.{Named, Asked, Refused}
use Rattle.types.specs.declared.kinds.Naming.TheVariants as naming
use Rattle.types.specs.declared.kinds.Asking.TheVariants as asking
use Rattle.types.specs.declared.kinds.Refusing.TheVariants as refusing
use Rattle.types.specs.SessionKinds.{type_row as session_row}
use Rattle.session.proofs.Made.{made-says as session-says}
use Rattle.types.specs.declared.kinds.SessionKind.TheVariants as session
use Rattle.types.proofs.OneAnswer.{refusal_of}
use Rattle.message.specs.Types.{typed_of}
use Rattle.types.specs.Limits.{longest_body}
use Rattle.message.specs.Reading.{Reading, filled_by, read_up_to, told}
use Rattle.message.proofs.Made.{family_of, message_of, answer_of}
use Rattle.message.proofs.Front.{Stops, no-type, unknown, no_length, too_long, missing, Judged, stopped, present, judged}
use Rattle.message.proofs.OneAnswer.{answer_back}

-- ---- a message of any row

-- whatever fields its layout reads, the message that is made of them says them
abbrev Says : TypeRow → Type 0
Says r = Every r.layout (λ ps. typed_of (message_of (typed_as r ps)) ≡ typed_as r ps)

-- something holds of every row of a list
data All (P : TypeRow → Type 0) : List TypeRow → Type 0 where
  no_more : All P []
  ◌and◌ : {r : TypeRow} {rs : List TypeRow} → P r → All P rs → All P (r ∷ rs)

infixr 5 ◌and◌
-- this does of every row of the table,
all_say : All Says messages
unfolding messages type_row_in type_row_of family_of message_of subscription_row fetch_row announce_row session_row
all_say =
    session-says session.ClientSetup
    and session-says session.ServerSetup
    and session-says session.GoAway
    and subscription-says subscription.MaxSubscribeId
    and subscription-says subscription.SubscribesBlocked
    and subscription-says subscription.Subscribe
    and subscription-says subscription.SubscribeOk
    and subscription-says subscription.SubscribeError
    and subscription-says subscription.Unsubscribe
    and subscription-says subscription.SubscribeUpdate
    and subscription-says subscription.SubscribeDone
    and fetch-says fetch.Fetch
    and fetch-says fetch.FetchOk
    and fetch-says fetch.FetchError
    and fetch-says fetch.FetchCancel
    and fetch-says fetch.TrackStatusRequest
    and fetch-says fetch.TrackStatus
    and announce-says (Asked asking.Announce)
    and announce-says (Named naming.AnnounceOk)
    and announce-says (Refused refusing.AnnounceError)
    and announce-says (Named naming.Unannounce)
    and announce-says (Refused refusing.AnnounceCancel)
    and announce-says (Asked asking.SubscribeAnnounces)
    and announce-says (Named naming.SubscribeAnnouncesOk)
    and announce-says (Refused refusing.SubscribeAnnouncesError)
    and announce-says (Named naming.UnsubscribeAnnounces)
    and no_more

-- and so of the one in which a type stands
row_is : (P : TypeRow → Type 0) (rows : List TypeRow) (type : ℕ) → All P rows → {r : TypeRow} → type_row_in rows type ≡ listed r → (r.number ≡ type) × P r
unfolding type_row_in
row_is P [] type no_more {r} h = absurd (let z : ◌≡◌ {A = ℕ} 0 1 = cc in omega arith)
row_is P (q ∷ qs) type (holds and all) {r} h =
    pick-by (λ (l : InTable). l ≡ listed r → (r.number ≡ type) × P r) (eqb type q.number)
    (λ e k. let same : r ≡ q = cc in rw same (sym (eqb-true type q.number e), holds))
    (λ e k. row_is P qs type all k)
    h

-- nothing is read of one that stands in none
nothing : (s : List ℕ) (at : ℕ) {ps : List Piece} {end : ℕ} → scan forbidden s at ≡ whole ps end → ⊥
unfolding scan
nothing s at h = let z : ◌≡◌ {A = ℕ} 0 1 = cc in omega arith

-- A message is made again of the fields that were read of it.
said-back : (type : ℕ) (s : List ℕ) (at : ℕ) {ps : List Piece} {end : ℕ} → scan (layout_of type) s at ≡ whole ps end
    → typed_of (message_of (record { type = type; pieces = ps })) ≡ record { type = type; pieces = ps }
unfolding layout_of type_row_of
said-back type s at {ps} {end} = go (type_row_in messages type) refl
  where
    go : (l : InTable) → type_row_in messages type ≡ l → scan (on_listed l forbidden (λ r. r.layout)) s at ≡ whole ps end
        → typed_of (message_of (record { type = type; pieces = ps })) ≡ record { type = type; pieces = ps }
    go (listed r) e h =
        let f = row_is Says messages type all_say e in
        rw (← f.0) (every-read (λ qs. typed_of (message_of (typed_as r qs)) ≡ typed_as r qs) r.layout s at f.1 h)
    go unlisted e h = absurd (nothing s at h)

-- ---- so what is answered is told

stop-told : {limit : ℕ} {s : List ℕ} {n : ℕ} → Stops limit s n → told (Err (refusal_of n)) ≡ refused n
unfolding refusal_of
stop-told (no-type e) = refl
stop-told (unknown e k) = refl
stop-told (no_length e k f) = refl
stop-told (too_long h long) = refl
stop-told (missing h short room) = refl

body-told : (end type : ℕ) (s : List ℕ) (at : ℕ) (o : Outcome (List Piece)) → o ≡ scan (layout_of type) s at → told (answer_of (filled_by end (typed type o))) ≡ filled_by end (typed type o)
unfolding answer_of refusal_of
body-told end type s at (whole ps last) h =
    pick-by (λ a. told (answer_of a) ≡ a) (eqb last end) (λ e. ap (λ t. answered t end) (said-back type s at (sym h))) (λ e. refl)
body-told end type s at (no Cut) h = refl
body-told end type s at (no Forbidden) h = refl
body-told end type s at (no Oversize) h = refl

-- ---- THE READING

-- under a limit of the body,
unfoldable pub reading_up_to : ℕ → List ℕ → Reading
reading_up_to limit s = answer_of (read_up_to limit s)

-- and with the limit that there is
abbrev pub reading_of : List ℕ → Reading
reading_of s = reading_up_to longest_body s

-- it tells what reading answers,
pub reading-is : (limit : ℕ) (s : List ℕ) → told (reading_up_to limit s) ≡ read_up_to limit s
unfolding reading_up_to answer_of
reading-is limit s = go (judged limit s)
  where
    go : {o : Answer Typed} → Judged limit s o → told (answer_of o) ≡ o
    go (stopped h) = stop-told h
    go (present {type = type} {size = size} {at = at} {fields = fields} h short room e) = body-told (at + size) type _ at fields e

-- and no other does
pub reading-only : (limit : ℕ) (s : List ℕ) (r : Reading) → told r ≡ read_up_to limit s → r ≡ reading_up_to limit s
unfolding reading_up_to
reading-only limit s r e = sym (answer_back r) ∙ ap answer_of e
