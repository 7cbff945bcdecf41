-- A message that was read whole, and a header, are gathered from their parts again. Assumes nothing.
use Prim.Native.Nat.{ℕ, ◌+◌, ◌-◌}
use mathlib.Core.Path.{◌≡◌, refl, ap, ◌∙◌}
use mathlib.Core.List.{List}
use mathlib.Core.Bool.{Bool, true, false}
use native.Mathlib.Omega.{arith}
use lib.ListN.{length, take}
use lib.Dec.{leb, eqb, ltb}
use borrow.Author.Tests.{eqb-true, le-ltb}
use Rattle.common.specs.Answer.{Answer, whole, refused}
use Rattle.common.specs.Choice.{both}
use Rattle.common.proofs.Cases.{pick-by, apart}
use Rattle.field.specs.Outcome.{Outcome, whole as found, no, answer}
use Rattle.field.specs.Entries.{number_at}
use Rattle.field.specs.declared.Piece.{Piece}
use Rattle.layout.specs.Layout.{Layout, scan}
use Rattle.layout.specs.Typed.{Typed, typed}
use Rattle.layout.specs.declared.FieldName.TheVariants.{MessageType}
use Rattle.types.specs.Table.{known, layout_of}
use Rattle.types.specs.Limits.{longest_body}
use Rattle.message.specs.Reading.{filled_by, body_up_to, read_up_to, read_of}
use Rattle.header.specs.Layouts.{layout_of as layout_in, InTable, listed, unlisted, on_listed, datagrams, streams, subgroup_object, fetch_object}
use Rattle.header.specs.Reading.{headed_of, ended_datagram, datagram_of, stream_of, subgroup_object_of, fetch_object_of}
use Rattle.parts.specs.Telling.{part_of}
use Rattle.parts.specs.declared.What.TheVariants.{Number}
use Rattle.parts.specs.declared.Part.{Part}
use Rattle.explained.specs.Grammar.{parts_of}
use Rattle.explained.specs.Explaining.{Explained, refusing, first, explain, filling, body_explained, message_explained, headed_explained, datagram_explained, stream_explained, subgroup_object_explained, fetch_object_explained}
use Rattle.explained.specs.Tiling.{forget}
use Rattle.explained.specs.Gathering.{gathered, gathered_message, gathered_header}
use Rattle.explained.proofs.AfterOutcomes.{found-both, guard-both}
use Rattle.explained.proofs.LayoutAnswers.{layout-says}
use Rattle.explained.proofs.FilledBytes.{ended, ended-parts}
use Rattle.explained.proofs.HeaderAnswers.{must_end}
use Rattle.explained.proofs.FieldsGathered.{layout-gathers}

-- what is read whole is made of the parts
abbrev Gathers : (List Part → Typed) → Explained → Answer Typed → Type 0
Gathers make e a = (m : Typed) (used : ℕ) → a ≡ whole m used → make e.parts ≡ m

-- a refusal is not read whole
none : {made : Typed} {number : ℕ} (m : Typed) (used : ℕ) → refused number ≡ whole m used → made ≡ m
none m used h = absurd (apart h)

-- fields, and the type before them
abbrev of : ℕ → Layout → List Part → Typed
of type l ps = record { type = type; pieces = gathered l ps }

-- what was read of fields, where none of the bytes that must be filled is left
module _ (cut : ℕ) (must : Bool) (type : ℕ) (l : Layout) (s : List ℕ) (at size : ℕ) where
  fields-gather : {ps : List Piece} {used : ℕ} → scan l s at ≡ found ps used → both must (ltb used size) ≡ false → {end : ℕ} → Gathers (of type l) (ended must size (explain cut (parts_of l) s at)) (whole (record { type = type; pieces = ps }) end)
  fields-gather {ps} e k m last h =
      let z = ended-parts must size (explain cut (parts_of l) s at) (layout-says cut l s at ∙ ap (λ (o : Outcome (List Piece)). forget (answer cut o)) e) k in
      let made : record { type = type; pieces = ps } ≡ m = cc in
      rw (z, layout-gathers cut l s at e) made

-- ---- a message

-- the fields that fill the bytes up to their end
filled-gathers : (type : ℕ) (l : Layout) (s : List ℕ) (at size : ℕ) → Gathers (of type l) (filling size (explain 4 (parts_of l) s at)) (filled_by size (typed type (scan l s at)))
filled-gathers type l s at size = go (scan l s at) refl
  where
    go : (o : Outcome (List Piece)) → scan l s at ≡ o → Gathers (of type l) (filling size (explain 4 (parts_of l) s at)) (filled_by size (typed type o))
    go (found ps used) e =
        pick-by (Gathers (of type l) (filling size (explain 4 (parts_of l) s at))) (eqb used size)
        (λ f. fields-gather 4 true type l s at size e (le-ltb used size (omega (arith, eqb-true used size f)))) (λ f. none)
    go (no fault) e = none

pub message-gathers : (s : List ℕ) {m : Typed} {used : ℕ} → read_of s ≡ whole m used → gathered_message (message_explained s).parts ≡ m
unfolding message_explained body_explained read_up_to body_up_to gathered_message
message-gathers s {m} {used} =
    found-both (Gathers gathered_message) (number_at s 0) _ _ _ _ none (λ type mid e.
    guard-both (λ x a. Gathers gathered_message (first (part_of MessageType Number type 0 mid) x) a) (known type) _ _ _ _ none (λ is_Known.
    found-both (λ x a. Gathers gathered_message (first (part_of MessageType Number type 0 mid) x) a) (number_at s mid) _ _ _ _ none (λ size at f.
    guard-both (λ x a. Gathers (of type (layout_of type)) x a) (leb size longest_body) _ _ _ _ none (λ short.
    guard-both (λ x a. Gathers (of type (layout_of type)) x a) (leb size (length s - at)) _ _ _ _ none (λ fits.
    filled-gathers type (layout_of type) (take (at + size) s) at (at + size)))))) m used

-- ---- a header

module _ (cut : ℕ) (types : ℕ → InTable) (ends : ℕ → Explained → Explained) (finish : Answer Typed → Answer Typed) (s : List ℕ) (kept : (number : ℕ) → finish (refused number) ≡ refused number) where
  header-gathers : ((type : ℕ) (l : Layout) (at : ℕ) → Gathers (of type l) (ends type (explain cut (parts_of l) s at)) (finish (answer cut (typed type (scan l s at)))))
      → Gathers (gathered_header types) (headed_explained cut types ends s) (finish (headed_of cut types s))
  unfolding headed_explained headed_of gathered_header
  header-gathers h =
      found-both (λ x a. Gathers (gathered_header types) x (finish a)) (number_at s 0) _ _ _ _ (rw (kept cut) none) (λ type at e.
      by type at (types type) refl)
    where
      by : (type at : ℕ) (t : InTable) → types type ≡ t
          → Gathers (of type (layout_in (types type))) (on_listed t (refusing 2) (λ l. ends type (explain cut (parts_of l) s at))) (finish (on_listed t (refused 2) (λ l. answer cut (typed type (scan l s at)))))
      by type at (listed l) e = rw e (h type l at)
      by type at unlisted e = rw (kept 2) none

-- a stream's
pub stream-gathers : (s : List ℕ) {m : Typed} {used : ℕ} → stream_of s ≡ whole m used → gathered_header streams (stream_explained s).parts ≡ m
unfolding stream_explained stream_of
stream-gathers s {m} {used} =
    header-gathers 1 streams _ (λ a. a) s (λ number. refl) (λ type l at. go type l at (scan l s at) refl) m used
  where
    go : (type : ℕ) (l : Layout) (at : ℕ) (o : Outcome (List Piece)) → scan l s at ≡ o → Gathers (of type l) (explain 1 (parts_of l) s at) (answer 1 (typed type o))
    go type l at (found ps used) e = fields-gather 1 false type l s at 0 e refl
    go type l at (no fault) e = none

-- a datagram's
pub datagram-gathers : (s : List ℕ) {m : Typed} {used : ℕ} → datagram_of s ≡ whole m used → gathered_header datagrams (datagram_explained s).parts ≡ m
unfolding datagram_explained datagram_of
datagram-gathers s {m} {used} =
    header-gathers 4 datagrams (λ type. ended (must_end type) (length s)) (ended_datagram (length s)) s (λ number. refl) (λ type l at. go type l at (scan l s at) refl) m used
  where
    go : (type : ℕ) (l : Layout) (at : ℕ) (o : Outcome (List Piece)) → scan l s at ≡ o → Gathers (of type l) (ended (must_end type) (length s) (explain 4 (parts_of l) s at)) (ended_datagram (length s) (answer 4 (typed type o)))
    go type l at (found ps used) e =
        pick-by (Gathers (of type l) (ended (must_end type) (length s) (explain 4 (parts_of l) s at))) (both (must_end type) (ltb used (length s)))
        (λ f. none) (λ f. fields-gather 4 (must_end type) type l s at (length s) e f)
    go type l at (no fault) e = none

-- an object's
object-gathers : {ps : List Piece} {used : ℕ} (l : Layout) (s : List ℕ) (o : Outcome (List Piece)) → scan l s 0 ≡ o → answer 1 o ≡ whole ps used → gathered l (explain 1 (parts_of l) s 0).parts ≡ ps
object-gathers {ps} l s (found qs end) e h = let same : qs ≡ ps = cc in layout-gathers 1 l s 0 e ∙ same
object-gathers l s (no fault) e h = absurd (apart h)

pub subgroup-object-gathers : (s : List ℕ) {ps : List Piece} {used : ℕ} → subgroup_object_of s ≡ whole ps used → gathered subgroup_object (subgroup_object_explained s).parts ≡ ps
unfolding subgroup_object_explained subgroup_object_of
subgroup-object-gathers s = object-gathers subgroup_object s (scan subgroup_object s 0) refl

pub fetch-object-gathers : (s : List ℕ) {ps : List Piece} {used : ℕ} → fetch_object_of s ≡ whole ps used → gathered fetch_object (fetch_object_explained s).parts ≡ ps
unfolding fetch_object_explained fetch_object_of
fetch-object-gathers s = object-gathers fetch_object s (scan fetch_object s 0) refl
