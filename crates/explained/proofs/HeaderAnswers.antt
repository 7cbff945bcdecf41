-- The parts of a data header: they are answered as the header is, and stand one behind the other. Assumes nothing.
use Prim.Native.Nat.{ℕ, ◌≤◌, zero-le}
use mathlib.Core.Path.{◌≡◌, refl, ◌∙◌}
use mathlib.Core.List.{List}
use mathlib.Core.Bool.{Bool, true, false}
use lib.ListN.{length}
use lib.Dec.{eqb, ltb}
use Rattle.common.specs.Answer.{Answer, whole, refused}
use Rattle.common.specs.Choice.{pick}
use Rattle.field.specs.Outcome.{Outcome, whole as found, no, answer}
use Rattle.field.specs.Entries.{number_at}
use Rattle.field.specs.declared.Piece.{Piece}
use Rattle.layout.specs.Layout.{Layout, scan}
use Rattle.layout.specs.Typed.{Typed, typed}
use Rattle.layout.specs.declared.FieldName.TheVariants.{MessageType, MessageLength}
use Rattle.header.specs.Layouts.{object_datagram_status_row, InTable, listed, unlisted, on_listed, datagrams, streams}
use Rattle.header.specs.Reading.{headed_of, ended_datagram, datagram_of, stream_of}
use Rattle.parts.specs.Telling.{part_of}
use Rattle.parts.specs.declared.What.TheVariants.{Number, Left}
use Rattle.explained.specs.Grammar.{parts_of}
use Rattle.explained.specs.Explaining.{Explained, taking, refusing, first, explain, headed_explained, datagram_explained, stream_explained}
use Rattle.explained.specs.Tiling.{forget}
use Rattle.explained.proofs.AfterOutcomes.{found-both}
use Rattle.explained.proofs.LayoutAnswers.{layout-says}
use Rattle.explained.proofs.TiledParts.{Tiled, refusing-tiled, number-tiled, parts-tiled}
use Rattle.explained.proofs.FilledBytes.{filling-says, ended, ended-tiled}

module _ (cut : ℕ) (types : ℕ → InTable) (ends : ℕ → Explained → Explained) (s : List ℕ) where
  -- a header that begins with its type is answered as its fields are, by what is made of the answer at its end
  headed-says : (finish : Answer Typed → Answer Typed) → ((number : ℕ) → finish (refused number) ≡ refused number) → ((type : ℕ) (l : Layout) (at : ℕ) → (ends type (explain cut (parts_of l) s at)).answer ≡ forget (finish (answer cut (typed type (scan l s at)))))
      → (headed_explained cut types ends s).answer ≡ forget (finish (headed_of cut types s))
  unfolding headed_explained headed_of
  headed-says finish kept h =
      found-both (λ (e : Explained) (a : Answer Typed). e.answer ≡ forget (finish a)) (number_at s 0) _ _ _ _ (rw (kept cut)) (λ type at e. by type at (types type))
    where
      by : (type at : ℕ) (t : InTable) → (on_listed t (refusing 2) (λ l. ends type (explain cut (parts_of l) s at))).answer ≡ forget (finish (on_listed t (refused 2) (λ l. answer cut (typed type (scan l s at)))))
      by type at (listed l) = h type l at
      by type at unlisted = rw (kept 2)

  -- and its parts stand one behind the other
  headed-tiled : ((type at : ℕ) (e : Explained) → Tiled (length s) at e → Tiled (length s) at (ends type e)) → Tiled (length s) 0 (headed_explained cut types ends s)
  unfolding headed_explained
  headed-tiled h = number-tiled cut MessageType Number s 0 _ zero-le (λ type at k. by type at k (types type))
    where
      by : (type at : ℕ) → at ≤ length s → (t : InTable) → Tiled (length s) at (on_listed t (refusing 2) (λ l. ends type (explain cut (parts_of l) s at)))
      by type at k (listed l) = h type at (explain cut (parts_of l) s at) (parts-tiled cut (parts_of l) s at k)
      by type at k unlisted = refusing-tiled at 2 k

-- ---- a stream

-- fields, and the type before them, are answered alike
typed-says : (cut type : ℕ) (o : Outcome (List Piece)) → forget (answer cut o) ≡ forget (answer cut (typed type o))
typed-says cut type (found ps end) = refl
typed-says cut type (no fault) = refl

pub stream-says : (s : List ℕ) → (stream_explained s).answer ≡ forget (stream_of s)
unfolding stream_explained stream_of
stream-says s =
    headed-says 1 streams _ s (λ a. a) (λ number. refl)
    (λ type l at. layout-says 1 l s at ∙ typed-says 1 type (scan l s at))

pub stream-tiled : (s : List ℕ) → Tiled (length s) 0 (stream_explained s)
unfolding stream_explained
stream-tiled s = headed-tiled 1 streams _ s (λ type at e t. t)

-- ---- a datagram

-- of a status datagram no byte is left
abbrev pub must_end : ℕ → Bool
must_end type = eqb type object_datagram_status_row.number

ended-says : (size type : ℕ) (e : Explained) (o : Outcome (List Piece)) → e.answer ≡ forget (answer 4 o) → (ended (must_end type) size e).answer ≡ forget (ended_datagram size (answer 4 (typed type o)))
ended-says size type e o h = go (must_end type) refl o h
  where
    filled : (used : ℕ) (t : Typed) (b : Bool) → (pick b (first (part_of MessageLength Left 0 used size) (refusing 4)) (taking used)).answer ≡ forget (pick b (refused 4) (whole t used))
    filled used t true = refl
    filled used t false = refl

    go : (must : Bool) → must_end type ≡ must → (o : Outcome (List Piece)) → e.answer ≡ forget (answer 4 o) → (ended must size e).answer ≡ forget (ended_datagram size (answer 4 (typed type o)))
    go true m (found ps used) k = filling-says size e ∙ rw (k, m) (filled used _ (ltb used size))
    go true m (no fault) k = filling-says size e ∙ rw k
    go false m (found ps used) k = k ∙ rw m
    go false m (no fault) k = k

pub datagram-says : (s : List ℕ) → (datagram_explained s).answer ≡ forget (datagram_of s)
unfolding datagram_explained datagram_of
datagram-says s =
    headed-says 4 datagrams (λ type. ended (must_end type) (length s)) s (ended_datagram (length s)) (λ number. refl)
    (λ type l at. ended-says (length s) type (explain 4 (parts_of l) s at) (scan l s at) (layout-says 4 l s at))

pub datagram-tiled : (s : List ℕ) → Tiled (length s) 0 (datagram_explained s)
unfolding datagram_explained
datagram-tiled s =
    headed-tiled 4 datagrams (λ type. ended (must_end type) (length s)) s (λ type at e t. ended-tiled (must_end type) t)
