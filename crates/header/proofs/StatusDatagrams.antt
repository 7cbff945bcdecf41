-- A datagram with a status: a law for each answer. Assumes nothing.
use Prim.Native.Nat.{ℕ, ◌≤◌, ◌<◌}
use mathlib.Core.Path.{◌≡◌, refl, sym, ap, ◌∙◌}
use mathlib.Core.List.{List, [], ◌∷◌}
use lib.ListN.{length}
use borrow.Author.Tests.{lt-ltb, le-ltb}
use Rattle.common.specs.Answer.{Answer, whole as answered, refused}
use Rattle.std.specs.Prelude.{Ok}
use Rattle.field.specs.Outcome.{Outcome, whole, no, answer}
use Rattle.field.specs.Fields.{integer, field_at}
use Rattle.field.specs.declared.Fault.TheVariants.{Cut, Forbidden}
use Rattle.field.specs.declared.Piece.{Piece}
use Rattle.field.specs.declared.Piece.TheVariants.{Number}
use Rattle.layout.specs.Layout.{done, scan}
use Rattle.layout.specs.Typed.{Typed, led, typed}
use Rattle.layout.proofs.Steps.{To, Stops, is_whole, is-no}
use Rattle.header.specs.Layouts.{object_datagram, status, datagram_status, object_datagram_status_row, datagrams}
use Rattle.header.specs.Told.{object_pieces, datagram_typed, told_object}
use Rattle.header.specs.Reading.{headed_of, ended_datagram, datagram_of}
use Rattle.header.specs.declared.ObjectDatagram.{ObjectDatagram}
use Rattle.header.specs.declared.Datagram.TheVariants.{Status}
use Rattle.header.proofs.Headed.{headed-is}
use Rattle.header.proofs.LayoutsJoined.{behind-whole, behind-no}

-- a datagram whose answer does not depend on what follows its header,
pub is_open : (s : List ℕ) {a : Answer Typed} → a ≡ headed_of 4 datagrams s → a ≡ ended_datagram (length s) a → a ≡ datagram_of s
unfolding datagram_of
is_open s h e = e ∙ ap (ended_datagram (length s)) h

-- and one with a status, by its reader
pub has-status : (s : List ℕ) {n at : ℕ} {a : Answer Typed} → whole (Number n) at ≡ field_at integer s 0 → n ≡ object_datagram_status_row.number → a ≡ ended_datagram (length s) (answer 4 (typed object_datagram_status_row.number (scan datagram_status s at))) → a ≡ datagram_of s
unfolding datagram_of datagrams
has-status s read is e = e ∙ ap (ended_datagram (length s)) (headed-is 4 datagrams s read is refl refl)

module _ (s : List ℕ) (at : ℕ) where
  -- what a datagram with a status comes to, by its fields
  abbrev Closes : Answer Typed → Type 0
  Closes a = a ≡ ended_datagram (length s) (answer 4 (typed object_datagram_status_row.number (scan datagram_status s at)))

  by-fields : {o : Outcome (List Piece)} {a : Answer Typed} → o ≡ scan datagram_status s at → a ≡ ended_datagram (length s) (answer 4 (typed object_datagram_status_row.number o)) → Closes a
  by-fields h e = rw (← h) e

  -- what stands before the status is cut,
  pub object-cut : no Cut ≡ scan object_datagram s at → Closes (refused 4)
  unfolding datagram_status
  object-cut e = by-fields (behind-no status s object_datagram at (sym e)) refl

  module _ (d : ObjectDatagram) (read : told_object (Ok d) ≡ scan object_datagram s at) where
    -- or it is there, and the status is read after it:
    behind-object : led (object_pieces d) (scan status s d.extensions.end) ≡ scan datagram_status s at
    unfolding datagram_status
    behind-object = behind-whole status s object_datagram at (sym read)

    -- it is cut,
    pub status-cut : Stops s status d.extensions.end Cut → Closes (refused 4)
    status-cut w = by-fields (ap (led (object_pieces d)) (is-no w) ∙ behind-object) refl

    -- or forbidden,
    pub status-forbidden : Stops s status d.extensions.end Forbidden → Closes (refused 5)
    status-forbidden w = by-fields (ap (led (object_pieces d)) (is-no w) ∙ behind-object) refl

    -- or it is one,
    module _ {n end : ℕ} (there : To s status d.extensions.end (Number n ∷ []) done end) where
      status-is : led (object_pieces d) (whole (Number n ∷ []) end) ≡ scan datagram_status s at
      status-is = ap (led (object_pieces d)) (is_whole there) ∙ behind-object

      -- and bytes follow it,
      pub status-over : end < length s → Closes (refused 4)
      status-over h = by-fields status-is (rw (lt-ltb end (length s) h))

      -- or none does
      pub status-last : length s ≤ end → Closes (answered (datagram_typed (Status d n)) end)
      status-last h = by-fields status-is (rw (le-ltb end (length s) h))
