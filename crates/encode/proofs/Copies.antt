-- A part copied byte by byte. Assumes nothing.
use Prim.Native.Nat.{ℕ, ◌≤◌}
use mathlib.Core.Path.{◌≡◌}
use mathlib.Core.Bool.{true}
use mathlib.Core.List.{List}
use lib.ListN.{length}
use Rattle.common.specs.Buffer.{Put}
use Rattle.common.proofs.Puts.{lent, Room, second_fits}
use Rattle.integer.specs.Integer.{enc_of}
use Rattle.field.specs.Entries.{size}
use Rattle.field.specs.Value.{part, enc_text}
use Rattle.field.specs.declared.Span.{Span}
use Rattle.field.proofs.Lengths.{length_part}
use Rattle.measure.specs.Judging.{right_span}
use Rattle.measure.proofs.Spans.{lies, text-is}

-- ---- bytes copied

-- ---- a length and the bytes of a part

module _ (s : List ℕ) (p : Span) (before : List ℕ) (h : (right_span s p ≡ true) × (length (enc_text (part s p)) ≤ length before)) where
  -- there is room for the length, and then the bytes
  pub text-room : Room (enc_of (size p)) (part s p) (enc_text (part s p)) before
  text-room = record { joins = text-is (lies s p h.0); fits = h.1 }

  module _ {used : ℕ} {after : List ℕ} (q : Put (enc_of (size p)) before used after) where
    -- after the length there is room for the bytes
    pub bytes_fit : size p ≤ length (lent used after)
    bytes_fit =
        let l = lies s p h.0 in
        rw (length_part s p l.within) at (second_fits text-room q)
