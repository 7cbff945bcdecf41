-- What stands between the numbers of a header, by what it is: what its shortest form is made of, and what its writer asks.
-- Assumes nothing.
use Prim.Native.Nat.{ℕ, ◌≤◌, ◌<◌}
use mathlib.Core.Path.{◌≡◌, refl, sym, ◌∙◌}
use mathlib.Core.Bool.{true}
use mathlib.Core.List.{List, [], ◌∷◌, append-nil}
use lib.ListN.{length}
use Rattle.common.proofs.Tests.{both_first}
use Rattle.common.specs.Buffer.{Put}
use Rattle.common.proofs.Puts.{Room}
use Rattle.field.specs.Value.{part, mean, enc_text, enc_field, encode}
use Rattle.field.specs.declared.Span.{Span}
use Rattle.field.specs.declared.Piece.{Piece}
use Rattle.field.specs.declared.Piece.TheVariants.{Byte, Bytes}
use Rattle.measure.specs.Judging.{right_span, right}
use Rattle.measure.specs.Fields.{middle_pieces}
use Rattle.measure.specs.Measuring.{right_all, encode_all}
use Rattle.measure.specs.declared.Middle.{Middle}
use Rattle.measure.specs.declared.Middle.TheVariants.{Nothing, Byte as OneByte, Bytes as SomeBytes, Both}
use Rattle.measure.proofs.Joins.{alone-right, alone-is}
use Rattle.encode.proofs.Pieces.{Asks, byte-is, bytes-is, byte-asks, bytes-asks}
use Rattle.encode.proofs.FieldsPut.{AllAsk}

-- a field alone asks what it does
alone-asks : (s : List ℕ) (p : Piece) {room : ℕ} → AllAsk s (p ∷ []) room → Asks s p room
alone-asks s p h = (sym (alone-right s p) ∙ h.0, rw (alone-is s p) at h.1)

module _ (s : List ℕ) {m : Middle} where
  -- nothing is put by doing nothing
  pub nothing_put : (before : List ℕ) → m ≡ Nothing → Put (encode_all s (middle_pieces m)) before 0 before
  unfolding encode_all encode
  nothing_put before e = rw e (record { count = refl; holds = refl })

  -- a byte is written as it is
  pub one-byte-is : {b : ℕ} → m ≡ OneByte b → encode_all s (middle_pieces m) ≡ b ∷ []
  one-byte-is {b} e = rw e (alone-is s (Byte b) ∙ byte-is s refl)

  -- and a part as a length and the bytes
  pub some-bytes-is : {p : Span} → m ≡ SomeBytes p → encode_all s (middle_pieces m) ≡ enc_text (part s p)
  some-bytes-is {p} e = rw e (alone-is s (Bytes p) ∙ bytes-is s refl)

  module _ {room : ℕ} (h : AllAsk s (middle_pieces m) room) where
    -- what the writer of each asks: room for a byte,
    pub one-byte-asks : {b : ℕ} → m ≡ OneByte b → 0 < room
    one-byte-asks {b} e = byte-asks s (alone-asks s (Byte b) (rw e at h)) refl

    -- a right part,
    pub some-bytes-ask : {p : Span} → m ≡ SomeBytes p → (right_span s p ≡ true) × (length (enc_text (part s p)) ≤ room)
    some-bytes-ask {p} e = bytes-asks s (alone-asks s (Bytes p) (rw e at h)) refl

    -- which stands after a byte too
    pub both_right : {b : ℕ} {p : Span} → m ≡ Both b p → right_span s p ≡ true
    unfolding right_all right
    both_right {p = p} e = both_first (right_span s p) true (rw e at h.0)

  -- a byte and a part are one, and then the other
  pub both-room : (before : List ℕ) {b : ℕ} {p : Span} → AllAsk s (middle_pieces m) (length before) → m ≡ Both b p → Room (b ∷ []) (enc_text (part s p)) (encode_all s (middle_pieces m)) before
  unfolding encode_all encode mean enc_field
  both-room before h e = record { joins = rw (e, append-nil); fits = h.1 }
