-- What stands between the numbers of a header, by what it is: how it is judged. Assumes nothing.
use Prim.Native.Nat.{ℕ, ◌+◌}
use mathlib.Core.Path.{◌≡◌, refl, ◌∙◌}
use mathlib.Core.List.{List, [], ◌∷◌}
use native.Mathlib.Omega.{arith}
use Rattle.field.specs.Value.{encode}
use Rattle.field.specs.declared.Span.{Span}
use Rattle.field.specs.declared.Piece.TheVariants.{Byte, Bytes}
use Rattle.measure.specs.Judging.{fit, judged, joined, measure_span}
use Rattle.measure.specs.Fields.{middle_pieces}
use Rattle.measure.specs.Measuring.{right_all, sized_all, encode_all, measure_all}
use Rattle.std.specs.Prelude.{Ok}
use Rattle.measure.specs.declared.Middle.{Middle}
use Rattle.measure.specs.declared.Middle.TheVariants.{Nothing, Byte as OneByte, Bytes as SomeBytes, Both}
use Rattle.measure.proofs.Judges.{fit-within}
use Rattle.measure.proofs.Pieces.{byte_fits, bytes-judged}
use Rattle.measure.proofs.Joins.{measure-joined, alone-judged}

-- a byte alone,
byte-judged : (s : List ℕ) (b room : ℕ) → fit (1 + 0) room ≡ measure_all s (Byte b ∷ []) room
byte-judged s b room = byte_fits s room refl ∙ alone-judged s (Byte b) room

-- and a part
part-judged : (s : List ℕ) (p : Span) (room : ℕ) → measure_span s p room ≡ measure_all s (Bytes p ∷ []) room
part-judged s p room = bytes-judged s room refl ∙ alone-judged s (Bytes p) room

module _ (s : List ℕ) {m : Middle} (room : ℕ) where
  -- nothing takes no bytes,
  pub nothing-fits : m ≡ Nothing → Ok 0 ≡ measure_all s (middle_pieces m) room
  unfolding measure_all right_all sized_all encode_all encode judged
  nothing-fits e = rw e (fit-within 0 room (omega arith))

  -- a byte one,
  pub one-byte-fits : {b : ℕ} → m ≡ OneByte b → fit (1 + 0) room ≡ measure_all s (middle_pieces m) room
  one-byte-fits {b} e = rw e (byte-judged s b room)

  -- bytes are judged as their part is,
  pub some-bytes-judged : {p : Span} → m ≡ SomeBytes p → measure_span s p room ≡ measure_all s (middle_pieces m) room
  some-bytes-judged {p} e = rw e (part-judged s p room)

  -- and both are judged as one
  pub both-judged : {b : ℕ} {p : Span} → m ≡ Both b p → joined (fit (1 + 0) room) (measure_span s p room) room ≡ measure_all s (middle_pieces m) room
  both-judged {b} {p} e =
      rw (e, byte-judged s b room, part-judged s p room) (measure-joined s (Byte b ∷ []) (Bytes p ∷ []) room)
