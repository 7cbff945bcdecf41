-- What is written reads back: as the same message, and from exactly the bytes that were written. Assumes nothing.
use Prim.Native.Nat.{ℕ, ◌+◌, ◌≤◌}
use mathlib.Core.Path.{◌≡◌, refl, sym, ap, ◌∙◌}
use mathlib.Core.Bool.{true}
use mathlib.Core.List.{List, [], ◌++◌, map, append-nil}
use native.Mathlib.Omega.{arith}
use lib.ListN.{length, drop, length-append}
use lib.Seq.{take-append_seam}
use lib.Dec.{leb}
use borrow.Author.Tests.{leb-true}
use Rattle.common.specs.Answer.{wrote, whole as answered}
use Rattle.common.proofs.Tests.{both-each}
use Rattle.integer.specs.Integer.{greatest, enc_of}
use Rattle.field.specs.Outcome.{whole}
use Rattle.field.specs.Value.{Value, mean, encode}
use Rattle.field.specs.declared.Piece.{Piece}
use Rattle.field.proofs.Back.{From, from_start, front, behind, number-back}
use Rattle.layout.specs.Layout.{scan}
use Rattle.layout.specs.Permitted.{permitted}
use Rattle.layout.specs.Typed.{Typed}
use Rattle.layout.specs.Same.{Same}
use Rattle.layout.proofs.Back.{scan-back}
use Rattle.layout.proofs.Scanned.{scanned}
use Rattle.layout.proofs.Stable.{values-stay}
use Rattle.measure.specs.Measuring.{right_all, encode_all}
use Rattle.encode.specs.Writing.{frame}
use Rattle.encode.proofs.Good.{all-good}
use Rattle.encode.proofs.ChecksPassed.{was-written}
use Rattle.types.specs.Table.{known, layout_of}
use Rattle.message.specs.Types.{typed_of}
use Rattle.types.specs.Limits.{longest_body}
use Rattle.message.specs.Reading.{read_of}
use Rattle.message_writer.specs.Writing.{allowed_of, write_up_to, write_of}
use Rattle.message.specs.declared.Message.{Message}
use Rattle.message.proofs.Front.{WholeAt, joined}
use Rattle.message_writer.proofs.Shape.{known-type, shaped}

-- ---- a frame

-- values stand as a whole message of a type
record ReadBack (s : List ℕ) (type : ℕ) (vs : List Value) (used : ℕ) : Type 0 where
  found : List Piece
  is_whole : WholeAt longest_body s (record { type = type; pieces = found }) used
  means : map (mean s) found ≡ vs

-- so do those that a type permits, in their shortest form after Type and Length, whatever follows
frame_back : (type : ℕ) (vs : List Value) (rest : List ℕ) → known type ≡ true → type ≤ greatest → length (encode vs) ≤ longest_body → permitted (layout_of type) vs ≡ true
    → ReadBack (frame type (encode vs) ++ rest) type vs (length (frame type (encode vs)))
unfolding frame
frame_back type vs rest k small short ok =
    let body = encode vs in
    let size = length body in
    let bytes = frame type body in
    let s = bytes ++ rest in
    let next = 0 + length (enc_of type) in
    let at = next + length (enc_of size) in
    let here = from_start [] bytes rest in
    let behind-type = behind (enc_of type) (enc_of size ++ body) here in
    let alone : From bytes 0 bytes [] = record { within = omega arith; here = sym (append-nil bytes) } in
    let back = scan-back (layout_of type) vs bytes ok (behind (enc_of size) body (behind (enc_of type) (enc_of size ++ body) alone)) in
    let ends : length bytes ≡ at + size = omega (arith, length-append (enc_of type) (enc_of size ++ body), length-append (enc_of size) body) in
    record {
      found = back.found;
      is_whole = record {
        size = size;
        at = at;
        head = record {
          next = next;
          type_at = number-back s type small (front (enc_of type) (enc_of size ++ body) here);
          is_known = k;
          length_at = number-back s size (omega arith) (front (enc_of size) body behind-type);
        };
        short = short;
        ends = ends;
        present = omega (arith, length-append bytes rest);
        body = ap (λ (x : List ℕ). scan (layout_of type) x at) (take-append_seam bytes rest) ∙ back.reads ∙ ap (whole back.found) (sym ends);
      };
      means = values-stay rest (scanned (layout_of type) bytes at back.reads) ∙ back.means;
    }

-- and what stands so in a buffer is read from it as the message whose values they are
read-from : {s after x : List ℕ} {m : Typed} {used n : ℕ} → after ≡ s → n ≡ used → ReadBack s m.type (map (mean x) m.pieces) used
    → (t : Typed) × (read_of after ≡ answered t n) × Same after t x m
read-from {s} {m = m} e u r =
    (record { type = m.type; pieces = r.found }, rw (e, u) (joined longest_body s r.is_whole), record { type = refl; values = rw e r.means })

-- ---- a message

-- What is written reads back as the same message, and uses exactly the bytes written.
pub written-reads : (s : List ℕ) (m : Message) (before : List ℕ) {n : ℕ} → (write_of s m before).says ≡ wrote n
    → (t : Typed) × (read_of (write_of s m before).holds ≡ answered t n) × Same (write_of s m before).holds t s (typed_of m)
unfolding write_up_to encode_all
written-reads s m before h =
    let type = (typed_of m).type in
    let ps = (typed_of m).pieces in
    let bytes = frame type (encode_all s ps) in
    let w = was-written _ _ _ bytes before h in
    let p = both-each (allowed_of m) _ w.is_right_lem in
    let q = both-each (leb type greatest) (right_all s ps) p.1 in
    let good = all-good s ps q.1 w.is-sized in
    let small = leb-true type greatest q.0 in
    let short = leb-true (length (encode_all s ps)) longest_body w.is-short in
    read-from w.holds w.used
    (frame_back type (map (mean s) ps) (drop (length bytes) before) (known-type s m) small short (shaped s m p.0 good))
