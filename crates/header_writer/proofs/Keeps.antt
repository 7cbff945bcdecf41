-- What reader and writer owe each other: for a header after its type, by what its types name, and for one without. Assumes nothing.
use Prim.Native.Nat.{ℕ, ◌+◌, ◌≤◌}
use mathlib.Core.Path.{◌≡◌, refl, sym, ap, ◌∙◌}
use mathlib.Core.Bool.{true}
use mathlib.Core.List.{List, [], ◌++◌, map}
use native.Mathlib.Nat.{zero-add}
use native.Mathlib.Omega.{arith}
use lib.ListN.{length, take, length-append}
use borrow.Author.Tests.{leb-true}
use Rattle.common.specs.Answer.{whole as answered, refused, wrote, Written}
use Rattle.integer.specs.Integer.{greatest, enc_of}
use Rattle.field.specs.Outcome.{whole}
use Rattle.field.specs.Value.{mean, encode}
use Rattle.field.specs.declared.Piece.{Piece}
use Rattle.field.proofs.Back.{from_start, front, number-back}
use Rattle.field.proofs.Found.{number-at}
use Rattle.layout.specs.Layout.{Layout, scan}
use Rattle.layout.specs.Typed.{Typed}
use Rattle.layout.specs.Same.{Same}
use Rattle.measure.specs.Measuring.{sized_all, encode_all}
use Rattle.header.specs.Layouts.{InTable, listed, layout_of}
use Rattle.header.specs.Reading.{headed_of}
use Rattle.header_writer.specs.Writing.{header_written}
use Rattle.header_writer.proofs.Shape.{Fits, Shaped}
use Rattle.header_writer.proofs.Writes.{Writable}
use Rattle.header.proofs.Front.{HeadedAt, parts, joined}
use Rattle.header_writer.proofs.Fields as fields

-- ---- without a type

-- fields that are read whole, from that many bytes, and mean the same as others
pub record FieldsBack (l : Layout) (after : List ℕ) (n : ℕ) (s : List ℕ) (ps : List Piece) : Type 0 where
  pub found : List Piece
  pub reads : scan l after 0 ≡ whole found n
  pub means : map (mean after) found ≡ map (mean s) ps

pub bare-back : (l : Layout) (s : List ℕ) (ps : List Piece) → Fits l s ps → sized_all s ps ≡ true → (before rest : List ℕ) {n : ℕ} → (header_written l [] s ps before).says ≡ wrote n → FieldsBack l (take n (header_written l [] s ps before).holds ++ rest) n s ps
unfolding encode_all
bare-back l s ps shape sizes before rest says =
    let b = fields.back l [] s ps shape before sizes says rest in
    let count = fields.count l [] s ps shape before sizes says in
    rw (fields.stands l [] s ps shape before sizes says)
    (record { found = b.found; reads = b.reads ∙ ap (whole b.found) (omega (arith, count)); means = b.means })

-- ---- after a type

-- a type names one layout
same_layout : {l m : Layout} {n : InTable} → n ≡ listed l → n ≡ listed m → l ≡ m
same_layout e f = cc

module _ (cut : ℕ) (types : ℕ → InTable) (s : List ℕ) {t : Typed} (shape : Shaped types s t) (before : List ℕ) where
  -- its layout, and what is written of it
  abbrev layout : Layout
  layout = layout_of (types t.type)

  abbrev pub written : Written
  written = header_written layout (enc_of t.type) s t.pieces before

  -- a header that is read whole, from that many bytes, and is like it
  pub record HeaderBack (after : List ℕ) (n : ℕ) : Type 0 where
    pub found : Typed
    pub reads : headed_of cut types after ≡ answered found n
    pub same : Same after found s t

  pub typed-back : Writable s t → (rest : List ℕ) {n : ℕ} → written.says ≡ wrote n → HeaderBack (take n written.holds ++ rest) n
  unfolding encode_all
  typed-back w rest {n} says =
      let type = t.type in
      let ps = t.pieces in
      let bytes = enc_of type ++ encode_all s ps in
      let b = fields.back layout (enc_of type) s ps shape.fits before w.1 says rest in
      let count = fields.count layout (enc_of type) s ps shape.fits before w.1 says in
      let at = number-back (bytes ++ rest) type (leb-true type greatest w.0) (front (enc_of type) (encode_all s ps) (from_start [] bytes rest)) in
      let all : HeadedAt types (bytes ++ rest) (record { type = type; pieces = b.found }) (length (enc_of type) + length (encode (map (mean s) ps))) = record { layout = layout; next = length (enc_of type); type_at = at ∙ ap (whole type) (zero-add (length (enc_of type))); named = shape.named; fields = b.reads } in
      let ends : length (enc_of type) + length (encode (map (mean s) ps)) ≡ n = omega (arith, count, length-append (enc_of type) (encode_all s ps)) in
      rw (fields.stands layout (enc_of type) s ps shape.fits before w.1 says)
      (record {
        found = record { type = type; pieces = b.found };
        reads = joined cut types (bytes ++ rest) all ∙ ap (answered (record { type = type; pieces = b.found })) ends;
        same = record { type = refl; values = b.means };
      })

  -- its bytes are that many
  pub typed-count : Writable s t → {n : ℕ} → written.says ≡ wrote n → length (take n written.holds) ≡ n
  typed-count w says =
      ap length (fields.stands layout (enc_of t.type) s t.pieces shape.fits before w.1 says)
      ∙ sym (fields.count layout (enc_of t.type) s t.pieces shape.fits before w.1 says)

  module _ {used : ℕ} (read : headed_of cut types s ≡ answered t used) where
    -- the fields of a header that was read, after its type
    record Behind : Type 0 where
      at : ℕ
      found : scan layout s at ≡ whole t.pieces used
      short : length (enc_of t.type) ≤ at

    behind : Behind
    behind =
        let p = parts cut types s read in
        let n = number-at s 0 p.type_at in
        record { at = p.next; found = rw (same_layout shape.named p.named) p.fields; short = omega (arith, n.fits) }

    pub typed-no-longer : {n : ℕ} → written.says ≡ wrote n → n ≤ used
    typed-no-longer = fields.no_longer layout (enc_of t.type) s t.pieces shape.fits before behind.found behind.short

    pub typed-only-room : {k : ℕ} → written.says ≡ refused k → k ≡ 7
    typed-only-room = fields.only-room layout (enc_of t.type) s t.pieces shape.fits before behind.found behind.short

    pub typed-written-again : used ≤ length before → (n : ℕ) × (written.says ≡ wrote n)
    typed-written-again = fields.written-again layout (enc_of t.type) s t.pieces shape.fits before behind.found behind.short
