-- The written bytes are the only shortest form of a header, of each header that has one form for what was read. Assumes nothing.
use Prim.Native.Nat.{ℕ}
use mathlib.Core.Path.{◌≡◌, sym, ap, ◌∙◌}
use mathlib.Core.Bool.{Bool, true}
use mathlib.Core.List.{List, [], ◌++◌}
use native.Mathlib.Omega.{arith}
use lib.ListN.{length, take, drop}
use lib.Seq.{take-append_seam}
use Rattle.common.specs.Answer.{Answer, whole as answered, wrote, Written}
use Rattle.integer.specs.Integer.{enc_of}
use Rattle.field.specs.Outcome.{whole, answer}
use Rattle.field.specs.declared.Piece.{Piece}
use Rattle.field.proofs.Least.{Least, least-then, least-number}
use Rattle.layout.specs.Layout.{Layout, scan}
use Rattle.layout.specs.Typed.{Typed}
use Rattle.layout.specs.Same.{Same}
use Rattle.layout.proofs.Scanned.{scanned}
use Rattle.layout.proofs.Shortest.{scanned-shortest}
use Rattle.measure.specs.Measuring.{encode_all}
use Rattle.encode.proofs.ChecksPassed.{was-written}
use Rattle.encode.proofs.Alike.{wrote-bytes, encoded-alike}
use Rattle.header.specs.Layouts.{InTable, layout_of}
use Rattle.header.specs.Reading.{headed_of}
use Rattle.header_writer.specs.Writing.{header_written}
use Rattle.header_writer.specs.Laws.{Codec, Shortest}
use Rattle.header_writer.specs.Codecs.{untyped}
use Rattle.header.proofs.Front.{was-whole, parts}

-- ---- one form

-- that many bytes stand at the front of a buffer
pub record Stands (w : Written) (bytes : List ℕ) (n : ℕ) : Type 0 where
  pub used : n ≡ length bytes
  pub there : take n w.holds ≡ bytes

-- a form for what was read: it is what is written, no shorter bytes are read so, and what is the same has the same form
pub record Form {A B : Type 0} (c : Codec A B) : Type 0 where
  pub form : List ℕ → B → List ℕ
  pub written : (s : List ℕ) (a : A) (before : List ℕ) {n : ℕ} → (c.write_of s a before).says ≡ wrote n → Stands (c.write_of s a before) (form s (c.fields a)) n
  pub least : (s : List ℕ) {b : B} {used : ℕ} → c.read_of s ≡ answered b used → Least s 0 (form s b) used
  pub alike : (s r : List ℕ) (a b : B) → Same s (c.typed a) r (c.typed b) → form s a ≡ form r b

-- is the only shortest
pub shortest : {A B : Type 0} (c : Codec A B) → Form c → Shortest c
shortest c f =
    record {
      none-shorter = λ s a before b says r.
          let w = f.written s a before says in
          omega (arith, (f.least b r.reads).fits, w.used, ap length (f.alike b s r.found (c.fields a) r.same));
      only_one = λ s a before b {n} {used} says r o e.
          let w = f.written s a before says in
          let same = f.alike b s r.found (c.fields a) r.same in
          let whole_of = f.form b r.found in
          let size : used ≡ length whole_of = omega (arith, w.used, ap length same) in
          let is : b ≡ whole_of ++ drop used b = (f.least b r.reads).is o (omega arith) in
          ap (take used) is ∙ ap (λ (k : ℕ). take k (whole_of ++ drop used b)) size ∙ take-append_seam whole_of (drop used b) ∙ same ∙ sym w.there;
    }

-- ---- fields after what stands before them

-- what is written of them
header-stands : (l : Layout) (front s : List ℕ) (ps : List Piece) (before : List ℕ) {n : ℕ} → (header_written l front s ps before).says ≡ wrote n → Stands (header_written l front s ps before) (front ++ encode_all s ps) n
unfolding header_written
header-stands l front s ps before h = let w = was-written _ _ _ _ before h in record { used = w.used; there = wrote-bytes w }

-- and what they are read from
fields-least : (l : Layout) (s : List ℕ) (at : ℕ) {ps : List Piece} {end : ℕ} → scan l s at ≡ whole ps end → Least s at (encode_all s ps) end
unfolding encode_all
fields-least l s at h = (scanned-shortest (scanned l s at h)).least

-- ---- a header without a type

pub bare-form : {A : Type 0} (l : Layout) (said : A → List Piece) → Form (record { fields = said; typed = untyped; read_of = λ s. answer 1 (scan l s 0); write_of = λ s a before. header_written l [] s (said a) before; takes_more = λ _. true })
bare-form l said =
    record {
      form = encode_all;
      written = λ s a before says. header-stands l [] s (said a) before says;
      least = λ s read. fields-least l s 0 (was-whole (scan l s 0) read);
      alike = λ s r a b e. encoded-alike s r a b e.values;
    }

-- ---- a header after its type

pub typed-form : {A : Type 0} (cut : ℕ) (types : ℕ → InTable) (said : A → Typed) (takes_more : A → Bool) (read_of : List ℕ → Answer Typed) → ((s : List ℕ) (t : Typed) (used : ℕ) → read_of s ≡ answered t used → headed_of cut types s ≡ answered t used)
    → Form (record { fields = said; typed = λ t. t; read_of = read_of; write_of = λ s a before. header_written (layout_of (types (said a).type)) (enc_of (said a).type) s (said a).pieces before; takes_more = takes_more })
typed-form cut types said takes_more read_of heads =
    record {
      form = λ s t. enc_of t.type ++ encode_all s t.pieces;
      written = λ s a before says. header-stands (layout_of (types (said a).type)) (enc_of (said a).type) s (said a).pieces before says;
      least = λ s {b} {used} read.
          let p = parts cut types s (heads s b used read) in
          least-then (least-number s 0 p.type_at) (fields-least p.layout s p.next p.fields);
      alike = λ s r a b e. rw (e.type, encoded-alike s r a.pieces b.pieces e.values);
    }
