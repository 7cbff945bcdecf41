-- Fields after what stands before them, their type or nothing: what is written of them reads back, and what was read is written
-- again. For every layout. Assumes nothing.
use Prim.Native.Nat.{ℕ, ◌≤◌}
use mathlib.Core.Path.{◌≡◌, refl, ◌∙◌}
use mathlib.Core.Bool.{true}
use mathlib.Core.List.{List, ◌++◌, map, append_assoc}
use native.Mathlib.Omega.{arith}
use lib.ListN.{length, take, drop, length-append}
use lib.Seq.{take-append_seam}
use Rattle.common.specs.Answer.{wrote, refused}
use Rattle.common.specs.Choice.{both}
use Rattle.common.proofs.Tests.{both-each}
use Rattle.field.specs.Outcome.{whole}
use Rattle.field.specs.Value.{mean}
use Rattle.field.specs.declared.Piece.{Piece}
use Rattle.field.proofs.Back.{from_start}
use Rattle.layout.specs.Layout.{Layout, scan}
use Rattle.layout.specs.Allowed.{allowed}
use Rattle.layout.proofs.Back.{ScanBack, scan-back}
use Rattle.layout.proofs.Allowed.{read-allowed}
use Rattle.layout.proofs.Scanned.{scanned}
use Rattle.layout.proofs.Shortest.{scanned-shortest}
use Rattle.measure.specs.Measuring.{right_all, sized_all, encode_all}
use Rattle.encode.proofs.Good.{all-good}
use Rattle.encode.proofs.Again.{scanned-right}
use Rattle.encode.proofs.Fitting.{fitting-permitted}
use Rattle.encode.proofs.ChecksPassed.{Wrote, was-written, Passes}
use Rattle.encode.proofs.ChecksPassed as passed
use Rattle.header_writer.specs.Writing.{header_written}
use Rattle.header_writer.proofs.Shape.{Fits}

module _ (l : Layout) (front s : List ℕ) (ps : List Piece) (shape : Fits l s ps) (before : List ℕ) where
  -- ---- what is written

  module _ (sizes : sized_all s ps ≡ true) {n : ℕ} (says : (header_written l front s ps before).says ≡ wrote n) where
    -- passed every check
    was : Wrote (both (allowed l ps) (right_all s ps)) true true (front ++ encode_all s ps) before (header_written l front s ps before) n
    unfolding header_written
    was = was-written (both (allowed l ps) (right_all s ps)) true true (front ++ encode_all s ps) before says

    -- It is that many bytes,
    pub count : n ≡ length (front ++ encode_all s ps)
    count = was.used

    -- which stand at the front of the buffer,
    pub stands : take n (header_written l front s ps before).holds ≡ front ++ encode_all s ps
    stands =
        let bytes = front ++ encode_all s ps in
        rw (count, was.holds) (take-append_seam bytes (drop (length bytes) before))

    -- and whatever follows them, the fields are read back after what stands before them.
    pub back : (rest : List ℕ) → ScanBack l ((front ++ encode_all s ps) ++ rest) (length front) (map (mean s) ps)
    unfolding encode_all
    back rest =
        let vs = map (mean s) ps in
        let p = both-each (allowed l ps) (right_all s ps) was.is_right_lem in
        let ok = fitting-permitted l vs (shape ∙ p.0) (all-good s ps p.1 sizes) in
        rw (append_assoc front (encode_all s ps) rest) (scan-back l vs (front ++ (encode_all s ps ++ rest)) ok (from_start front (encode_all s ps) rest))

  -- ---- what was read

  module _ {at used : ℕ} (found : scan l s at ≡ whole ps used) (short : length front ≤ at) where
    -- passes every check,
    passes : Passes (both (allowed l ps) (right_all s ps)) true true (front ++ encode_all s ps) used
    unfolding encode_all
    passes =
        let best = scanned-shortest (scanned l s at found) in
        record {
          is_right_lem = rw (read-allowed l s at found) (scanned-right l s at found).0;
          is-sized = refl;
          is-short = refl;
          fits = rw length-append (omega (arith, best.least.fits));
        }

    -- so it is written into no more bytes,
    pub no_longer : {n : ℕ} → (header_written l front s ps before).says ≡ wrote n → n ≤ used
    unfolding header_written
    no_longer = passed.no_more passes before

    -- and refused for want of room only,
    pub only-room : {k : ℕ} → (header_written l front s ps before).says ≡ refused k → k ≡ 7
    unfolding header_written
    only-room = passed.only-room passes before

    -- where there is less than it was read from
    pub written-again : used ≤ length before → (n : ℕ) × ((header_written l front s ps before).says ≡ wrote n)
    unfolding header_written
    written-again = passed.written_then passes before
