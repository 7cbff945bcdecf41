-- Every part that was found by a layout lies within the bytes that were used. Assumes nothing.
use Prim.Native.Nat.{ℕ, ◌≤◌}
use mathlib.Core.Path.{◌≡◌}
use mathlib.Core.List.{List}
use mathlib.Core.Bool.{true}
use native.Mathlib.Nat.{le_refl}
use native.Mathlib.Omega.{arith}
use Rattle.integer.specs.Integer.{greatest}
use Rattle.field.specs.Outcome.{whole}
use Rattle.field.specs.Entries.{most_of, Listed, list_at, text_at}
use Rattle.field.specs.Fields.{FieldForm}
use Rattle.field.specs.declared.Span.{Span}
use Rattle.field.specs.declared.Kind.{Kind}
use Rattle.field.specs.declared.Kind.TheVariants.{Namespace}
use Rattle.field.specs.declared.Piece.{Piece}
use Rattle.field.proofs.Found.{number-at, text_at_lem}
use Rattle.field.proofs.Pieces.{list_at_lem, FieldAt, a-number, a_byte_lem, some_bytes_lem, a-list, a-track}
use Rattle.field.proofs.Shortest.{run_at, field_fits}
use Rattle.layout.specs.Layout.{Layout, scan}
use Rattle.layout.specs.Inside.{Between, Lies, Inside}
use Rattle.layout.proofs.Scanned.{Scanned, at-end, one_more, taken, left, scanned}
use Rattle.layout.proofs.Shortest.{scanned-shortest}

-- the bytes that a length names
text-lies : (most : ℕ) (s : List ℕ) (at : ℕ) {p : Span} {end : ℕ} → text_at most s at ≡ whole p end → Between at p.start p.end end
text-lies most s at h =
    let t = text_at_lem most s at h in
    let n = number-at s at t.length_at in
    record { starts = omega (arith, n.after); ordered = t.ordered; ends = omega (arith, t.ends) }

-- the entries of a list
list-lies : (kind : Kind) (s : List ℕ) (at : ℕ) {l : Listed} {end : ℕ} → list_at kind s at ≡ whole l end → Between at l.entries.start l.entries.end end
list-lies kind s at {l} h =
    let t = list_at_lem kind s at h in
    let n = number-at s at t.count_at in
    let r = run_at true kind l.entries.count 0 s l.entries.start t.run in
    record { starts = omega (arith, n.after); ordered = omega (arith, r.least.fits); ends = omega (arith, t.ends) }

-- what lies within some bytes lies within more
wider : {low at start stop end high : ℕ} → low ≤ at → end ≤ high → Between at start stop end → Between low start stop high
wider h k b = record { starts = omega arith; ordered = b.ordered; ends = omega arith }

-- the parts of a piece
field-lies : (low high : ℕ) {s : List ℕ} {at : ℕ} {form : FieldForm} {p : Piece} {end : ℕ} → low ≤ at → end ≤ high → FieldAt s at form p end → Lies low high p
unfolding Lies
field-lies low high h k (a-number e) = tt
field-lies low high h k (a_byte_lem e) = tt
field-lies low high {s} {at} h k (some_bytes_lem e) = wider h k (text-lies greatest s at e)
field-lies low high {s} {at} h k (a-list {kind = kind} e) = wider h k (list-lies kind s at e)
field-lies low high {s} {at} h k (a-track {l = l} {next = next} e f) =
    let most = most_of true Namespace l.held in
    let b = list-lies Namespace s at e in
    let c = text-lies most s next f in
    let reach : next ≤ high = omega (arith, c.starts, c.ordered, c.ends) in
    (wider h reach b, wider b.ends k c)

-- the parts of all pieces: those of the first end before the rest begins
all-inside : (low : ℕ) {s : List ℕ} {l : Layout} {at : ℕ} {ps : List Piece} {end : ℕ} → low ≤ at → Scanned s l at ps end → Inside low end ps
unfolding Inside
all-inside low h at-end = tt
all-inside low {end = end} h (one_more f r) =
    let g = field_fits f in
    let k = scanned-shortest r in
    (field-lies low end h (omega (arith, k.least.fits)) f, all-inside low (omega (arith, g.least.fits)) r)
all-inside low h (taken r) = all-inside low h r
all-inside low h (left r) = all-inside low h r

-- Every part that was found lies within the bytes used.
pub inside : (l : Layout) (s : List ℕ) (at : ℕ) {ps : List Piece} {end : ℕ} → scan l s at ≡ whole ps end → Inside at end ps
inside l s at h = all-inside at (le_refl at) (scanned l s at h)
