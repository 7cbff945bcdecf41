-- Entries that are there, a number of them from an offset on. Assumes nothing.
use Prim.Native.Nat.{ℕ, zero, suc, ◌+◌, ◌-◌, ◌<◌}
use mathlib.Core.Path.{◌≡◌, refl}
use mathlib.Core.Bool.{false}
use mathlib.Core.List.{List, [], ◌++◌}
use native.Mathlib.Nat.{not-suc-le-zero}
use native.Mathlib.Numerals.{sub-one}
use native.Mathlib.Omega.{arith}
use lib.ListN.{length}
use Rattle.integer.specs.Integer.{greatest}
use Rattle.field.specs.Outcome.{whole, no}
use Rattle.field.specs.Entries.{size, entry_at, most_of, entries_at}
use Rattle.field.specs.Value.{entry_value, entry_values, total, enc_item, enc_items}
use Rattle.field.specs.declared.Entry.{Entry}
use Rattle.field.specs.declared.Fault.{Fault}
use Rattle.field.specs.declared.Kind.{Kind}
use Rattle.field.proofs.Shortest.{run_at}

-- entries that were found, when that many bytes were held before them
pub record Run (kind : Kind) (count : ℕ) (s : List ℕ) (at : ℕ) : Type 0 where
  pub earlier : ℕ
  pub held : ℕ
  pub end : ℕ
  pub runs : entries_at false kind count earlier s at ≡ whole held end

-- they are as many items,
pub items-length : {kind : Kind} (count : ℕ) {s : List ℕ} {at : ℕ} → Run kind count s at → length (entry_values kind count s at) ≡ count
items-length {kind} count {s} {at} r = (run_at false kind count r.earlier s at r.runs).counted

-- which hold what was counted
pub items-held : {kind : Kind} (count : ℕ) {s : List ℕ} {at : ℕ} (r : Run kind count s at) → r.held ≡ r.earlier + total (entry_values kind count s at)
items-held {kind} count {s} {at} r = (run_at false kind count r.earlier s at r.runs).sum

-- ---- the first entry, and the others

-- there is one
pub run-first : {kind : Kind} (count : ℕ) {s : List ℕ} {at : ℕ} {fault : Fault} → Run kind count s at → 0 < count → entry_at kind greatest s at ≡ no fault → ⊥
unfolding entries_at most_of
run-first zero r h e = not-suc-le-zero h
run-first (suc count) {fault = fault} r h e =
    let f : no fault ≡ whole r.held r.end = rw e at r.runs in
    let z : ◌≡◌ {A = ℕ} 0 1 = cc in
    omega arith

-- the others follow it,
pub run-next : {kind : Kind} (count : ℕ) {s : List ℕ} {at : ℕ} {e : Entry} {next : ℕ} → Run kind count s at → 0 < count → entry_at kind greatest s at ≡ whole e next → Run kind (count - 1) s next
unfolding entries_at most_of
run-next zero r h f = absurd (not-suc-le-zero h)
run-next (suc count) {e = e} r h f =
    record { earlier = r.earlier + size e.bytes; held = r.held; end = r.end; runs = rw sub-one (rw f at r.runs) }

-- also in the shortest form
pub items-next : (kind : Kind) (count : ℕ) (s : List ℕ) (at : ℕ) {e : Entry} {next : ℕ} → 0 < count → entry_at kind greatest s at ≡ whole e next → enc_items kind (entry_values kind count s at) ≡ enc_item kind (entry_value s e) ++ enc_items kind (entry_values kind (count - 1) s next)
unfolding entry_values enc_items
items-next kind zero s at h f = absurd (not-suc-le-zero h)
items-next kind (suc count) s at h f = rw (sub-one, f)

-- and where there are none, nothing is to be put
pub items-none : (kind : Kind) (s : List ℕ) (at : ℕ) → enc_items kind (entry_values kind 0 s at) ≡ []
unfolding entry_values enc_items
items-none kind s at = refl
