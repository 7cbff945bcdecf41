-- The shortest form of a field that was found is no longer than the bytes it was found in, and where it is as long it is those
-- bytes. Entries are as many as their count says and hold as many bytes as was told, and those of a namespace no more than their
-- size allows. Assumes nothing.
use Prim.Native.Nat.{ℕ, zero, suc, ◌+◌, ◌-◌, ◌≤◌}
use mathlib.Core.Path.{◌≡◌, refl, ap}
use mathlib.Core.List.{List}
use mathlib.Core.Bool.{Bool, true}
use native.Mathlib.Omega.{arith}
use lib.ListN.{length}
use Rattle.integer.specs.Integer.{greatest}
use Rattle.field.specs.Outcome.{whole}
use Rattle.field.specs.Entries.{longest_track, size, entry_at, most_of, entries_at, Listed, list_at}
use Rattle.field.specs.Fields.{FieldForm}
use Rattle.field.specs.Value.{EntryValue, entry_values, total, contents, mean, enc_items, enc_list, enc_field}
use Rattle.field.specs.declared.Kind.{Kind}
use Rattle.field.specs.declared.Kind.TheVariants.{Namespace}
use Rattle.field.specs.declared.Piece.{Piece}
use Rattle.field.proofs.Found.{steps, number-at, text_at_lem, numbered-at, entry-at}
use Rattle.field.proofs.Lengths.{length_part}
use Rattle.field.proofs.Least.{Least, least-none, least-then, least-byte, least-number, least-text, least-entry}
use Rattle.field.proofs.Pieces.{list_at_lem, FieldAt, a-number, a_byte_lem, some_bytes_lem, a-list, a-track, items-suc}

-- ---- a run of entries

-- the items of a run: as many as were asked for, holding what was told, in no fewer bytes than their shortest form
pub record RunAt (kind : Kind) (count held : ℕ) (s : List ℕ) (at : ℕ) (is : List EntryValue) (holds end : ℕ) : Type 0 where
  pub counted : length is ≡ count
  pub sum : holds ≡ held + total is
  pub least : Least s at (enc_items kind is) end
  pub within : at ≤ length s → end ≤ length s

-- every run that was found is one
pub run_at : (sized : Bool) (kind : Kind) (count held : ℕ) (s : List ℕ) (at : ℕ) {holds end : ℕ} → entries_at sized kind count held s at ≡ whole holds end → RunAt kind count held s at (entry_values kind count s at) holds end
unfolding entries_at entry_values total enc_items
run_at sized kind zero held s at {holds} {end} h =
    let same : held ≡ holds = cc in
    let stop : end ≡ at = cc in
    record { counted = refl; sum = omega arith; least = rw stop (least-none s at); within = λ k. omega arith }
run_at sized kind (suc count) held s at h =
    let most = most_of sized kind held in
    let t = steps (entry_at kind most s at) _ h in
    let e = entry-at kind most s at t.first in
    let r = run_at sized kind count (held + size t.found.bytes) s t.end t.then in
    let long = length_part s t.found.bytes (omega arith) in
    rw (items-suc kind most count s at t.first)
    (record {
      counted = ap suc r.counted;
      sum = omega (arith, r.sum);
      least = least-then (least-entry kind most s at t.first) r.least;
      within = λ k. r.within e.within;
    })

-- "namespace field bytes plus name bytes at most 4,096": each length was judged against what was left
namespace-small : (count held : ℕ) (s : List ℕ) (at : ℕ) {holds end : ℕ} → held ≤ longest_track → entries_at true Namespace count held s at ≡ whole holds end → holds ≤ longest_track
unfolding entries_at entry_at most_of
namespace-small zero held s at {holds} k h = let same : held ≡ holds = cc in omega arith
namespace-small (suc count) held s at k h =
    let t = steps (entry_at Namespace (longest_track - held) s at) _ h in
    let e = numbered-at 0 (longest_track - held) s at t.first in
    namespace-small count (held + size t.found.bytes) s t.end (omega (arith, e.is-text.short)) t.then

-- ---- a list

-- by content: as many as its count says, as many bytes held as was told
pub record ListFits (kind : Kind) (s : List ℕ) (at : ℕ) (l : Listed) (end : ℕ) : Type 0 where
  pub counted : length (contents s kind l.entries) ≡ l.entries.count
  pub sum : total (contents s kind l.entries) ≡ l.held
  pub least : Least s at (enc_list kind (contents s kind l.entries)) end
  pub within : end ≤ length s

-- every list that was found fits,
pub list-fits : (kind : Kind) (s : List ℕ) (at : ℕ) {l : Listed} {end : ℕ} → list_at kind s at ≡ whole l end → ListFits kind s at l end
unfolding enc_list
list-fits kind s at {l} {end} h =
    let t = list_at_lem kind s at h in
    let n = number-at s at t.count_at in
    let r = run_at true kind l.entries.count 0 s l.entries.start t.run in
    record {
      counted = r.counted;
      sum = omega (arith, r.sum);
      least = rw (t.ends, r.counted) (least-then (least-number s at t.count_at) r.least);
      within = rw t.ends (r.within n.within);
    }

-- and a namespace is within its size
pub held_small : (s : List ℕ) (at : ℕ) {l : Listed} {end : ℕ} → list_at Namespace s at ≡ whole l end → l.held ≤ longest_track
held_small s at {l} h = namespace-small l.entries.count 0 s l.entries.start (omega arith) (list_at_lem Namespace s at h).run

-- ---- a field

-- its shortest form is no longer, and it ends within the bytes
pub record Fits (s : List ℕ) (at : ℕ) (p : Piece) (end : ℕ) : Type 0 where
  pub least : Least s at (enc_field (mean s p)) end
  pub within : end ≤ length s

-- every field that was found fits
pub field_fits : {s : List ℕ} {at : ℕ} {form : FieldForm} {p : Piece} {end : ℕ} → FieldAt s at form p end → Fits s at p end
unfolding mean enc_field
field_fits {s} {at} (a-number e) = record { least = least-number s at e; within = (number-at s at e).within }
field_fits {s} {at} (a_byte_lem e) = record { least = least-byte s at e; within = omega arith }
field_fits {s} {at} (some_bytes_lem e) =
    let t = text_at_lem greatest s at e in
    record { least = least-text greatest s at e; within = rw t.ends t.within }
field_fits {s} {at} (a-list {kind = kind} e) = let l = list-fits kind s at e in record { least = l.least; within = l.within }
field_fits {s} {at} (a-track {l = l} {next = next} e f) =
    let most = most_of true Namespace l.held in
    let t = text_at_lem most s next f in
    record { least = least-then (list-fits Namespace s at e).least (least-text most s next f); within = rw t.ends t.within }
