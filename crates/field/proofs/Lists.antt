-- A list, and a full track name, by what their parts were read as: a law for each answer. Assumes nothing.
use Prim.Native.Nat.{ℕ, ◌+◌}
use mathlib.Core.Path.{◌≡◌, refl, sym, ◌∙◌}
use mathlib.Core.List.{List}
use mathlib.Core.Bool.{Bool, true, false, not}
use lib.ListN.{length, drop}
use borrow.Author.Tests.{not-true, not-false}
use Rattle.common.specs.Answer.{whole as read, refused}
use Rattle.integer.specs.Integer.{read_of}
use Rattle.field.specs.Outcome.{Outcome, whole, no, and_then}
use Rattle.field.specs.Entries.{Listed, number_at, entry_at, entries_at, few, most_of, list_at}
use Rattle.field.specs.Fields.{field_at, list, track}
use Rattle.field.specs.Value.{enc_items, entry_values, walk_of}
use Rattle.field.specs.declared.Fault.{Fault}
use Rattle.field.specs.declared.Fault.TheVariants.{Cut, Oversize}
use Rattle.field.specs.declared.Kind.{Kind}
use Rattle.field.specs.declared.Kind.TheVariants.{Namespace}
use Rattle.field.specs.declared.Entry.{Entry}
use Rattle.field.specs.declared.Entries.{Entries}
use Rattle.field.specs.declared.Sums.{Sums}
use Rattle.field.specs.declared.Piece.TheVariants.{List as Listing, Track as Tracked}
use Rattle.field.proofs.Answers.{read_whole, read_more, numbered-text, numbered-fault}

-- ---- a count and as many entries

-- a list of the entries that were walked
abbrev listed : ℕ → ℕ → Sums → ℕ → Outcome Listed
listed first count w end = whole (record { entries = record { start = first; end = end; count = count }; held = w.held }) end

-- a list of few enough entries is what walking them gives
list-walk : (kind : Kind) (s : List ℕ) (at : ℕ) {count first : ℕ} → number_at s at ≡ whole count first → few kind count ≡ true → list_at kind s at ≡ and_then (walk_of true kind count s first) (listed first count)
unfolding list_at walk_of
list-walk kind s at {count} {first} e f = rw (e, f) (go (entries_at true kind count 0 s first))
  where
    go : (o : Outcome ℕ) → (and_then {B = Listed} o λ held end. whole (record { entries = record { start = first; end = end; count = count }; held = held }) end) ≡ and_then (and_then {B = Sums} o λ held end. whole (record { end = end; held = held; size = length (enc_items kind (entry_values kind count s first)) }) end) (listed first count)
    go (whole held end) = refl
    go (no fault) = refl

-- there is no count,
pub list-cut : (kind : Kind) (s : List ℕ) (at : ℕ) → refused 1 ≡ read_of (drop at s) → no Cut ≡ list_at kind s at
unfolding list_at
list-cut kind s at said = rw (read_more s at said)

module _ (kind : Kind) (s : List ℕ) (at : ℕ) {count used : ℕ} (said : read count used ≡ read_of (drop at s)) {b : Bool} (judged : b ≡ few kind count) where
  -- or it is over its size,
  pub list_over : not b ≡ true → no Oversize ≡ list_at kind s at
  unfolding list_at
  list_over h = rw (read_whole s at said, ← judged, not-true b h)

  module _ (fits : not b ≡ false) where
    -- (walking gives the answer)
    counted_is : {o : Outcome Sums} → o ≡ walk_of true kind count s (at + used) → and_then o (listed (at + used) count) ≡ list_at kind s at
    counted_is walked =
        rw walked (sym (list-walk kind s at (read_whole s at said) (sym judged ∙ not-false b fits)))

    -- or an entry is refused,
    pub list-no : {fault : Fault} → no fault ≡ walk_of true kind count s (at + used) → no fault ≡ list_at kind s at
    list-no walked = counted_is walked

    -- or all are there
    pub list-whole : {x : Sums} → whole x x.end ≡ walk_of true kind count s (at + used) → listed (at + used) count x x.end ≡ list_at kind s at
    list-whole walked = counted_is walked

-- ---- the field that a list is

module _ (kind : Kind) (s : List ℕ) (at : ℕ) where
  -- it is refused,
  pub field-list-no : {fault : Fault} → no fault ≡ list_at kind s at → no fault ≡ field_at (list kind) s at
  unfolding field_at
  field-list-no said = rw (sym said)

  -- or it is there
  pub field-list : {l : Entries} {held : ℕ} → whole (record { entries = l; held = held }) l.end ≡ list_at kind s at → whole (Listing kind l) l.end ≡ field_at (list kind) s at
  unfolding field_at
  field-list said = rw (sym said)

-- ---- a full track name

-- its namespace is refused,
pub track-no : (s : List ℕ) (at : ℕ) {fault : Fault} → no fault ≡ list_at Namespace s at → no fault ≡ field_at track s at
unfolding field_at
track-no s at said = rw (sym said)

module _ (s : List ℕ) (at : ℕ) {l : Entries} {held most : ℕ} (said : whole (record { entries = l; held = held }) l.end ≡ list_at Namespace s at) (judged : most ≡ most_of true Namespace held) where
  -- or its name is,
  pub track-stop : {fault : Fault} → no fault ≡ entry_at Namespace most s l.end → no fault ≡ field_at track s at
  unfolding field_at entry_at
  track-stop name = rw (sym said, ← judged, numbered-fault 0 most s l.end (sym name))

  -- or both are there
  pub track-whole : {e : Entry} → whole e e.bytes.end ≡ entry_at Namespace most s l.end → whole (Tracked (record { namespace = l; name = e.bytes })) e.bytes.end ≡ field_at track s at
  unfolding field_at entry_at
  track-whole name = rw (sym said, ← judged, numbered-text 0 most s l.end (sym name))
