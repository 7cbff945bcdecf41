-- Runs of entries, from some entry on: what is held and what the shortest form takes are counted on from what came before.
-- Assumes nothing.
use Prim.Native.Nat.{ℕ, zero, suc, ◌+◌, ◌-◌, ◌≤◌, ◌<◌}
use mathlib.Core.Path.{◌≡◌, sym, ◌∙◌}
use mathlib.Core.List.{List}
use mathlib.Core.Bool.{Bool}
use native.Mathlib.Nat.{add-zero, zero-add, add_assoc, not-suc-le-zero}
use native.Mathlib.Numerals.{sub-one}
use native.Mathlib.Omega.{arith}
use lib.ListN.{length, length-append}
use mir.Syntax.{w64}
use mir.Val.{Fits}
use Rattle.field.specs.Outcome.{Outcome, whole, no, and_then}
use Rattle.field.specs.Entries.{size, entry_at, entries_at, most_of}
use Rattle.field.specs.Value.{entry_values, enc_items, item_size, walk_of}
use Rattle.field.specs.declared.Fault.{Fault}
use Rattle.field.specs.declared.Entry.{Entry}
use Rattle.field.specs.declared.Kind.{Kind}
use Rattle.field.specs.declared.Sums.{Sums}
use Rattle.field.proofs.Found.{entry-at}
use Rattle.field.proofs.Unjudged.{entry-any}
use Rattle.field.proofs.Lengths.{length-entry}
use Rattle.field.proofs.Answers.{Lent}

-- ---- what is left of a run

-- count entries more, when that many bytes are held, and that many taken by the shortest form so far
unfoldable pub walk_from : Bool → Kind → ℕ → ℕ → ℕ → List ℕ → ℕ → Outcome Sums
walk_from sized kind count held taken s at =
    and_then (entries_at sized kind count held s at) λ h end.
    whole (record { end = end; held = h; size = taken + length (enc_items kind (entry_values kind count s at)) }) end

-- at the start nothing is held or taken
walk_start : (sized : Bool) (kind : Kind) (count : ℕ) (s : List ℕ) (at : ℕ) → walk_from sized kind count 0 0 s at ≡ walk_of sized kind count s at
unfolding walk_of walk_from
walk_start sized kind count s at = rw zero-add

-- no entry more
walk_none : (sized : Bool) (kind : Kind) (held taken : ℕ) (s : List ℕ) (at : ℕ) → whole (record { end = at; held = held; size = taken }) at ≡ walk_from sized kind 0 held taken s at
unfolding walk_from entries_at entry_values enc_items
walk_none sized kind held taken s at = rw add-zero

-- a fault at the next entry is the run's
walk-stop : (sized : Bool) (kind : Kind) (left held taken : ℕ) (s : List ℕ) (at : ℕ) {fault : Fault} → 0 < left → entry_at kind (most_of sized kind held) s at ≡ no fault → no fault ≡ walk_from sized kind left held taken s at
unfolding walk_from entries_at
walk-stop sized kind zero held taken s at h e = absurd (not-suc-le-zero h)
walk-stop sized kind (suc n) held taken s at h e = rw e

-- an entry is counted
walk_step : (sized : Bool) (kind : Kind) (left held taken : ℕ) (s : List ℕ) (at : ℕ) {e : Entry} {end : ℕ} → 0 < left → entry_at kind (most_of sized kind held) s at ≡ whole e end → walk_from sized kind (left - 1) (held + size e.bytes) (taken + item_size kind e.number (size e.bytes)) s end ≡ walk_from sized kind left held taken s at
unfolding walk_from entries_at entry_values enc_items
walk_step sized kind zero held taken s at h e = absurd (not-suc-le-zero h)
walk_step sized kind (suc n) held taken s at {e} h f =
    let i = entry-at kind (most_of sized kind held) s at f in
    rw (sub-one, f, entry-any kind (most_of sized kind held) s at f, length-append, length-entry kind s e (omega (arith, i.ends, i.within)), add_assoc)

-- ---- the loop that walks a run

-- what is left gives what the whole gives; neither what is held nor what the shortest form takes is more than what was read
pub record Walking (sized : Bool) (kind : Kind) (count : ℕ) (s : List ℕ) (start left here held taken : ℕ) : Type 0 where
  pub same : walk_from sized kind left held taken s here ≡ walk_of sized kind count s start
  pub holds : held ≤ here
  pub takes : taken ≤ here

-- it holds at the start
pub walking_start : (sized : Bool) (kind : Kind) (count : ℕ) (s : List ℕ) (start : ℕ) → Walking sized kind count s start count start 0 0
walking_start sized kind count s start =
    record { same = walk_start sized kind count s start; holds = omega arith; takes = omega arith }

module _ {sized : Bool} {kind : Kind} {count : ℕ} {s : List ℕ} {start left here held taken : ℕ} (w : Walking sized kind count s start left here held taken) where
  -- no entry is left,
  pub walking-end : left ≤ 0 → whole (record { end = here; held = held; size = taken }) here ≡ walk_of sized kind count s start
  walking-end h =
      let z : left ≡ 0 = omega arith in
      walk_none sized kind held taken s here ∙ rw (← z) w.same

  module _ {most : ℕ} (more : 0 < left) (judged : most ≡ most_of sized kind held) where
    -- or the next one is refused,
    pub walking-stop : {fault : Fault} → no fault ≡ entry_at kind most s here → no fault ≡ walk_of sized kind count s start
    walking-stop said = walk-stop sized kind left held taken s here more (rw judged at (sym said)) ∙ w.same

    module _ {e : Entry} (said : whole e e.bytes.end ≡ entry_at kind most s here) where
      -- or it is counted,
      pub walking-step : {k : ℕ} → k ≡ item_size kind e.number (size e.bytes) → Walking sized kind count s start (left - 1) e.bytes.end (held + size e.bytes) (taken + k)
      walking-step z =
          let i = entry-at kind most s here (sym said) in
          record {
            same = rw z (walk_step sized kind left held taken s here more (rw judged at (sym said))) ∙ w.same;
            holds = omega (arith, w.holds, i.held);
            takes = omega (arith, w.takes, i.fits);
          }

      -- and neither sum wraps
      pub walking-held : Lent s → Fits w64 (held + size e.bytes)
      walking-held h =
          let i = entry-at kind most s here (sym said) in
          omega (arith, w.holds, i.held, i.within)

      pub walking-size : {k : ℕ} → k ≡ item_size kind e.number (size e.bytes) → Lent s → Fits w64 (taken + k)
      walking-size z h =
          let i = entry-at kind most s here (sym said) in
          omega (arith, w.takes, i.fits, i.within)
