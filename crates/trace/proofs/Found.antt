-- A field at an offset, by the bytes from there on: when there is none, and which it is. Assumes nothing.
use Rattle.std.proofs.Common.{◌≡◌, ℕ, ◌+◌, ◌-◌, ◌*◌, ◌<◌, ◌≤◌, List, length, drop, refl, ◌∙◌, arith, length-drop}
use Rattle.std.specs.Prelude.{Some, None, get_or}
use Rattle.std.specs.List.{slice_range}
use borrow.Author.Tests.{le-leb, lt-leb}
use lib.Seq.{take_all}
use Rattle.trace.specs.Fields.{number_of_tag, field_size, is_whole, field_of}

-- the bytes from an offset on
pub from-offset : (s : List ℕ) (at : ℕ) {rest : List ℕ} → rest ≡ slice_range s at (length s) → rest ≡ drop at s
from-offset s at is = is ∙ take_all (length s - at) (drop at s) (omega (arith, length-drop at s))

-- an offset after the end has none
pub past_end : (s : List ℕ) (at : ℕ) → length s < at → None ≡ field_of s at
unfolding field_of is_whole
past_end s at h = rw (lt-leb 3 (length (drop at s)) (omega (arith, length-drop at s))) refl

module _ (s : List ℕ) (at : ℕ) {rest : List ℕ} (is : rest ≡ slice_range s at (length s)) where
  -- bytes that end before the third are none,
  pub no_head : length rest < 3 → None ≡ field_of s at
  unfolding field_of is_whole
  no_head h = rw (← from-offset s at is, lt-leb 3 (length rest) h) refl

  -- nor are those that end before their size;
  pub no_value : {size : ℕ} → size ≡ get_or rest 1 0 * 256 + get_or rest 2 0 → 3 ≤ length rest → length rest < 3 + size → None ≡ field_of s at
  unfolding field_of is_whole field_size
  no_value e k h = rw (← from-offset s at is, ← e, le-leb 3 (length rest) k, lt-leb _ (length rest) h) refl

  -- else it is there
  pub there : {size : ℕ} → size ≡ get_or rest 1 0 * 256 + get_or rest 2 0 → 3 ≤ length rest → 3 + size ≤ length rest → Some (record { tag = get_or rest 0 0; start = at + 3; end = at + (3 + size) }) ≡ field_of s at
  unfolding field_of is_whole field_size number_of_tag
  there e k h = rw (← from-offset s at is, ← e, le-leb 3 (length rest) k, le-leb _ (length rest) h) refl
