-- `put_two` meets its contract: one number, and after it the other. Assumes nothing.
use mathlib.Core.Path.{refl}
use mathlib.Core.List.{List, ◌++◌}
use Prim.Native.Nat.{ℕ, ◌≤◌}
use lib.ListN.{length}
use native.Mathlib.Omega.{arith}
use Rattle.common.proofs.Puts.{Room, first_fits, ends-within, second_fits, both-fit, put_both}
use Rattle.integer.specs.Integer.{enc_of}
use Rattle.encode.proofs.Counts.{is-counted}
use Rattle.encode.proofs.putting.put_two.Goals as goal

-- there is room for both
room : (a b : ℕ) (out : List ℕ) → length (enc_of a ++ enc_of b) ≤ length out → Room (enc_of a) (enc_of b) (enc_of a ++ enc_of b) out
room a b out h = record { joins = refl; fits = h }

pub slice_bounds-put_number-count : goal.slice_bounds-put_number-count
slice_bounds-put_number-count c = ends-within (room _ _ _ c.requires.second_in_bounds) c.put_number-a.ensures

pub put_number-a-requires : goal.put_number-a-requires
put_number-a-requires c = (c.requires.first_le_greatest.0, first_fits (room _ _ _ c.requires.second_in_bounds))

pub put_number-b-requires : goal.put_number-b-requires
put_number-b-requires c = (c.requires.first_le_greatest.1, second_fits (room _ _ _ c.requires.second_in_bounds) c.put_number-a.ensures)

pub overflow_add-result : goal.overflow_add-result
overflow_add-result c =
    is-counted (both-fit (room _ _ _ c.requires.second_in_bounds) c.put_number-a.ensures c.put_number-b.ensures) (omega arith)

pub returns : goal.returns
returns c = put_both (room _ _ _ c.requires.second_in_bounds) c.put_number-a.ensures c.put_number-b.ensures
