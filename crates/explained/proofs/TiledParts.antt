-- The parts that are told stand one behind the other, without a gap, up to where the answer says. Assumes nothing.
use Prim.Native.Nat.{ℕ, ◌+◌, ◌-◌, ◌≤◌}
use mathlib.Core.Path.{◌≡◌, refl}
use mathlib.Core.List.{List}
use native.Mathlib.Nat.{le_refl}
use native.Mathlib.Omega.{arith}
use lib.ListN.{length, get_or}
use lib.Dec.{ltb}
use borrow.Author.Tests.{ltb-true}
use Rattle.common.specs.Answer.{whole}
use Rattle.common.proofs.Cases.{pick-by, pick-le, apart}
use Rattle.field.specs.Outcome.{Outcome, whole as found, no, on_found, fault_number}
use Rattle.field.specs.Entries.{number_at}
use Rattle.field.proofs.Found.{number-at}
use Rattle.layout.specs.declared.FieldName.{FieldName}
use Rattle.parts.specs.Telling.{part_of}
use Rattle.parts.specs.declared.What.{What}
use Rattle.parts.specs.declared.What.TheVariants.{Byte as AByte}
use Rattle.explained.specs.Grammar.{Parts, end, stop, a_number, a_byte, some_bytes}
use Rattle.explained.specs.Explaining.{Explained, taking, refusing, first, cut_at, explain}
use Rattle.explained.specs.Tiling.{Tiles, none, next as one_more}

-- parts that stand from an offset up to another, which is at most a size; where the answer is whole, it tells that one
pub record Tiled (size at : ℕ) (e : Explained) : Type 0 where
  pub last : ℕ
  pub tiles : Tiles at e.parts last
  pub reach : last ≤ size
  pub tells : (used : ℕ) → e.answer ≡ whole tt used → last ≡ used

-- so they stand up to the offset that a whole answer tells,
pub tiles-whole : {size at used : ℕ} {e : Explained} → Tiled size at e → e.answer ≡ whole tt used → Tiles at e.parts used
tiles-whole {used = used} t h = rw (t.tells used h) at t.tiles

-- and up to some that is within the size
pub tiles-within : {size at : ℕ} {e : Explained} → Tiled size at e → (end : ℕ) × (Tiles at e.parts end) × (end ≤ size)
tiles-within t = (t.last, t.tiles, t.reach)

-- within a greater one too
pub farther : {size more at : ℕ} {e : Explained} → size ≤ more → Tiled size at e → Tiled more at e
farther h t = record { last = t.last; tiles = t.tiles; reach = omega (arith, t.reach); tells = t.tells }

-- no part,
pub taking-tiled : {size : ℕ} (at : ℕ) → at ≤ size → Tiled size at (taking at)
taking-tiled at h = record { last = at; tiles = none; reach = h; tells = λ used e. cc }

pub refusing-tiled : {size : ℕ} (at number : ℕ) → at ≤ size → Tiled size at (refusing number)
refusing-tiled at number h = record { last = at; tiles = none; reach = h; tells = λ used e. absurd (apart e) }

-- and one more
pub first-tiled : {size : ℕ} (name : FieldName) (what : What) (value at mid : ℕ) {e : Explained} → at ≤ mid → Tiled size mid e → Tiled size at (first (part_of name what value at mid) e)
first-tiled name what value at mid h t =
    record { last = t.last; tiles = one_more {p = part_of name what value at mid} h t.tiles; reach = t.reach; tells = t.tells }

-- the bytes end in a part
pub cut-tiled : (cut : ℕ) (name : FieldName) (what : What) (s : List ℕ) (at : ℕ) → at ≤ length s → Tiled (length s) at (cut_at cut name what s at)
cut-tiled cut name what s at h =
    first-tiled name what 0 at (length s) h (refusing-tiled (length s) cut (le_refl (length s)))

-- an integer, and what follows it
pub number-tiled : (cut : ℕ) (name : FieldName) (what : What) (s : List ℕ) (at : ℕ) (rest : ℕ → ℕ → Explained) → at ≤ length s → ((n mid : ℕ) → mid ≤ length s → Tiled (length s) mid (rest n mid))
    → Tiled (length s) at (on_found (number_at s at) (cut_at cut name what s at) (λ n mid. first (part_of name what n at mid) (rest n mid)))
number-tiled cut name what s at rest h k = go (number_at s at) refl
  where
    go : (o : Outcome ℕ) → number_at s at ≡ o → Tiled (length s) at (on_found o (cut_at cut name what s at) (λ n mid. first (part_of name what n at mid) (rest n mid)))
    go (found n mid) e =
        let m = number-at s at e in
        first-tiled name what n at mid (omega (arith, m.after)) (k n mid m.within)
    go (no fault) e = cut-tiled cut name what s at h

-- all parts
pub parts-tiled : (cut : ℕ) (ps : Parts) (s : List ℕ) (at : ℕ) → at ≤ length s → Tiled (length s) at (explain cut ps s at)
unfolding explain
parts-tiled cut end s at h = taking-tiled at h
parts-tiled cut (stop fault) s at h = refusing-tiled at (fault_number cut fault) h
parts-tiled cut (a_number name what next) s at h =
    number-tiled cut name what s at (λ n mid. explain cut (next n) s mid) h (λ n mid k. parts-tiled cut (next n) s mid k)
parts-tiled cut (a_byte name next) s at h =
    pick-by (Tiled (length s) at) (ltb at (length s))
    (λ e. let k : at + 1 ≤ length s = omega (arith, ltb-true at (length s) e) in
    first-tiled name AByte (get_or s at 0) at (at + 1) (omega arith) (parts-tiled cut (next (get_or s at 0)) s (at + 1) k))
    (λ e. cut-tiled cut name AByte s at h)
parts-tiled cut (some_bytes name what n next) s at h =
    pick-le (Tiled (length s) at) n (length s - at)
    (λ k. first-tiled name what 0 at (at + n) (omega arith) (parts-tiled cut next s (at + n) (omega arith)))
    (λ k. cut-tiled cut name what s at h)
