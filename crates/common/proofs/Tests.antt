-- Tests: two as one, one that picks, and one by what was told of it. Assumes nothing.
use Prim.Native.Nat.{ℕ}
use mathlib.Core.Path.{◌≡◌, refl, sym, ◌∙◌}
use mathlib.Core.Bool.{Bool, true, false, not}
use native.Mathlib.Omega.{arith}
use borrow.Author.Tests.{le-leb, lt-leb, eq-eqb, ne_eqb, not-true, not-false}
use Rattle.common.specs.Choice.{pick, both}

-- ---- two as one

-- where both hold, the first does,
pub both_first : (a b : Bool) → both a b ≡ true → a ≡ true
both_first true b e = refl
both_first false b e = e

-- and the second
pub both-second : (a b : Bool) → both a b ≡ true → b ≡ true
both-second true b e = e
both-second false b e = absurd (let z : ◌≡◌ {A = ℕ} 0 1 = cc in omega arith)

-- so each does
pub both-each : (a b : Bool) → both a b ≡ true → (a ≡ true) × (b ≡ true)
both-each a b e = (both_first a b e, both-second a b e)

-- a second test that always holds adds nothing,
pub both_true : (a : Bool) → both a true ≡ a
both_true true = refl
both_true false = refl

-- and one that never holds leaves nothing
pub both_false : (a : Bool) → both a false ≡ false
both_false true = refl
both_false false = refl

-- three tests, by two and one or by one and two
pub both-joined : (a b d : Bool) → both (both a b) d ≡ both a (both b d)
both-joined true b d = refl
both-joined false b d = refl

-- ---- one that picks

-- what is picked of true and false is the test
pub test-alone : (a : Bool) → pick a true false ≡ a
test-alone true = refl
test-alone false = refl

-- ---- one by what was told of it

-- a rule that is kept, and one that is not
pub kept : {b t : Bool} → b ≡ t → not b ≡ false → t ≡ true
kept {b} e h = sym e ∙ not-false b h

pub broken : {b t : Bool} → b ≡ t → not b ≡ true → t ≡ false
broken {b} e h = sym e ∙ not-true b h

-- for a search
pub ruleset tests = (le-leb, lt-leb, eq-eqb, ne_eqb, kept, broken)
