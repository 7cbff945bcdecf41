-- 01's sizes, tested by what is left of them. Assumes nothing.
use Prim.Native.Nat.{ℕ, ◌+◌, ◌-◌, ◌≤◌, ◌<◌}
use mathlib.Core.Path.{◌≡◌, refl, sym}
use mathlib.Core.Bool.{Bool, true, false}
use native.Mathlib.Omega.{arith}
use borrow.Author.Tests.{le-leb, lt-leb, leb-true, leb-false}
use lib.Dec.{leb}
use Rattle.field.specs.Entries.{longest_track}
use Rattle.field.specs.declared.Kind.{Kind}
use Rattle.field.specs.declared.Kind.TheVariants.{Namespace}
use Rattle.layout.specs.Permitted.{within}

-- a sum is within a bound where its second part is within what the first leaves
sum-within : (held also most : ℕ) → held ≤ most → leb also (most - held) ≡ leb (held + also) most
sum-within held also most h = go (leb also (most - held)) refl
  where
    go : (t : Bool) → leb also (most - held) ≡ t → t ≡ leb (held + also) most
    go true e = sym (le-leb (held + also) most (omega (arith, leb-true also (most - held) e)))
    go false e = sym (lt-leb (held + also) most (omega (arith, leb-false also (most - held) e)))

module _ {kind : Kind} (held also : ℕ) (e : kind ≡ Namespace) where
  -- the fields of a namespace hold too much by themselves
  pub namespace-over : longest_track < held → false ≡ within kind (held + also)
  unfolding within
  namespace-over h = rw e (sym (lt-leb (held + also) longest_track (omega arith)))

  -- or the name is tested by what they leave
  pub namespace-left : held ≤ longest_track → leb also (longest_track - held) ≡ within kind (held + also)
  unfolding within
  namespace-left h = rw e (sum-within held also longest_track h)
