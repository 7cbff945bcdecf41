-- What the loops meet at a turn: the next byte, and the others. Assumes nothing.
use Prim.Native.Nat.{ℕ, suc, ◌+◌, ◌-◌, ◌≤◌, ◌<◌}
use mathlib.Core.Path.{◌≡◌, refl, ◌∙◌}
use mathlib.Core.Bool.{Bool, true, false, ◌&&◌}
use native.Mathlib.Omega.{arith}
use mathlib.Core.List.{List, [], ◌∷◌}
use native.Mathlib.Numerals.{add-one}
use lib.ListN.{length, get_or, take, drop, drop_of_length-le, length-drop}
use Rattle.std.proofs.lemmas.List.{take_all}
use lib.Seq.{drop-cons}
use Rattle.common.specs.Choice.{both}
use Rattle.common.proofs.PutLoop.{Next}
use Rattle.columns.specs.Columns.{spaces, hex_byte, hex_after, hex_bytes, is_printable, is_text}
use Rattle.columns.proofs.HexDigits.{hex-some}
use Rattle.std.specs.List.{list_all}

-- one space fewer is left
pub space-next : (count i : ℕ) → i < count → Next (32 ∷ []) (spaces (count - (i + 1))) (spaces (count - i))
space-next count i h =
    let e : count - i ≡ suc (count - (i + 1)) = omega arith in
    record { joins = rw e }

module _ (s : List ℕ) (i : ℕ) where
  module _ (h : i < length s) where
    next : drop i s ≡ get_or s i 0 ∷ drop (i + 1) s
    next = rw (add-one i, drop-cons s i 0 h)

    pub byte_next : Next (get_or s i 0 ∷ []) (drop (i + 1) s) (drop i s)
    byte_next = record { joins = next }

    pub hex-next : Next (32 ∷ hex_byte (get_or s i 0)) (hex_after (drop (i + 1) s)) (hex_after (drop i s))
    unfolding hex_after
    hex-next = record { joins = rw next }

  -- none is left
  module _ (h : length s ≤ i) where
    pub byte_last : drop i s ≡ []
    byte_last = drop_of_length-le s h

    pub hex-last : hex_after (drop i s) ≡ []
    unfolding hex_after
    hex-last = rw byte_last

-- the first byte, and the others
pub hex-first : (s : List ℕ) → 0 < length s → Next (hex_byte (get_or s 0 0)) (hex_after (take (length s - 1) (drop 1 s))) (hex_bytes s)
hex-first s h = record { joins = hex-some s h ∙ rw (take_all (length s - 1) (drop 1 s) (omega (arith, length-drop 1 s))) }

-- bytes are text where each is printable
pub all-printable : (s : List ℕ) → list_all is_printable s ≡ is_text s
unfolding is_text
all-printable [] = refl
all-printable (b ∷ s) = rw (← all-printable s) (joined (is_printable b) (list_all is_printable s))
  where
    joined : (a b : Bool) → (a && b) ≡ both a b
    joined true b = refl
    joined false b = refl
