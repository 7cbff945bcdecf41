-- What writers leave, one after the other: the second is lent what is left after the first. Assumes nothing.
use Prim.Native.Nat.{ℕ, ◌+◌, ◌-◌, ◌≤◌, ◌<◌}
use mathlib.Core.Path.{◌≡◌, refl, sym, ap}
use mathlib.Core.List.{List, [], ◌∷◌, ◌++◌, append_assoc}
use native.Mathlib.Nat.{not-suc-le-zero}
use native.Mathlib.Omega.{arith}
use lib.ListN.{length, set, take, drop, length-append, length-drop}
use lib.Seq.{take-append_seam, drop-append_seam, drop-drop}
use Rattle.common.specs.Buffer.{Put}
use Rattle.common.proofs.Parts.{to_end, back}

-- what is left of a buffer, as it is lent on,
abbrev pub lent : ℕ → List ℕ → List ℕ
lent at out = take (length out - at) (drop at out)

-- and the buffer, when what was lent comes back as t
abbrev pub given : ℕ → List ℕ → List ℕ → List ℕ
given at out t = take at out ++ (t ++ drop (length out - at) (drop at out))

-- the buffer keeps its length
pub put-length : {x before after : List ℕ} {used : ℕ} → Put x before used after → length x ≤ length before → length after ≡ length before
put-length {x} {before} p h = omega (arith, ap length p.holds, length-append x (drop (length x) before), length-drop (length x) before)

-- whole is x and then y, and there is room for it
pub record Room (x y whole before : List ℕ) : Type 0 where
  pub joins : x ++ y ≡ whole
  pub fits : length whole ≤ length before

-- for both together
room-sum : {x y whole before : List ℕ} → Room x y whole before → length x + length y ≤ length before
room-sum {x} {y} r = omega (arith, length-append x y, ap length r.joins, r.fits)

-- there is room for the first,
pub first_fits : {x y whole before : List ℕ} → Room x y whole before → length x ≤ length before
first_fits r = omega (arith, room-sum r)

module _ {x y whole before after : List ℕ} {used : ℕ} (r : Room x y whole before) (p : Put x before used after) where
  -- the first leaves the buffer its length
  same : length after ≡ length before
  same = put-length p (first_fits r)

  -- which ends within the buffer,
  pub ends-within : used ≤ length after
  ends-within = omega (arith, p.count, same, room-sum r)

  -- and for the second in what is left,
  pub second_fits : length y ≤ length (lent used after)
  second_fits = rw to_end (omega (arith, length-drop used after, p.count, same, room-sum r))

  -- and both are no longer than the buffer,
  pub both-fit : {t : List ℕ} {more : ℕ} → Put y (lent used after) more t → used + more ≤ length before
  both-fit q = omega (arith, p.count, q.count, room-sum r)

  -- and then the whole stands there
  pub put_both : {t : List ℕ} {more : ℕ} → Put y (lent used after) more t → Put whole before (used + more) (given used after t)
  put_both {t} {more} q =
      let d : drop used after ≡ drop (length x) before = rw (p.count, p.holds) (drop-append_seam x (drop (length x) before)) in
      let f : take used after ≡ x = rw (p.count, p.holds) (take-append_seam x (drop (length x) before)) in
      record {
        count = rw (p.count, q.count, ← r.joins) (sym (length-append x y));
        holds = rw (back, q.holds, to_end, d, f, ← r.joins, drop-drop, length-append) (sym (append_assoc x y (drop (length x + length y) before)));
      }

-- ---- one byte

-- is put by one store
pub byte_put : (b : ℕ) (before : List ℕ) → 0 < length before → Put (b ∷ []) before 1 (set before 0 b)
byte_put b [] h = absurd (not-suc-le-zero h)
byte_put b (x ∷ xs) h = record { count = refl; holds = refl }
