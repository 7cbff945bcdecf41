-- Bytes that are fed one by one come to the fields that stand among them, however they are cut. Assumes nothing.
use Prim.Native.Nat.{ℕ, zero, suc, ◌≤◌, ◌<◌}
use mathlib.Core.Path.{◌≡◌, refl, sym, ap, ◌∙◌}
use mathlib.Core.Bool.{Bool, true, false}
use mathlib.Core.List.{List, [], ◌∷◌, ◌++◌}
use native.Mathlib.Nat.{not-suc-le-zero}
use native.Mathlib.Omega.{arith}
use borrow.Author.Tests.{le-leb, lt-leb, leb-true, leb-false}
use lib.Dec.{leb}
use lib.ListN.{length, get_or, take, drop, take-append-drop, length-drop}
use lib.Seq.{length-take-le, get_or-take, take-suc, take_all}
use Rattle.common.specs.Choice.{both}
use Rattle.trace.specs.Fields.{field_size, is_whole}
use Rattle.trace.specs.Feeding.{Held, feed_byte, feed}

-- true is not false
differ : true ≡ false → ⊥
differ e = let z : ◌≡◌ {A = ℕ} 0 1 = cc in omega arith

-- ---- what begins a field

-- three bytes tell its size
pub size-take : (k : ℕ) (s : List ℕ) → 3 ≤ k → field_size (take k s) ≡ field_size s
unfolding field_size
size-take k s h = rw (get_or-take k s 1 0 (omega arith), get_or-take k s 2 0 (omega arith))

-- fewer bytes than three, or than its size, are none yet
not_yet : (s : List ℕ) (k : ℕ) → k ≤ length s → (3 ≤ k → k < field_size s) → is_whole (take k s) ≡ false
unfolding is_whole
not_yet s k fits less = go (leb 3 k) refl
  where
    len : length (take k s) ≡ k
    len = length-take-le k s fits

    go : (b : Bool) → leb 3 k ≡ b → both (leb 3 (length (take k s))) (leb (field_size (take k s)) (length (take k s))) ≡ false
    go false e = rw (len, e)
    go true e =
        let h = leb-true 3 k e in
        rw (len, e, size-take k s h, lt-leb (field_size s) k (less h))

-- bytes at whose front a field stands have three, and its size
pub whole-fits : (s : List ℕ) → is_whole s ≡ true → (3 ≤ length s) × (field_size s ≤ length s)
unfolding is_whole
whole-fits s e = go (leb 3 (length s)) refl (leb (field_size s) (length s)) refl
  where
    go : (b : Bool) → leb 3 (length s) ≡ b → (d : Bool) → leb (field_size s) (length s) ≡ d → (3 ≤ length s) × (field_size s ≤ length s)
    go true f true g = (leb-true 3 (length s) f, leb-true (field_size s) (length s) g)
    go true f false g = absurd (differ (sym (rw (f, g) at e)))
    go false f d g = absurd (differ (sym (rw f at e)))

-- and where none stands they have less than its size
pub cut_short : (s : List ℕ) → is_whole s ≡ false → 3 ≤ length s → length s < field_size s
unfolding is_whole
cut_short s e h = go (leb (field_size s) (length s)) refl
  where
    go : (d : Bool) → leb (field_size s) (length s) ≡ d → length s < field_size s
    go true g = absurd (differ (rw (le-leb 3 (length s) h, g) at e))
    go false g = leb-false (field_size s) (length s) g

-- a size is three at least
pub size-head : (s : List ℕ) → 3 ≤ field_size s
unfolding field_size
size-head s = omega arith

-- a field is whole with its last byte
whole-then : (s : List ℕ) → is_whole s ≡ true → is_whole (take (field_size s) s) ≡ true
unfolding is_whole
whole-then s e =
    let w = whole-fits s e in
    let len = length-take-le (field_size s) s w.1 in
    rw (len, size-take (field_size s) s (size-head s), le-leb 3 (field_size s) (size-head s), le-leb (field_size s) (field_size s) (omega arith))

-- ---- feeding

module _ {A : Type 0} (step : A → List ℕ → A) where
  abbrev holding : A → List ℕ → Held A
  holding a rest = record { so_far = a; rest = rest }

  -- It doesn't matter where bytes are cut.
  pub feed-cut : (h : Held A) (s t : List ℕ) → feed step h (s ++ t) ≡ feed step (feed step h s) t
  unfolding feed
  feed-cut h [] t = refl
  feed-cut h (byte ∷ s) t = feed-cut (feed_byte step h byte) s t

  -- one byte more
  feed-one : (h : Held A) (byte : ℕ) → feed step h (byte ∷ []) ≡ feed_byte step h byte
  unfolding feed
  feed-one h byte = refl

  -- as long as no field is whole, the bytes are held
  feed-part : (a : A) (s : List ℕ) (n : ℕ) → n ≤ length s → ((k : ℕ) → k ≤ n → is_whole (take k s) ≡ false) → feed step (holding a []) (take n s) ≡ holding a (take n s)
  unfolding feed feed_byte
  feed-part a s zero h none = refl
  feed-part a s (suc n) h none =
      let e = take-suc s n 0 (omega arith) in
      rw (e, feed-cut (holding a []) (take n s) (get_or s n 0 ∷ []), feed-part a s n (omega arith) (λ k l. none k (omega arith)), feed-one (holding a (take n s)) (get_or s n 0), ← e, none (suc n) (omega arith))

  -- and with its last byte a field is a step
  feed-field : (a : A) (s : List ℕ) (n : ℕ) → suc n ≤ length s → ((k : ℕ) → k ≤ n → is_whole (take k s) ≡ false) → is_whole (take (suc n) s) ≡ true → feed step (holding a []) (take (suc n) s) ≡ holding (step a (take (suc n) s)) []
  unfolding feed_byte
  feed-field a s n h none now =
      let e = take-suc s n 0 (omega arith) in
      rw (e, feed-cut (holding a []) (take n s) (get_or s n 0 ∷ []), feed-part a s n (omega arith) none, feed-one (holding a (take n s)) (get_or s n 0), ← e, now)

  -- ---- what stands at the front of bytes

  -- Where no field does, all bytes are held.
  pub fed-none : (a : A) (s : List ℕ) → is_whole s ≡ false → feed step (holding a []) s ≡ holding a s
  fed-none a s e =
      let all = take_all (length s) s (omega arith) in
      ap (feed step (holding a [])) (sym all)
      ∙ feed-part a s (length s) (omega arith) (λ k h. not_yet s k h (λ three. omega (arith, cut_short s e (omega arith))))
      ∙ ap (holding a) all

  -- Where one does, it is a step, and what is after it is fed on.
  pub fed-field : (a : A) (s : List ℕ) → is_whole s ≡ true → feed step (holding a []) s ≡ feed step (holding (step a (take (field_size s) s)) []) (drop (field_size s) s)
  fed-field a s e = go (field_size s) refl
    where
      go : (n : ℕ) → field_size s ≡ n → feed step (holding a []) s ≡ feed step (holding (step a (take n s)) []) (drop n s)
      go zero z = absurd (not-suc-le-zero (rw z at (size-head s)))
      go (suc n) z =
          let w = whole-fits s e in
          ap (feed step (holding a [])) (sym (take-append-drop (suc n) s))
          ∙ feed-cut (holding a []) (take (suc n) s) (drop (suc n) s)
          ∙ ap (λ (h : Held A). feed step h (drop (suc n) s)) (feed-field a s n (omega (arith, w.1)) (λ k h. not_yet s k (omega (arith, w.1)) (λ three. omega arith)) (rw z at (whole-then s e)))

  -- ---- what holds of bytes however many fields they have

  -- It holds of what is fed where it holds of bytes with no field at their front, and of bytes with one as soon as it holds of what
  -- is after that.
  module _
      (P : A → List ℕ → Held A → Type 0)
      (none : (a : A) (s : List ℕ) → is_whole s ≡ false → P a s (holding a s))
      (more : (a : A) (s : List ℕ) (h : Held A) → is_whole s ≡ true → P (step a (take (field_size s) s)) (drop (field_size s) s) h → P a s h)
    where
      front : (a : A) (s : List ℕ) → (is_whole s ≡ true → P (step a (take (field_size s) s)) (drop (field_size s) s) (feed step (holding (step a (take (field_size s) s)) []) (drop (field_size s) s))) → P a s (feed step (holding a []) s)
      front a s behind = go (is_whole s) refl
        where
          go : (b : Bool) → is_whole s ≡ b → P a s (feed step (holding a []) s)
          go false e = rw (fed-none a s e) (none a s e)
          go true e = rw (fed-field a s e) (more a s _ e (behind e))

      up_to : (n : ℕ) (a : A) (s : List ℕ) → length s ≤ n → P a s (feed step (holding a []) s)
      up_to zero a s h = front a s (λ e. absurd (omega (arith, (whole-fits s e).0)))
      up_to (suc n) a s h =
          front a s (λ e. up_to n (step a (take (field_size s) s)) (drop (field_size s) s) (omega (arith, length-drop (field_size s) s, size-head s, (whole-fits s e).0)))

      pub fed_by : (a : A) (s : List ℕ) → P a s (feed step (holding a []) s)
      fed_by a s = up_to (length s) a s (omega arith)
