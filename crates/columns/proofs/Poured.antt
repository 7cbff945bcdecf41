-- Text that is poured into a buffer: one after the other, how long the buffer stays, and what it holds where all fits.
-- Assumes nothing.
use Prim.Native.Nat.{ℕ, suc, ◌+◌, ◌≤◌, ◌<◌}
use mathlib.Core.Path.{◌≡◌, refl, sym, ap, ◌∙◌}
use mathlib.Core.List.{List, [], ◌∷◌, ◌++◌, append-nil}
use native.Mathlib.Nat.{add-zero}
use native.Mathlib.Numerals.{add-one}
use native.Mathlib.Omega.{arith}
use borrow.Author.Tests.{ltb-true, lt-ltb, le-ltb}
use lib.Dec.{ltb}
use lib.ListN.{length, set, take, drop, take-append-drop, length-set}
use lib.Seq.{take-suc-set, drop-set-lt, append_snoc}
use Rattle.common.proofs.Cases.{pick-by}
use Rattle.common.proofs.PutLoop.{Next}
use Rattle.columns.specs.Pouring.{Filling, filling, pour_byte, pour}

-- ---- a byte

module _ (holds : List ℕ) (at b : ℕ) where
  -- is put where there is room,
  pub byte-poured : at < length holds → filling (set holds at b) (at + 1) ≡ pour (filling holds at) (b ∷ [])
  unfolding pour pour_byte
  byte-poured h = rw (lt-ltb at (length holds) h)

  -- and else is lost
  pub byte-lost : length holds ≤ at → filling holds at ≡ pour (filling holds at) (b ∷ [])
  unfolding pour pour_byte
  byte-lost h = rw (le-ltb at (length holds) h)

-- ---- one text after the other

pub pour-append : (f : Filling) (a b : List ℕ) → pour (pour f a) b ≡ pour f (a ++ b)
unfolding pour
pour-append f [] b = refl
pour-append f (x ∷ a) b = pour-append (pour_byte f x) a b

-- two calls, the second from where the first ended
pub poured-both : (f : Filling) (a b : List ℕ) {g h : Filling} → g ≡ pour f a → h ≡ pour g b → h ≡ pour f (a ++ b)
poured-both f a b p q = rw (q, p) (pour-append f a b)

-- three, and four
module _ (f : Filling) (a b c : List ℕ) {g h i : Filling} (p : g ≡ pour f a) (q : h ≡ pour g b) (r : i ≡ pour h c) where
  pub poured-three : i ≡ pour f (a ++ b ++ c)
  poured-three = poured-both f (a ++ b) c (poured-both f a b p q) r

  pub poured-four : (d : List ℕ) {j : Filling} → j ≡ pour i d → j ≡ pour f (a ++ b ++ c ++ d)
  poured-four d s = poured-both f (a ++ b ++ c) d poured-three s

-- a loop that pours what is left of a text: at a turn x, and then the others,
pub poured-next : (f : Filling) {x others left : List ℕ} {g all : Filling} → Next x others left → pour f left ≡ all
    → g ≡ pour f x → pour g others ≡ all
poured-next f {x} {others} n inv p =
    rw p (pour-append f x others ∙ ap (λ (l : List ℕ). pour f l) (sym n.joins) ∙ inv)

-- until none is left
pub poured-end : {f all : Filling} {left : List ℕ} → left ≡ [] → pour f left ≡ all → f ≡ all
unfolding pour
poured-end e inv = rw e at inv

-- ---- how long the buffer is, and where the text ends

byte-length : (f : Filling) (b : ℕ) → length (pour_byte f b).holds ≡ length f.holds
unfolding pour_byte
byte-length f b =
    pick-by (λ (g : Filling). length g.holds ≡ length f.holds) (ltb f.at (length f.holds))
    (λ e. length-set f.holds f.at b)
    (λ e. refl)

byte-within : (f : Filling) (b : ℕ) → f.at ≤ length f.holds → (pour_byte f b).at ≤ length f.holds
unfolding pour_byte
byte-within f b h =
    pick-by (λ (g : Filling). g.at ≤ length f.holds) (ltb f.at (length f.holds))
    (λ e. omega (arith, ltb-true f.at (length f.holds) e))
    (λ e. h)

-- the buffer keeps its length,
pub pour-length : (f : Filling) (text : List ℕ) → length (pour f text).holds ≡ length f.holds
unfolding pour
pour-length f [] = refl
pour-length f (b ∷ text) = pour-length (pour_byte f b) text ∙ byte-length f b

-- and what starts in it ends in it
pub pour-within : (f : Filling) (text : List ℕ) → f.at ≤ length f.holds → (pour f text).at ≤ length f.holds
unfolding pour
pour-within f [] h = h
pour-within f (b ∷ text) h =
    rw (byte-length f b) at (pour-within (pour_byte f b) text (rw (byte-length f b) (byte-within f b h)))

-- as a call leaves them
module _ (before : List ℕ) (at : ℕ) (text : List ℕ) {after : List ℕ} {r : ℕ}
    (p : filling after r ≡ pour (filling before at) text) where
  pub poured-length : length after ≡ length before
  poured-length = ap (λ (g : Filling). length g.holds) p ∙ pour-length (filling before at) text

  pub poured-within : at ≤ length before → r ≤ length after
  poured-within h = omega (arith, poured-length, ap (λ (g : Filling). g.at) p, pour-within (filling before at) text h)

-- ---- where all fits

-- the text stands there, and all else is as it was
pub pour-fits : (holds : List ℕ) (at : ℕ) (text : List ℕ) → at + length text ≤ length holds
    → pour (filling holds at) text ≡ filling (take at holds ++ text ++ drop (at + length text) holds) (at + length text)
unfolding pour pour_byte
pour-fits holds at [] h = rw (append-nil, add-zero, take-append-drop)
pour-fits holds at (b ∷ text) h =
    let k : at < length holds = omega arith in
    let e : at + 1 + length text ≡ at + suc (length text) = omega arith in
    let rest = pour-fits (set holds at b) (at + 1) text (simp length-set (omega arith)) in
    rw (lt-ltb at (length holds) k, rest, e, drop-set-lt (at + suc (length text)) holds at b (omega arith), add-one at, take-suc-set holds at b k, append_snoc)
