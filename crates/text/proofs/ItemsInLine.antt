-- The items of a line, one after the other. Assumes nothing.
use Prim.Native.Nat.{ℕ, ◌+◌, ◌≤◌, ◌<◌}
use mathlib.Core.Path.{◌≡◌, refl}
use mathlib.Core.Bool.{Bool, false}
use mathlib.Core.List.{List, [], ◌∷◌, ◌++◌, append-nil}
use native.Mathlib.Numerals.{add-one}
use native.Mathlib.Omega.{arith}
use lib.ListN.{length, get_or, drop, length-append, drop_of_length-le}
use lib.Seq.{drop-cons, append_snoc}
use Rattle.common.specs.Choice.{pick}
use Rattle.common.specs.Buffer.{Put}
use Rattle.common.proofs.PutLoop.{Next}
use Rattle.text.specs.Lines.{item_of, ended_of, is_none, line_of}
use Rattle.text.specs.declared.Item.{Item}

-- one byte stands after an item
pub ended-size : (item : Item) (last : Bool) {k : ℕ} → k ≡ length (item_of item) → k + 1 ≡ length (ended_of item last)
unfolding ended_of
ended-size item last e = omega (arith, length-append (item_of item) (pick last 10 32 ∷ []))

-- one item, and a newline
pub line-one : (a : Item) → line_of (a ∷ []) ≡ item_of a ++ 10 ∷ []
unfolding line_of ended_of is_none
line-one a = append-nil (item_of a ++ 10 ∷ [])

some-last : (items : List Item) (last : Item) → is_none (items ++ last ∷ []) ≡ false
unfolding is_none
some-last [] last = refl
some-last (item ∷ items) last = refl

-- the i-th item, and those after it
module _ (items : List Item) (i : ℕ) (d : Item) (h : i < length items) where
  items_next : drop i items ≡ get_or items i d ∷ drop (i + 1) items
  items_next = rw (add-one i, drop-cons items i d h)

  -- are measured so,
  pub item-next : Next (ended_of (get_or items i d) (is_none (drop (i + 1) items))) (line_of (drop (i + 1) items)) (line_of (drop i items))
  unfolding line_of
  item-next = record { joins = rw items_next }

  -- and put so, where another comes last: a space follows,
  pub line-next : (last : Item) → Next (item_of (get_or items i d) ++ 32 ∷ []) (line_of (drop (i + 1) items ++ last ∷ [])) (line_of (drop i items ++ last ∷ []))
  unfolding line_of ended_of
  line-next last = record { joins = rw (items_next, some-last (drop (i + 1) items) last) }

-- and a newline after the last
pub line-last : (items : List Item) (i : ℕ) (last : Item) → length items ≤ i → line_of (drop i items ++ last ∷ []) ≡ item_of last ++ 10 ∷ []
line-last items i last h = rw (drop_of_length-le items {i = i} h) (line-one last)

pub line-end : (items : List Item) (i : ℕ) → length items ≤ i → line_of (drop i items) ≡ []
unfolding line_of
line-end items i h = rw (drop_of_length-le items {i = i} h)

-- a line of no items is empty
pub no_items : (items : List Item) (out : List ℕ) → length items < 1 → Put (line_of items) out 0 out
unfolding line_of
no_items [] out h = record { count = refl; holds = refl }
no_items (x ∷ xs) out h = absurd (omega arith)

-- ---- a line, by its items

-- an item and a space, before the others
pub line-more : (a b : Item) (rest : List Item) → line_of (a ∷ b ∷ rest) ≡ item_of a ++ 32 ∷ line_of (b ∷ rest)
unfolding line_of ended_of is_none
line-more a b rest = append_snoc (item_of a) 32 (line_of (b ∷ rest))

-- no line with an item is empty
pub line-some : (a : Item) (rest : List Item) → 0 < length (line_of (a ∷ rest))
unfolding line_of ended_of
line-some a rest =
    let end : ℕ = pick (is_none rest) 10 32 in
    omega (arith, length-append (ended_of a (is_none rest)) (line_of rest), length-append (item_of a) (end ∷ []))
