-- A line of one item: the item's bytes, and one after them. Assumes nothing.
use Prim.Native.Nat.{ℕ, ◌+◌, ◌-◌, ◌≤◌}
use mathlib.Core.Path.{◌≡◌, ap, ◌∙◌}
use mathlib.Core.List.{List, [], ◌∷◌}
use native.Mathlib.Omega.{arith}
use lib.ListN.{length, take, length-append}
use lib.Seq.{take_at, append_snoc}
use Rattle.common.specs.Answer.{refused, wrote, Leaves}
use Rattle.text.specs.Lines.{item_of, line_of, longest_item, put_text}
use Rattle.text.specs.declared.Item.{Item}
use Rattle.text.proofs.Bounds.{item-bound}
use Rattle.text.proofs.ItemsInLine.{line-one}
use Rattle.text.proofs.Outcomes.{done-is, short-is}

-- it stands at the front, but for its last byte
pub record Alone (item : Item) (end : ℕ) (after : List ℕ) : Type 0 where
  pub count : end ≡ length (item_of item) + 1
  pub few : end ≤ longest_item + 1
  pub is : take (end - 1) after ≡ item_of item

module _ (item : Item) where
  alone-length : length (line_of (item ∷ [])) ≡ length (item_of item) + 1
  alone-length = ap length (line-one item) ∙ length-append (item_of item) (10 ∷ [])

  -- put into a buffer that has room for every item
  module _ (before : List ℕ) {after : List ℕ} (room : longest_item + 1 ≤ length before) where
    pub never-short : Leaves (put_text (line_of (item ∷ [])) before) (refused 7) after → ⊥
    never-short l = omega (arith, (short-is _ before l).0, alone-length, item-bound item)

    pub item-alone : {end : ℕ} → Leaves (put_text (line_of (item ∷ [])) before) (wrote end) after
        → Alone item end after
    item-alone {end} l =
        let p = (done-is _ before l).1 in
        let k : end ≡ length (item_of item) + 1 = p.count ∙ alone-length in
        let j : length (item_of item) ≡ end - 1 = omega arith in
        record { count = k; few = omega (arith, item-bound item); is = rw (p.holds, line-one item, append_snoc) (take_at (item_of item) _ (end - 1) j) }
