-- How long a line can be. Assumes nothing.
use Prim.Native.Nat.{ℕ, ◌+◌, ◌*◌, ◌≤◌}
use mathlib.Core.Path.{◌≡◌, refl}
use mathlib.Core.Bool.{Bool, true, false}
use mathlib.Core.List.{List, [], ◌∷◌}
use native.Mathlib.Nat.{le_refl}
use native.Mathlib.Omega.{arith}
use borrow.Author.Tests.{leb-true}
use lib.Dec.{leb, eqb, lit≤}
use lib.ListN.{length, length-append}
use Rattle.common.specs.Choice.{pick}
use Rattle.common.proofs.Cases.{pick-by}
use Rattle.types.specs.Letters.{letters}
use Rattle.types.specs.Table.{TypeRow, InTable, on_listed, messages, type_row_in, type_row_of, name_of}
use Rattle.text.specs.Decimals.{decimal_of}
use Rattle.text.specs.Words.{word_of}
use Rattle.text.specs.Lines.{item_of, ended_of, is_none, line_of, most_items, longest_item, longest_line}
use Rattle.text.specs.declared.Word.{Word as Wording}
use Rattle.text.specs.declared.Word.TheVariants.{Open, Closed, Columns, Pending, Active, Nothing, TraceFaultAt, Start, Malformed, Arrival}
use Rattle.text.specs.declared.Item.{Item}
use Rattle.text.specs.declared.Item.TheVariants.{Number, Word, Rule, Name}
use Rattle.text.proofs.Decimals.{decimal-few}

-- twenty digits
pub number_bound : (n : ℕ) → length (decimal_of n) ≤ 20
unfolding decimal_of
number_bound n = decimal-few 20 n

pub number_few : (n : ℕ) {k : ℕ} → k ≡ length (decimal_of n) → k ≤ 20
number_few n e = omega (arith, number_bound n)

-- the longest of the words are the columns
pub word_bound : (word : Wording) → length (word_of word) ≤ longest_item
unfolding word_of letters
word_bound Open = lit≤ tt
word_bound Closed = lit≤ tt
word_bound Columns = lit≤ tt
word_bound Pending = lit≤ tt
word_bound Active = lit≤ tt
word_bound Nothing = lit≤ tt
word_bound TraceFaultAt = lit≤ tt
word_bound Start = lit≤ tt
word_bound Malformed = lit≤ tt
word_bound Arrival = lit≤ tt

-- every name of a table takes that many bytes at most
are_within : ℕ → List TypeRow → Bool
are_within n [] = true
are_within n (row ∷ rows) = pick (leb (length (letters row.name)) n) (are_within n rows) false

name_in : InTable → List ℕ
name_in l = on_listed l [] (λ r. letters r.name)

within : (n : ℕ) (rows : List TypeRow) (type : ℕ) → are_within n rows ≡ true → length (name_in (type_row_in rows type)) ≤ n
unfolding are_within name_in type_row_in
within n [] type = λ h. omega arith
within n (row ∷ rows) type =
    pick-by (λ (t : Bool). t ≡ true → length (name_in (type_row_in (row ∷ rows) type)) ≤ n) (leb (length (letters row.name)) n)
    (λ e h. pick-by (λ (l : InTable). length (name_in l) ≤ n) (eqb type row.number) (λ t. leb-true (length (letters row.name)) n e) (λ t. within n rows type h))
    (λ e h. absurd (let z : ◌≡◌ {A = ℕ} 0 1 = cc in omega arith))

pub name-bound : (type : ℕ) → length (name_of type) ≤ 25
unfolding name_of type_row_of messages name_in are_within letters
name-bound type = within 25 messages type refl

-- so no item is longer than the columns,
pub item-bound : (item : Item) → length (item_of item) ≤ longest_item
unfolding item_of letters
item-bound (Number n) = omega (arith, number_bound n)
item-bound (Word word) = word_bound word
item-bound (Rule n) = omega (arith, number_bound n)
item-bound (Name type) = omega (arith, name-bound type)

pub item-few : (item : Item) {k : ℕ} → k ≡ length (item_of item) → k ≤ longest_item
item-few item e = omega (arith, item-bound item)

-- and a line takes at most one byte more for each
pub line-bound : (items : List Item) → length (line_of items) ≤ (longest_item + 1) * length items
unfolding line_of ended_of
line-bound [] = le_refl 0
line-bound (item ∷ rest) =
    let last = is_none rest in
    omega (arith, length-append (ended_of item last) (line_of rest), length-append (item_of item) (pick last 10 32 ∷ []), item-bound item, line-bound rest)

-- so no line is longer
pub longest_bound : (items : List Item) → length items ≤ most_items → length (line_of items) ≤ longest_line
longest_bound items h = omega (arith, line-bound items)
