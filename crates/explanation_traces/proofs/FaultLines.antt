-- The line of a trace that is at fault. Assumes nothing.
use Prim.Native.Nat.{ℕ}
use mathlib.Core.Path.{◌≡◌, ap, ◌∙◌}
use mathlib.Core.List.{[], ◌∷◌, ◌++◌, append_assoc, append-nil}
use Rattle.text.specs.Lines.{item_of, ended_of, is_none, line_of, fault_line}
use Rattle.text.specs.declared.Item.TheVariants.{Number, Word}
use Rattle.text.specs.declared.Word.TheVariants.{TraceFaultAt}
use Rattle.columns.specs.Pouring.{Filling, pour}
use Rattle.columns.specs.Columns.{spaces}
use Rattle.columns.proofs.Poured.{poured-four}

-- its words and its number, with a space between them
fault-line : (offset : ℕ) → item_of (Word TraceFaultAt) ++ spaces 1 ++ item_of (Number offset) ++ 10 ∷ [] ≡ line_of (fault_line offset)
unfolding ended_of is_none line_of
fault-line offset = simp (append_assoc, append-nil)

pub fault-poured : (f : Filling) (offset : ℕ) {g h i j : Filling} → g ≡ pour f (item_of (Word TraceFaultAt)) → h ≡ pour g (spaces 1) → i ≡ pour h (item_of (Number offset)) → j ≡ pour i (10 ∷ []) → j ≡ pour f (line_of (fault_line offset))
fault-poured f offset p q r s = poured-four f _ _ _ p q r _ s ∙ ap (pour f) (fault-line offset)
