-- A message that is written: its values are judged first, then its fields. Assumes nothing.
use Prim.Native.Nat.{ℕ}
use mathlib.Core.Path.{◌≡◌, sym, ◌∙◌}
use mathlib.Core.List.{List}
use mathlib.Core.Bool.{Bool, true, false, not}
use borrow.Author.Tests.{not-true, not-false}
use Rattle.common.specs.Answer.{Answer, refused, Nothing, Leaves}
use Rattle.measure.specs.Fields.{placed, fields_of}
use Rattle.encode.specs.Writing.{written_of, framed_of}
use Rattle.measure.specs.declared.Fields.{Fields}
use Rattle.measure.proofs.Placed.{fields-placed}
use Rattle.message.specs.Types.{typed_of}
use Rattle.types.specs.Limits.{longest_body}
use Rattle.message_writer.specs.Writing.{allowed_of, write_up_to, write_of}
use Rattle.message.specs.declared.Message.{Message}

module _ (s : List ℕ) (m : Message) (before : List ℕ) {a : Bool} (judged : a ≡ allowed_of m) where
  -- a value is forbidden,
  pub not-allowed : not a ≡ true → Leaves (write_of s m before) (refused 5) before
  unfolding write_up_to written_of
  not-allowed h = let f : allowed_of m ≡ false = sym judged ∙ not-true a h in record { says = rw f; holds = rw f }

  -- or none is, and its fields are written
  pub is_framed : (f : Fields) {said : Answer Nothing} {after : List ℕ} → not a ≡ false → f ≡ placed (typed_of m) → Leaves (framed_of longest_body s f.number (fields_of f) before) said after → Leaves (write_of s m before) said after
  unfolding write_up_to framed_of
  is_framed f h e l =
      let g : allowed_of m ≡ true = sym judged ∙ not-false a h in
      rw g (rw (e, fields-placed (typed_of m)) at l)
