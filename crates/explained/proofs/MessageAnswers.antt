-- The parts of a message: they are answered as the message is, and stand one behind the other. Assumes nothing.
use Prim.Native.Nat.{ℕ, ◌+◌, ◌-◌, ◌≤◌, ◌<◌, zero-le}
use mathlib.Core.Path.{◌≡◌, refl, ◌∙◌}
use mathlib.Core.List.{List}
use mathlib.Core.Bool.{Bool, true, false}
use native.Mathlib.Omega.{arith}
use lib.ListN.{length, take}
use lib.Seq.{length-take-le}
use lib.Dec.{leb, ltb}
use borrow.Author.Tests.{eq-eqb, ne_eqb, leb-true, ltb-true, ltb-false}
use Rattle.common.specs.Answer.{Answer, whole}
use Rattle.common.proofs.Cases.{pick-by, pick-le}
use Rattle.field.specs.Outcome.{Outcome, whole as found, no, answer}
use Rattle.field.specs.Entries.{number_at}
use Rattle.field.specs.declared.Piece.{Piece}
use Rattle.field.proofs.Found.{number-at}
use Rattle.layout.specs.Layout.{scan}
use Rattle.layout.specs.Typed.{Typed, typed}
use Rattle.layout.specs.declared.FieldName.TheVariants.{MessageType, MessageLength}
use Rattle.types.specs.Table.{known, layout_of}
use Rattle.types.specs.Limits.{longest_body}
use Rattle.message.specs.Reading.{filled_by, body_up_to, read_up_to, read_of}
use Rattle.parts.specs.declared.What.TheVariants.{Number, Length}
use Rattle.explained.specs.Grammar.{parts_of}
use Rattle.explained.specs.Explaining.{Explained, explain, filling_by, filling, body_explained, message_explained}
use Rattle.explained.specs.Tiling.{forget}
use Rattle.explained.proofs.AfterOutcomes.{found-both, guard-both}
use Rattle.explained.proofs.LayoutAnswers.{layout-says}
use Rattle.explained.proofs.TiledParts.{Tiled, farther, refusing-tiled, number-tiled, parts-tiled}
use Rattle.explained.proofs.FilledBytes.{filling-says, filling-tiled}

-- what is explained is answered as it is read
abbrev Says : Explained → Answer Typed → Type 0
Says e a = e.answer ≡ forget a

-- ---- a body

-- of bytes that are filled none is left
filled-says : (type : ℕ) {size at : ℕ} {e : Explained} (o : Outcome (List Piece)) → Tiled size at e → e.answer ≡ forget (answer 4 o) → (filling size e).answer ≡ forget (filled_by size (typed type o))
filled-says type {size} {e = e} (found ps used) t h = filling-says size e ∙ rw h (go (ltb used size) refl)
  where
    within : used ≤ size
    within = omega (arith, t.reach, t.tells used h)

    go : (less : Bool) → ltb used size ≡ less → (filling_by size (whole tt used)).answer ≡ forget (filled_by size (typed type (found ps used)))
    go true f = let k : used < size = ltb-true used size f in rw (f, ne_eqb used size (λ z. omega arith))
    go false f = let k : used ≡ size = omega (arith, ltb-false used size f, within) in rw (f, k, eq-eqb size size refl)
filled-says type {size} {e = e} (no fault) t h = filling-says size e ∙ rw h

module _ (s : List ℕ) (type size at : ℕ) (here : at ≤ length s) where
  -- the parts of the fields of a body that is present
  fields-tiled : size ≤ length s - at → Tiled (at + size) at (explain 4 (parts_of (layout_of type)) (take (at + size) s) at)
  fields-tiled fits =
      let k : at + size ≤ length s = omega arith in
      let z : length (take (at + size) s) ≡ at + size = length-take-le (at + size) s k in
      rw z at (parts-tiled 4 (parts_of (layout_of type)) (take (at + size) s) at (rw z (omega arith)))

  body-says : (body_explained s type size at).answer ≡ forget (body_up_to longest_body s type size at)
  unfolding body_explained body_up_to
  body-says =
      guard-both Says (leb size longest_body) _ _ _ _ refl (λ short.
      guard-both Says (leb size (length s - at)) _ _ _ _ refl (λ fits.
      filled-says type (scan (layout_of type) (take (at + size) s) at) (fields-tiled (leb-true size (length s - at) fits))
      (layout-says 4 (layout_of type) (take (at + size) s) at)))

  body-tiled : Tiled (length s) at (body_explained s type size at)
  unfolding body_explained
  body-tiled =
      pick-by (Tiled (length s) at) (leb size longest_body)
      (λ short. pick-le (Tiled (length s) at) size (length s - at)
      (λ fits. farther (omega arith) (filling-tiled (fields-tiled fits)))
      (λ cut. refusing-tiled at 1 here))
      (λ long. refusing-tiled at 3 here)

-- ---- a message

pub message-says : (s : List ℕ) → (message_explained s).answer ≡ forget (read_of s)
unfolding message_explained read_up_to
message-says s =
    found-both Says (number_at s 0) _ _ _ _ refl (λ type mid e.
    guard-both Says (known type) _ _ _ _ refl (λ is_Known.
    found-both Says (number_at s mid) _ _ _ _ refl (λ size at f. body-says s type size at (number-at s mid f).within)))

pub message-tiled : (s : List ℕ) → Tiled (length s) 0 (message_explained s)
unfolding message_explained
message-tiled s =
    number-tiled 1 MessageType Number s 0 _ zero-le (λ type mid here.
    pick-by (Tiled (length s) mid) (known type)
    (λ e. number-tiled 1 MessageLength Length s mid _ here (λ size at k. body-tiled s type size at k))
    (λ e. refusing-tiled mid 2 here))
