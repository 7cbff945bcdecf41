-- The header of an object on a stream: what stands before its payload, and then what was told of that. Assumes nothing.
use Prim.Native.Nat.{ℕ}
use mathlib.Core.Path.{◌≡◌, ap, ◌∙◌}
use mathlib.Core.List.{List, ◌++◌}
use Rattle.std.specs.Prelude.{Ok, Err}
use Rattle.common.specs.Answer.{whole as answered, refused}
use Rattle.field.specs.Outcome.{Outcome, answer}
use Rattle.field.specs.declared.Piece.{Piece}
use Rattle.layout.specs.Layout.{Layout, scan}
use Rattle.layout.specs.Typed.{led}
use Rattle.layout.proofs.Steps.{To, is-on}
use Rattle.header.specs.Layouts.{payload}
use Rattle.header.specs.Faults.{object_number}
use Rattle.header.specs.Told.{payload_pieces, told_payload}
use Rattle.header.specs.declared.Payload.{Payload}
use Rattle.header.specs.declared.ObjectFault.{ObjectFault}
use Rattle.header.specs.declared.ObjectFault.TheVariants.{More, Forbidden}

module _ {s : List ℕ} {l : Layout} {ps : List Piece} {mid : ℕ} (before : To s l 0 ps payload mid) where
  -- what is told of the payload decides:
  payload-decides : {o : Outcome (List Piece)} → o ≡ scan payload s mid → answer 1 (led ps o) ≡ answer 1 (scan l s 0)
  payload-decides e = ap (λ x. answer 1 (led ps x)) e ∙ ap (answer 1) (is-on before)

  -- it is refused,
  pub payload-stops : (fault : ObjectFault) → told_payload (Err fault) ≡ scan payload s mid → refused (object_number fault) ≡ answer 1 (scan l s 0)
  payload-stops More e = payload-decides e
  payload-stops Forbidden e = payload-decides e

  -- or it is there
  pub payload-ends : (p : Payload) {end : ℕ} → told_payload (Ok (p, end)) ≡ scan payload s mid → answered (ps ++ payload_pieces p) end ≡ answer 1 (scan l s 0)
  payload-ends p e = payload-decides e
