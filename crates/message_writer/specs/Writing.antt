-- What writing a control message does: "The writer checks 5, 6, 3, 7 in that order".
use Rattle.std.specs.Prelude.{ℕ, List, Bool, length, leb}
use Rattle.common.specs.Answer.{Written}
use Rattle.common.specs.Choice.{both}
use Rattle.integer.specs.Integer.{greatest}
use Rattle.measure.specs.Measuring.{right_all, sized_all, encode_all}
use Rattle.encode.specs.Writing.{written_of, frame}
use Rattle.types.specs.Table.{allowed_typed}
use Rattle.message.specs.Types.{typed_of}
use Rattle.types.specs.Limits.{longest_body}
use Rattle.message.specs.declared.Message.{Message}

-- "Forbidden field values (5)": what the layout of its type forbids, none of its fields holds
unfoldable pub allowed_of : Message → Bool
allowed_of m = allowed_typed (typed_of m)

-- a message over the bytes s, into a buffer, when its body may take up to a limit
unfoldable pub write_up_to : ℕ → List ℕ → Message → List ℕ → Written
write_up_to limit s m before =
    let t = typed_of m in
    let body = encode_all s t.pieces in
    let is_right = both (allowed_of m) (both (leb t.type greatest) (right_all s t.pieces)) in
    written_of is_right (sized_all s t.pieces) (leb (length body) limit) (frame t.type body) before

-- WRITING, with the limit of reading
abbrev pub write_of : List ℕ → Message → List ℕ → Written
write_of s m before = write_up_to longest_body s m before
