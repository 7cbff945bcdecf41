-- What was read can be written again: the writer refuses it for want of room only, and it takes no more bytes than it was read
-- from. Assumes nothing.
use Prim.Native.Nat.{ℕ, ◌≤◌}
use mathlib.Core.Path.{◌≡◌}
use mathlib.Core.List.{List}
use native.Mathlib.Nat.{zero-add}
use native.Mathlib.Omega.{arith}
use lib.ListN.{length}
use lib.Dec.{leb}
use borrow.Author.Tests.{le-leb}
use Rattle.common.specs.Answer.{whole as answered, refused, wrote}
use Rattle.common.specs.Choice.{both}
use Rattle.integer.specs.Integer.{greatest}
use Rattle.field.proofs.Found.{number-at}
use Rattle.layout.proofs.Allowed.{read-allowed}
use Rattle.layout.proofs.Scanned.{scanned}
use Rattle.layout.proofs.Shortest.{scanned-shortest}
use Rattle.measure.specs.Measuring.{right_all, sized_all, encode_all}
use Rattle.encode.proofs.Again.{scanned-right}
use Rattle.encode.proofs.InTheWhole.{longer-found}
use Rattle.encode.proofs.ChecksPassed.{Passes}
use Rattle.encode.proofs.ChecksPassed as passed
use Rattle.types.specs.Table.{layout_of}
use Rattle.message.specs.Types.{typed_of}
use Rattle.types.specs.Limits.{longest_body}
use Rattle.message.specs.Reading.{read_of}
use Rattle.message_writer.specs.Writing.{allowed_of, write_up_to, write_of}
use Rattle.message.specs.declared.Message.{Message}
use Rattle.message.proofs.Front.{parts}
use Rattle.message_writer.proofs.Alike.{framed}
use Rattle.message_writer.proofs.Only.{read-least}

-- ---- what was read

-- a message that was read passes every check of the writer, and is written in as many bytes as it was read from at most
passes : (s : List ℕ) (m : Message) {used : ℕ} → read_of s ≡ answered (typed_of m) used → Passes (both (allowed_of m) (both (leb (typed_of m).type greatest) (right_all s (typed_of m).pieces))) (sized_all s (typed_of m).pieces) (leb (length (encode_all s (typed_of m).pieces)) longest_body) (framed s (typed_of m)) used
unfolding allowed_of encode_all
passes s m {used} h =
    let type = (typed_of m).type in
    let ps = (typed_of m).pieces in
    let body = encode_all s ps in
    let w = parts longest_body s h in
    let t = number-at s 0 w.head.type_at in
    let found = longer-found (layout_of type) s used w.at w.body in
    let best = scanned-shortest (scanned (layout_of type) s w.at found) in
    let judged = scanned-right (layout_of type) s w.at found in
    let less : length body ≤ w.size = omega (arith, best.least.fits, w.ends) in
    record {
      is_right_lem = rw (read-allowed (layout_of type) s w.at found, le-leb type greatest t.small) judged.0;
      is-sized = judged.1;
      is-short = le-leb (length body) longest_body (omega (arith, w.short));
      fits = rw zero-add at (read-least s h).fits;
    }

-- ---- what is then written

module _ (s : List ℕ) (m : Message) (before : List ℕ) {used : ℕ} (read : read_of s ≡ answered (typed_of m) used) where
  -- A message that was read takes, when it is written, no more bytes than it was read from;
  pub no_more : {n : ℕ} → (write_of s m before).says ≡ wrote n → n ≤ used
  unfolding write_up_to
  no_more = passed.no_more (passes s m read) before

  -- it is refused for want of room only, never for a value, a size or its length;
  pub only-room : {k : ℕ} → (write_of s m before).says ≡ refused k → k ≡ 7
  unfolding write_up_to
  only-room = passed.only-room (passes s m read) before

  -- and where there is as much room as it was read from, it is written.
  pub written-again : used ≤ length before → (n : ℕ) × ((write_of s m before).says ≡ wrote n)
  unfolding write_up_to
  written-again = passed.written_then (passes s m read) before
