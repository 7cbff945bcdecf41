-- The written bytes are the only shortest form of a message. Assumes nothing.
use Prim.Native.Nat.{ℕ, ◌+◌, ◌≤◌}
use mathlib.Core.Path.{◌≡◌, sym, ap, ◌∙◌}
use mathlib.Core.List.{List, append-nil}
use native.Mathlib.Omega.{arith}
use lib.ListN.{length, take}
use lib.Seq.{drop-length}
use Rattle.common.specs.Answer.{whole as answered, wrote}
use Rattle.common.specs.Octets.{Octets}
use Rattle.field.proofs.Least.{Least}
use Rattle.layout.specs.Typed.{Typed}
use Rattle.layout.specs.Same.{Same}
use Rattle.layout.proofs.Scanned.{scanned}
use Rattle.layout.proofs.Shortest.{scanned-shortest}
use Rattle.measure.specs.Measuring.{encode_all}
use Rattle.encode.proofs.InTheWhole.{longer-found}
use Rattle.encode.proofs.Framed.{least-frame}
use Rattle.types.specs.Table.{layout_of}
use Rattle.message.specs.Types.{typed_of}
use Rattle.types.specs.Limits.{longest_body}
use Rattle.message.specs.Reading.{read_of}
use Rattle.message_writer.specs.Writing.{write_of}
use Rattle.message.specs.declared.Message.{Message}
use Rattle.message.proofs.Front.{parts}
use Rattle.message_writer.proofs.Alike.{framed, framed_alike, is-frame}

-- a message was read in no fewer bytes than its shortest form, and in as many is that form
pub read-least : (s : List ℕ) {t : Typed} {used : ℕ} → read_of s ≡ answered t used → Least s 0 (framed s t) used
unfolding encode_all
read-least s {t} {used} h =
    let w = parts longest_body s h in
    let found = longer-found (layout_of t.type) s used w.at w.body in
    least-frame s w.head.type_at w.head.length_at (scanned-shortest (scanned (layout_of t.type) s w.at found)).least w.ends

module _ (s : List ℕ) (m : Message) (before : List ℕ) {n : ℕ} (written : (write_of s m before).says ≡ wrote n)
    (b : List ℕ) {t : Typed} (read : read_of b ≡ answered t (length b)) (same : Same b t s (typed_of m)) where
  -- No form of a message is shorter than the one that is written,
  pub none-shorter : n ≤ length b
  none-shorter = omega (arith, (read-least b read).fits, (is-frame s m before written).used, ap length (framed_alike b s t (typed_of m) same))

  -- and of that length there is only this one.
  pub only_one : Octets b → length b ≡ n → b ≡ take n (write_of s m before).holds
  only_one o e =
      let f = is-frame s m before written in
      let same_bytes = framed_alike b s t (typed_of m) same in
      let short : length b ≤ 0 + length (framed b t) = omega (arith, f.used, ap length same_bytes) in
      (read-least b read).is o short ∙ rw (drop-length, append-nil) (same_bytes ∙ sym f.stands)
