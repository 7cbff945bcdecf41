-- What holds of reading and writing a control message, for every byte string and every message. Each theorem with its
-- sentence, and nothing else. Assumes nothing.
use Prim.Native.Nat.{ℕ, ◌≤◌}
use mathlib.Core.Path.{◌≡◌, refl}
use mathlib.Core.List.{List, ◌++◌, map}
use mathlib.Core.Bool.{true, false}
use lib.ListN.{length, take}
use denote.Ref.{Bor}
use Rattle.common.specs.Answer.{whole as answered, refused, wrote, Leaves}
use Rattle.common.specs.Choice.{pick}
use Rattle.common.specs.Octets.{Octets}
use Rattle.field.specs.Outcome.{whole}
use Rattle.field.specs.Entries.{number_at}
use Rattle.field.specs.Value.{part, mean}
use Rattle.field.specs.declared.Span.{Span}
use Rattle.layout.specs.Permitted.{permitted}
use Rattle.layout.specs.Inside.{Inside}
use Rattle.layout.specs.Typed.{Typed}
use Rattle.layout.specs.Same.{Same}
use Rattle.encode.specs.Writing.{told_writing}
use Rattle.std.specs.Prelude.{Result}
use Rattle.encode.specs.declared.Refusal.{Refusal}
use Rattle.types.specs.Table.{known, layout_of}
use Rattle.message.specs.Types.{typed_of}
use Rattle.types.specs.Limits.{longest_body}
use Rattle.message.specs.Reading.{Reading, longest_message, read_up_to, read_of, told}
use Rattle.message.specs.Limits.{length_over}
use Rattle.message.specs.Part.{PartOf}
use Rattle.message.specs.Names.{name_span, named_span}
use Rattle.message_writer.specs.Writing.{write_of}
use Rattle.message.specs.declared.Message.{Message}
use Rattle.message.proofs.Naming as naming
use Rattle.message.proofs.Places.{byte_at}
use Rattle.message.proofs.Places as places
use Rattle.message.proofs.Front.{WholeAt}
use Rattle.message.proofs.Front as front
use Rattle.message.proofs.Stable as stable
use Rattle.message.proofs.Numbers as refusals
use Rattle.message.proofs.Enough as enough
use Rattle.message.proofs.Limits as limits
use Rattle.message.proofs.Fields as fields
use Rattle.message_writer.proofs.RoundTrip as round_trip
use Rattle.message_writer.proofs.Again as again
use Rattle.message_writer.proofs.Only as only
use Rattle.message_writer.proofs.Alike as alike
use Rattle.message.proofs.OneAnswer as reading
use Rattle.message_writer.proofs.OneAnswer as writing
use Rattle.message.proofs.OneReading.{reading_of}
use Rattle.message.proofs.OneReading as one-reading

module _ (s : List ℕ) where
  -- 1. Every refusal is one of 1 to 6.
  pub numbers : {n : ℕ} → read_of s ≡ refused n → (1 ≤ n) × (n ≤ 6)
  numbers = refusals.numbers longest_body s

  -- 2. Bytes that follow change nothing of a whole message,
  pub whole-stays : (x : List ℕ) {t : Typed} {used : ℕ} → read_of s ≡ answered t used → read_of (s ++ x) ≡ answered t used
  whole-stays = stable.whole-stays longest_body s

  -- whether they come or are cut off,
  pub whole_before : (x : List ℕ) {t : Typed} {used : ℕ} → read_of (s ++ x) ≡ answered t used → used ≤ length s
      → read_of s ≡ answered t used
  whole_before = stable.whole_before longest_body s

  -- nor of a refusal from 2 to 6;
  pub refusal-stays : (x : List ℕ) {n : ℕ} → (n ≡ 1 → ⊥) → read_of s ≡ refused n → read_of (s ++ x) ≡ refused n
  refusal-stays = stable.refusal-stays longest_body s

  -- and where 1 is answered, more bytes can still decide: so it is answered exactly there.
  pub more : read_of s ≡ refused 1 → (x : List ℕ) × (read_of (s ++ x) ≡ refused 1 → ⊥)
  more _ = enough.more longest_body s

  -- No more than 65,016 bytes are ever wanted,
  pub decided : longest_message ≤ length s → read_of s ≡ refused 1 → ⊥
  decided = enough.decided longest_body s

  -- and no message that is read has more.
  pub at_most : {t : Typed} {used : ℕ} → read_of s ≡ answered t used → used ≤ longest_message
  at_most = enough.at_most longest_body s

  module _ {t : Typed} {used : ℕ} where
    -- 3. A whole message is its Type, its Length, and a body of that many bytes, which its fields fill; those are the
    -- bytes used.
    pub framed : read_of s ≡ answered t used → WholeAt longest_body s t used
    framed = front.parts longest_body s

    -- It is of a known type,
    pub is_known : read_of s ≡ answered t used → known t.type ≡ true
    is_known h = (front.parts longest_body s h).head.is_known

    -- and its fields are permitted: no number is above the greatest, no value is forbidden, nothing is over a size.
    pub is-permitted : read_of s ≡ answered t used
        → permitted (layout_of t.type) (map (mean (take used s)) t.pieces) ≡ true
    is-permitted h = fields.is-permitted s (front.parts longest_body s h)

    -- 4. Its bytes are there, and they are two at least;
    pub used-there : read_of s ≡ answered t used → (2 ≤ used) × (used ≤ length s)
    used-there h = fields.used-there s (front.parts longest_body s h)

    -- every part that was found lies within them, after Type and Length.
    pub inside : {next size at : ℕ} → number_at s 0 ≡ whole t.type next → number_at s next ≡ whole size at
        → read_of s ≡ answered t used → Inside at used t.pieces
    inside e f h = fields.inside s e f (front.parts longest_body s h)

  -- 5. What is handed back of a message that was read is the part of the bytes that is its name.
  pub named : (m : Message) {used : ℕ} → read_of s ≡ answered (typed_of m) used → named_span s m ≡ name_span m
  named m = naming.name-is s m

-- Its place counts, and not its bytes alone: the name of `0D 05 01 01 61 01 61` is the byte at 6. That at 4, of the
-- namespace, is the same byte, and is not what is handed back.
pub by_place : (read_of places.alike ≡ answered (typed_of places.request) 7)
    × (named_span places.alike places.request ≡ byte_at 6)
    × (part places.alike (byte_at 4) ≡ part places.alike (byte_at 6))
by_place = (places.alike-reads, places.alike-named, places.alike-bytes)

pub not-the-like : {s r : Bor (List ℕ)} → s.now ≡ places.alike → PartOf s r (named_span s.now places.request)
    → PartOf s r (byte_at 4) → ⊥
not-the-like = places.not-the-like

module _ (s : List ℕ) (m : Message) (before : List ℕ) where
  -- 6. What is written reads back as the same message, and exactly the bytes written are used.
  pub reads-back : {n : ℕ} → (write_of s m before).says ≡ wrote n
      → (t : Typed) × (read_of (write_of s m before).holds ≡ answered t n)
      × Same (write_of s m before).holds t s (typed_of m)
  reads-back = round_trip.written-reads s m before

  module _ {used : ℕ} (read : read_of s ≡ answered (typed_of m) used) where
    -- 7. What was read is written into no more bytes than it was read from,
    pub no_longer : {n : ℕ} → (write_of s m before).says ≡ wrote n → n ≤ used
    no_longer = again.no_more s m before read

    -- is refused for nothing but want of room,
    pub only-room : {k : ℕ} → (write_of s m before).says ≡ refused k → k ≡ 7
    only-room = again.only-room s m before read

    -- and for want of room only where there is less than it was read from.
    pub written-again : used ≤ length before → (n : ℕ) × ((write_of s m before).says ≡ wrote n)
    written-again = again.written-again s m before read

  module _ {n : ℕ} (written : (write_of s m before).says ≡ wrote n) (b : List ℕ) {t : Typed}
      (read : read_of b ≡ answered t (length b)) (same : Same b t s (typed_of m)) where
    -- 8. The written bytes are the only shortest form of that message: no bytes that read as the same message are
    -- fewer,
    pub none-shorter : n ≤ length b
    none-shorter = only.none-shorter s m before written b read same

    -- and those that are as many are the ones written.
    pub only_one : Octets b → length b ≡ n → b ≡ take n (write_of s m before).holds
    only_one = only.only_one s m before written b read same

  -- 9. Writing twice gives the same bytes: into another buffer a message takes as many, and the same ones;
  pub elsewhere : (other : List ℕ) {n k : ℕ} → (write_of s m before).says ≡ wrote n → (write_of s m other).says ≡ wrote k
      → (n ≡ k) × (take n (write_of s m before).holds ≡ take k (write_of s m other).holds)
  elsewhere = alike.alike s s m m (record { type = refl; values = refl }) before

  -- and into the buffer that was just written it changes nothing: the answer is the same, and so is the content.
  pub again-alike : write_of s m (write_of s m before).holds ≡ write_of s m before
  again-alike = alike.again s m before

module _ (s t : List ℕ) (m k : Message) (same : Same s (typed_of m) t (typed_of k)) where
  -- Two messages that are the same take the same bytes, in whatever buffers;
  pub written_twice : (a b : List ℕ) {n j : ℕ} → (write_of s m a).says ≡ wrote n → (write_of t k b).says ≡ wrote j
      → (n ≡ j) × (take n (write_of s m a).holds ≡ take j (write_of t k b).holds)
  written_twice = alike.alike s t m k same

  -- and in one buffer they have the same answer and leave the same content, refusals too. Only 5 may be answered for
  -- one of them and not for the other: whether bytes make what is stated of them is no part of a value.
  pub written-alike : (before : List ℕ) → ((write_of s m before).says ≡ refused 5 → ⊥)
      → ((write_of t k before).says ≡ refused 5 → ⊥) → write_of s m before ≡ write_of t k before
  written-alike = alike.written-alike s t m k same

-- 10. For all bytes there is a reading that meets the contract of `read`,
pub reads : (s : List ℕ) → told (reading_of s) ≡ read_of s
reads = one-reading.reading-is longest_body

-- and it is the only one: the contract leaves one possible answer,
pub read-once : (s : List ℕ) (a b : Reading) → told a ≡ read_of s → told b ≡ read_of s → a ≡ b
read-once = reading.read-once

-- that of `track_name` one possible part of the bytes,
pub name-once : {s a b : Bor (List ℕ)} {p : Span} → PartOf s a p → PartOf s b p
    → (a.ref_ptr.0 ≡ b.ref_ptr.0) × (a.ref_ptr.1 ≡ b.ref_ptr.1) × (a.now ≡ b.now)
name-once = places.part-once

-- and that of `write` one possible answer and one possible content of the buffer, refusals too.
pub write-once : (s : List ℕ) (m : Message) (before : List ℕ) (a b : Result ℕ Refusal) {x y : List ℕ}
    → Leaves (write_of s m before) (told_writing a) x → Leaves (write_of s m before) (told_writing b) y → (a ≡ b) × (x ≡ y)
write-once = writing.write-once

module _ (low : ℕ) (rises : low ≤ longest_body) (s : List ℕ) where
  -- 11. Under a lower limit of the body reading answers 3 where a known Type is followed by a Length over it, and else
  -- what it answers;
  pub under-lower : read_up_to low s ≡ pick (length_over low s) (refused 3) (read_of s)
  under-lower = limits.under-lower low longest_body rises s

  -- so without such a Length every reading is the same under both.
  pub same-under : length_over low s ≡ false → read_of s ≡ read_up_to low s
  same-under = limits.same-under low longest_body rises s
