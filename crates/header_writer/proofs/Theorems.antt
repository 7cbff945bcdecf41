-- What holds of writing data headers. The sentences of `Kept` and `Shortest` stand in specs/Laws.antt; here is what
-- they hold of. Assumes nothing.
use Prim.Native.Nat.{ℕ}
use mathlib.Core.Path.{◌≡◌}
use mathlib.Core.List.{List}
use Rattle.common.specs.Answer.{Written, Leaves}
use Rattle.encode.specs.Writing.{told_writing}
use Rattle.std.specs.Prelude.{Result}
use Rattle.encode.specs.declared.Refusal.{Refusal}
use Rattle.encode.proofs.OneAnswer.{leaves-once}
use Rattle.header_writer.specs.Laws.{Kept, Shortest}
use Rattle.header_writer.specs.Codecs.{datagram_codec, stream_codec, subgroup_object_codec, fetch_object_codec}
use Rattle.header_writer.proofs.Headers as headers

-- 1. What is written reads back the same, and what was read can be written again: of a datagram,
pub datagram-kept : Kept datagram_codec
datagram-kept = headers.datagram-kept

-- of a stream's header,
pub stream-kept : Kept stream_codec
stream-kept = headers.stream-kept

-- and of an object's, on a subgroup's stream and on a fetch's.
pub subgroup-object-kept : Kept subgroup_object_codec
subgroup-object-kept = headers.subgroup-object-kept

pub fetch-object-kept : Kept fetch_object_codec
fetch-object-kept = headers.fetch-object-kept

-- 2. What is written is the only shortest form: no bytes that read as the same header are fewer, and none that are as
-- many are others.
pub datagram-shortest : Shortest datagram_codec
datagram-shortest = headers.datagram-shortest

pub stream-shortest : Shortest stream_codec
stream-shortest = headers.stream-shortest

pub subgroup-object-shortest : Shortest subgroup_object_codec
subgroup-object-shortest = headers.subgroup-object-shortest

pub fetch-object-shortest : Shortest fetch_object_codec
fetch-object-shortest = headers.fetch-object-shortest

-- 3. Each writer has one possible answer, and leaves one content of its buffer.
pub written_once : {w : Written} {a b : Result ℕ Refusal} {x y : List ℕ} → Leaves w (told_writing a) x
    → Leaves w (told_writing b) y → (a ≡ b) × (x ≡ y)
written_once = leaves-once
