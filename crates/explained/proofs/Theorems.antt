-- What holds of parts: of every layout, of every message and of every header. Each theorem with its sentence, and
-- nothing else. Assumes nothing.
use Prim.Native.Nat.{ℕ, ◌≤◌, zero-le}
use mathlib.Core.Path.{◌≡◌, ◌∙◌}
use mathlib.Core.List.{List}
use lib.ListN.{length}
use Rattle.common.specs.Answer.{whole}
use Rattle.field.specs.Outcome.{whole as found, answer}
use Rattle.field.specs.declared.Piece.{Piece}
use Rattle.layout.specs.Layout.{Layout, scan}
use Rattle.layout.specs.Typed.{Typed}
use Rattle.message.specs.Reading.{read_of}
use Rattle.header.specs.Layouts.{datagrams, streams, subgroup_object, fetch_object}
use Rattle.header.specs.Reading.{datagram_of, stream_of, subgroup_object_of, fetch_object_of}
use Rattle.parts.specs.Cursors.{begin_of}
use Rattle.parts.specs.declared.Cursor.{Cursor}
use Rattle.parts.specs.declared.Subject.{Subject}
use Rattle.parts.specs.declared.Subject.TheVariants.{Message, Datagram, Stream, SubgroupObject, FetchObject}
use Rattle.explained.specs.Grammar.{parts_of}
use Rattle.explained.specs.Explaining.{Explained, explain, message_explained, datagram_explained, stream_explained, subgroup_object_explained, fetch_object_explained, explained_as}
use Rattle.explained.specs.Tiling.{forget, answered_as, Tiles, Tells}
use Rattle.explained.specs.Gathering.{gathered, gathered_message, gathered_header}
use Rattle.explained.proofs.LayoutAnswers.{layout-says}
use Rattle.explained.proofs.MessageAnswers.{message-says, message-tiled}
use Rattle.explained.proofs.HeaderAnswers.{datagram-says, stream-says, datagram-tiled, stream-tiled}
use Rattle.explained.proofs.TiledParts.{Tiled, parts-tiled, tiles-whole, tiles-within}
use Rattle.explained.proofs.ToldFromTheStart.{message-told, datagram-told, stream-told, subgroup-object-told, fetch-object-told}
use Rattle.explained.proofs.ToldOnce as once
use Rattle.explained.proofs.FieldsGathered as fields
use Rattle.explained.proofs.ReadingsGathered as readings

-- 1. THE ANSWERS AGREE. The parts of a layout are answered as its fields are,
pub layout-answers : (cut : ℕ) (l : Layout) (s : List ℕ) (at : ℕ)
    → (explain cut (parts_of l) s at).answer ≡ forget (answer cut (scan l s at))
layout-answers = layout-says

-- and the parts of a message, or of a header, as its reader answers:
pub answers : (subject : Subject) (s : List ℕ) → (explained_as subject s).answer ≡ answered_as subject s
unfolding subgroup_object_explained subgroup_object_of fetch_object_explained fetch_object_of
answers Message s = message-says s
answers Datagram s = datagram-says s
answers Stream s = stream-says s
answers SubgroupObject s = layout-says 1 subgroup_object s 0
answers FetchObject s = layout-says 1 fetch_object s 0

-- a message is explained as whole where it is read whole, from as many bytes, and else refused by the same number.
pub message-answers : (s : List ℕ) → (message_explained s).answer ≡ forget (read_of s)
message-answers = answers Message

-- 2. THE PARTS TILE. The parts of a layout stand one behind the other without a gap: up to the end of the bytes used,
-- where all of it is there,
pub layout-tiles : (cut : ℕ) (l : Layout) (s : List ℕ) (at : ℕ) {used : ℕ} → at ≤ length s
    → (explain cut (parts_of l) s at).answer ≡ whole tt used → Tiles at (explain cut (parts_of l) s at).parts used
layout-tiles cut l s at h = tiles-whole (parts-tiled cut (parts_of l) s at h)

-- and in any case up to some offset among the bytes.
pub layout-tiles-within : (cut : ℕ) (l : Layout) (s : List ℕ) (at : ℕ) → at ≤ length s
    → (end : ℕ) × (Tiles at (explain cut (parts_of l) s at).parts end) × (end ≤ length s)
layout-tiles-within cut l s at h = tiles-within (parts-tiled cut (parts_of l) s at h)

-- (of a message, or a header)
tiled : (subject : Subject) (s : List ℕ) → Tiled (length s) 0 (explained_as subject s)
unfolding subgroup_object_explained fetch_object_explained
tiled Message s = message-tiled s
tiled Datagram s = datagram-tiled s
tiled Stream s = stream-tiled s
tiled SubgroupObject s = parts-tiled 1 (parts_of subgroup_object) s 0 zero-le
tiled FetchObject s = parts-tiled 1 (parts_of fetch_object) s 0 zero-le

-- So the parts of a message, or of a header, that is read whole from so many bytes tile exactly these bytes;
pub tiles : (subject : Subject) (s : List ℕ) {used : ℕ} → answered_as subject s ≡ whole tt used
    → Tiles 0 (explained_as subject s).parts used
tiles subject s h = tiles-whole (tiled subject s) (answers subject s ∙ h)

-- and where it is refused, its parts tile the bytes from the first one on, as far as they were looked at.
pub tiles-in-any-case : (subject : Subject) (s : List ℕ)
    → (end : ℕ) × (Tiles 0 (explained_as subject s).parts end) × (end ≤ length s)
tiles-in-any-case subject s = tiles-within (tiled subject s)

-- 3. THE MACHINE TELLS THESE. From its first cursor on, the machine tells the parts of a message, or of a header, one
-- at a time and in their order, and then its answer;
pub tells : (subject : Subject) (s : List ℕ) → Tells s (begin_of subject (length s)) (explained_as subject s)
tells Message s = message-told s
tells Datagram s = datagram-told s
tells Stream s = stream-told s
tells SubgroupObject s = subgroup-object-told s
tells FetchObject s = fetch-object-told s

-- and it tells nothing else: from a cursor on, only one thing is told.
pub told-once : {s : List ℕ} {c : Cursor} {e f : Explained} → Tells s c e → Tells s c f → e ≡ f
told-once = once.told-once

-- 4. THE FIELDS FOLLOW FROM THE PARTS. The fields that were read by a layout are gathered from its parts alone,
pub layout-gathers : (cut : ℕ) (l : Layout) (s : List ℕ) (at : ℕ) {ps : List Piece} {end : ℕ}
    → scan l s at ≡ found ps end → gathered l (explain cut (parts_of l) s at).parts ≡ ps
layout-gathers = fields.layout-gathers

-- a message that was read whole from the parts of the message,
pub message-gathers : (s : List ℕ) {m : Typed} {used : ℕ} → read_of s ≡ whole m used
    → gathered_message (message_explained s).parts ≡ m
message-gathers = readings.message-gathers

-- and a header from those of the header.
pub datagram-gathers : (s : List ℕ) {m : Typed} {used : ℕ} → datagram_of s ≡ whole m used
    → gathered_header datagrams (datagram_explained s).parts ≡ m
datagram-gathers = readings.datagram-gathers

pub stream-gathers : (s : List ℕ) {m : Typed} {used : ℕ} → stream_of s ≡ whole m used
    → gathered_header streams (stream_explained s).parts ≡ m
stream-gathers = readings.stream-gathers

pub subgroup-object-gathers : (s : List ℕ) {ps : List Piece} {used : ℕ} → subgroup_object_of s ≡ whole ps used
    → gathered subgroup_object (subgroup_object_explained s).parts ≡ ps
subgroup-object-gathers = readings.subgroup-object-gathers

pub fetch-object-gathers : (s : List ℕ) {ps : List Piece} {used : ℕ} → fetch_object_of s ≡ whole ps used
    → gathered fetch_object (fetch_object_explained s).parts ≡ ps
fetch-object-gathers = readings.fetch-object-gathers
