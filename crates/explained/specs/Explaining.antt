-- WHAT BYTES ARE, PART BY PART: of a layout, of a message, of a data header.
use Rattle.std.specs.Prelude.{ℕ, ◌+◌, ◌-◌, List, [], ◌∷◌, length, take, get_or, leb, ltb, eqb}
use Rattle.common.specs.Choice.{guard, pick}
use Rattle.common.specs.Answer.{Answer, Nothing, whole, refused}
use Rattle.field.specs.Outcome.{on_found, fault_number}
use Rattle.field.specs.Entries.{number_at}
use Rattle.layout.specs.declared.FieldName.{FieldName}
use Rattle.layout.specs.declared.FieldName.TheVariants.{MessageType, MessageLength}
use Rattle.types.specs.Table.{known, layout_of}
use Rattle.types.specs.Limits.{longest_body}
use Rattle.header.specs.Layouts.{object_datagram_status_row, InTable, on_listed, datagrams, streams, subgroup_object, fetch_object}
use Rattle.parts.specs.Telling.{part_of}
use Rattle.parts.specs.declared.What.{What}
use Rattle.parts.specs.declared.What.TheVariants.{Number, Byte, Length, Left}
use Rattle.parts.specs.declared.Part.{Part}
use Rattle.parts.specs.declared.Subject.{Subject}
use Rattle.parts.specs.declared.Subject.TheVariants.{Message, Datagram, Stream, SubgroupObject, FetchObject}
use Rattle.explained.specs.Grammar.{Parts, end, stop, a_number, a_byte, some_bytes, parts_of}

-- the parts told, and the answer: how many bytes they took, or the number of the refusal, which fell at the last part
pub record Explained : Type 0 where
  pub parts : List Part
  pub answer : Answer Nothing

abbrev pub taking : ℕ → Explained
taking used = record { parts = []; answer = whole tt used }

abbrev pub refusing : ℕ → Explained
refusing number = record { parts = []; answer = refused number }

-- a part, and those after it
abbrev pub first : Part → Explained → Explained
first p e = record { parts = p ∷ e.parts; answer = e.answer }

-- ---- by a layout down to its parts, with the answer for a cut part

-- the bytes end in a part
abbrev pub cut_at : ℕ → FieldName → What → List ℕ → ℕ → Explained
cut_at cut name what s at = first (part_of name what 0 at (length s)) (refusing cut)

unfoldable pub explain : ℕ → Parts → List ℕ → ℕ → Explained
explain cut end s at = taking at
explain cut (stop fault) s at = refusing (fault_number cut fault)
explain cut (a_number name what next) s at =
    on_found (number_at s at) (cut_at cut name what s at)
    (λ n last. first (part_of name what n at last) (explain cut (next n) s last))
explain cut (a_byte name next) s at =
    let b = get_or s at 0 in
    guard (ltb at (length s)) (cut_at cut name Byte s at)
    (first (part_of name Byte b at (at + 1)) (explain cut (next b) s (at + 1)))
explain cut (some_bytes name what n next) s at =
    guard (leb n (length s - at)) (cut_at cut name what s at)
    (first (part_of name what 0 at (at + n)) (explain cut next s (at + n)))

-- ---- where bytes must be filled, up to their end: 4 where some are left, and they are the last part

abbrev pub filling_by : ℕ → Answer Nothing → Explained
filling_by size (whole _ used) =
    pick (ltb used size) (first (part_of MessageLength Left 0 used size) (refusing 4)) (taking used)
filling_by size (refused number) = refusing number

-- parts, and then others
abbrev pub leading : List Part → Explained → Explained
leading [] e = e
leading (p ∷ ps) e = first p (leading ps e)

abbrev pub filling : ℕ → Explained → Explained
filling size e = leading e.parts (filling_by size e.answer)

-- ---- A MESSAGE: "Type, known or not; Length, at most" 65,000; "whole body present; fields left to right, the first
-- fault deciding; no byte left over"

unfoldable pub body_explained : List ℕ → ℕ → ℕ → ℕ → Explained
body_explained s type size at =
    guard (leb size longest_body) (refusing 3)
    (guard (leb size (length s - at)) (refusing 1)
    (filling (at + size) (explain 4 (parts_of (layout_of type)) (take (at + size) s) at)))

unfoldable pub message_explained : List ℕ → Explained
message_explained s =
    on_found (number_at s 0) (cut_at 1 MessageType Number s 0) (λ type next.
    first (part_of MessageType Number type 0 next)
    (guard (known type) (refusing 2)
    (on_found (number_at s next) (cut_at 1 MessageLength Length s next) (λ size at.
    first (part_of MessageLength Length size next at) (body_explained s type size at)))))

-- ---- DATA HEADERS, by the answer for a cut one

unfoldable pub headed_explained : ℕ → (ℕ → InTable) → (ℕ → Explained → Explained) → List ℕ → Explained
headed_explained cut types ended s =
    on_found (number_at s 0) (cut_at cut MessageType Number s 0) (λ type at.
    first (part_of MessageType Number type 0 at)
    (on_listed (types type) (refusing 2) (λ l. ended type (explain cut (parts_of l) s at))))

-- no byte follows a status datagram
unfoldable pub datagram_explained : List ℕ → Explained
datagram_explained s =
    headed_explained 4 datagrams
    (λ type e. pick (eqb type object_datagram_status_row.number) (filling (length s) e) e) s

unfoldable pub stream_explained : List ℕ → Explained
stream_explained s = headed_explained 1 streams (λ type e. e) s

unfoldable pub subgroup_object_explained : List ℕ → Explained
subgroup_object_explained s = explain 1 (parts_of subgroup_object) s 0

unfoldable pub fetch_object_explained : List ℕ → Explained
fetch_object_explained s = explain 1 (parts_of fetch_object) s 0

-- ---- by what is read

abbrev pub explained_as : Subject → List ℕ → Explained
explained_as Message s = message_explained s
explained_as Datagram s = datagram_explained s
explained_as Stream s = stream_explained s
explained_as SubgroupObject s = subgroup_object_explained s
explained_as FetchObject s = fetch_object_explained s
