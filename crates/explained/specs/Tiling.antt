-- What is claimed of parts.
use Rattle.std.specs.Prelude.{ℕ, ◌≤◌, ◌≡◌, List, [], ◌∷◌}
use Rattle.common.specs.Answer.{Answer, Nothing, whole, refused}
use Rattle.message.specs.Reading.{read_of}
use Rattle.header.specs.Reading.{datagram_of, stream_of, subgroup_object_of, fetch_object_of}
use Rattle.parts.specs.Telling.{going, staying, next_of}
use Rattle.parts.specs.declared.Part.{Part}
use Rattle.parts.specs.declared.Subject.{Subject}
use Rattle.parts.specs.declared.Subject.TheVariants.{Message, Datagram, Stream, SubgroupObject, FetchObject}
use Rattle.parts.specs.declared.Cursor.{Cursor}
use Rattle.parts.specs.declared.Step.TheVariants.{Refused as IsRefused, Faulty, Whole}
use Rattle.explained.specs.Explaining.{Explained, first, taking, refusing}

-- an answer, without what was read
abbrev pub forget : {A : Type 0} → Answer A → Answer Nothing
forget (whole a used) = whole tt used
forget (refused number) = refused number

-- what the readers of messages and headers answer
abbrev pub answered_as : Subject → List ℕ → Answer Nothing
answered_as Message s = forget (read_of s)
answered_as Datagram s = forget (datagram_of s)
answered_as Stream s = forget (stream_of s)
answered_as SubgroupObject s = forget (subgroup_object_of s)
answered_as FetchObject s = forget (fetch_object_of s)

-- parts that stand one behind the other, without a gap, from an offset up to another
pub data Tiles : ℕ → List Part → ℕ → Type 0 where
  none : {at : ℕ} → Tiles at [] at
  next : {p : Part} {ps : List Part} {end : ℕ} → p.start ≤ p.end → Tiles p.end ps end
      → Tiles p.start (p ∷ ps) end

-- what is told from a cursor on, one part at a time
pub data Tells (s : List ℕ) : Cursor → Explained → Type 0 where
  part : {c d : Cursor} {p : Part} {e : Explained} → next_of s c ≡ going p d → Tells s d e → Tells s c (first p e)
  before : {c : Cursor} {number : ℕ} → next_of s c ≡ staying (IsRefused number) c → Tells s c (refusing number)
  here : {c : Cursor} {p : Part} {number : ℕ} → next_of s c ≡ staying (Faulty p number) c
      → Tells s c (first p (refusing number))
  all : {c : Cursor} {used : ℕ} → next_of s c ≡ staying (Whole used) c → Tells s c (taking used)
