-- WHAT AN EXPLANATION COMES TO: all of its lines, to the end.
use Rattle.std.specs.Prelude.{◌≡◌, ℕ, true, false, List, [], ◌++◌, ◌==◌}
use Rattle.parts.specs.declared.Part.{Part}
use Rattle.explained.specs.Explaining.{Explained, first, taking, refusing}
use Rattle.explanation_lines.specs.Lines.{part_line, faulty_line, left_line, mark_line}
use Rattle.explanation.specs.Telling.{next_told, is_nothing}
use Rattle.explanation.specs.declared.Explaining.{Explaining}

-- what is told of a field from there on
pub data Prints (field : List ℕ) : Explaining → List ℕ → Type 0 where
  over : {e : Explaining} → is_nothing e.due ≡ true → Prints field e []
  more : {e : Explaining} {rest : List ℕ} → is_nothing e.due ≡ false → Prints field (next_told field e).next rest
      → Prints field e ((next_told field e).text ++ rest)

-- the lines of parts, of bytes whose first one has that offset: one for each part, of which the one that stands at the
-- front is the type of a message; the mark, under the part that is refused; or the bytes that are left
pub data PartLines (offset : ℕ) (s : List ℕ) : Explained → List ℕ → Type 0 where
  part : {p : Part} {e : Explained} {text : List ℕ} → PartLines offset s e text
      → PartLines offset s (first p e) (part_line offset s (p.start == 0) p ++ text)
  faulty : {p : Part} {number : ℕ}
      → PartLines offset s (first p (refusing number)) (faulty_line offset s p ++ mark_line number)
  refused : {number : ℕ} → PartLines offset s (refusing number) (mark_line number)
  whole : {used : ℕ} → PartLines offset s (taking used) (left_line offset s used)
