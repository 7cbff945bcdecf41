-- Bytes at the front of a buffer.
use Rattle.std.specs.Prelude.{ℕ, ◌≡◌, List, ◌++◌, length, drop}

-- bytes put at the front of a buffer, and every byte after them as it was
abbrev pub over : List ℕ → List ℕ → List ℕ
over bytes before = bytes ++ drop (length bytes) before

-- bytes that were put there, and how many they are
pub record Put (bytes before : List ℕ) (used : ℕ) (after : List ℕ) : Type 0 where
  pub count : used ≡ length bytes
  pub holds : after ≡ over bytes before
