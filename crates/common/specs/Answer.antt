-- What is answered, in the numbers of document 01.
use Rattle.std.specs.Prelude.{ℕ, ◌≡◌, List}

-- An answer is 0, with what was read and the bytes used; or the number of a refusal, and nothing with it.
pub data Answer (A : Type 0) : Type 0 where
  whole : A → ℕ → Answer A
  refused : ℕ → Answer A

-- document 01's number of an answer
unfoldable pub number : {A : Type 0} → Answer A → ℕ
number (whole a used) = 0
number (refused n) = n

-- a writer hands back nothing but how many bytes it used
abbrev pub Nothing : Type 0
Nothing = Unit {0}

abbrev pub wrote : ℕ → Answer Nothing
wrote used = whole tt used

-- What a writer does: what it answers, and what its buffer then holds.
pub record Written : Type 0 where
  pub says : Answer Nothing
  pub holds : List ℕ

-- a refusal, and the buffer as it was
abbrev pub unwritten : ℕ → List ℕ → Written
unwritten number before = record { says = refused number; holds = before }

pub record Leaves (w : Written) (said : Answer Nothing) (after : List ℕ) : Type 0 where
  pub says : said ≡ w.says
  pub holds : after ≡ w.holds
