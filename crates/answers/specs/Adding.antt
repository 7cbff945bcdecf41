-- How text is put in two passes: one that counts, and one that puts.
use Rattle.std.specs.Prelude.{ℕ, ◌+◌, ◌≤◌, ◌≡◌, List, ◌++◌, length, take, drop, leb}
use Rattle.common.specs.Choice.{guard}
use Rattle.common.specs.Answer.{Answer, refused, Nothing, wrote}
use Rattle.common.specs.Buffer.{over}

-- what a pass does with a text that follows bytes already there: it says whether both fit the room; and in a
-- buffer of that size the text then stands there
pub record Adds (text : List ℕ) (at room : ℕ) (before : List ℕ) (said : Answer Nothing) (after : List ℕ) : Type 0 where
  pub says : said ≡ guard (leb (at + length text) room) (refused 7) (wrote (at + length text))
  pub keeps : length after ≡ length before
  pub holds : length before ≡ room → at + length text ≤ room → after ≡ take at before ++ over text (drop at before)
