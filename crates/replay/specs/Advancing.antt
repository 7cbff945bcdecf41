-- A trace that is read into a buffer, piece by piece: each piece goes after what is left of the bytes before.
use Rattle.std.specs.Prelude.{◌≡◌, ℕ, List, length, take, drop}
use Rattle.common.specs.Buffer.{over}
use Rattle.replay.specs.Progressing.{fed}
use Rattle.replay.specs.declared.Progress.{Progress}
use Rattle.replay.specs.declared.Advanced.{Advanced}

-- what a call does: the progress after the whole fields, how many bytes are left, and what the buffer then holds
pub record Onward : Type 0 where
  pub progress : Progress
  pub left : ℕ
  pub holds : List ℕ

-- the whole fields of the first bytes are taken; what is left goes to the front, and every byte after it stays
unfoldable pub advance_of : Progress → List ℕ → ℕ → Onward
advance_of p before filled =
    let h = fed p (take filled before) in
    record { progress = h.so_far; left = length h.rest; holds = over h.rest before }

pub record Advances (w : Onward) (r : Advanced) (after : List ℕ) : Type 0 where
  pub progress : r.progress ≡ w.progress
  pub left : r.left ≡ w.left
  pub holds : after ≡ w.holds

-- the bytes from one offset on, up to another, at the front, and every byte after them as it was
unfoldable pub kept_of : List ℕ → ℕ → ℕ → List ℕ
kept_of before from end = over (drop from (take end before)) before
