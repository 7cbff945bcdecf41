-- What waits on a page.
use Rattle.std.specs.Prelude.{ℕ, ◌-◌, ◌≤◌, ◌≡◌, List, length, take, drop}

-- the last of the bytes that wait are a text
abbrev pub EndsIn : List ℕ → ℕ → List ℕ → Type 0
EndsIn bytes used text = (length text ≤ used) × (take (length text) (drop (used - length text) bytes) ≡ text)
