-- How a call ends once something was read, by what the writer said. What was read is refused for nothing but want of
-- room.
use Rattle.std.specs.Prelude.{ℕ, List, [], ◌∷◌}
use Rattle.common.specs.Answer.{Answer, whole, refused, Nothing}
use Rattle.common.specs.Buffer.{over}

-- 01's number
unfoldable pub end_number : Answer Nothing → ℕ
end_number (whole _ written) = 0
end_number (refused number) = 7

-- what `info` then holds: bytes used, bytes written, the type
unfoldable pub end_info : Answer Nothing → ℕ → ℕ → List ℕ → List ℕ
end_info (whole _ written) used type info = over (used ∷ written ∷ type ∷ []) info
end_info (refused number) used type info = info
