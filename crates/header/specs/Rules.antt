-- The statuses of an object: 0x0 normal, 0x1 does not exist, 0x3 end of group, 0x4 end of track. "Any other value
-- SHOULD be treated as a protocol error"
use Rattle.std.specs.Prelude.{ℕ, Bool, true, leb}
use Rattle.common.specs.Choice.{pick, both}

unfoldable pub is_object_status : ℕ → Bool
is_object_status status = pick (leb status 0x1) true (both (leb 0x3 status) (leb status 0x4))
