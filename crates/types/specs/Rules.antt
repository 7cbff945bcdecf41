-- "Forbidden field values (5)": what the layouts of messages and headers test. Where each of 01's is said:
--   "filter type other than 2, 3, 4": Subscriptions.antt, `filter`;
--   "end group below start group in SUBSCRIBE": here, `ends_after`;
--   "a fetch type 004 doesn't list": Fetches.antt, `range`;
--   "group order above 2 in SUBSCRIBE, or 0 or above 2 in SUBSCRIBE_OK": field/specs/Rules.antt, `askable`, `givable`;
--   "content exists above 1": Subscriptions.antt, `content`;
--   "track status above 4": here, `is_track_status`;
--   "or status 1 or 2 with a largest group or object that is not 0": here, `may_hold`;
--   "any other field number that 004 calls malformed or a protocol error": the group orders of FETCH and FETCH_OK, by
--   the same two; the status of an object, header/specs/Rules.antt, `is_object_status`.
use Rattle.std.specs.Prelude.{ℕ, Bool, true, leb, eqb}
use Rattle.common.specs.Choice.{pick, both}

-- "end group below start group in SUBSCRIBE"
unfoldable pub ends_after : ℕ → ℕ → Bool
ends_after start_group end_group = leb start_group end_group

-- "track status above 4,
unfoldable pub is_track_status : ℕ → Bool
is_track_status status = leb status 4

-- or status 1 or 2 with a largest group or object that is not 0": whether a status lets the largest group, or object,
-- be this number
unfoldable pub may_hold : ℕ → ℕ → Bool
may_hold status n = pick (both (leb 1 status) (leb status 2)) (eqb n 0) true
