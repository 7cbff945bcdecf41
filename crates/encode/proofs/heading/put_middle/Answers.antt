-- `put_middle` meets its contract: each arm puts one of the four. Assumes nothing.
use mathlib.Core.List.{[], ◌∷◌}
use native.Mathlib.Omega.{arith}
use lib.ListN.{set}
use Rattle.common.specs.Buffer.{Put}
use Rattle.common.proofs.Puts.{put-length, Room, first_fits, ends-within, second_fits, both-fit, put_both, byte_put}
use Rattle.field.specs.Value.{part, enc_text}
use Rattle.measure.specs.Fields.{middle_pieces}
use Rattle.measure.specs.Measuring.{encode_all}
use Rattle.encode.proofs.Counts.{is-counted}
use Rattle.encode.proofs.Middles.{nothing_put, one-byte-is, some-bytes-is, one-byte-asks, some-bytes-ask, both-room, both_right}
use Rattle.encode.proofs.heading.put_middle.Goals as goal
use Rattle.encode.proofs.heading.put_middle.Goals.{In-Both}

pub bounds-out-0 : goal.bounds-out-0
bounds-out-0 c = one-byte-asks _ (c.requires.m_value, c.requires.m_in_bounds) c.in-Byte.is

pub put_text-requires : goal.put_text-requires
put_text-requires c = let h = some-bytes-ask _ (c.requires.m_value, c.requires.m_in_bounds) c.in-Bytes.is in record { p_value = h.0; p_in_bounds = h.1 }

-- there is room for a byte, and then for the part
room : (c : In-Both) → Room (c.in-Both.b ∷ []) (enc_text (part c.args.bytes.now c.in-Both.p)) (encode_all c.args.bytes.now (middle_pieces c.args.m)) c.args.out.now
room c = both-room _ _ (c.requires.m_value, c.requires.m_in_bounds) c.in-Both.is

-- which is put first
first : (c : In-Both) → Put (c.in-Both.b ∷ []) c.args.out.now 1 (set c.args.out.now 0 c.in-Both.b)
first c = byte_put _ _ (first_fits (room c))

pub slice_bounds-put_text-count : goal.slice_bounds-put_text-count
slice_bounds-put_text-count c = ends-within (room (goal.at.slice_bounds-put_text-count c).In-Both) (first (goal.at.slice_bounds-put_text-count c).In-Both)

pub slice_bounds-put_text-start : goal.slice_bounds-put_text-start
slice_bounds-put_text-start c = ends-within (room (goal.at.slice_bounds-put_text-start c).In-Both) (first (goal.at.slice_bounds-put_text-start c).In-Both)

pub put_text-n-requires : goal.put_text-n-requires
put_text-n-requires c = record { p_value = both_right _ (c.requires.m_value, c.requires.m_in_bounds) c.in-Both.is; p_in_bounds = second_fits (room (goal.at.put_text-n-requires c).In-Both) (first (goal.at.put_text-n-requires c).In-Both) }

pub overflow_add-result : goal.overflow_add-result
overflow_add-result c = is-counted (both-fit (room (goal.at.overflow_add-result c).In-Both) (first (goal.at.overflow_add-result c).In-Both) c.put_text-n.ensures) (omega arith)

pub returns-in-Byte : goal.returns-in-Byte
returns-in-Byte c = rw (one-byte-is _ c.in-Byte.is) (byte_put _ _ (one-byte-asks _ (c.requires.m_value, c.requires.m_in_bounds) c.in-Byte.is))

pub returns-in-Bytes : goal.returns-in-Bytes
returns-in-Bytes c = rw (some-bytes-is _ c.in-Bytes.is) c.put_text.ensures

pub returns-in-Both : goal.returns-in-Both
returns-in-Both c = put_both (room (goal.at.returns-in-Both c).In-Both) (first (goal.at.returns-in-Both c).In-Both) c.put_text-n.ensures

pub shape_of-out-in-Both : goal.shape_of-out-in-Both
shape_of-out-in-Both c = put-length (returns-in-Both c) c.requires.m_in_bounds

pub bounds-out-0-in-Both : goal.bounds-out-0-in-Both
bounds-out-0-in-Both c = first_fits (room (goal.at.bounds-out-0-in-Both c).In-Both)

pub returns-in-Nothing : goal.returns-in-Nothing
returns-in-Nothing c = nothing_put _ _ c.in-Nothing.is
