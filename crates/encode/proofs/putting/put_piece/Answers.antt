-- `put_piece` meets its contract: each arm puts one kind of field. Assumes nothing.
use native.Mathlib.Omega.{arith}
use Rattle.common.proofs.Puts.{first_fits, ends-within, second_fits, both-fit, put_both, byte_put}
use Rattle.encode.proofs.Counts.{is-counted}
use Rattle.encode.proofs.Pieces.{number_is, byte-is, bytes-is, listing-is, number-asks, byte-asks, bytes-asks, list-asks, namespace-right, name-right, track-room}
use Rattle.encode.proofs.putting.put_piece.Goals as goal

pub put_number-requires : goal.put_number-requires
put_number-requires c = number-asks _ (c.requires.p_value, c.requires.p_in_bounds) c.in-Number.is

pub bounds-out-0 : goal.bounds-out-0
bounds-out-0 c = byte-asks _ (c.requires.p_value, c.requires.p_in_bounds) c.in-Byte.is

pub put_text-requires : goal.put_text-requires
put_text-requires c = let h = bytes-asks _ (c.requires.p_value, c.requires.p_in_bounds) c.in-Bytes.is in record { p_value = h.0; p_in_bounds = h.1 }

pub put_list-requires : goal.put_list-requires
put_list-requires c = let h = list-asks _ (c.requires.p_value, c.requires.p_in_bounds) c.in-List.is in record { l_value = h.0; l_in_bounds = h.1 }

pub put_list-head-requires : goal.put_list-head-requires
put_list-head-requires c =
    record {
      l_value = namespace-right _ (c.requires.p_value, c.requires.p_in_bounds) c.in-Track.is;
      l_in_bounds = first_fits (track-room _ c.args.out.now (c.requires.p_value, c.requires.p_in_bounds) c.in-Track.is);
    }

pub slice_bounds-put_text-count : goal.slice_bounds-put_text-count
slice_bounds-put_text-count c =
    ends-within (track-room _ _ (c.requires.p_value, c.requires.p_in_bounds) c.in-Track.is) c.put_list-head.ensures

pub slice_bounds-put_text-start : goal.slice_bounds-put_text-start
slice_bounds-put_text-start c =
    ends-within (track-room _ _ (c.requires.p_value, c.requires.p_in_bounds) c.in-Track.is) c.put_list-head.ensures

pub put_text-n-requires : goal.put_text-n-requires
put_text-n-requires c =
    record {
      p_value = name-right _ (c.requires.p_value, c.requires.p_in_bounds) c.in-Track.is;
      p_in_bounds = second_fits (track-room _ _ (c.requires.p_value, c.requires.p_in_bounds) c.in-Track.is) c.put_list-head.ensures;
    }

pub overflow_add-result : goal.overflow_add-result
overflow_add-result c =
    is-counted (both-fit (track-room _ _ (c.requires.p_value, c.requires.p_in_bounds) c.in-Track.is) c.put_list-head.ensures c.put_text-n.ensures) (omega arith)

pub returns-in-Number : goal.returns-in-Number
returns-in-Number c = rw (number_is _ c.in-Number.is) c.put_number.ensures

pub returns-in-Byte : goal.returns-in-Byte
returns-in-Byte c = rw (byte-is _ c.in-Byte.is) (byte_put _ _ (byte-asks _ (c.requires.p_value, c.requires.p_in_bounds) c.in-Byte.is))

pub returns-in-Bytes : goal.returns-in-Bytes
returns-in-Bytes c = rw (bytes-is _ c.in-Bytes.is) c.put_text.ensures

pub returns-in-List : goal.returns-in-List
returns-in-List c = rw (listing-is _ c.in-List.is) c.put_list.ensures

pub returns-in-Track : goal.returns-in-Track
returns-in-Track c =
    put_both (track-room _ _ (c.requires.p_value, c.requires.p_in_bounds) c.in-Track.is) c.put_list-head.ensures c.put_text-n.ensures
