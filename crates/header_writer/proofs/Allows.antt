-- What its layout forbids in a header: a status that is none, and a payload's length of 0 that no status follows. Assumes nothing.
use Prim.Native.Nat.{ℕ, zero, suc}
use mathlib.Core.Path.{◌≡◌, refl}
use mathlib.Core.Bool.{Bool, true, false}
use native.Mathlib.Omega.{arith}
use borrow.Author.Tests.{lt-ltb, ne_eqb}
use lib.Dec.{eqb, ltb}
use Rattle.common.specs.Choice.{pick}
use Rattle.layout.specs.Layout.{place}
use Rattle.layout.specs.Allowed.{allowed}
use Rattle.common.proofs.Tests.{test-alone}
use Rattle.header.specs.Rules.{is_object_status}
use Rattle.header.specs.Layouts.{behind, status, object_datagram, datagram_status, subgroup_header, fetch_header, payload, layout_of, datagrams, streams}
use Rattle.header.specs.Told.{datagram_typed, stream_typed, payload_pieces}
use Rattle.header.specs.declared.ObjectDatagram.{ObjectDatagram}
use Rattle.header.specs.declared.Datagram.{Datagram}
use Rattle.header.specs.declared.Datagram.TheVariants.{Object, Status as WithStatus}
use Rattle.header.specs.declared.StreamHeader.{StreamHeader}
use Rattle.header.specs.declared.StreamHeader.TheVariants.{Subgroup, Fetch}
use Rattle.header.specs.declared.Payload.{Payload}
use Rattle.header.specs.declared.Payload.TheVariants.{Length, Status}

-- ---- a datagram

module _ {d : Datagram} {x : ObjectDatagram} where
  -- without a status holds nothing that could be forbidden,
  pub object-any : d ≡ Object x → true ≡ allowed (layout_of (datagrams (datagram_typed d).type)) (datagram_typed d).pieces
  unfolding allowed datagrams place object_datagram
  object-any e = rw e

  -- and with one is judged by it
  pub by-status : {n : ℕ} {a : Bool} → d ≡ WithStatus x n → a ≡ is_object_status n → a ≡ allowed (layout_of (datagrams (datagram_typed d).type)) (datagram_typed d).pieces
  unfolding allowed datagrams place behind object_datagram datagram_status status
  by-status {n} e h = rw (e, test-alone (is_object_status n)) h

-- ---- the header of a stream holds nothing that could be

pub stream-allowed : (h : StreamHeader) → true ≡ allowed (layout_of (streams (stream_typed h).type)) (stream_typed h).pieces
unfolding allowed streams subgroup_header fetch_header
stream-allowed (Subgroup h) = refl
stream-allowed (Fetch id) = refl

-- ---- a payload

-- a length of 0 would have a status follow,
not-zero : (n : ℕ) → pick (eqb n 0) false true ≡ ltb 0 n
not-zero zero = refl
not-zero (suc n) = rw (ne_eqb (suc n) 0 (λ e. omega arith), lt-ltb 0 (suc n) (omega arith))

module _ {p : Payload} {n : ℕ} {a : Bool} where
  pub length-is : p ≡ Length n → a ≡ ltb 0 n → a ≡ allowed payload (payload_pieces p)
  unfolding allowed status payload
  length-is e h = rw (e, not-zero n) h

  -- which is judged
  pub status-is : p ≡ Status n → a ≡ is_object_status n → a ≡ allowed payload (payload_pieces p)
  unfolding allowed status payload
  status-is e h = rw (e, test-alone (is_object_status n)) h
