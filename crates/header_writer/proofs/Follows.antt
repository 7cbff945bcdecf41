-- What follows a datagram's header: a payload, or nothing after a status. Assumes nothing.
use Prim.Native.Nat.{ℕ, ◌≤◌}
use mathlib.Core.Path.{◌≡◌, refl}
use mathlib.Core.Bool.{false}
use mathlib.Core.List.{List, [], ◌++◌, append-nil}
use native.Mathlib.Omega.{arith}
use lib.ListN.{length}
use lib.Dec.{eqb, ltb}
use borrow.Author.Tests.{ne_eqb, le-ltb}
use Rattle.common.specs.Answer.{Answer, whole as answered, refused}
use Rattle.common.proofs.Cases.{pick-by, apart}
use Rattle.common.specs.Choice.{both}
use Rattle.common.proofs.Tests.{both_false}
use Rattle.layout.specs.Typed.{Typed}
use Rattle.header.specs.Layouts.{object_datagram_row, object_datagram_status_row, datagrams}
use Rattle.header.specs.Reading.{headed_of, ended_datagram, datagram_of}
use Rattle.header.specs.Told.{datagram_typed}
use Rattle.header_writer.specs.Codecs.{takes_payload}
use Rattle.header.specs.declared.Datagram.{Datagram}
use Rattle.header.specs.declared.Datagram.TheVariants.{Object, Status}

module _ (s : List ℕ) {t : Typed} {used : ℕ} where
  -- a header without a status is whole, whatever follows it,
  pub not-closed : (t.type ≡ object_datagram_status_row.number → ⊥) → headed_of 4 datagrams s ≡ answered t used → datagram_of s ≡ answered t used
  unfolding datagram_of
  not-closed other h = rw (h, ne_eqb t.type object_datagram_status_row.number other)

  -- any is where nothing follows,
  pub none-follows : length s ≤ used → headed_of 4 datagrams s ≡ answered t used → datagram_of s ≡ answered t used
  unfolding datagram_of
  none-follows end h = rw (h, le-ltb used (length s) end, both_false (eqb t.type object_datagram_status_row.number))

  -- and a whole datagram has such a header
  opened : (size : ℕ) (a : Answer Typed) → ended_datagram size a ≡ answered t used → a ≡ answered t used
  opened size (answered u end) h =
      pick-by (λ (r : Answer Typed). r ≡ answered t used → answered u end ≡ answered t used) (both (eqb u.type object_datagram_status_row.number) (ltb end size))
      (λ _ e. absurd (apart e))
      (λ _ e. e)
      h
  opened size (refused n) h = h

  pub is-headed : datagram_of s ≡ answered t used → headed_of 4 datagrams s ≡ answered t used
  unfolding datagram_of
  is-headed = opened (length s) (headed_of 4 datagrams s)

-- so what may follow a datagram leaves it whole
pub may-follow : (d : Datagram) (s rest : List ℕ) {t : Typed} {used : ℕ} → t.type ≡ (datagram_typed d).type → (takes_payload d ≡ false → rest ≡ []) → length s ≤ used → headed_of 4 datagrams (s ++ rest) ≡ answered t used → datagram_of (s ++ rest) ≡ answered t used
may-follow (Object d) s rest e f end = not-closed (s ++ rest) (λ k. let z : object_datagram_row.number ≡ object_datagram_status_row.number = cc in omega arith)
may-follow (Status d n) s rest e f end = none-follows (s ++ rest) (rw (f refl, append-nil s) end)
