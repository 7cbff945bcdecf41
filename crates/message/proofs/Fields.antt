-- The fields of a whole message: they are permitted, and their parts lie within the bytes used. Assumes nothing.
use Prim.Native.Nat.{ℕ, ◌≤◌}
use mathlib.Core.Path.{◌≡◌}
use mathlib.Core.List.{List, map}
use mathlib.Core.Bool.{true}
use native.Mathlib.Omega.{arith}
use lib.ListN.{length, take}
use Rattle.field.specs.Outcome.{whole}
use Rattle.field.specs.Entries.{number_at}
use Rattle.field.specs.Value.{mean}
use Rattle.field.proofs.Found.{number-at}
use Rattle.layout.specs.Permitted.{permitted}
use Rattle.layout.specs.Inside.{Inside}
use Rattle.layout.specs.Typed.{Typed}
use Rattle.layout.proofs.Scanned.{scanned}
use Rattle.layout.proofs.Shortest.{scanned-shortest}
use Rattle.layout.proofs.Inside as layout
use Rattle.types.specs.Table.{layout_of}
use Rattle.message.proofs.Front.{WholeAt}

module _ {limit : ℕ} (s : List ℕ) {t : Typed} {used : ℕ} where
  -- its fields are permitted,
  pub is-permitted : WholeAt limit s t used → permitted (layout_of t.type) (map (mean (take used s)) t.pieces) ≡ true
  is-permitted w = (scanned-shortest (scanned (layout_of t.type) (take used s) w.at w.body)).is-permitted

  -- it takes two bytes at least, and all of them are there,
  pub used-there : WholeAt limit s t used → (2 ≤ used) × (used ≤ length s)
  used-there w =
      let h = w.head in
      let type-ends = (number-at s 0 h.type_at).after in
      let length-ends = (number-at s h.next h.length_at).after in
      (omega (arith, w.ends), w.present)

  -- and its parts lie after the Type and the Length that are there
  pub inside : {next size at : ℕ} → number_at s 0 ≡ whole t.type next → number_at s next ≡ whole size at → WholeAt limit s t used → Inside at used t.pieces
  inside {next} {at = at} e f w =
      let mid : next ≡ w.head.next = cc in
      let end : at ≡ w.at = cc in
      rw end (layout.inside (layout_of t.type) (take used s) w.at w.body)
