-- What was read from the first bytes of a string is the same in the whole of it: found there, meaning the same, with the same
-- shortest form. Assumes nothing.
use Prim.Native.Nat.{ℕ}
use mathlib.Core.Path.{◌≡◌, sym, ap}
use mathlib.Core.List.{List, map}
use lib.ListN.{take, drop, take-append-drop}
use Rattle.field.specs.Outcome.{whole}
use Rattle.field.specs.Value.{mean, encode}
use Rattle.field.specs.declared.Piece.{Piece}
use Rattle.layout.specs.Layout.{Layout, scan}
use Rattle.layout.proofs.Scanned.{scanned}
use Rattle.layout.proofs.Stable.{whole-stays, values-stay}
use Rattle.measure.specs.Measuring.{encode_all}

module _ (l : Layout) (s : List ℕ) (end at : ℕ) {ps : List Piece} {last : ℕ} (found : scan l (take end s) at ≡ whole ps last) where
  -- It is found in the whole string,
  pub longer-found : scan l s at ≡ whole ps last
  longer-found = rw (take-append-drop end s) at (whole-stays l (take end s) (drop end s) at found)

  -- means the same there,
  pub longer-means : map (mean (take end s)) ps ≡ map (mean s) ps
  longer-means = sym (rw (take-append-drop end s) at (values-stay (drop end s) (scanned l (take end s) at found)))

  -- and is written the same.
  pub longer-encodes : encode_all (take end s) ps ≡ encode_all s ps
  unfolding encode_all
  longer-encodes = ap encode longer-means
