-- The shortest form of a number is the only one of its length, as in any edition. Assumes nothing.
use Prim.Native.Nat.{ℕ, ◌≤◌}
use mathlib.Core.Path.{◌≡◌}
use mathlib.Core.List.{List}
use lib.ListN.{length, take}
use Rattle.common.specs.Answer.{whole}
use Rattle.common.specs.Octets.{Octets}
use Rattle.integer.specs.Integer.{rfc9000, read_of, enc_of}
use Rattle.integer.proofs.Editions
use Rattle.integer.proofs.Widths.{table}

pub only : (s : List ℕ) {n used : ℕ} → Octets s → read_of s ≡ whole n used → used ≤ length (enc_of n) → take used s ≡ enc_of n
unfolding read_of enc_of
only s o e h = Editions.only rfc9000 table s o e h
