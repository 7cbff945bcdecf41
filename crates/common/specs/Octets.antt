-- Byte strings: lists of numbers that are below 256, each of them. Only a law that tells bytes from what they spell
-- asks for this.
use Rattle.std.specs.Prelude.{ℕ, ◌<◌, List, get_or}

abbrev pub Octets : List ℕ → Type 0
Octets s = (i : ℕ) → get_or s i 0 < 256
