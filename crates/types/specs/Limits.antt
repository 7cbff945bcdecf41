-- The limit that all control messages have.
use Rattle.std.specs.Prelude.{ℕ}

-- the longest body: "Raise the limit to 65,000" (document 02, K8)
abbrev pub longest_body : ℕ
longest_body = 65_000
