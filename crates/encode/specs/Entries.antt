-- The shortest form of an entry, in front of its bytes.
use Rattle.std.specs.Prelude.{ℕ, List, ◌++◌}
use Rattle.integer.specs.Integer.{enc_of}
use Rattle.field.specs.declared.Kind.{Kind}
use Rattle.field.specs.declared.Kind.TheVariants.{Namespace, Parameters, Versions}

-- the numbers in front of the bytes of an entry, by its number and how many bytes it holds: a field of a namespace has
-- its length there, a parameter its type and its length; a version is its number, and holds none
unfoldable pub enc_head : Kind → ℕ → ℕ → List ℕ
enc_head Namespace number n = enc_of n
enc_head Parameters number n = enc_of number ++ enc_of n
enc_head Versions number n = enc_of number
