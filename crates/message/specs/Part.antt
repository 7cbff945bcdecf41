-- What it is to be a part of the caller's bytes: no copy, and not the same bytes elsewhere, but these bytes where they
-- lie.
use Rattle.std.specs.Prelude.{ℕ, ◌+◌, ◌≡◌, List}
use Rattle.std.specs.Borrow.{Bor}
use Rattle.field.specs.Value.{part}
use Rattle.field.specs.declared.Span.{Span}

-- `r` is the part `p` of `s`: it points into the block of memory that `s` points into, as many bytes further on as the
-- part starts, and refers to the bytes of that part
pub record PartOf (s r : Bor (List ℕ)) (p : Span) : Type 0 where
  pub block : r.ref_ptr.0 ≡ s.ref_ptr.0
  pub place : r.ref_ptr.1 ≡ s.ref_ptr.1 + p.start
  pub content : r.now ≡ part s.now p
