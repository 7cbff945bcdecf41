-- `put_content` meets its contract. Assumes nothing.
use mathlib.Core.Path.{sym}
use native.Mathlib.Omega.{arith}
use lib.Seq.{length-take-le}
use borrow.Author.Tests.{le-leb, lt-leb}
use Rattle.types.specs.Letters.{letters}
use Rattle.columns.specs.Columns.{most_text, content_text}
use Rattle.columns.proofs.Poured.{poured-three}
use Rattle.columns.proofs.texts.put_content.Goals as goal

pub slice_bounds-put_text_or-end : goal.slice_bounds-put_text_or-end
slice_bounds-put_text_or-end c = sym (length-take-le _ c.args.s.now (omega arith))

pub returns-then-s-le-MOST_TEXT : goal.returns-then-s-le-MOST_TEXT
unfolding content_text
returns-then-s-le-MOST_TEXT c =
    rw (le-leb _ most_text c.if-s-le-MOST_TEXT.true, ← c.is_text-printable.ensures) c.put_text_or.ensures

pub returns : goal.returns
unfolding content_text letters
returns c =
    rw (lt-leb _ most_text c.if-s-le-MOST_TEXT.false, ← c.is_text-printable.ensures) (poured-three _ _ _ _ c.put_text_or-shown.ensures c.put_bytes-next.ensures c.put_size.ensures)
