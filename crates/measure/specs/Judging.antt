-- How a field is judged before it is written: 5 for what can't be written, then 6 for 01's sizes, then the bytes it may
-- take.
use Rattle.std.specs.Prelude.{ℕ, ◌+◌, List, Bool, true, false, length, leb, eqb, Result, Ok, Err}
use Rattle.common.specs.Choice.{guard, pick, both}
use Rattle.integer.specs.Integer.{greatest}
use Rattle.field.specs.Outcome.{Outcome, whole, no}
use Rattle.field.specs.Entries.{size, entries_at, few}
use Rattle.field.specs.Value.{part, contents, total, mean, enc_text, enc_list, enc_field}
use Rattle.field.specs.declared.Span.{Span}
use Rattle.field.specs.declared.Entries.{Entries}
use Rattle.field.specs.declared.Kind.{Kind}
use Rattle.field.specs.declared.Kind.TheVariants.{Namespace}
use Rattle.field.specs.declared.Piece.{Piece}
use Rattle.field.specs.declared.Piece.TheVariants.{Number, Byte, Bytes, List as Listing, Track as Tracked}
use Rattle.layout.specs.Permitted.{within}
use Rattle.measure.specs.Small.{small_span, small_list}
use Rattle.measure.specs.declared.Unfit.{Unfit}
use Rattle.measure.specs.declared.Unfit.TheVariants.{TooLong, Oversize, Forbidden}

-- ---- 5

-- a part that lies within the bytes
unfoldable pub right_span : List ℕ → Span → Bool
right_span s p = both (leb p.start p.end) (both (leb p.end (length s)) (small_span p))

-- "bytes handed to it that don't make exactly the stated entries answer 5"
abbrev pub ends_at : Outcome ℕ → ℕ → Bool
ends_at (whole held last) end = eqb last end
ends_at (no fault) end = false

unfoldable pub right_list : List ℕ → Kind → Entries → Bool
right_list s kind l =
    both (small_list l)
    (both (leb l.end (length s)) (ends_at (entries_at false kind l.count 0 s l.start) l.end))

unfoldable pub right : List ℕ → Piece → Bool
right s (Number n) = leb n greatest
right s (Byte b) = true
right s (Bytes p) = right_span s p
right s (Listing kind l) = right_list s kind l
right s (Tracked t) = both (right_list s Namespace t.namespace) (right_span s t.name)

-- ---- 6

unfoldable pub sized_list : List ℕ → Kind → Entries → ℕ → Bool
sized_list s kind l also = both (few kind l.count) (within kind (total (contents s kind l) + also))

unfoldable pub sized : List ℕ → Piece → Bool
sized s (Number n) = true
sized s (Byte b) = true
sized s (Bytes p) = true
sized s (Listing kind l) = sized_list s kind l 0
sized s (Tracked t) = sized_list s Namespace t.namespace (size t.name)

-- ---- the judgement

-- how many bytes it takes, or why it can't
abbrev pub Judged : Type 0
Judged = Result ℕ Unfit

-- that many bytes, of the room there is
unfoldable pub fit : ℕ → ℕ → Judged
fit n room = pick (leb n room) (Ok n) (Err TooLong)

unfoldable pub judged : Bool → Bool → ℕ → ℕ → Judged
judged is_right is_sized n room = guard is_right (Err Forbidden) (guard is_sized (Err Oversize) (fit n room))

unfoldable pub measure_span : List ℕ → Span → ℕ → Judged
measure_span s p room = judged (right_span s p) true (length (enc_text (part s p))) room

unfoldable pub measure_list : List ℕ → Kind → Entries → ℕ → ℕ → Judged
measure_list s kind l also room =
    judged (right_list s kind l) (sized_list s kind l also) (length (enc_list kind (contents s kind l))) room

unfoldable pub measure_of : List ℕ → Piece → ℕ → Judged
measure_of s p room = judged (right s p) (sized s p) (length (enc_field (mean s p))) room

-- the graver of two refusals
unfoldable pub graver : Unfit → Unfit → Unfit
graver Forbidden y = Forbidden
graver Oversize Forbidden = Forbidden
graver Oversize Oversize = Oversize
graver Oversize TooLong = Oversize
graver TooLong y = y

-- two judgements as one: the graver of them, and both together of the room there is
unfoldable pub joined : Judged → Judged → ℕ → Judged
joined (Err x) (Err y) room = Err (graver x y)
joined (Err x) (Ok n) room = Err x
joined (Ok m) (Err y) room = Err y
joined (Ok m) (Ok n) room = fit (m + n) room
