-- Fields taken out of a list of them again, each by its position: so a list of fields tells which message it is of.
use Prim.Native.Nat.{ℕ, suc}
use mathlib.Core.List.{List}
use lib.ListN.{get_or}
use Rattle.field.specs.Value.{nowhere}
use Rattle.field.specs.declared.Span.{Span}
use Rattle.field.specs.declared.Entries.{Entries}
use Rattle.field.specs.declared.Track.{Track}
use Rattle.field.specs.declared.Place.{Place}
use Rattle.field.specs.declared.Failure.{Failure}
use Rattle.field.specs.declared.Piece.{Piece}
use Rattle.field.specs.declared.Piece.TheVariants.{Number, Byte, Bytes, List as Listing, Track as Tracked}
use Rattle.layout.specs.Layout.{control}

-- ---- the bytes and the entries that a piece holds, none where it is of another form; `control` gives its number or byte

abbrev no_entries : Entries
no_entries = record { start = 0; end = 0; count = 0 }

abbrev span_of : Piece → Span
span_of (Number n) = nowhere
span_of (Byte b) = nowhere
span_of (Bytes p) = p
span_of (Listing kind l) = nowhere
span_of (Tracked t) = t.name

abbrev entries_of : Piece → Entries
entries_of (Number n) = no_entries
entries_of (Byte b) = no_entries
entries_of (Bytes p) = no_entries
entries_of (Listing kind l) = l
entries_of (Tracked t) = t.namespace

-- ---- what the piece at a position holds, 0 where there is none: a number or a byte; bytes; entries; a track;

abbrev piece_in : List Piece → ℕ → Piece
piece_in ps i = get_or ps i (Number 0)

abbrev pub number_in : List Piece → ℕ → ℕ
number_in ps i = control (piece_in ps i)

abbrev pub bytes_in : List Piece → ℕ → Span
bytes_in ps i = span_of (piece_in ps i)

abbrev pub entries_in : List Piece → ℕ → Entries
entries_in ps i = entries_of (piece_in ps i)

abbrev pub track_in : List Piece → ℕ → Track
track_in ps i = record { namespace = entries_in ps i; name = bytes_in ps i }

-- and two that stand together: a place, a failure
abbrev pub place_in : List Piece → ℕ → Place
place_in ps i = record { group = number_in ps i; object = number_in ps (suc i) }

abbrev pub failure_in : List Piece → ℕ → Failure
failure_in ps i = record { code = number_in ps i; reason = bytes_in ps (suc i) }
