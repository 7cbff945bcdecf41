-- What stands at an offset of bytes: a number, a length and bytes, an entry, a run of entries.
use Rattle.std.specs.Prelude.{ℕ, zero, suc, ◌+◌, ◌-◌, List, Bool, true, false, length, drop, leb}
use Rattle.common.specs.Choice.{guard, both}
use Rattle.integer.specs.Integer.{read_of, on_read, greatest}
use Rattle.field.specs.Outcome.{Outcome, whole, no, and_then}
use Rattle.field.specs.declared.Fault.TheVariants.{Cut, Oversize}
use Rattle.field.specs.declared.Span.{Span}
use Rattle.field.specs.declared.Entry.{Entry}
use Rattle.field.specs.declared.Entries.{Entries}
use Rattle.field.specs.declared.Kind.{Kind}
use Rattle.field.specs.declared.Kind.TheVariants.{Namespace, Parameters, Versions}

-- "Sizes (6, never 5): 1 to 32 namespace fields; namespace field bytes plus name bytes at most 4,096; at most 64
-- parameters."
abbrev pub most_fields : ℕ
most_fields = 32

abbrev pub longest_track : ℕ
longest_track = 4_096

abbrev pub most_parameters : ℕ
most_parameters = 64

-- how many bytes a part has
abbrev pub size : Span → ℕ
size p = p.end - p.start

-- an integer
unfoldable pub number_at : List ℕ → ℕ → Outcome ℕ
number_at s at = on_read (read_of (drop at s)) (no Cut) (λ n used. whole n (at + used))

-- "A name or reason is a length and bytes." The length is judged as soon as it is read: over `most` it is a size, even
-- where the bytes it names are missing
unfoldable pub text_at : ℕ → List ℕ → ℕ → Outcome Span
text_at most s at =
    and_then (number_at s at) λ n start.
    guard (leb n most) (no Oversize)
    (guard (leb n (length s - start)) (no Cut) (whole (record { start = start; end = start + n }) (start + n)))

-- an entry that has a number and may hold `most` bytes
unfoldable pub numbered_at : ℕ → ℕ → List ℕ → ℕ → Outcome Entry
numbered_at number most s at = and_then (text_at most s at) λ p end. whole (record { number = number; bytes = p }) end

-- a field of a namespace is a length and bytes; a parameter a type, a length and bytes; a version a number
unfoldable pub entry_at : Kind → ℕ → List ℕ → ℕ → Outcome Entry
entry_at Namespace most s at = numbered_at 0 most s at
entry_at Parameters most s at = and_then (number_at s at) λ type next. numbered_at type most s next
entry_at Versions most s at =
    and_then (number_at s at) λ version end.
    whole (record { number = version; bytes = record { start = end; end = end } }) end

-- which entries begin with a number, and which hold bytes
abbrev pub has_number : Kind → Bool
has_number Namespace = false
has_number Parameters = true
has_number Versions = true

abbrev pub has_bytes : Kind → Bool
has_bytes Namespace = true
has_bytes Parameters = true
has_bytes Versions = false

-- how many of a track's bytes are left when that many are held. Where sizes are not judged, and for other entries, a
-- length may be anything
unfoldable pub most_of : Bool → Kind → ℕ → ℕ
most_of true Namespace held = longest_track - held
most_of true Parameters held = greatest
most_of true Versions held = greatest
most_of false kind held = greatest

-- count entries, one after the other, when that many bytes are held: how many are held then, and where the last ends
unfoldable pub entries_at : Bool → Kind → ℕ → ℕ → List ℕ → ℕ → Outcome ℕ
entries_at sized kind zero held s at = whole held at
entries_at sized kind (suc count) held s at =
    and_then (entry_at kind (most_of sized kind held) s at) λ e end.
    entries_at sized kind count (held + size e.bytes) s end

-- how many entries there may be; no size for versions
unfoldable pub few : Kind → ℕ → Bool
few Namespace count = both (leb 1 count) (leb count most_fields)
few Parameters count = leb count most_parameters
few Versions count = true

-- a count and as many entries, and how many bytes they hold
pub record Listed : Type 0 where
  pub entries : Entries
  pub held : ℕ

unfoldable pub list_at : Kind → List ℕ → ℕ → Outcome Listed
list_at kind s at =
    and_then (number_at s at) λ count first.
    guard (few kind count) (no Oversize)
    (and_then (entries_at true kind count 0 s first) λ held end.
    whole (record { entries = record { start = first; end = end; count = count }; held = held }) end)
