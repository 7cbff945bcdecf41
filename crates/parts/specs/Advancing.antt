-- Where the next part stands, once a part was read that holds the number n and ends at an offset.
use Rattle.std.specs.Prelude.{ℕ, ◌+◌, ◌-◌, min, [], leb, ltb, true}
use Rattle.common.specs.Choice.{pick, guard}
use Rattle.field.specs.Entries.{longest_track, most_of, few}
use Rattle.field.specs.declared.Kind.{Kind}
use Rattle.field.specs.declared.Kind.TheVariants.{Namespace, Parameters, Versions}
use Rattle.types.specs.Limits.{longest_body}
use Rattle.outline.specs.Places.{ahead_at}
use Rattle.outline.specs.declared.Form.{Form}
use Rattle.outline.specs.declared.Form.TheVariants.{Integer, Byte as AByte, Bytes as SomeBytes, List as AList, Track as ATrack}
use Rattle.outline.specs.declared.Ahead.{Ahead}
use Rattle.outline.specs.declared.Ahead.TheVariants.{Field, Done, Forbidden}
use Rattle.outline.specs.declared.Outline.{Outline}
use Rattle.outline.specs.declared.Outline.TheVariants.{Message, Datagram, Stream, SubgroupObject, FetchObject}
use Rattle.parts.specs.Cursors.{ahead_by, onward, hand_on}
use Rattle.parts.specs.Expecting.{kind_in}
use Rattle.parts.specs.declared.Stage.{Stage}
use Rattle.parts.specs.declared.Stage.TheVariants.{TypeNumber as AtType, Length as AtLength, Refused as Stopped, Field as AtField, Content, Entry, EntryLength, EntryContent, NameLength}
use Rattle.parts.specs.declared.Cursor.{Cursor}

-- ---- the type

-- what is laid out, by its type
abbrev pub typed_as : Outline → ℕ → Outline
typed_as (Message _) type = Message type
typed_as (Datagram _) type = Datagram type
typed_as (Stream _) type = Stream type
typed_as SubgroupObject type = SubgroupObject
typed_as FetchObject type = FetchObject

-- "Type, known or not": a type is known that has a layout. A message's Length stands before its fields
abbrev pub behind_type : Ahead → Outline → Stage
behind_type Forbidden outline = Stopped 2
behind_type Done outline = AtField
behind_type (Field name form) (Message _) = AtLength
behind_type (Field name form) (Datagram _) = AtField
behind_type (Field name form) (Stream _) = AtField
behind_type (Field name form) SubgroupObject = AtField
behind_type (Field name form) FetchObject = AtField

unfoldable pub after_type : Cursor → ℕ → ℕ → Cursor
after_type c type at =
    let outline = typed_as c.place.outline type in
    record {
      place = record { outline = outline; numbers = c.place.numbers; passed = c.place.passed };
      stage = behind_type (ahead_at outline []) outline;
      at = at;
      end = c.end;
    }

-- ---- the Length

-- "Length, at most" 65,000; "whole body present", among that many bytes; the fields are looked for in the body alone
unfoldable pub after_length : Cursor → ℕ → ℕ → ℕ → Cursor
after_length c size at all =
    guard (leb size longest_body) (onward c (Stopped 3) at)
    (guard (leb size (all - at)) (onward c (Stopped 1) at)
    (record { place = c.place; stage = AtField; at = at; end = at + size }))

-- ---- in a field

-- that many entries are left, when those before hold that many bytes. Behind a track's namespace stands its name
abbrev pub entries_end : Cursor → Form → ℕ → ℕ → Cursor
entries_end c ATrack held at = onward c (NameLength held) at
entries_end c (AList kind) held at = hand_on c 0 at
entries_end c Integer held at = hand_on c 0 at
entries_end c AByte held at = hand_on c 0 at
entries_end c SomeBytes held at = hand_on c 0 at

unfoldable pub entries_left : Cursor → Form → ℕ → ℕ → ℕ → Cursor
entries_left c form left held at = pick (ltb 0 left) (onward c (Entry left held) at) (entries_end c form held at)

-- "Sizes (6, never 5)": a count is judged before an entry is looked for,
unfoldable pub counted_by : Cursor → Form → Kind → ℕ → ℕ → Cursor
counted_by c form kind count at = guard (few kind count) (onward c (Stopped 6) at) (entries_left c form count 0 at)

-- and a length in a track by how many of its bytes are held
unfoldable pub bounded_by : Cursor → ℕ → ℕ → Stage → ℕ → Cursor
bounded_by c held n stage at = guard (leb n (most_of true Namespace held)) (onward c (Stopped 6) at) (onward c stage at)

-- how many bytes are held with n more; past the size of a track it makes no difference
abbrev pub held_with : ℕ → ℕ → ℕ
held_with held n = min longest_track (held + n)

-- what a field began with: a number or a byte is all of it; a length or a count says what follows
abbrev pub after_first : Cursor → Form → ℕ → ℕ → Cursor
after_first c Integer n at = hand_on c n at
after_first c AByte n at = hand_on c n at
after_first c SomeBytes n at = onward c (Content n) at
after_first c (AList kind) n at = counted_by c (AList kind) kind n at
after_first c ATrack n at = counted_by c ATrack Namespace n at

-- what an entry began with: its length; its own number, and its length stands behind it; or all of it
abbrev pub after_entry_of : Kind → Cursor → Form → ℕ → ℕ → ℕ → ℕ → Cursor
after_entry_of Namespace c form left held n at = bounded_by c held n (EntryContent left held n) at
after_entry_of Parameters c form left held n at = onward c (EntryLength left held) at
after_entry_of Versions c form left held n at = entries_left c form (left - 1) held at

abbrev pub after_entry : Cursor → Form → ℕ → ℕ → ℕ → ℕ → Cursor
after_entry c form left held n at = after_entry_of (kind_in form) c form left held n at

abbrev pub advanced_by : Stage → Cursor → Form → ℕ → ℕ → Cursor
advanced_by AtType c form n at = c
advanced_by AtLength c form n at = c
advanced_by (Stopped number) c form n at = c
advanced_by AtField c form n at = after_first c form n at
advanced_by (Content size) c form n at = hand_on c 0 at
advanced_by (Entry left held) c form n at = after_entry c form left held n at
advanced_by (EntryLength left held) c form n at = onward c (EntryContent left held n) at
advanced_by (EntryContent left held size) c form n at = entries_left c form (left - 1) (held_with held size) at
advanced_by (NameLength held) c form n at = bounded_by c held n (Content n) at

abbrev pub advanced_in : Cursor → Form → ℕ → ℕ → Cursor
advanced_in c form n at = advanced_by c.stage c form n at

-- ---- after a part, among that many bytes

abbrev pub advanced_ahead : Ahead → Cursor → ℕ → ℕ → Cursor
advanced_ahead (Field name form) c n at = advanced_in c form n at
advanced_ahead Done c n at = c
advanced_ahead Forbidden c n at = c

abbrev pub advanced_at : Stage → Cursor → ℕ → ℕ → ℕ → Cursor
advanced_at AtType c n at all = after_type c n at
advanced_at AtLength c n at all = after_length c n at all
advanced_at (Stopped number) c n at all = c
advanced_at AtField c n at all = advanced_ahead (ahead_by c.place) c n at
advanced_at (Content size) c n at all = advanced_ahead (ahead_by c.place) c n at
advanced_at (Entry left held) c n at all = advanced_ahead (ahead_by c.place) c n at
advanced_at (EntryLength left held) c n at all = advanced_ahead (ahead_by c.place) c n at
advanced_at (EntryContent left held size) c n at all = advanced_ahead (ahead_by c.place) c n at
advanced_at (NameLength held) c n at all = advanced_ahead (ahead_by c.place) c n at

unfoldable pub advanced : Cursor → ℕ → ℕ → ℕ → Cursor
advanced c n at all = advanced_at c.stage c n at all
