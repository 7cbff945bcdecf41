-- What stands at a cursor: an integer, a byte or bytes, and which part of which field it is; or nothing more.
use Rattle.field.specs.declared.Kind.{Kind}
use Rattle.field.specs.declared.Kind.TheVariants.{Namespace, Parameters, Versions}
use Rattle.layout.specs.declared.FieldName.{FieldName}
use Rattle.layout.specs.declared.FieldName.TheVariants.{MessageType, MessageLength}
use Rattle.outline.specs.declared.Form.{Form}
use Rattle.outline.specs.declared.Form.TheVariants.{Integer, Byte as AByte, Bytes as SomeBytes, List as AList, Track as ATrack}
use Rattle.outline.specs.declared.Ahead.{Ahead}
use Rattle.outline.specs.declared.Ahead.TheVariants.{Field, Done, Forbidden}
use Rattle.parts.specs.Cursors.{ahead_by}
use Rattle.parts.specs.declared.What.TheVariants.{Number as ANumber, Length as ALength, Content as TheContent, Count as ACount, EntryNumber as TheEntryNumber, EntryLength as TheEntryLength, EntryContent as TheEntryContent}
use Rattle.parts.specs.declared.Stage.{Stage}
use Rattle.parts.specs.declared.Stage.TheVariants.{TypeNumber as AtType, Length as AtLength, Refused as Stopped, Field as AtField, Content, Entry, EntryLength, EntryContent, NameLength}
use Rattle.parts.specs.declared.Cursor.{Cursor}
use Rattle.parts.specs.declared.Expected.{Expected}
use Rattle.parts.specs.declared.Expected.TheVariants.{Number, Byte, Bytes, End, Refused}

-- what a field begins with, by its form
abbrev pub first_of : FieldName → Form → Expected
first_of name Integer = Number name ANumber
first_of name AByte = Byte name
first_of name SomeBytes = Number name ALength
first_of name (AList kind) = Number name ACount
first_of name ATrack = Number name ACount

-- what the entries of a form are; a track's are those of its namespace
abbrev pub kind_in : Form → Kind
kind_in (AList kind) = kind
kind_in ATrack = Namespace
kind_in Integer = Namespace
kind_in AByte = Namespace
kind_in SomeBytes = Namespace

-- what an entry begins with
abbrev pub entry_first : FieldName → Kind → Expected
entry_first name Namespace = Number name TheEntryLength
entry_first name Parameters = Number name TheEntryNumber
entry_first name Versions = Number name TheEntryNumber

-- what stands in a field
abbrev pub expected_in : FieldName → Form → Stage → Expected
expected_in name form AtType = first_of name form
expected_in name form AtLength = first_of name form
expected_in name form (Stopped number) = first_of name form
expected_in name form AtField = first_of name form
expected_in name form (Content size) = Bytes name TheContent size
expected_in name form (Entry left held) = entry_first name (kind_in form)
expected_in name form (EntryLength left held) = Number name TheEntryLength
expected_in name form (EntryContent left held size) = Bytes name TheEntryContent size
expected_in name form (NameLength held) = Number name ALength

-- "5 forbidden field value": a value before this place is forbidden
abbrev pub expected_ahead : Ahead → Stage → Expected
expected_ahead (Field name form) stage = expected_in name form stage
expected_ahead Done stage = End
expected_ahead Forbidden stage = Refused 5

abbrev pub expected_at : Ahead → Stage → Expected
expected_at ahead AtType = Number MessageType ANumber
expected_at ahead AtLength = Number MessageLength ALength
expected_at ahead (Stopped number) = Refused number
expected_at ahead AtField = expected_ahead ahead AtField
expected_at ahead (Content size) = expected_ahead ahead (Content size)
expected_at ahead (Entry left held) = expected_ahead ahead (Entry left held)
expected_at ahead (EntryLength left held) = expected_ahead ahead (EntryLength left held)
expected_at ahead (EntryContent left held size) = expected_ahead ahead (EntryContent left held size)
expected_at ahead (NameLength held) = expected_ahead ahead (NameLength held)

unfoldable pub expected_of : Cursor → Expected
expected_of c = expected_at (ahead_by c.place) c.stage
