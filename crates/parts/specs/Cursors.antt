-- Where the next part stands.
use Rattle.std.specs.Prelude.{ℕ, ◌+◌, List, take, set, replicate, ltb}
use Rattle.common.specs.Choice.{pick}
use Rattle.outline.specs.Places.{ahead_at}
use Rattle.outline.specs.declared.Ahead.{Ahead}
use Rattle.outline.specs.declared.Outline.{Outline}
use Rattle.outline.specs.declared.Outline.TheVariants.{Message, Datagram, Stream, SubgroupObject, FetchObject}
use Rattle.parts.specs.declared.Subject.{Subject}
use Rattle.parts.specs.declared.Subject.TheVariants.{Message as AMessage, Datagram as ADatagram, Stream as AStream, SubgroupObject as ASubgroupObject, FetchObject as AFetchObject}
use Rattle.parts.specs.declared.Place.{Place}
use Rattle.parts.specs.declared.Stage.{Stage}
use Rattle.parts.specs.declared.Stage.TheVariants.{TypeNumber as AtType, Field as AtField}
use Rattle.parts.specs.declared.Cursor.{Cursor}

-- how many fields a layout has at most
abbrev pub most_fields : ℕ
most_fields = 10

-- ---- the first cursor

-- what is laid out, before its type is known
abbrev pub outline_by : Subject → Outline
outline_by AMessage = Message 0
outline_by ADatagram = Datagram 0
outline_by AStream = Stream 0
outline_by ASubgroupObject = SubgroupObject
outline_by AFetchObject = FetchObject

-- the header of an object has no type
abbrev pub first_stage : Subject → Stage
first_stage AMessage = AtType
first_stage ADatagram = AtType
first_stage AStream = AtType
first_stage ASubgroupObject = AtField
first_stage AFetchObject = AtField

unfoldable pub begin_of : Subject → ℕ → Cursor
begin_of subject size =
    record {
      place = record { outline = outline_by subject; numbers = replicate most_fields 0; passed = 0 };
      stage = first_stage subject;
      at = 0;
      end = size;
    }

-- ---- a place in a layout

-- the numbers that the fields before it handed on
abbrev pub handed_on : Place → List ℕ
handed_on p = take p.passed p.numbers

-- what stands there
unfoldable pub ahead_by : Place → Ahead
ahead_by p = ahead_at p.outline (handed_on p)

-- the place behind that field, which hands on n
unfoldable pub behind : Place → ℕ → Place
behind p n =
    pick (ltb p.passed most_fields)
    (record { outline = p.outline; numbers = set p.numbers p.passed n; passed = p.passed + 1 }) p

-- ---- a cursor that stands further on

-- in the same field,
abbrev pub onward : Cursor → Stage → ℕ → Cursor
onward c stage at = record { place = c.place; stage = stage; at = at; end = c.end }

-- or behind it
unfoldable pub hand_on : Cursor → ℕ → ℕ → Cursor
hand_on c n at = record { place = behind c.place n; stage = AtField; at = at; end = c.end }
