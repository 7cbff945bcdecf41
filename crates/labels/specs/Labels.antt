-- WHAT A PART IS CALLED: the names that 004's figures have for the fields, and what is said of a list and of its
-- entries.
use Rattle.std.specs.Prelude.{ℕ, List, [], ◌∷◌, ◌++◌}
use Prim.Native.String.{String}
use Rattle.types.specs.Letters.{letters}
use Rattle.layout.specs.declared.FieldName.{FieldName}
use Rattle.layout.specs.declared.FieldName.TheVariants.{MessageType, MessageLength, SupportedVersions, SelectedVersion, Parameters, NewSessionUri, SubscribeId, MaximumSubscribeId, TrackAlias, FullTrackName, SubscriberPriority, GroupOrder, FilterType, StartGroup, StartObject, EndGroup, EndObject, Expires, ContentExists, LargestGroupId, LargestObjectId, ErrorCode, ReasonPhrase, StatusCode, StreamCount, FetchType, JoiningSubscribeId, JoiningStart, EndOfTrack, TrackNamespace, TrackNamespacePrefix, GroupId, SubgroupId, ObjectId, PublisherPriority, ExtensionHeaders, ObjectPayloadLength, ObjectStatus}
use Rattle.parts.specs.declared.What.{What}
use Rattle.parts.specs.declared.What.TheVariants.{Number, Byte, Length, Content, Count, EntryNumber, EntryLength, EntryContent, Left}

-- the words for a field: its name, and that of an entry of it; what is said behind the name for a length, for the
-- number that an entry begins with, and for its bytes
pub record Called : Type 0 where
  pub name : String
  pub entry : String
  pub length : String
  pub number : String
  pub value : String

-- most fields, and lists
abbrev pub plain : String → Called
plain name = record { name = name; entry = name; length = " Length"; number = ""; value = "" }

-- a message's Length is a length itself
abbrev pub itself : String → Called
itself name = record { name = name; entry = name; length = ""; number = ""; value = "" }

-- parameters are pairs of a type and a value
abbrev pub pairs : String → Called
pairs name = record { name = name; entry = name; length = " Length"; number = " Type"; value = " Value" }

-- a track begins with its namespace
abbrev pub track : String → Called
track name = record { name = name; entry = "Track Namespace Field"; length = " Length"; number = ""; value = "" }

-- 004's name of a field; of a list, of one of its entries; of a track, of its name
abbrev pub called : FieldName → Called
called MessageType = plain "Type"
called MessageLength = itself "Length"
called SupportedVersions = plain "Supported Version"
called SelectedVersion = plain "Selected Version"
called Parameters = pairs "Parameter"
called NewSessionUri = plain "New Session URI"
called SubscribeId = plain "Subscribe ID"
called MaximumSubscribeId = plain "Maximum Subscribe ID"
called TrackAlias = plain "Track Alias"
called FullTrackName = track "Track Name"
called SubscriberPriority = plain "Subscriber Priority"
called GroupOrder = plain "Group Order"
called FilterType = plain "Filter Type"
called StartGroup = plain "StartGroup"
called StartObject = plain "StartObject"
called EndGroup = plain "EndGroup"
called EndObject = plain "EndObject"
called Expires = plain "Expires"
called ContentExists = plain "ContentExists"
called LargestGroupId = plain "Largest Group ID"
called LargestObjectId = plain "Largest Object ID"
called ErrorCode = plain "Error Code"
called ReasonPhrase = plain "Reason Phrase"
called StatusCode = plain "Status Code"
called StreamCount = plain "Stream Count"
called FetchType = plain "Fetch Type"
called JoiningSubscribeId = plain "Joining Subscribe ID"
called JoiningStart = plain "Joining Start"
called EndOfTrack = plain "End Of Track"
called TrackNamespace = plain "Track Namespace Field"
called TrackNamespacePrefix = plain "Track Namespace Prefix Field"
called GroupId = plain "Group ID"
called SubgroupId = plain "Subgroup ID"
called ObjectId = plain "Object ID"
called PublisherPriority = plain "Publisher Priority"
called ExtensionHeaders = plain "Extension Headers"
called ObjectPayloadLength = plain "Object Payload Length"
called ObjectStatus = plain "Object Status"

-- all of them
unfoldable pub field_names : List FieldName
field_names =
    MessageType ∷ MessageLength ∷ SupportedVersions ∷ SelectedVersion ∷ Parameters ∷ NewSessionUri ∷ SubscribeId ∷
    MaximumSubscribeId ∷ TrackAlias ∷ FullTrackName ∷ SubscriberPriority ∷ GroupOrder ∷ FilterType ∷ StartGroup ∷
    StartObject ∷ EndGroup ∷ EndObject ∷ Expires ∷ ContentExists ∷ LargestGroupId ∷ LargestObjectId ∷ ErrorCode ∷
    ReasonPhrase ∷ StatusCode ∷ StreamCount ∷ FetchType ∷ JoiningSubscribeId ∷ JoiningStart ∷ EndOfTrack ∷
    TrackNamespace ∷ TrackNamespacePrefix ∷ GroupId ∷ SubgroupId ∷ ObjectId ∷ PublisherPriority ∷ ExtensionHeaders ∷
    ObjectPayloadLength ∷ ObjectStatus ∷ []

-- ---- A LABEL: what is said before the name, the name, and what is said behind it

pub record Label : Type 0 where
  pub before : String
  pub name : String
  pub behind : String

abbrev label : String → String → String → Label
label before name behind = record { before = before; name = name; behind = behind }

abbrev pub label_in : Called → What → Label
label_in c Number = label "" c.name ""
label_in c Byte = label "" c.name ""
label_in c Length = label "" c.name c.length
label_in c Content = label "" c.name ""
label_in c Count = label "Number of " c.entry "s"
label_in c EntryNumber = label "" c.entry c.number
label_in c EntryLength = label "" c.entry " Length"
label_in c EntryContent = label "" c.entry c.value
label_in c Left = label "" "left over" ""

abbrev pub spelled : Label → List ℕ
spelled l = letters l.before ++ letters l.name ++ letters l.behind

-- of a part, by its field and what it is
unfoldable pub label_of : FieldName → What → List ℕ
label_of name what = spelled (label_in (called name) what)
