-- The words for most fields are made of their names alone; and a label of a field's words is its label. Assumes nothing.
use mathlib.Core.Path.{◌≡◌, refl, sym}
use mathlib.Core.List.{append-nil}
use Rattle.types.specs.Letters.{letters}
use Rattle.layout.specs.declared.FieldName.{FieldName}
use Rattle.layout.specs.declared.FieldName.TheVariants.{MessageType, MessageLength, SupportedVersions, SelectedVersion, Parameters, NewSessionUri, SubscribeId, MaximumSubscribeId, TrackAlias, FullTrackName, SubscriberPriority, GroupOrder, FilterType, StartGroup, StartObject, EndGroup, EndObject, Expires, ContentExists, LargestGroupId, LargestObjectId, ErrorCode, ReasonPhrase, StatusCode, StreamCount, FetchType, JoiningSubscribeId, JoiningStart, EndOfTrack, TrackNamespace, TrackNamespacePrefix, GroupId, SubgroupId, ObjectId, PublisherPriority, ExtensionHeaders, ObjectPayloadLength, ObjectStatus}
use Rattle.parts.specs.declared.What.{What}
use Rattle.parts.specs.declared.What.TheVariants.{Number, Byte, Length, Content, Count, EntryNumber, EntryLength, EntryContent, Left}
use Rattle.labels.specs.Labels.{called, plain, spelled, label_in}
use Rattle.labels.specs.Said.{words_of, label_words}

pub plain_by_name : (field : FieldName) → (field ≡ MessageLength → ⊥) → (field ≡ Parameters → ⊥) → (field ≡ FullTrackName → ⊥) → plain (called field).name ≡ called field
plain_by_name =
    elim [
      | MessageType ↦ λ itself pairs track. refl
      | MessageLength ↦ λ itself pairs track. absurd (itself refl)
      | SupportedVersions ↦ λ itself pairs track. refl
      | SelectedVersion ↦ λ itself pairs track. refl
      | Parameters ↦ λ itself pairs track. absurd (pairs refl)
      | NewSessionUri ↦ λ itself pairs track. refl
      | SubscribeId ↦ λ itself pairs track. refl
      | MaximumSubscribeId ↦ λ itself pairs track. refl
      | TrackAlias ↦ λ itself pairs track. refl
      | FullTrackName ↦ λ itself pairs track. absurd (track refl)
      | SubscriberPriority ↦ λ itself pairs track. refl
      | GroupOrder ↦ λ itself pairs track. refl
      | FilterType ↦ λ itself pairs track. refl
      | StartGroup ↦ λ itself pairs track. refl
      | StartObject ↦ λ itself pairs track. refl
      | EndGroup ↦ λ itself pairs track. refl
      | EndObject ↦ λ itself pairs track. refl
      | Expires ↦ λ itself pairs track. refl
      | ContentExists ↦ λ itself pairs track. refl
      | LargestGroupId ↦ λ itself pairs track. refl
      | LargestObjectId ↦ λ itself pairs track. refl
      | ErrorCode ↦ λ itself pairs track. refl
      | ReasonPhrase ↦ λ itself pairs track. refl
      | StatusCode ↦ λ itself pairs track. refl
      | StreamCount ↦ λ itself pairs track. refl
      | FetchType ↦ λ itself pairs track. refl
      | JoiningSubscribeId ↦ λ itself pairs track. refl
      | JoiningStart ↦ λ itself pairs track. refl
      | EndOfTrack ↦ λ itself pairs track. refl
      | TrackNamespace ↦ λ itself pairs track. refl
      | TrackNamespacePrefix ↦ λ itself pairs track. refl
      | GroupId ↦ λ itself pairs track. refl
      | SubgroupId ↦ λ itself pairs track. refl
      | ObjectId ↦ λ itself pairs track. refl
      | PublisherPriority ↦ λ itself pairs track. refl
      | ExtensionHeaders ↦ λ itself pairs track. refl
      | ObjectPayloadLength ↦ λ itself pairs track. refl
      | ObjectStatus ↦ λ itself pairs track. refl
    ]

pub label-spelled : (c : _) (what : What) → label_words (words_of c) what ≡ spelled (label_in c what)
unfolding letters
label-spelled c Number = sym (append-nil (letters c.name))
label-spelled c Byte = sym (append-nil (letters c.name))
label-spelled c Length = refl
label-spelled c Content = sym (append-nil (letters c.name))
label-spelled c Count = refl
label-spelled c EntryNumber = refl
label-spelled c EntryLength = refl
label-spelled c EntryContent = refl
label-spelled c Left = refl
