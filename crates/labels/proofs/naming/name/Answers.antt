-- `name` meets its contract: in each arm, the name of the field. Assumes nothing.
use Rattle.types.specs.Letters.{letters}
use Rattle.labels.specs.Said.{name_in_bytes}
use Rattle.labels.proofs.naming.name.Goals as goal

pub returns-in-MessageType : goal.returns-in-MessageType
unfolding letters name_in_bytes
returns-in-MessageType c = rw c.in-MessageType.is

pub returns-in-MessageLength : goal.returns-in-MessageLength
unfolding letters name_in_bytes
returns-in-MessageLength c = rw c.in-MessageLength.is

pub returns-in-SupportedVersions : goal.returns-in-SupportedVersions
unfolding letters name_in_bytes
returns-in-SupportedVersions c = rw c.in-SupportedVersions.is

pub returns-in-SelectedVersion : goal.returns-in-SelectedVersion
unfolding letters name_in_bytes
returns-in-SelectedVersion c = rw c.in-SelectedVersion.is

pub returns-in-Parameters : goal.returns-in-Parameters
unfolding letters name_in_bytes
returns-in-Parameters c = rw c.in-Parameters.is

pub returns-in-NewSessionUri : goal.returns-in-NewSessionUri
unfolding letters name_in_bytes
returns-in-NewSessionUri c = rw c.in-NewSessionUri.is

pub returns-in-SubscribeId : goal.returns-in-SubscribeId
unfolding letters name_in_bytes
returns-in-SubscribeId c = rw c.in-SubscribeId.is

pub returns-in-MaximumSubscribeId : goal.returns-in-MaximumSubscribeId
unfolding letters name_in_bytes
returns-in-MaximumSubscribeId c = rw c.in-MaximumSubscribeId.is

pub returns-in-TrackAlias : goal.returns-in-TrackAlias
unfolding letters name_in_bytes
returns-in-TrackAlias c = rw c.in-TrackAlias.is

pub returns-in-FullTrackName : goal.returns-in-FullTrackName
unfolding letters name_in_bytes
returns-in-FullTrackName c = rw c.in-FullTrackName.is

pub returns-in-SubscriberPriority : goal.returns-in-SubscriberPriority
unfolding letters name_in_bytes
returns-in-SubscriberPriority c = rw c.in-SubscriberPriority.is

pub returns-in-GroupOrder : goal.returns-in-GroupOrder
unfolding letters name_in_bytes
returns-in-GroupOrder c = rw c.in-GroupOrder.is

pub returns-in-FilterType : goal.returns-in-FilterType
unfolding letters name_in_bytes
returns-in-FilterType c = rw c.in-FilterType.is

pub returns-in-StartGroup : goal.returns-in-StartGroup
unfolding letters name_in_bytes
returns-in-StartGroup c = rw c.in-StartGroup.is

pub returns-in-StartObject : goal.returns-in-StartObject
unfolding letters name_in_bytes
returns-in-StartObject c = rw c.in-StartObject.is

pub returns-in-EndGroup : goal.returns-in-EndGroup
unfolding letters name_in_bytes
returns-in-EndGroup c = rw c.in-EndGroup.is

pub returns-in-EndObject : goal.returns-in-EndObject
unfolding letters name_in_bytes
returns-in-EndObject c = rw c.in-EndObject.is

pub returns-in-Expires : goal.returns-in-Expires
unfolding letters name_in_bytes
returns-in-Expires c = rw c.in-Expires.is

pub returns-in-ContentExists : goal.returns-in-ContentExists
unfolding letters name_in_bytes
returns-in-ContentExists c = rw c.in-ContentExists.is

pub returns-in-LargestGroupId : goal.returns-in-LargestGroupId
unfolding letters name_in_bytes
returns-in-LargestGroupId c = rw c.in-LargestGroupId.is

pub returns-in-LargestObjectId : goal.returns-in-LargestObjectId
unfolding letters name_in_bytes
returns-in-LargestObjectId c = rw c.in-LargestObjectId.is

pub returns-in-ErrorCode : goal.returns-in-ErrorCode
unfolding letters name_in_bytes
returns-in-ErrorCode c = rw c.in-ErrorCode.is

pub returns-in-ReasonPhrase : goal.returns-in-ReasonPhrase
unfolding letters name_in_bytes
returns-in-ReasonPhrase c = rw c.in-ReasonPhrase.is

pub returns-in-StatusCode : goal.returns-in-StatusCode
unfolding letters name_in_bytes
returns-in-StatusCode c = rw c.in-StatusCode.is

pub returns-in-StreamCount : goal.returns-in-StreamCount
unfolding letters name_in_bytes
returns-in-StreamCount c = rw c.in-StreamCount.is

pub returns-in-FetchType : goal.returns-in-FetchType
unfolding letters name_in_bytes
returns-in-FetchType c = rw c.in-FetchType.is

pub returns-in-JoiningSubscribeId : goal.returns-in-JoiningSubscribeId
unfolding letters name_in_bytes
returns-in-JoiningSubscribeId c = rw c.in-JoiningSubscribeId.is

pub returns-in-JoiningStart : goal.returns-in-JoiningStart
unfolding letters name_in_bytes
returns-in-JoiningStart c = rw c.in-JoiningStart.is

pub returns-in-EndOfTrack : goal.returns-in-EndOfTrack
unfolding letters name_in_bytes
returns-in-EndOfTrack c = rw c.in-EndOfTrack.is

pub returns-in-TrackNamespace : goal.returns-in-TrackNamespace
unfolding letters name_in_bytes
returns-in-TrackNamespace c = rw c.in-TrackNamespace.is

pub returns-in-TrackNamespacePrefix : goal.returns-in-TrackNamespacePrefix
unfolding letters name_in_bytes
returns-in-TrackNamespacePrefix c = rw c.in-TrackNamespacePrefix.is

pub returns-in-GroupId : goal.returns-in-GroupId
unfolding letters name_in_bytes
returns-in-GroupId c = rw c.in-GroupId.is

pub returns-in-SubgroupId : goal.returns-in-SubgroupId
unfolding letters name_in_bytes
returns-in-SubgroupId c = rw c.in-SubgroupId.is

pub returns-in-ObjectId : goal.returns-in-ObjectId
unfolding letters name_in_bytes
returns-in-ObjectId c = rw c.in-ObjectId.is

pub returns-in-PublisherPriority : goal.returns-in-PublisherPriority
unfolding letters name_in_bytes
returns-in-PublisherPriority c = rw c.in-PublisherPriority.is

pub returns-in-ExtensionHeaders : goal.returns-in-ExtensionHeaders
unfolding letters name_in_bytes
returns-in-ExtensionHeaders c = rw c.in-ExtensionHeaders.is

pub returns-in-ObjectPayloadLength : goal.returns-in-ObjectPayloadLength
unfolding letters name_in_bytes
returns-in-ObjectPayloadLength c = rw c.in-ObjectPayloadLength.is

pub returns-in-ObjectStatus : goal.returns-in-ObjectStatus
unfolding letters name_in_bytes
returns-in-ObjectStatus c = rw c.in-ObjectStatus.is
