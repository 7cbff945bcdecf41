-- How long a label and a meaning can be. Assumes nothing.
use Prim.Native.Nat.{ℕ, zero, suc, ◌+◌, ◌≤◌}
use Prim.Native.String.{String}
use mathlib.Core.Path.{◌≡◌, refl}
use mathlib.Core.Bool.{Bool, true}
use mathlib.Core.List.{List, [], ◌∷◌}
use native.Mathlib.Omega.{arith}
use borrow.Author.Tests.{leb-true}
use lib.Dec.{leb}
use lib.ListN.{length, get_or, get_or-eq_default, length-append}
use Rattle.common.specs.Choice.{both}
use Rattle.common.proofs.Tests.{both_first, both-second}
use Rattle.types.specs.Letters.{letters}
use Rattle.layout.specs.declared.FieldName.{FieldName}
use Rattle.layout.specs.declared.FieldName.TheVariants.{MessageType, MessageLength, SupportedVersions, SelectedVersion, Parameters, NewSessionUri, SubscribeId, MaximumSubscribeId, TrackAlias, FullTrackName, SubscriberPriority, GroupOrder, FilterType, StartGroup, StartObject, EndGroup, EndObject, Expires, ContentExists, LargestGroupId, LargestObjectId, ErrorCode, ReasonPhrase, StatusCode, StreamCount, FetchType, JoiningSubscribeId, JoiningStart, EndOfTrack, TrackNamespace, TrackNamespacePrefix, GroupId, SubgroupId, ObjectId, PublisherPriority, ExtensionHeaders, ObjectPayloadLength, ObjectStatus}
use Rattle.parts.specs.declared.What.{What}
use Rattle.parts.specs.declared.What.TheVariants.{Number, Byte, Length, Content, Count, EntryNumber, EntryLength, EntryContent, Left}
use Rattle.labels.specs.Labels.{Called, called, spelled, label_in, label_of}
use Rattle.labels.specs.Meanings.{meanings, meaning_of}

-- ---- meanings

-- every text of a list takes that many bytes at most,
are_within : ℕ → List String → Bool
are_within n [] = true
are_within n (text ∷ texts) = both (leb (length (letters text)) n) (are_within n texts)

-- and so does each
within : (n : ℕ) (texts : List String) (i : ℕ) → are_within n texts ≡ true → length (letters (get_or texts i "")) ≤ n
unfolding are_within letters
within n [] i h = omega arith
within n (text ∷ texts) zero h = leb-true (length (letters text)) n (both_first _ (are_within n texts) h)
within n (text ∷ texts) (suc i) h = within n texts i (both-second (leb (length (letters text)) n) _ h)

pub meaning-bound : (number : ℕ) → length (meaning_of number) ≤ 41
unfolding meaning_of meanings are_within letters
meaning-bound number = within 41 meanings number refl

-- beyond them there is none
pub meaningless : (number : ℕ) → 20 ≤ number → meaning_of number ≡ []
unfolding meaning_of meanings letters
meaningless number h = rw (get_or-eq_default meanings "" h)

-- ---- labels

-- all the words for a field
abbrev words_of : Called → ℕ
words_of c =
    length (letters c.name) + length (letters c.entry) + length (letters c.length) +
    length (letters c.number) + length (letters c.value)

-- the longest is twice "Track Namespace Prefix Field", and " Length"
called-bound : (name : FieldName) → leb (words_of (called name)) 63 ≡ true
unfolding letters
called-bound =
    elim [
      | MessageType ↦ refl
      | MessageLength ↦ refl
      | SupportedVersions ↦ refl
      | SelectedVersion ↦ refl
      | Parameters ↦ refl
      | NewSessionUri ↦ refl
      | SubscribeId ↦ refl
      | MaximumSubscribeId ↦ refl
      | TrackAlias ↦ refl
      | FullTrackName ↦ refl
      | SubscriberPriority ↦ refl
      | GroupOrder ↦ refl
      | FilterType ↦ refl
      | StartGroup ↦ refl
      | StartObject ↦ refl
      | EndGroup ↦ refl
      | EndObject ↦ refl
      | Expires ↦ refl
      | ContentExists ↦ refl
      | LargestGroupId ↦ refl
      | LargestObjectId ↦ refl
      | ErrorCode ↦ refl
      | ReasonPhrase ↦ refl
      | StatusCode ↦ refl
      | StreamCount ↦ refl
      | FetchType ↦ refl
      | JoiningSubscribeId ↦ refl
      | JoiningStart ↦ refl
      | EndOfTrack ↦ refl
      | TrackNamespace ↦ refl
      | TrackNamespacePrefix ↦ refl
      | GroupId ↦ refl
      | SubgroupId ↦ refl
      | ObjectId ↦ refl
      | PublisherPriority ↦ refl
      | ExtensionHeaders ↦ refl
      | ObjectPayloadLength ↦ refl
      | ObjectStatus ↦ refl
    ]

-- a label has one or two of them, and "Number of " and "s" at most
spelled-bound : (c : Called) (what : What) → length (spelled (label_in c what)) ≤ words_of c + 11
unfolding letters
spelled-bound c Number = simp length-append (omega arith)
spelled-bound c Byte = simp length-append (omega arith)
spelled-bound c Length = simp length-append (omega arith)
spelled-bound c Content = simp length-append (omega arith)
spelled-bound c Count = simp length-append (omega arith)
spelled-bound c EntryNumber = simp length-append (omega arith)
spelled-bound c EntryLength = simp length-append (omega arith)
spelled-bound c EntryContent = simp length-append (omega arith)
spelled-bound c Left = omega arith

pub label-bound : (name : FieldName) (what : What) → length (label_of name what) ≤ 74
unfolding label_of
label-bound name what =
    omega (arith, spelled-bound (called name) what, leb-true (words_of (called name)) 63 (called-bound name))
