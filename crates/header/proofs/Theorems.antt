-- What holds of reading data headers. The sentences of `Steady` stand in specs/Steady.antt; here is what they hold of.
-- Assumes nothing.
use mathlib.Core.Path.{◌≡◌}
use Rattle.std.specs.Prelude.{ℕ, Result}
use Rattle.header.specs.Told.{told_datagram, told_stream, told_subgroup_object, told_fetch_object}
use Rattle.header.specs.Reading.{stream_of, subgroup_object_of, fetch_object_of}
use Rattle.header.specs.Steady.{Steady}
use Rattle.header.specs.declared.Datagram.{Datagram}
use Rattle.header.specs.declared.StreamHeader.{StreamHeader}
use Rattle.header.specs.declared.SubgroupObject.{SubgroupObject}
use Rattle.header.specs.declared.FetchObject.{FetchObject}
use Rattle.header.specs.declared.DatagramFault.{DatagramFault}
use Rattle.header.specs.declared.StreamFault.{StreamFault}
use Rattle.header.specs.declared.ObjectFault.{ObjectFault}
use Rattle.header.proofs.OneAnswer as once
use Rattle.header.proofs.Steady as steady

-- 1. On a stream, bytes that follow change no answer but 1; and where 1 is answered, there are bytes that do.
pub stream-steady : Steady stream_of
stream-steady = steady.stream-steady

pub subgroup-object-steady : Steady subgroup_object_of
subgroup-object-steady = steady.subgroup-object-steady

pub fetch-object-steady : Steady fetch_object_of
fetch-object-steady = steady.fetch-object-steady

-- 2. 01's number and values lose nothing, so each reader has one possible answer.
pub datagram-once : (a b : Result (Datagram × ℕ) DatagramFault) → told_datagram a ≡ told_datagram b → a ≡ b
datagram-once = once.datagram-once

pub stream-once : (a b : Result (StreamHeader × ℕ) StreamFault) → told_stream a ≡ told_stream b → a ≡ b
stream-once = once.stream-once

pub subgroup-object-once : (a b : Result (SubgroupObject × ℕ) ObjectFault) → told_subgroup_object a ≡ told_subgroup_object b → a ≡ b
subgroup-object-once = once.subgroup-object-once

pub fetch-object-once : (a b : Result (FetchObject × ℕ) ObjectFault) → told_fetch_object a ≡ told_fetch_object b → a ≡ b
fetch-object-once = once.fetch-object-once
