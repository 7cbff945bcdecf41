-- Document 01's numbers of what a reader of a header refuses. "On a stream, a cut header answers 1; in a datagram, which is
-- always whole, it answers 4"
use Rattle.std.specs.Prelude.{ℕ}
use Rattle.header.specs.declared.DatagramFault.{DatagramFault}
use Rattle.header.specs.declared.DatagramFault.TheVariants.{Unknown as UnknownDatagram, Cut, Forbidden as ForbiddenDatagram}
use Rattle.header.specs.declared.StreamFault.{StreamFault}
use Rattle.header.specs.declared.StreamFault.TheVariants.{More as MoreOfStream, Unknown as UnknownStream}
use Rattle.header.specs.declared.ObjectFault.{ObjectFault}
use Rattle.header.specs.declared.ObjectFault.TheVariants.{More as MoreOfObject, Forbidden as ForbiddenObject}

abbrev pub datagram_number : DatagramFault → ℕ
datagram_number UnknownDatagram = 2
datagram_number Cut = 4
datagram_number ForbiddenDatagram = 5

abbrev pub stream_number : StreamFault → ℕ
stream_number MoreOfStream = 1
stream_number UnknownStream = 2

abbrev pub object_number : ObjectFault → ℕ
object_number MoreOfObject = 1
object_number ForbiddenObject = 5
