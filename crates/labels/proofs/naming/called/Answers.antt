-- `called` meets its contract: most fields have plain words, three have others. Assumes nothing.
use mathlib.Core.Path.{ap}
use Rattle.types.specs.Letters.{letters}
use Rattle.labels.specs.Said.{name_in_bytes, words_of}
use Rattle.labels.proofs.FieldWords.{plain_by_name}
use Rattle.labels.proofs.naming.called.Goals as goal

pub returns-in-MessageLength : goal.returns-in-MessageLength
unfolding letters name_in_bytes
returns-in-MessageLength c = rw (c.name-name.ensures, c.in-MessageLength.is)

pub returns-in-Parameters : goal.returns-in-Parameters
unfolding letters name_in_bytes
returns-in-Parameters c = rw (c.name-name.ensures, c.in-Parameters.is)

pub returns-in-FullTrackName : goal.returns-in-FullTrackName
unfolding letters name_in_bytes
returns-in-FullTrackName c = rw (c.name-name.ensures, c.in-FullTrackName.is)

pub returns-in_default : goal.returns-in_default
unfolding letters name_in_bytes
returns-in_default c =
    let d = c.in_default in
    rw c.name-name.ensures (ap words_of (plain_by_name c.args.field d.not-MessageLength d.not-Parameters d.not-FullTrackName))
