-- What is answered of a message whose body was judged, before a byte of it is written.
use Rattle.std.specs.Prelude.{ℕ, ◌+◌, leb, Result, Ok, Err}
use Rattle.common.specs.Choice.{guard}
use Rattle.integer.specs.Integer.{size_of, greatest}
use Rattle.measure.specs.Judging.{Judged}
use Rattle.measure.specs.declared.Unfit.{Unfit}
use Rattle.measure.specs.declared.Unfit.TheVariants.{TooLong as BodyLong, Oversize as BodyOversize, Forbidden as BodyForbidden}
use Rattle.encode.specs.declared.Refusal.{Refusal}
use Rattle.encode.specs.declared.Refusal.TheVariants.{Forbidden, Oversize, TooLong, TooShort}

-- the refusal of a body is the message's
abbrev pub refusal_of : Unfit → Refusal
refusal_of BodyForbidden = Forbidden
refusal_of BodyOversize = Oversize
refusal_of BodyLong = TooLong

-- a body that takes n bytes has the type and its length in front, and all of it is to fit
unfoldable pub body_framing : Judged → ℕ → ℕ → Result ℕ Refusal
body_framing (Err unfit) number room = Err (refusal_of unfit)
body_framing (Ok n) number room = guard (leb (size_of number + size_of n + n) room) (Err TooShort) (Ok n)

-- a type that can't be written goes before them
unfoldable pub framing_of : Judged → ℕ → ℕ → Result ℕ Refusal
framing_of found number room = guard (leb number greatest) (Err Forbidden) (body_framing found number room)
