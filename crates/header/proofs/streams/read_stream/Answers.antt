-- `read_stream` meets its contract: the type, and the header that it names. Assumes nothing.
use mathlib.Core.Path.{refl}
use Rattle.common.proofs.Exits.{handed}
use Rattle.field.specs.declared.Fault.TheVariants.{Cut}
use Rattle.layout.proofs.Steps.{is-no, is_whole, stopping, going}
use Rattle.header.specs.Layouts.{fetch_header, streams}
use Rattle.header.specs.Reading.{stream_of}
use Rattle.header.proofs.Headed.{headed-cut, headed-unknown, headed-is, no_stream}
use Rattle.header.proofs.streams.read_stream.Goals as goal

pub returns-in_err-number : goal.returns-in_err-number
unfolding stream_of
returns-in_err-number c = rw (handed c.from_residual.ensures.1) (headed-cut 1 streams _ c.in_err-number.ensures)

pub returns-in_err-header-in-4 : goal.returns-in_err-header-in-4
unfolding stream_of streams
returns-in_err-header-in-4 c =
    rw (handed c.from_residual-in_err-header-in-4.ensures.1) (headed-is 1 streams _ c.in_ok-number.ensures c.in-4.is refl c.in_err-header-in-4.ensures)

pub returns-in_ok-header-in-4 : goal.returns-in_ok-header-in-4
unfolding stream_of streams
returns-in_ok-header-in-4 c = headed-is 1 streams _ c.in_ok-number.ensures c.in-4.is refl c.in_ok-header-in-4.ensures

pub returns-in_err-id-in-5 : goal.returns-in_err-id-in-5
unfolding stream_of streams fetch_header
returns-in_err-id-in-5 c =
    rw (handed c.from_residual-in_err-id-in-5.ensures.1)
    (headed-is 1 streams _ c.in_ok-number.ensures c.in-5.is refl (is-no {fault = Cut} (search (stopping, c.in_err-id-in-5.ensures) depth 10)))

pub returns-in_ok-id-in-5 : goal.returns-in_ok-id-in-5
unfolding stream_of streams fetch_header
returns-in_ok-id-in-5 c =
    headed-is 1 streams _ c.in_ok-number.ensures c.in-5.is refl (is_whole (search (going, c.in_ok-id-in-5.ensures) depth 10))

pub returns-in_default : goal.returns-in_default
unfolding stream_of streams
returns-in_default c = headed-unknown 1 streams _ c.in_ok-number.ensures (search no_stream)
