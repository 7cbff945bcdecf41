-- The lines of document 01 that are marked P, P10 with the limit that K8 has for a body, and no others, as one table.
use Rattle.std.specs.Prelude.{ℕ, List, [], ◌∷◌}
use Rattle.common.specs.Answer.{Answer, whole, refused, wrote, Written}
use Rattle.field.specs.declared.Piece.TheVariants.{Number}
use Rattle.layout.specs.Typed.{Typed}
use Rattle.message.specs.Reading.{read_of as message_of}
use Rattle.message_writer.specs.Writing.{write_of as message_as}
use Rattle.message.specs.declared.Message.{Message}
use Rattle.message.specs.declared.Message.TheVariants.{Fetch, Subscription}
use Rattle.fetch.specs.declared.FetchMessage.TheVariants.{FetchCancel}
use Rattle.field.specs.Value.{nowhere}
use Rattle.subscription.specs.declared.Filter.TheVariants.{Latest}
use Rattle.subscription.specs.declared.SubscriptionMessage.TheVariants.{Subscribe}
use Rattle.ledger.specs.Answers.{Verdict, no_rule}
use Rattle.ledger.specs.Steps.{start_of, take_of}
use Rattle.ledger.specs.declared.Ledger.{Ledger}
use Rattle.ledger.specs.declared.Part.TheVariants.{Subscriber}
use Rattle.types.specs.Letters.{letters}
use Rattle.report.specs.Report.{report_of}
use Rattle.integer.specs.Integer.{read_of, write_of}

-- a line: what is done, and what it comes to
pub data Line : Type 0 where
  -- an integer is read from bytes
  reads : List ℕ → Answer ℕ → Line
  -- a number is written into a buffer, which then holds this
  writes : ℕ → List ℕ → Written → Line
  -- a control message is read from bytes
  receives : List ℕ → Answer Typed → Line
  -- a control message whose parts point into bytes is written into a buffer, which then holds this
  sends : List ℕ → Message → List ℕ → Written → Line
  -- a subscriber's ledger with that many rows and a maximum takes messages
  takes : ℕ → ℕ → List Message → List Verdict → Line
  -- a trace is reported
  reports : List ℕ → List ℕ → Line

pub data Result : Type 0 where
  read : Answer ℕ → Result
  write : Written → Result
  receive : Answer Typed → Result
  answer : List Verdict → Result
  report : List ℕ → Result

-- what each message is answered, one after the other
unfoldable pub answers_to : Ledger → List Message → List Verdict
answers_to l [] = []
answers_to l (m ∷ ms) = (take_of l m).says ∷ answers_to (take_of l m).next ms

-- a SUBSCRIBE from the latest on, of a track with one namespace field, which has no bytes here
abbrev pub subscribing : ℕ → ℕ → Message
subscribing id alias =
    Subscription
    (Subscribe
    (record {
      id = id;
      alias = alias;
      track = record { namespace = record { start = 0; end = 1; count = 1 }; name = nowhere };
      priority = 0;
      order = 1;
      filter = Latest;
      parameters = record { start = 0; end = 0; count = 0 };
    }))

-- what a line's doing comes to, by the definitions that the contracts cite
unfoldable pub found : Line → Result
found (reads s r) = read (read_of s)
found (writes n before r) = write (write_of n before)
found (receives s r) = receive (message_of s)
found (sends s m before r) = write (message_as s m before)
found (takes rows maximum ms r) = answer (answers_to (start_of Subscriber rows maximum).next ms)
found (reports trace r) = report (report_of trace)

-- what the line says
unfoldable pub stated : Line → Result
stated (reads s r) = read r
stated (writes n before r) = write r
stated (receives s r) = receive r
stated (sends s m before r) = write r
stated (takes rows maximum ms r) = answer r
stated (reports trace r) = report r

-- the report's history: part and maximum; SUBSCRIBE; SUBSCRIBE_OK; two arrivals
abbrev pub history : List ℕ
history =
    0x01 ∷ 0x00 ∷ 0x02 ∷ 0x00 ∷ 0x0A
    ∷ 0x02 ∷ 0x00 ∷ 0x0E ∷ 0x03 ∷ 0x0C ∷ 0x03 ∷ 0x07 ∷ 0x01 ∷ 0x01 ∷ 0x6D ∷ 0x02 ∷ 0x63 ∷ 0x65 ∷ 0x80 ∷ 0x01 ∷ 0x02
    ∷ 0x00
    ∷ 0x02 ∷ 0x00 ∷ 0x07 ∷ 0x04 ∷ 0x05 ∷ 0x03 ∷ 0x00 ∷ 0x01 ∷ 0x00 ∷ 0x00
    ∷ 0x03 ∷ 0x00 ∷ 0x06 ∷ 0x07 ∷ 0x80 ∷ 0x01 ∷ 0x00 ∷ 0x00 ∷ 0x00
    ∷ 0x03 ∷ 0x00 ∷ 0x06 ∷ 0x07 ∷ 0x80 ∷ 0x00 ∷ 0xFF ∷ 0xFF ∷ 0x02 ∷ []

unfoldable pub lines : List Line
lines =
    -- P1 no bytes: 1
    reads [] (refused 1)
    -- P2 `3F` is 63, `40 40` is 64
    ∷ reads (0x3F ∷ []) (whole 63 1)
    ∷ reads (0x40 ∷ 0x40 ∷ []) (whole 64 2)
    -- P3 `7F FF` is 16,383, `80 00 40 00` is 16,384
    ∷ reads (0x7F ∷ 0xFF ∷ []) (whole 16_383 2)
    ∷ reads (0x80 ∷ 0x00 ∷ 0x40 ∷ 0x00 ∷ []) (whole 16_384 4)
    -- P4 65,535 is written `80 00 FF FF`, 65,536 `80 01 00 00`; the byte after it stays
    ∷ writes 65_535 (1 ∷ 2 ∷ 3 ∷ 4 ∷ 5 ∷ []) (record { says = wrote 4; holds = 0x80 ∷ 0x00 ∷ 0xFF ∷ 0xFF ∷ 5 ∷ [] })
    ∷ writes 65_536 (1 ∷ 2 ∷ 3 ∷ 4 ∷ []) (record { says = wrote 4; holds = 0x80 ∷ 0x01 ∷ 0x00 ∷ 0x00 ∷ [] })
    -- P5 eight `FF` read 4,611,686,018,427,387,903; one more can't be written
    ∷ reads (0xFF ∷ 0xFF ∷ 0xFF ∷ 0xFF ∷ 0xFF ∷ 0xFF ∷ 0xFF ∷ 0xFF ∷ []) (whole 4_611_686_018_427_387_903 8)
    ∷ writes 4_611_686_018_427_387_904 [] (record { says = refused 5; holds = [] })
    -- P6 `17 01 05`: whole, ID 5
    ∷ receives (0x17 ∷ 0x01 ∷ 0x05 ∷ []) (whole (record { type = 0x17; pieces = Number 5 ∷ [] }) 3)
    -- P7 `17 02 05 00` and `17 00`: 4
    ∷ receives (0x17 ∷ 0x02 ∷ 0x05 ∷ 0x00 ∷ []) (refused 4)
    ∷ receives (0x17 ∷ 0x00 ∷ []) (refused 4)
    -- P8 `17 02 40 05` reads ID 5 and is written `17 01 05`; the byte after it stays
    ∷ receives (0x17 ∷ 0x02 ∷ 0x40 ∷ 0x05 ∷ []) (whole (record { type = 0x17; pieces = Number 5 ∷ [] }) 4)
    ∷ sends (0x17 ∷ 0x02 ∷ 0x40 ∷ 0x05 ∷ []) (Fetch (FetchCancel 5)) (1 ∷ 2 ∷ 3 ∷ 4 ∷ [])
    (record { says = wrote 3; holds = 0x17 ∷ 0x01 ∷ 0x05 ∷ 4 ∷ [] })
    -- P9 `3F`: 2
    ∷ receives (0x3F ∷ []) (refused 2)
    -- P10 `17 7F FF`: 1; with K8's limit `17 80 00 40 00` and `17 80 00 FD E8`: 1; `17 80 00 FD E9`: 3
    ∷ receives (0x17 ∷ 0x7F ∷ 0xFF ∷ []) (refused 1)
    ∷ receives (0x17 ∷ 0x80 ∷ 0x00 ∷ 0x40 ∷ 0x00 ∷ []) (refused 1)
    ∷ receives (0x17 ∷ 0x80 ∷ 0x00 ∷ 0xFD ∷ 0xE8 ∷ []) (refused 1)
    ∷ receives (0x17 ∷ 0x80 ∷ 0x00 ∷ 0xFD ∷ 0xE9 ∷ []) (refused 3)
    -- P11 maximum 10: ID 9 done, ID 10 R3
    ∷ takes 64 10 (subscribing 9 1 ∷ subscribing 10 2 ∷ []) (no_rule 8 ∷ record { number = 13; rule = 3 } ∷ [])
    -- P12 the report's history gives its row
    ∷ reports history (letters "open 1\nID ALIAS STATE GROUP OBJECT COUNT\n3 7 active 65536 0 2\n")
    ∷ []
