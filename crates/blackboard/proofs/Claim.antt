-- THE CLAIM: every line of the table holds. Assumes nothing.
use mathlib.Core.Path.{◌≡◌, refl}
use mathlib.Core.Logic.{⊎_elim}
use mathlib.Core.List.Memᴰ
use mathlib.Core.List.{List, [], ◌∷◌, map, Memᴰ}
use Rattle.common.specs.Lists.{up_to}
use Rattle.field.specs.Entries.{number_at, text_at, numbered_at, entry_at, most_of, entries_at, few, list_at}
use Rattle.field.specs.Fields.{field_at, place_at}
use Rattle.layout.specs.Layout.{scan, place, parameters}
use Rattle.types.specs.Fetches.{fetch_cancel}
use Rattle.types.specs.Table.{messages, type_row_in, type_row_of, known, layout_of}
use Rattle.message.specs.Reading.{body_up_to, read_up_to}
use Rattle.message_writer.specs.Writing.{allowed_of, write_up_to}
use Rattle.layout.specs.Allowed.{allowed}
use Rattle.measure.specs.Judging.{right, sized}
use Rattle.measure.specs.Measuring.{right_all, sized_all, encode_all}
use Rattle.encode.specs.Writing.{written_of, frame}
use Rattle.field.specs.Value.{mean, enc_field, encode}
use Rattle.measure.specs.Small.{small_piece, small_all}
use Rattle.field.specs.Rules.{askable, givable}
use Rattle.types.specs.Subscriptions.{filter, delivery, subscribe, content, subscribe_ok}
use Rattle.subscription.proofs.Made.{message_of as subscription_of}
use Rattle.message.proofs.Made.{family_of, message_of as made_of, answer_of}
use Rattle.message.proofs.OneReading.{reading_up_to}
use Rattle.message_writer.specs.Sound.{sound_of}
use Rattle.row.specs.Places.{before, small, small_place}
use Rattle.row.specs.Ranges.{in_range, is_known, small_range, settled_of}
use Rattle.row.specs.Rows.{count_agrees, suits, is_row, is_pending, is_nowhere, is_unused, greater, risen, counted_row, arrive_of, open_of}
use Rattle.ledger.specs.Ledgers.{held, rising, has_alias, distinct, all_unused, bounded, is_ledger}
use Rattle.ledger.specs.Answers.{stops, gate_of, gated}
use Rattle.ledger.specs.Keys.{look, turn}
use Rattle.ledger.specs.Steps.{start_of, subscribe_step, by_key, no_row, ok_at, arrive_at, small_arrival, take_of, arrival_of}
use Rattle.trace.specs.Fields.{number_of_tag, value_of, field_size as field_size, is_whole}
use Rattle.trace.specs.Feeding.{feed_byte, feed}
use Rattle.types.specs.Letters.{letters}
use Rattle.text.specs.Decimals.{decimal_in, decimal_of}
use Rattle.text.specs.Words.{word_of}
use Rattle.text.specs.Lines.{item_of, ended_of, is_none, line_of}
use Rattle.replay.specs.Events.{started_by, control_by, arrived_by, event_of}
use Rattle.replay.specs.Progressing.{offset_of, step_of, step, fed, finish_of, replay_of}
use Rattle.report.specs.Report.{rows_text, ledger_text, text_of, report_of}
use Rattle.integer.specs.Integer.{wide, room, size_of, spell, bytes_of, enc_of, read_of, put_form, write_of}
use Rattle.blackboard.specs.Table.{Line, answers_to, found, stated, lines}

computed : map found lines ≡ map stated lines
unfolding found stated lines wide room size_of spell bytes_of read_of put_form write_of number_at field_at scan fetch_cancel messages type_row_in type_row_of known layout_of body_up_to read_up_to write_up_to allowed allowed_of right sized right_all sized_all encode_all encode enc_field mean written_of frame enc_of answers_to small_piece small_all askable sound_of small small_place is_known small_range count_agrees suits is_row is_pending is_nowhere is_unused held rising has_alias distinct all_unused bounded is_ledger stops gate_of gated up_to look turn start_of subscribe_step take_of text_at numbered_at entry_at most_of entries_at few list_at place_at place parameters givable filter delivery subscribe content subscribe_ok subscription_of family_of made_of answer_of reading_up_to before in_range settled_of greater risen counted_row arrive_of open_of by_key no_row ok_at arrive_at small_arrival arrival_of number_of_tag value_of field_size is_whole feed_byte feed letters decimal_in decimal_of word_of item_of ended_of is_none line_of started_by control_by arrived_by event_of offset_of step_of step fed finish_of replay_of rows_text ledger_text text_of report_of
computed = refl

-- two functions that map a list alike agree at each of its members
alike : {A B : Type 0} (f g : A → B) (xs : List A) → map f xs ≡ map g xs → (x : A) → Memᴰ x xs → f x ≡ g x
alike f g [] e x m = absurd (Memᴰ.not-nil m)
alike f g (y ∷ ys) e x m = ⊎_elim (λ p. rw p (cc)) (λ q. alike f g ys (cc) x q) (Memᴰ.cases_cons m)

-- so each line holds
pub every-line : (line : Line) → Memᴰ line lines → found line ≡ stated line
every-line = alike found stated lines computed
