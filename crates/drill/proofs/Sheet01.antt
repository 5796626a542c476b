-- Document 01's sheet gives its listing: a read begins, two servers are visited, and it is given up. By computation. Assumes nothing.
use mathlib.Core.Path.{◌≡◌, refl}
use mathlib.Core.List.{List, [], ◌∷◌, ◌++◌}
use Prim.Native.Nat.{ℕ}
use Rattle.cluster.specs.Config.{shelf, quorum}
use Rattle.format.specs.Format as format
use Rattle.protocol.specs.Packet as packet
use Rattle.protocol.specs.Memory.{memory_f, decode_memory, encode_memory}
use Rattle.protocol.specs.Rules.{upd, count_to, nobody}
use Rattle.protocol.specs.Client.{awaits, is_idle, is_full_def, onto, begun, update, read_step, abort_step, make_step, turn_on, high_at, too_high, take_step, made, read_refusal_def, make_refusal_def, abort_refusal_def, take_refusal}
use Rattle.protocol.specs.Server.{act, barred, reply_to, server_refusal}
use Rattle.protocol.specs.View.{marked, candidates_in, hand_of, view}
use Rattle.format.specs.Reading.{put, bytes_at, over}
use Rattle.protocol.specs.ServerBytes.{server_in, turned_down_def, acted_on, server_take}
use Rattle.protocol.specs.ClientBytes as bytes
use Rattle.runs.specs.Runs.{set_machine, do_bytes, now_bytes}
use Rattle.columns.specs.Lines.{before, lines}
use Rattle.columns.specs.Columns.{justified, columns, row, digits, number, column, numbers_in, read_columns_def, read_text}
use Rattle.drill.specs.Sheet as sheets
use Rattle.drill.specs.Steps as steps
use Rattle.drill.specs.Listing.{step_row, rows, listed, listing}

sheet : List ℕ
sheet =
    row (0 ∷ 1 ∷ 0 ∷ 0 ∷ 0 ∷ [])
    ++ (row (2 ∷ 2 ∷ 0 ∷ 0 ∷ 0 ∷ []) ++ (row (3 ∷ 2 ∷ 1 ∷ 0 ∷ 0 ∷ []) ++ (row (3 ∷ 2 ∷ 2 ∷ 0 ∷ 0 ∷ []) ++ row (5 ∷ 2 ∷ 0 ∷ 0 ∷ 0 ∷ []))))

printed : listing sheet
    ≡ row (2 ∷ 2 ∷ 2 ∷ 4 ∷ 0 ∷ 0 ∷ 0 ∷ 0 ∷ [])
    ++ (row (3 ∷ 3 ∷ 2 ∷ 4 ∷ 0 ∷ 0 ∷ 0 ∷ 0 ∷ []) ++ (row (4 ∷ 3 ∷ 2 ∷ 4 ∷ 0 ∷ 0 ∷ 0 ∷ 0 ∷ []) ++ row (5 ∷ 5 ∷ 2 ∷ 0 ∷ 4 ∷ 0 ∷ 0 ∷ 0 ∷ [])))
unfolding sheet shelf quorum format.byte format.number2 format.number4 format.run format.empty format.seq format.via format.such format.or_blank format.many format.optional packet.stamp_f packet.any_stamp_f packet.share_f packet.write_f packet.candidate_f packet.any_candidate_f packet.candidates_f packet.held_f packet.code_f packet.body_f packet.head_f packet.packet_f packet.decode packet.encode memory_f decode_memory encode_memory upd made read_refusal_def make_refusal_def abort_refusal_def take_refusal act barred reply_to server_refusal bytes_at marked candidates_in hand_of view over server_in turned_down_def acted_on server_take put bytes.fresh bytes.in_hand bytes.awaited bytes.put_marks bytes.put_reply_def bytes.begins bytes.put_back bytes.after bytes.begun_by bytes.begin_read_def bytes.give_up_def bytes.client_make bytes.took_by bytes.client_take awaits is_idle is_full_def onto begun update read_step abort_step make_step turn_on high_at too_high take_step count_to nobody set_machine do_bytes now_bytes before lines digits number column numbers_in read_columns_def read_text sheets.fields_of sheets.read_line_def sheets.is_step_def sheets.first_line_def sheets.step_line_def steps.drill_shelf steps.lent_to steps.start steps.visit_refusal_def steps.visited steps.visit_line_def steps.step_of steps.shown_as steps.shown steps.round_shown justified columns row step_row rows listed listing
printed = refl
