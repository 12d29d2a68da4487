-- Theorems: the starred cases hold, since the table computes to true; and what the table cannot hold. Assumes nothing.
use Rattle.std.specs.Prelude.{◌≡◌, refl, true, List, ℕ, ◌<◌, length}
use Rattle.std.proofs.lemmas.Bool.{lt-leb}
use Rattle.std.specs.Float.Ieee.{of_bits, is_nan, lt, le, add, div, of_int}
use Rattle.text.specs.Bytes.{bytes, until, extend, pieces, unlines}
use Rattle.text.specs.List.{with_first, pieces_of, list_Q, list_T, rises_from, is_rising_of, only_rising, list_L, one_member, list_C, commas_by, list_text_by}
use Rattle.text.specs.Number.{all_decimal, decimal_from, number_of, all_hex_of, hex_from, hex_of, bit_of, decimal_digits, hex_digits}
use Rattle.text.specs.Template.{a_number, a_list, value_of, and_then, same_byte, at_end, values_of, numbers_in, lists_in, value_text, first_text, line_text}
use Rattle.pauli.specs.Bits.{◌⊕◌, none, only, ◌∩◌, ◌△◌, given, replaced, added, outside, members, parity, sum_over, odd, bit}
use Rattle.pauli.specs.Gate.{gates, gate_from, gate_of, operands_of, swap_XZ, add_xto_Z, add_zto_X, controlled_X, controlled_Z, controlled_Y, exchanged, swap_rows_of, prepare_bell, prepare_bell_back, gate_with}
use Rattle.pauli.specs.Pauli.{identity, X_at, Z_at, Y_at, ◌∗◌, when, anticommutes, cleared}
use Rattle.job.specs.Checks.{no_context_of, element_lines_of, kind_size, first_total, next_total, records, next, all_below, each_below_of, each_short, distinct, is_permutation, same_weight, expected, is_second_gate, is_second_line, is_second_of, header_fits_of, line_tests, kind_qubits, kind_distinct, elements_fit, noise_tests, weight_fits, total_fits, own_tests, lowest, refusal_of}
use Rattle.job.specs.Clifford.{row_over, every, generators_anticommute, is_clifford_of, table_of}
use Rattle.job.specs.Float.{total_from, is_probability, is_weight_of, is_total}
use Rattle.job.specs.Grammar.{unitary_line, clifford_line, optional, noise_line, forms, said, or_later, read_by, read_line_of}
use Rattle.job.specs.Job.{well_ended_of, next_of, check_lines_of, check_job, distribution_of, noise_of, weight_of, gather, gathered, header_of, job_of_lines, recorded_by, recorded_in}
use Rattle.job.specs.Line.{pauli_of, size_of}
use Rattle.job.specs.Rising.{including, rising}
use Rattle.frames.specs.Forward.{exponentiate, controlled_pauli, placed, table_row, images_from, images_of, places_of, image_sum, transformed, forward, run, start}
use Rattle.draws.specs.Draws.{unit_of, selected, depolarizing_element_of, no_pauli, element_at, bounded, running_from, is_positive, first_fitting, or_else, last_positive, place_of, by_weight, choose_from, is_satisfied, fault_of, draw_shot_of, also_fault, then_shots, draw_shots, draw_line, part_of, main_after}
use Rattle.draws.specs.Execute.{forward_all, then_in_place, inject_shots, inject_noise, on_main, execute_one, execute_then, execute}
use Rattle.draws.specs.Settle.{inject_text, injection, noise_step, step_of, prefixed, settle_then, settle, settled_text}
use Rattle.run.specs.Run.{enough_words, spent_reply, finished_reply, ended_reply, run_reply}
use Rattle.rows.specs.Words.{bit_in, word_of, tabulated, pack}
use Rattle.backward.specs.Settling.{settled_answer, settle_reply}
use Rattle.backward.specs.Walk.{images_back, clifford_back_of, fetched, permute_back_of, carry, counts, backward, walk_back, walk}
use Rattle.backward.specs.Walking.{noise_first, first_noise, line_first, plain_lines, walkable, walk_answer, walk_reply}
use Rattle.session.specs.Session.{lent_memory, refusal_lines, bit_text, delta_lines, session_lines, reply_lines, printed}
use Rattle.frames.specs.Shots.{concerns, restricted}
use Rattle.single_faults.specs.Groups.{with_id, id_before, empty_before, group_of, groups_of, all_recorded}
use Rattle.single_faults.specs.Table.{quiet_lines, faulted, flips, marks, row_text, element_rows, rows_of, rows_from, table_text, is_wide, wide_first, first_wide, table_answer, groups_answer, table_reply}
use Rattle.starred.specs.Cases.{same_bytes_of, same_answer_of, settled_by, table_by, wrote, counted, holds, all_hold, session, on_three, noise_on, noisy, undone, cases, faulty, spread, table_cases}

pub cases_hold : all_hold cases ≡ true
unfolding of_bits is_nan lt le add div of_int bytes until extend pieces unlines with_first pieces_of list_Q list_T rises_from is_rising_of only_rising list_L one_member list_C commas_by list_text_by all_decimal decimal_from number_of all_hex_of hex_from hex_of bit_of decimal_digits hex_digits a_number a_list value_of and_then same_byte at_end values_of numbers_in lists_in value_text first_text line_text ◌⊕◌ none only ◌∩◌ ◌△◌ given replaced added outside members parity odd gates gate_from gate_of operands_of swap_XZ add_xto_Z add_zto_X controlled_X controlled_Z controlled_Y exchanged swap_rows_of prepare_bell prepare_bell_back gate_with identity X_at Z_at Y_at ◌∗◌ when anticommutes cleared no_context_of element_lines_of kind_size first_total next_total records next all_below each_below_of each_short distinct is_permutation same_weight expected is_second_gate is_second_line is_second_of header_fits_of line_tests kind_qubits kind_distinct elements_fit noise_tests weight_fits total_fits own_tests lowest refusal_of bit row_over every generators_anticommute table_of is_clifford_of is_probability is_weight_of is_total unitary_line clifford_line optional noise_line forms said or_later read_by read_line_of well_ended_of next_of check_lines_of check_job distribution_of noise_of weight_of gather gathered header_of job_of_lines recorded_by recorded_in pauli_of size_of exponentiate controlled_pauli placed table_row images_from images_of places_of image_sum transformed forward run start unit_of selected including rising depolarizing_element_of no_pauli element_at bounded total_from running_from is_positive first_fitting or_else last_positive place_of by_weight choose_from sum_over is_satisfied fault_of draw_shot_of also_fault then_shots draw_shots draw_line part_of main_after forward_all then_in_place inject_shots inject_noise on_main execute_one execute_then execute inject_text injection noise_step step_of prefixed settle_then settle settled_text enough_words spent_reply finished_reply ended_reply run_reply bit_in word_of tabulated pack settled_answer settle_reply images_back clifford_back_of fetched permute_back_of carry counts backward walk_back walk noise_first first_noise line_first plain_lines walkable walk_answer walk_reply lent_memory refusal_lines bit_text delta_lines session_lines reply_lines printed same_bytes_of same_answer_of settled_by wrote counted holds all_hold session on_three noise_on noisy undone cases
cases_hold = refl

-- So do those of the table of single faults.
pub table_cases_hold : all_hold table_cases ≡ true
unfolding of_bits is_nan lt le add div of_int bytes until extend pieces unlines with_first pieces_of list_Q list_T rises_from is_rising_of only_rising list_L one_member list_C commas_by list_text_by all_decimal decimal_from number_of all_hex_of hex_from hex_of bit_of decimal_digits hex_digits a_number a_list value_of and_then same_byte at_end values_of numbers_in lists_in value_text first_text line_text ◌⊕◌ none only ◌∩◌ ◌△◌ given replaced added outside members parity odd gates gate_from gate_of operands_of swap_XZ add_xto_Z add_zto_X controlled_X controlled_Z controlled_Y exchanged swap_rows_of prepare_bell prepare_bell_back gate_with identity X_at Z_at Y_at ◌∗◌ when anticommutes cleared no_context_of element_lines_of kind_size first_total next_total records next all_below each_below_of each_short distinct is_permutation same_weight expected is_second_gate is_second_line is_second_of header_fits_of line_tests kind_qubits kind_distinct elements_fit noise_tests weight_fits total_fits own_tests lowest refusal_of bit row_over every generators_anticommute table_of is_clifford_of is_probability is_weight_of is_total unitary_line clifford_line optional noise_line forms said or_later read_by read_line_of well_ended_of next_of check_lines_of check_job distribution_of noise_of weight_of gather gathered header_of job_of_lines recorded_by recorded_in pauli_of size_of exponentiate controlled_pauli placed table_row images_from images_of places_of image_sum transformed forward run start unit_of selected including rising depolarizing_element_of no_pauli element_at bounded total_from running_from is_positive first_fitting or_else last_positive place_of by_weight choose_from sum_over is_satisfied fault_of draw_shot_of also_fault then_shots draw_shots draw_line part_of main_after forward_all then_in_place inject_shots inject_noise on_main execute_one execute_then execute inject_text injection noise_step step_of prefixed settle_then settle settled_text enough_words spent_reply finished_reply ended_reply run_reply bit_in word_of tabulated pack settled_answer settle_reply images_back clifford_back_of fetched permute_back_of carry counts backward walk_back walk noise_first first_noise line_first plain_lines walkable walk_answer walk_reply lent_memory refusal_lines bit_text delta_lines session_lines reply_lines printed same_bytes_of same_answer_of settled_by wrote counted holds all_hold session on_three noise_on noisy undone restricted concerns with_id id_before empty_before group_of groups_of all_recorded quiet_lines faulted flips marks row_text element_rows rows_of rows_from table_text is_wide wide_first first_wide table_answer groups_answer table_reply table_by faulty spread table_cases
table_cases_hold = refl

-- Also: a longer input is refused before any test, whatever it says.
pub long_refused : (job : List ℕ) → 65536 < length job → printed job ≡ bytes "ok=0 refusal=13 line=0\n"
unfolding printed refusal_lines unlines line_text first_text value_text decimal_digits bytes
long_refused job long = rw (lt-leb (length job) 65536 long)
