-- What unfolds for a command to be read by computation: `unfolding computes` is to unfold all that its own line names. It says nothing.
use Rattle.theory.specs.Trees.{cap_of}
use Rattle.theory.specs.Table.{pick, both, on_row, mem, lookup, asked, enter_of, cont_of, null_of}
use Rattle.theory.proofs.Machine.{on_bool, on_fed, feed, step, next}
use Rattle.theory.proofs.Descend.{check, sum, fault}
use Rattle.theory.proofs.Scan.{on_next_a, on_end_a, fault_of, scan_a}
use Rattle.theory.proofs.Tested.{allb}
use Rattle.kinds.specs.Classes.{name_code, literal_code}
use Rattle.kinds.specs.Strength.{strength_of, prefix_of}
use Rattle.kinds.specs.Fit.{fit_text, fits}
use Rattle.words.specs.Words.{words}
use Rattle.words.specs.Flags.{flags_of}
use Rattle.words.specs.Fewest.{endings, ending_of, fewest_of}
use Rattle.grammar.specs.Rows.{but_column, exprs, select_items, values_items, lines, heads_of, tails_of, optional}
use Rattle.grammar.specs.Grammar.{sql}
use Rattle.grammar.specs.Limits.{is_query, below, further_flags, members, last_child, children_before, width, width_of, begun, is_kind, judge}
use Rattle.grammar.specs.Nodes.{count, beside, records}
use Rattle.grammar.specs.Reading.{side, choose, is_end, opt, ◌#◌, column, limit_and_offset, group, inside, rules, ruled, value_of, value, values, reading}
use Rattle.grammar.specs.Meaning.{plain_detail, is_one, unwrapped, meaning}
use Rattle.grammar.specs.Writing.{◌!◌, but_first, at, after, joined, each, parted, rows, grouped, join_words, join_of, whens, binary_toks, binary_str, node_str, forms, formed, piece, pieces, writing}

unfoldable pub computes : Unit {0}
unfolding allb fits fit_text sql lines but_column exprs select_items values_items heads_of tails_of optional pick both mem lookup asked enter_of cont_of null_of cap_of on_bool on_row on_fed feed step next check sum fault scan_a on_next_a on_end_a fault_of is_query below further_flags members last_child children_before width width_of begun is_kind judge side opt ◌#◌ name_code literal_code column limit_and_offset group inside rules ruled value_of value values reading choose is_end beside count records flags_of words plain_detail is_one unwrapped meaning ◌!◌ but_first at after joined each parted rows grouped join_words join_of whens binary_toks binary_str node_str forms formed piece pieces writing fewest_of endings ending_of strength_of prefix_of
computes = tt
