use Rattle.std.proofs.Common.{refl}
use Rattle.std.specs.Char.{encode_utf8}
use Rattle.std.specs.Str.{chars, is_utf8}
use Rattle.json.specs.Json.{value}
use Rattle.json.specs.Lex.{lex, punctuate}
use Rattle.json.specs.Print.{escape_byte}
use Rattle.json.specs.Text.{content}
use Rattle.ndc_command.specs.Plan.{judged_at, plan_below, plan_of, start_of, within, written}
use Rattle.ndc_command.specs.Stage.{refuse}
use Rattle.ndc_domain.specs.Members.{numbers, numbers_where}
use Rattle.ndc_event.specs.Kind.{kind_name}
use Rattle.ndc_model_cells.specs.Arrival.{arrival_of, arrived_at, learned_by}
use Rattle.ndc_model_cells.specs.Jobs.{after_job, cells_after, learned_in, outcome_of, replies_to}
use Rattle.ndc_model_cells.specs.Shards.{shard_of}
use Rattle.ndc_model_cells.specs.Writing.{command_of, may_write, reapplication_of, reset_at}
use Rattle.ndc_letters.specs.Letters.{taken_of}
use Rattle.ndc_model.specs.Letters.{letters_merged}
use Rattle.ndc_model.specs.Lines.{act_step}
use Rattle.ndc_model.specs.Moves.{after_settlement, bootstrapped, due_arrived, flights_arrived, jobs_done, pulled_all, pulled_shard, reapplied_all, renewed, resent, rewound, settled_once, trimmed_all, worked}
use Rattle.ndc_model.specs.Steps.{command_step, reset_step}
use Rattle.ndc_model.specs.Texts.{refusal_words}
use Rattle.ndc_model.specs.World.{with_table}
use Rattle.ndc_state.specs.Table.{row}
use Rattle.ndc_text.specs.Read.{read_of}
use Rattle.ndc_text.specs.Text.{batch_text, with_attributes}
use Rattle.ndc_model.proofs.worked_scripts.a_damaged_message_is_set_aside.Goals as goal

-- the first thirty bytes of the message hold no number, and are not JSON
pub returns-clause-again : goal.returns-clause-again
unfolding taken_of act_step command_step reset_step with_table pulled_all pulled_shard renewed rewound trimmed_all jobs_done flights_arrived reapplied_all worked resent bootstrapped due_arrived settled_once after_settlement letters_merged shard_of may_write command_of reapplication_of reset_at arrival_of arrived_at learned_by after_job outcome_of learned_in cells_after replies_to row plan_of start_of plan_below written judged_at within refuse numbers numbers_where kind_name refusal_words read_of batch_text with_attributes escape_byte content lex punctuate value chars is_utf8 encode_utf8
returns-clause-again c = refl

pub returns-clause-purged : goal.returns-clause-purged
unfolding taken_of act_step command_step reset_step with_table pulled_all pulled_shard renewed rewound trimmed_all jobs_done flights_arrived reapplied_all worked resent bootstrapped due_arrived settled_once after_settlement letters_merged shard_of may_write command_of reapplication_of reset_at arrival_of arrived_at learned_by after_job outcome_of learned_in cells_after replies_to row plan_of start_of plan_below written judged_at within refuse numbers numbers_where kind_name refusal_words read_of batch_text with_attributes escape_byte content lex punctuate value chars is_utf8 encode_utf8
returns-clause-purged c = refl
