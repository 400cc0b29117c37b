use Rattle.ndc_laws.proofs.AnswerLemmas.{reached-first, reached-put-off}
use Rattle.ndc_laws.proofs.CellArrivalLemmas.{known-where}
use Rattle.ndc_laws.proofs.arrival_laws.a_message_is_put_off_exactly_where_an_ancestor_is_missing.Goals as goal

pub returns-clause-known : goal.returns-clause-known
returns-clause-known c = known-where

pub returns-clause-put_off : goal.returns-clause-put_off
returns-clause-put_off c header lines w cluster shard sent is known below true_is named =
    reached-put-off header lines w is cluster known shard below sent (record { is_true = true_is; named = named })

pub returns-clause-missing : goal.returns-clause-missing
returns-clause-missing c header lines w cluster shard sent key is known below true_is named =
    reached-first header lines w is cluster known shard below sent (record { is_true = true_is; named = named }) key
