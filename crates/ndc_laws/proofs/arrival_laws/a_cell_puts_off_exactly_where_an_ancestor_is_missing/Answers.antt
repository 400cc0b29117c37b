use Rattle.ndc_laws.proofs.CellArrivalLemmas.{kept-first, kept-put-off}
use Rattle.ndc_laws.proofs.arrival_laws.a_cell_puts_off_exactly_where_an_ancestor_is_missing.Goals as goal

pub returns-clause-put_off : goal.returns-clause-put_off
returns-clause-put_off c = kept-put-off

pub returns-clause-missing : goal.returns-clause-missing
returns-clause-missing c all sent cell key is kept message = kept-first all sent cell is kept message key
