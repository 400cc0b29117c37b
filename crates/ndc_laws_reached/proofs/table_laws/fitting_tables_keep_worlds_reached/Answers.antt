use Rattle.ndc_laws_reached.proofs.TableLemmas.{table_put}
use Rattle.ndc_laws_reached.proofs.table_laws.fitting_tables_keep_worlds_reached.Goals as goal

pub returns : goal.returns
returns c = table_put
