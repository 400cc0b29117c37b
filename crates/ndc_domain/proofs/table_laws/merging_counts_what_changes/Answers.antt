use Rattle.ndc_domain.proofs.Unions.{brings_nothing, brings_where_changed}
use Rattle.ndc_domain.proofs.table_laws.merging_counts_what_changes.Goals as goal

pub returns-clause-unchanged : goal.returns-clause-unchanged
returns-clause-unchanged c = brings_nothing

pub returns-clause-changed : goal.returns-clause-changed
returns-clause-changed c = brings_where_changed
