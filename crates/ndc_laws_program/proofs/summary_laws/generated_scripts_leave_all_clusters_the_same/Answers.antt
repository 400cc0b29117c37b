use Rattle.ndc_laws_program.proofs.GeneratedLemmas.{generated-same}
use Rattle.ndc_laws_program.proofs.summary_laws.generated_scripts_leave_all_clusters_the_same.Goals as goal

pub returns : goal.returns
returns c = λ count seed most. generated-same count seed most
