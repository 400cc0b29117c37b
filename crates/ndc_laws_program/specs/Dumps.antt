-- Dumps of what clusters have learned.
use Rattle.std.specs.Prelude.{◌≡◌, ◌≢◌, List, ℕ, [], ◌∷◌, ◌++◌, length, decimal, Ok}
use Rattle.ndc_script_types.specs.WellFormed.{IsWorkflowAt}
use Rattle.ndc_script_types.specs.declared.script.Header.{Header}
use Rattle.ndc_domain.specs.declared.clusters.ClusterNo.{ClusterNo}
use Rattle.ndc_event.specs.declared.name.Name.{Name}
use Rattle.ndc_dump.specs.declared.dump.Dump.{Dump}
use Rattle.ndc_dump.specs.Printed.{CanBeDumped}
use Rattle.ndc_dump.specs.Read.{dump_of}
use Rattle.ndc_model.specs.Reading.{learned_at}
use Rattle.ndc_model.specs.Texts.{ok}
use Rattle.ndc_model.specs.World.{World}
use Rattle.ndc_text.specs.Views.{dump_text}

-- what a cluster has learned of a workflow can be dumped, where it has learned anything
abbrev pub LearnedCanBeDumped : Header → World → Type 0
LearnedCanBeDumped header w = (cluster : ClusterNo) (domain workflow : Name) → IsWorkflowAt header cluster domain workflow → learned_at header cluster domain workflow w ≢ []
    → CanBeDumped domain workflow (learned_at header cluster domain workflow w)

-- an answer holds a dump of a workflow after how many batches there are: it is read, and printed again it is the same
pub record HoldsDump (domain workflow : Name) (answer : List ℕ) : Type 0 where
  pub text : List ℕ
  pub dump : Dump
  pub domain_is : dump.domain ≡ domain
  pub workflow_is : dump.workflow ≡ workflow
  pub answers : answer ≡ ok (decimal (length dump.view.batches) ∷ []) ++ text
  pub read : dump_of text ≡ Ok dump
  pub again : dump_text dump.domain dump.workflow dump.view ≡ text
