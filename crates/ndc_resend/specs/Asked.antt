-- Two cells beside a sound set: one has put a batch off, and another one is asked for what lies before it.
use Rattle.std.specs.Prelude.{◌≡◌, List, [], ◌∷◌, ◌++◌, None, IsSome}
use Rattle.std.specs.List.{AllByRecursion}
use Rattle.ndc_event.specs.declared.batch.Batch.{Batch}
use Rattle.ndc_model_cells.specs.Workflow.{WorkflowValue}
use Rattle.ndc_model_sets.specs.Learned.{IsClosed, IsPart, learned}
use Rattle.ndc_model_sets.specs.Paths.{events_to, path_to, versions_of}
use Rattle.ndc_model_sets.specs.Sets.{Has, IsSet, batch_at}
use Rattle.ndc_model_sets.specs.Sound.{IsSound}
use Rattle.ndc_resend.specs.PutOff.{remote_of}

-- of a sound set, a workflow of a cell has put this batch off: where it has a parent, its message came with the version history of its path; that begins
-- with learned batches, and goes on with batches that are not learned, of which it is the last
pub record IsPutOffIn (all : List Batch) (w : WorkflowValue) (b : Batch) (front middle : List Batch) : Type 0 where
  pub sound : IsSound all
  pub set : IsSet w.arrived
  pub within : IsPart (learned w.arrived) all
  pub has : Has all b
  pub history : IsSome b.parent → remote_of b w.waiting ≡ versions_of (events_to b.key all)
  pub path : path_to b.key all ≡ front ++ (middle ++ b ∷ [])
  pub known : AllByRecursion (Has (learned w.arrived)) front
  pub unknown : AllByRecursion (λ c. batch_at c.key (learned w.arrived) ≡ None) (middle ++ b ∷ [])

-- what another cell has learned of the set: the batch, with all before it
pub record HasLearned (all mine : List Batch) (b : Batch) : Type 0 where
  pub set : IsSet mine
  pub closed : IsClosed mine
  pub within : IsPart mine all
  pub has : Has mine b
