-- The runs of a workflow by their ids, and the set of all their batches.
use Rattle.std.specs.Prelude.{◌≡◌, true, nat_lt, List, [], ◌∷◌, find, Option, Some, None, is_some, if◌then◌else◌}
use Rattle.std.specs.List.{filter}
use Rattle.ndc_event.specs.declared.batch.Batch.{Batch}
use Rattle.ndc_event.specs.declared.key.RunId.{RunId}
use Rattle.ndc_model_sets.specs.Branches.{same_run}
use Rattle.ndc_model_sets.specs.Sets.{arrived}
use Rattle.ndc_event.specs.Sorted.{InOrder}
use Rattle.ndc_tree.specs.Tree.{TreeValue}

-- the batches of a run among those of its workflow
abbrev pub part_of : RunId → List Batch → List Batch
part_of run batches = filter (λ b. same_run b.run run) batches

-- a run with its batches among those of its workflow
abbrev pub run_in : List Batch → RunId → TreeValue
run_in batches run = record { run = run; batches = part_of run batches }

-- a run comes before another one by its id
abbrev pub IsRunBefore : TreeValue → TreeValue → Type 0
IsRunBefore one two = nat_lt one.run.value two.run.value ≡ true

-- the ids of the runs rise
abbrev pub AreInOrder : List TreeValue → Type 0
AreInOrder runs = InOrder IsRunBefore runs

-- the run of this id
abbrev pub run_at : RunId → List TreeValue → Option TreeValue
run_at run runs = find (λ r. same_run r.run run) runs

-- the batches of a run, where there is one
abbrev pub batches_of : Option TreeValue → List Batch
batches_of None = []
batches_of (Some r) = r.batches

-- a run that a batch begins
abbrev pub begun : Batch → TreeValue
begun b = record { run = b.run; batches = b ∷ [] }

-- a run with one more batch
abbrev pub grown : Batch → TreeValue → TreeValue
grown b r = record r { batches = arrived b r.batches }

-- the run at its place in the order of ids
abbrev pub with_run : TreeValue → List TreeValue → List TreeValue
with_run r [] = r ∷ []
with_run r (x ∷ runs) =
    if nat_lt r.run.value x.run.value then r ∷ x ∷ runs
    else if same_run x.run r.run then r ∷ runs
    else x ∷ with_run r runs

-- the runs, where that of this batch has it too
abbrev pub with_grown : Batch → List TreeValue → List TreeValue
with_grown b [] = []
with_grown b (x ∷ runs) = if same_run x.run b.run then grown b x ∷ runs else x ∷ with_grown b runs

-- the runs with a batch: its run has it too, or it begins its run
abbrev pub with_batch : Batch → List TreeValue → List TreeValue
with_batch b runs = if is_some (run_at b.run runs) then with_grown b runs else with_run (begun b) runs

-- the runs but for this one
abbrev pub without_run : RunId → List TreeValue → List TreeValue
without_run run [] = []
without_run run (x ∷ runs) = if same_run x.run run then runs else x ∷ without_run run runs

-- batches arrive among others
abbrev pub all_arrived : List Batch → List Batch → List Batch
all_arrived [] others = others
all_arrived (b ∷ batches) others = arrived b (all_arrived batches others)

-- the batches of all runs, in key order
abbrev pub all_of : List TreeValue → List Batch
all_of [] = []
all_of (r ∷ runs) = all_arrived r.batches (all_of runs)

-- each run has its part of the batches of all
abbrev pub AreParts : List TreeValue → Type 0
AreParts runs = (run : RunId) → batches_of (run_at run runs) ≡ part_of run (all_of runs)
