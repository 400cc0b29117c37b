-- What the runs are once a batch has joined one.
use Rattle.std.proofs.Common.{IsOk, subst, ◌≡◌, Bool, true, false, List, [], ◌∷◌, Some, None, if◌then◌else◌, refl, ap, sym, ◌∙◌}
use Rattle.std.specs.Prelude.{is_some}
use Rattle.ndc_event.specs.declared.batch.Batch.{Batch}
use Rattle.ndc_event.specs.declared.key.RunId.{RunId}
use Rattle.ndc_model_sets.specs.Branches.{same_run}
use Rattle.ndc_model_sets.proofs.BranchLemmas.{run-same}
use Rattle.ndc_run.specs.Learning.{learned}
use Rattle.ndc_tree.specs.Inserting.{inserted}
use Rattle.ndc_model_sets.specs.Reading.{current_key}
use Rattle.ndc_tree.specs.Tree.{TreeValue}
use Rattle.ndc_shard_runs.specs.RunMap.{batches_of, begun, run_at, with_run, with_grown, with_batch}

-- a run that is found has the id
pub found-run : (run : RunId) (runs : List TreeValue) (r : TreeValue) → run_at run runs ≡ Some r → r.run ≡ run
found-run run [] r h = absurd (cc)
found-run run (x ∷ xs) r h = by (same_run x.run run) refl h (found-run run xs r)
  where
    by : (t : Bool) → same_run x.run run ≡ t → (if t then Some x else run_at run xs) ≡ Some r → (run_at run xs ≡ Some r → r.run ≡ run) → r.run ≡ run
    by true e h rest = let one : x ≡ r = cc in ap (λ (v : TreeValue). v.run) (sym one) ∙ run-same x.run run e
    by false e h rest = rest h

pub with-there : (b : Batch) (runs : List TreeValue) (r : TreeValue) → run_at b.run runs ≡ Some r → with_batch b runs ≡ with_grown b runs
with-there b runs r h = ap (λ o. if is_some o then with_grown b runs else with_run (begun b) runs) h

pub with-begun : (b : Batch) (runs : List TreeValue) → run_at b.run runs ≡ None → with_batch b runs ≡ with_run (begun b) runs
with-begun b runs h = ap (λ o. if is_some o then with_grown b runs else with_run (begun b) runs) h

-- what is the next key of a run is that of its batches
pub current-at : (run : RunId) (runs : List TreeValue) (r : TreeValue) → run_at run runs ≡ Some r → current_key r.run r.batches ≡ current_key run (batches_of (run_at run runs))
current-at run runs r h = ap (λ i. current_key i r.batches) (found-run run runs r h) ∙ ap (λ o. current_key run (batches_of o)) (sym h)

-- what the tree of a run takes, that of the run of this id takes, and what becomes of it is the same
pub inserted-at : (run : RunId) (runs : List TreeValue) (r : TreeValue) (b : Batch) → run_at run runs ≡ Some r → IsOk (inserted run (batches_of (run_at run runs)) b) → IsOk (inserted r.run r.batches b)
inserted-at run runs r b h ok =
    subst (λ (i : RunId). IsOk (inserted i r.batches b)) (sym (found-run run runs r h)) (subst (λ o. IsOk (inserted run (batches_of o) b)) h ok)

pub learned-at : (run : RunId) (runs : List TreeValue) (r : TreeValue) (b : Batch) → run_at run runs ≡ Some r → learned r.run r.batches b ≡ learned run (batches_of (run_at run runs)) b
learned-at run runs r b h = ap (λ i. learned i r.batches b) (found-run run runs r h) ∙ ap (λ o. learned run (batches_of o) b) (sym h)
