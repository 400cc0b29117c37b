-- What the tree of a run says, and what becomes of a batch then.
use Rattle.std.proofs.Common.{◌≡◌, ◌≢◌, List, [], Some, None, Result, Ok, Err, IsOk, refl, sym, ◌∙◌, subst, ap}
use Rattle.ndc_event.specs.Outcome.{Gives, ◌>>=◌}
use Rattle.ndc_event.specs.declared.batch.Batch.{Batch}
use Rattle.ndc_event.specs.declared.key.BatchKey.{BatchKey}
use Rattle.ndc_event.specs.declared.key.RunId.{RunId}
use Rattle.ndc_model_sets.specs.Sets.{batch_at, Has}
use Rattle.ndc_model_sets.proofs.BranchLemmas.{same-run}
use Rattle.ndc_run.specs.Learning.{joined, learned, of_tree_error, or_error}
use Rattle.ndc_run.specs.declared.answer.Learned.{Learned}
use Rattle.ndc_run.specs.declared.answer.RunError.{RunError}
use Rattle.ndc_run.specs.declared.answer.RunError.TheVariants.{Memory}
use Rattle.ndc_tree.specs.Inserting.{inserted}
use Rattle.ndc_tree.specs.Tree.{TreeValue}
use Rattle.ndc_tree.specs.declared.answer.Inserted.{Inserted}
use Rattle.ndc_tree.specs.declared.answer.Inserted.TheVariants.{Extended, Known}
use Rattle.ndc_tree.specs.declared.answer.TreeError.{TreeError}
use Rattle.ndc_tree.specs.declared.answer.TreeError.TheVariants.{MissingParent}
use Rattle.ndc_shard_runs.specs.Fitting.{both_joined, both_learned}
use Rattle.ndc_shard_runs.specs.RunMap.{batches_of, run_at}
use Rattle.ndc_shard_runs.proofs.LearnLemmas.{found-run}

-- where no batch is there, one with a parent misses it, and one without begins the run
pub judged-missing : (run : RunId) (b : Batch) (key : BatchKey) → b.parent ≡ Some key → inserted run [] b ≡ Err (MissingParent b.key)
judged-missing run b key e = rw e refl

pub judged-first : (b : Batch) → b.parent ≡ None → inserted b.run [] b ≡ Ok (Extended b.key)
judged-first b e = rw (e, same-run b.run b.run refl) refl

-- what the tree of a run says of a batch whose key is new there
pub judged : (run : RunId) (runs : List TreeValue) (r : TreeValue) (b : Batch) (result : Result Inserted TreeError) → run_at run runs ≡ Some r → batch_at b.key (batches_of (run_at run runs)) ≡ None
    → (result ≡ Ok Known → Has r.batches b) → (result ≢ Ok Known → result ≡ inserted r.run r.batches b) → result ≡ inserted run (batches_of (run_at run runs)) b
judged run runs r b result at fresh known answer =
    answer (λ e. absurd (none (known e)))
    ∙ ap (λ i. inserted i r.batches b) (found-run run runs r at) ∙ ap (λ o. inserted run (batches_of o) b) (sym at)
  where
    none : Has r.batches b → ⊥
    none has = let f : batch_at b.key r.batches ≡ None = ap (λ o. batch_at b.key (batches_of o)) (sym at) ∙ fresh in absurd (cc)

-- what the tree refuses is refused so
pub refused : (run : RunId) (part : List Batch) (b : Batch) (e : TreeError) → inserted run part b ≡ Err e → learned run part b ≡ Err (of_tree_error e)
refused run part b e h = ap (λ r. or_error of_tree_error r >>= (λ place. joined run part b)) h

pub both-refused : (part : List Batch) (b second : Batch) (e : TreeError) → inserted b.run part b ≡ Err e → both_learned part b second ≡ Err (of_tree_error e)
both-refused part b second e h = ap (λ r. or_error of_tree_error r >>= (λ place. both_joined part b second)) h

pub both-judged : (part : List Batch) (b second : Batch) (place : Inserted) → inserted b.run part b ≡ Ok place → both_learned part b second ≡ both_joined part b second
both-judged part b second place h = ap (λ r. or_error of_tree_error r >>= (λ place. both_joined part b second)) h

pub is-ok : {X E : Type 0} (r : Result X E) (x : X) → r ≡ Ok x → IsOk r
is-ok r x e = subst IsOk (sym e) refl

-- what is given where all goes well is the answer
pub given : (answer : Result Learned RunError) (result : Result Learned RunError) (x : Learned) → result ≡ Ok x → Gives Memory (λ done. done) result answer → answer ≡ Ok x
given answer result x e g = subst (λ r. Gives Memory (λ done. done) r answer) e g

-- of two answers one after the other, the first
pub first-ok : (one two : Result Learned RunError) (x : Learned) → (one >>= (λ begun. two)) ≡ Ok x → (begun : Learned) × (one ≡ Ok begun) × (two ≡ Ok x)
first-ok (Ok begun) two x h = (begun, refl, h)
first-ok (Err e) two x h = absurd (cc)

-- where both go well, the second and then the first do
pub both-fine : (one two : Result Learned RunError) → IsOk one → IsOk two → IsOk (one >>= (λ begun. two))
both-fine (Ok begun) two ok fine = fine
both-fine (Err e) two ok fine = absurd (cc)

-- where the run takes the first, what the tree says of it is not a refusal
pub placed-fine : (part : List Batch) (b second : Batch) → IsOk (learned b.run part b) → IsOk (both_joined part b second) → IsOk (both_learned part b second)
placed-fine part b second taken both = by (inserted b.run part b) taken
  where
    by : (r : Result Inserted TreeError) → IsOk (or_error of_tree_error r >>= (λ place. joined b.run part b)) → IsOk (or_error of_tree_error r >>= (λ place. both_joined part b second))
    by (Ok place) ok = both
    by (Err e) ok = absurd (cc)
