-- A value that is put twice.
use Rattle.std.proofs.Common.{◌≡◌, Bool, true, false, List, [], ◌∷◌, ◌++◌, refl, ap}
use Rattle.std.proofs.lemmas.Slice.Eq.{bytes_eq-Decides}
use Rattle.indexmap.specs.IndexMap.{insert_entry}
use Rattle.ndc_explain_union.specs.Groupings.{Grouped, dumps_of, same_workflow, with_taking, workflow_of}
use Rattle.ndc_explain_union.specs.Takings.{Taking}
use Rattle.ndc_explain_union.specs.declared.groups.WorkflowName.{WorkflowName}

-- what was put last stands, where the key is its own
pub put-twice : {K V : Type 0} (eq : K → K → Bool) (k : K) (v w : V) → eq k k ≡ true → (es : List (K × V)) → insert_entry eq (insert_entry eq es k v) k w ≡ insert_entry eq es k w
put-twice {K = K} {V = V} eq k v w own [] = rw own refl
put-twice {K = K} {V = V} eq k v w own (e ∷ es) = by (eq k e.0) refl (put-twice eq k v w own es)
  where
    by : (t : Bool) → eq k e.0 ≡ t → insert_entry eq (insert_entry eq es k v) k w ≡ insert_entry eq es k w
        → insert_entry eq (insert_entry eq (e ∷ es) k v) k w ≡ insert_entry eq (e ∷ es) k w
    by true same rest = rw (same, same) refl
    by false other rest = rw (other, other) (ap (λ (xs : List (K × V)). e ∷ xs) rest)

own-workflow : (workflow : WorkflowName) → same_workflow workflow workflow ≡ true
own-workflow workflow = rw ((bytes_eq-Decides workflow.domain workflow.domain).1 refl, (bytes_eq-Decides workflow.workflow workflow.workflow).1 refl) refl

-- a dump goes after those of its workflow, which were taken out
pub taken-in : (taking : Taking) (workflow again : WorkflowName) (dumps : List Taking) (old now new : Grouped) → workflow ≡ workflow_of taking → again ≡ workflow_of taking
    → dumps ≡ dumps_of workflow old → now ≡ insert_entry same_workflow old workflow [] → new ≡ insert_entry same_workflow now again (dumps ++ taking ∷ []) → new ≡ with_taking taking old
taken-in taking workflow again dumps old now new e f d n m =
    rw (m, n, d, e, f) (put-twice same_workflow (workflow_of taking) [] (dumps_of (workflow_of taking) old ++ taking ∷ []) (own-workflow (workflow_of taking)) old)
