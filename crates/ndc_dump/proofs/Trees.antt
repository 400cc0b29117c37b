-- The tree of a view, from the keys of its current branches.
use Rattle.std.proofs.Common.{◌≡◌, ℕ, Bool, true, false, not, ◌&&◌, List, [], ◌∷◌, ◌++◌, map, Option, Some, None, refl, sym, ap, ◌∙◌, subst, inl, inr, codes}
use Rattle.std.specs.List.{flat_map}
use Rattle.std.proofs.lemmas.Bool.{and_parts}
use Rattle.ndc_event.specs.Key.{key_eq}
use Rattle.ndc_event.specs.declared.batch.Batch.{Batch}
use Rattle.ndc_event.specs.declared.key.BatchKey.{BatchKey}
use Rattle.ndc_event.specs.declared.key.RunId.{RunId}
use Rattle.ndc_event.specs.declared.name.Name.{Name}
use Rattle.ndc_shard_runs.specs.RunMap.{part_of}
use Rattle.ndc_shard_runs.proofs.PartLemmas.{part-path}
use Rattle.ndc_model_sets.specs.Branches.{current_tip, has_child, leads, runs, same_run, tips}
use Rattle.ndc_model_sets.specs.Learned.{has_key}
use Rattle.ndc_model_sets.specs.Paths.{path_from}
use Rattle.ndc_model_sets.specs.Sound.{IsSound}
use Rattle.ndc_model_sets.specs.View.{branch_view, run_view, view_of}
use Rattle.ndc_model_sets.specs.declared.view.RunView.{RunView}
use Rattle.ndc_model_sets.specs.declared.view.View.{View}
use Rattle.ndc_model_sets.proofs.BranchLemmas.{among-has, run-same}
use Rattle.ndc_model_sets.proofs.KeyLemmas.{same-keys, key_eq-self}
use Rattle.ndc_model_sets.proofs.Lists.{Among, filter-among, find-among}
use Rattle.ndc_model_sets.proofs.PathLemmas.{none-wanted}
use Rattle.ndc_text.specs.Views.{batch_line, batch_lines, branch_line, is_on_tip, run_line, tree_text}
use Rattle.ndc_dump.specs.Marks.{current_key, marked_line, marked_lines, path_lines, run_tree}
use Rattle.ndc_dump.specs.Groups.{listed}
use Rattle.ndc_dump_causes.specs.Keys.{is_listed}

-- ---- marks

-- where the same keys are listed as are those of a path, the same batches are marked
pub same_marks : (keys : List BatchKey) (path batches : List Batch) → ((key : BatchKey) → is_listed key keys ≡ has_key (Some key) path) → marked_lines keys batches ≡ path_lines path batches
same_marks keys path batches h = ap (λ (f : Batch → Bool). flat_map (λ b. marked_line (f b) b) batches) (λ i b. h b.key i)

-- ---- the current branch

no_current : (run : RunId) (batches ts : List Batch) → current_tip run batches ≡ None → current_key (map (branch_view run batches) ts) ≡ None
no_current run batches [] e = refl
no_current run batches (t ∷ ts) e = rw e (no_current run batches ts e)

the_current : (run : RunId) (batches ts : List Batch) (tip : Batch) → current_tip run batches ≡ Some tip → Among tip ts → current_key (map (branch_view run batches) ts) ≡ Some tip.key
the_current run batches [] tip e among = absurd among
the_current run batches (t ∷ ts) tip e among = by (key_eq t.key tip.key) refl (the_current run batches ts tip e) among
  where
    by : (s : Bool) → key_eq t.key tip.key ≡ s → (Among tip ts → current_key (map (branch_view run batches) ts) ≡ Some tip.key) → Among tip (t ∷ ts)
        → current_key (map (branch_view run batches) (t ∷ ts)) ≡ Some tip.key
    by true f rest a = rw (e, f) (ap (λ k. Some k) (same-keys t.key tip.key f))
    by false f rest (inl same) = let g : key_eq tip.key tip.key ≡ false = subst (λ (b : Batch). key_eq b.key tip.key ≡ false) (sym same) f in let h : key_eq tip.key tip.key ≡ true = key_eq-self tip.key in absurd (cc)
    by false f rest (inr a) = rw (e, f) (rest a)

-- the key of a tip, where there is one
abbrev tip_key : Option Batch → Option BatchKey
tip_key None = None
tip_key (Some tip) = Some tip.key

-- the current branch of a run ends with its current tip
current_branch : (run : RunId) (batches : List Batch) → current_key (map (branch_view run batches) (tips run batches)) ≡ tip_key (current_tip run batches)
current_branch run batches = by (current_tip run batches) refl
  where
    by : (o : Option Batch) → current_tip run batches ≡ o → current_key (map (branch_view run batches) (tips run batches)) ≡ tip_key o
    by None e = no_current run batches (tips run batches) e
    by (Some tip) e = the_current run batches (tips run batches) tip e (find-among (leads (tips run batches)) (tips run batches) tip e)

on_tip : (batches : List Batch) (b : Batch) (o : Option Batch) → has_key (Some b.key) (path_from (tip_key o) batches) ≡ is_on_tip batches b o
on_tip batches b None = ap (λ w. has_key (Some b.key) w.path) (none-wanted batches)
on_tip batches b (Some tip) = refl

-- ---- the tree

-- the path to the current tip of a run is that among the batches of the run
own_path : (batches : List Batch) → IsSound batches → (run : RunId) (o : Option Batch) → current_tip run batches ≡ o → path_from (tip_key o) (part_of run batches) ≡ path_from (tip_key o) batches
own_path batches sound run None e = ap (λ w. w.path) (none-wanted (part_of run batches)) ∙ sym (ap (λ w. w.path) (none-wanted batches))
own_path batches sound run (Some tip) e =
    let k = filter-among (λ b. same_run b.run run && not (has_child b batches)) batches tip (find-among (leads (tips run batches)) (tips run batches) tip e) in
    let own : same_run tip.run run ≡ true = (and_parts (same_run tip.run run) (not (has_child tip batches)) k.0).0 in
    part-path batches sound run tip (among-has batches tip sound.set.ordered k.1) (run-same tip.run run own)

-- the path of the current branch of a run, among the batches of the run
abbrev current_path : RunId → List Batch → List Batch
current_path run batches = path_from (current_key (run_view batches run).branches) (part_of run batches)

path_same : (batches : List Batch) → IsSound batches → (run : RunId) → current_path run batches ≡ path_from (tip_key (current_tip run batches)) batches
path_same batches sound run =
    ap (λ key. path_from key (part_of run batches)) (current_branch run batches) ∙ own_path batches sound run (current_tip run batches) refl

module _ (batches : List Batch) (sound : IsSound batches) where
  mark_same : (run : RunId) (b : Batch) → same_run b.run run ≡ true → has_key (Some b.key) (current_path run batches) ≡ is_on_tip batches b (current_tip b.run batches)
  mark_same run b e =
      ap (has_key (Some b.key)) (path_same batches sound run) ∙ on_tip batches b (current_tip run batches)
      ∙ ap (λ r. is_on_tip batches b (current_tip r batches)) (sym (run-same b.run run e))

  lines_same : (run : RunId) (xs : List Batch) → path_lines (current_path run batches) (part_of run xs) ≡ flat_map (batch_line batches) (part_of run xs)
  lines_same run [] = refl
  lines_same run (b ∷ xs) = by (same_run b.run run) refl (lines_same run xs)
    where
      by : (t : Bool) → same_run b.run run ≡ t → path_lines (current_path run batches) (part_of run xs) ≡ flat_map (batch_line batches) (part_of run xs)
          → path_lines (current_path run batches) (part_of run (b ∷ xs)) ≡ flat_map (batch_line batches) (part_of run (b ∷ xs))
      by true e rest =
          rw e (ap (λ t. marked_line t b ++ path_lines (current_path run batches) (part_of run xs)) (mark_same run b e) ∙ ap (λ (z : List ℕ). batch_line batches b ++ z) rest)
      by false e rest = rw e rest

  -- the tree of a run with its own batches, and as it is printed within a view's
  abbrev alone : RunView → List ℕ
  alone run = run_tree (part_of run.run batches) run

  abbrev within : RunView → List ℕ
  within run = run_line run ++ batch_lines batches run.run ++ flat_map branch_line run.branches

  runs_same : (rs : List RunId) → flat_map alone (map (run_view batches) rs) ≡ flat_map within (map (run_view batches) rs)
  runs_same [] = refl
  runs_same (run ∷ rs) =
      ap (λ (z : List ℕ). run_line (run_view batches run) ++ z ++ flat_map branch_line (run_view batches run).branches ++ flat_map alone (map (run_view batches) rs)) (lines_same run batches)
      ∙ ap (λ (z : List ℕ). within (run_view batches run) ++ z) (runs_same rs)

-- the trees of the runs of a view, each with the batches that are listed under it, are that of the view
pub tree_same : (domain workflow : Name) (view : View) (lists : List (RunId × List Batch)) → view ≡ view_of view.batches → IsSound view.batches
    → ((run : RunId) → listed run lists ≡ part_of run view.batches)
    → (codes "workflow " ++ domain ++ codes " " ++ workflow ++ codes "\n") ++ flat_map (λ run. run_tree (listed run.run lists) run) view.runs ≡ tree_text domain workflow view
tree_same domain workflow view lists shown sound each =
    let same : view.runs ≡ map (run_view view.batches) (runs view.batches) = ap (λ (v : View). v.runs) shown in
    ap (λ (z : List ℕ). (codes "workflow " ++ domain ++ codes " " ++ workflow ++ codes "\n") ++ z)
    (ap (λ (f : RunView → List ℕ). flat_map f view.runs) (λ i run. run_tree (each run.run i) run)
    ∙ ap (flat_map (alone view.batches sound)) same ∙ runs_same view.batches sound (runs view.batches) ∙ sym (ap (flat_map (within view.batches sound)) same))
