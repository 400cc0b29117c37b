-- The laws of current branches and the current run.
use Rattle.std.proofs.Common.{◌≡◌, true, ◌&&◌, not, List, [], ◌∷◌, ◌⊎◌, inl, inr, Option, Some, None, refl, sym, ◌∙◌, subst, ap}
use Rattle.std.specs.Prelude.{is_none}
use Rattle.std.specs.List.{filter}
use Rattle.std.proofs.lemmas.Bool.{and_parts}
use Rattle.ndc_event.specs.Key.{key_lt}
use Rattle.ndc_event.specs.declared.batch.Batch.{Batch}
use Rattle.ndc_event.specs.declared.key.RunId.{RunId}
use Rattle.ndc_model_sets.specs.Sets.{IsSet, Has}
use Rattle.ndc_model_sets.specs.Learned.{IsClosed}
use Rattle.ndc_model_sets.specs.Paths.{path_to}
use Rattle.ndc_model_sets.specs.Branches.{same_run, has_child, tips, leads, current_tip, runs, current_tips, greatest_key, workflow_tip, IsLeading}
use Rattle.ndc_model_sets.specs.Sound.{ParentsFit, VersionsAreChains}
use Rattle.ndc_model_sets.proofs.Lists.{Among, among-map, among-filter, filter-among, among-filter_map, filter_map-among, find-among}
use Rattle.ndc_model_sets.proofs.PathLemmas.{path_is}
use Rattle.ndc_model_sets.proofs.BranchLemmas.{has-among, among-has, same-batch, run-same, greatest-among, greatest-top, greatest-of, none-greatest, IsUpTo}
use Rattle.ndc_model_sets.proofs.CurrentLemmas.{of_run, run-greatest, IsGreatestOf, current-greatest, leading-greatest, leading-only, path-begins}

pub one_branch_leads : (batches : List Batch) (b : Batch) → IsSet batches → IsClosed batches → ParentsFit batches → VersionsAreChains batches → Has batches b
    → (tip : Batch) × (current_tip b.run batches ≡ Some tip) × IsLeading b.run batches tip × ((other : Batch) → IsLeading b.run batches other → other ≡ tip)
one_branch_leads batches b set closed fit chains has =
    let g = run-greatest batches b set has in
    (g.0, current-greatest batches set closed fit chains b.run g.0 g.2, leading-greatest batches set closed fit chains b.run g.0 g.2, leading-only batches set closed fit chains b.run g.0 g.2)

pub current_is_greatest : (batches : List Batch) (b : Batch) → IsSet batches → IsClosed batches → ParentsFit batches → VersionsAreChains batches → Has batches b
    → current_tip b.run batches ≡ greatest_key (of_run b.run batches)
current_is_greatest batches b set closed fit chains has =
    let g = run-greatest batches b set has in
    current-greatest batches set closed fit chains b.run g.0 g.2 ∙ sym g.1

-- the tip of a current branch is one of the batches, and of the run
pub current-has : (batches : List Batch) (run : RunId) (tip : Batch) → IsSet batches → current_tip run batches ≡ Some tip → Has batches tip × (tip.run ≡ run)
current-has batches run tip set e =
    let k = filter-among (λ b. same_run b.run run && not (has_child b batches)) batches tip (find-among (leads (tips run batches)) (tips run batches) tip e) in
    (among-has batches tip set.ordered k.1, run-same tip.run run (and_parts (same_run tip.run run) (not (has_child tip batches)) k.0).0)

pub runs_apart : (batches : List Batch) (one two : RunId) (tip other : Batch) → IsSet batches
    → current_tip one batches ≡ Some tip → current_tip two batches ≡ Some other → tip.key ≡ other.key → one ≡ two
runs_apart batches one two tip other set e f keys =
    let a = current-has batches one tip set e in
    let b = current-has batches two other set f in
    let same : tip ≡ other = same-batch batches tip other a.0 b.0 keys in
    sym a.1 ∙ ap (λ (x : Batch). x.run) same ∙ b.1

-- the greatest batch of all is the greatest of its run
all-greatest : (batches : List Batch) (m : Batch) → IsSet batches → greatest_key batches ≡ Some m → IsGreatestOf m.run batches m
all-greatest batches m set e =
    let has : Has batches m = among-has batches m set.ordered (greatest-among batches m e) in
    record { has = has; mine = refl; top = (λ x h _. by x h has (greatest-top batches m x e (has-among batches x h))) }
  where
    by : (x : Batch) → Has batches x → Has batches m → IsUpTo m.key x.key → (x ≡ m) ⊎ (key_lt x.key m.key ≡ true)
    by x h has (inl same) = inl (same-batch batches x m h has same)
    by x h has (inr l) = inr l

-- the run of a batch is one of the runs
has-run : (batches : List Batch) (b : Batch) → IsSet batches → IsClosed batches → ParentsFit batches → Has batches b → Among b.run (runs batches)
has-run batches b set closed fit has =
    let start = path-begins batches b (path_to b.key batches) fit (path_is batches b set closed has) in
    subst (λ (r : RunId). Among r (runs batches)) start.3
    (among-map (λ (x : Batch). x.run) (filter (λ x. is_none x.parent) batches) start.0
    (among-filter (λ x. is_none x.parent) batches start.0 (ap is_none start.2) (has-among batches start.0 start.1)))

no-tips : (batches : List Batch) → greatest_key batches ≡ None → batches ≡ []
no-tips [] e = refl
no-tips (c ∷ cs) e = absurd (none-greatest (c ∷ cs) c e (inl refl))

pub workflow_is_greatest : (batches : List Batch) → IsSet batches → IsClosed batches → ParentsFit batches → VersionsAreChains batches → workflow_tip batches ≡ greatest_key batches
workflow_is_greatest batches set closed fit chains = by (greatest_key batches) refl
  where
    by : (o : Option Batch) → greatest_key batches ≡ o → workflow_tip batches ≡ greatest_key batches
    by None e = subst (λ (l : List Batch). workflow_tip l ≡ greatest_key l) (sym (no-tips batches e)) refl
    by (Some m) e =
        let g : IsGreatestOf m.run batches m = all-greatest batches m set e in
        let mine : current_tip m.run batches ≡ Some m = current-greatest batches set closed fit chains m.run m g in
        greatest-of (current_tips batches) m
        (among-filter_map (λ run. current_tip run batches) (runs batches) m.run m mine (has-run batches m set closed fit g.has))
        (λ x h. let r = filter_map-among (λ run. current_tip run batches) (runs batches) x h in
        below x (current-has batches r.0 x set r.2).0 g.has (greatest-top batches m x e (has-among batches x (current-has batches r.0 x set r.2).0)))
        ∙ sym e
      where
        below : (x : Batch) → Has batches x → Has batches m → IsUpTo m.key x.key → (x ≡ m) ⊎ (key_lt x.key m.key ≡ true)
        below x h has (inl same) = inl (same-batch batches x m h has same)
        below x h has (inr l) = inr l
