-- The batches of a run among those of its workflow: paths, tips and states there are those of the whole.
use Rattle.std.proofs.Common.{◌≡◌, Bool, true, false, not, ◌&&◌, ◌||◌, List, [], ◌∷◌, ◌++◌, inl, inr, Some, cond, refl, sym, ◌∙◌, subst, ap, true≢false}
use Rattle.std.specs.Prelude.{find}
use Rattle.std.specs.List.{filter, list_any}
use Rattle.std.specs.Option.{option_map}
use Rattle.ndc_event.specs.declared.batch.Batch.{Batch}
use Rattle.ndc_event.specs.declared.key.BatchKey.{BatchKey}
use Rattle.ndc_event.specs.declared.key.RunId.{RunId}
use Rattle.ndc_model_sets.specs.Branches.{same_run, has_child, tips, leads, current_tip}
use Rattle.ndc_model_sets.specs.Current.{replayed_or_new, state_to}
use Rattle.ndc_model_sets.specs.Paths.{is_wanted, path_to, events_to, IsPath, first, below}
use Rattle.ndc_model_sets.specs.Sets.{PointsBack, IsSet, batch_at, Has}
use Rattle.ndc_model_sets.specs.Sound.{IsSound}
use Rattle.ndc_model_sets.proofs.BranchLemmas.{has-among, among-has, All-filter, Rise-filter, run-same, same-run}
use Rattle.ndc_model_sets.proofs.CurrentLemmas.{key-wanted}
use Rattle.ndc_model_sets.proofs.Lists.{Among, among-filter, filter-among, list_any-one}
use Rattle.ndc_model_sets.proofs.PathLemmas.{path-below, path-first, path_is}
use Rattle.ndc_model_sets.proofs.SetLemmas.{found-key, found-has, has-found}
use Rattle.ndc_state.specs.Replay.{history_of, replay_of}
use Rattle.ndc_model_sets.specs.Reading.{current_key}
use Rattle.ndc_shard_runs.specs.RunMap.{part_of}

-- what is found along a path is the path to its batch
pub path-found : (batches : List Batch) (b : Batch) (path : List Batch) → IsSet batches → IsPath batches b path → path_to b.key batches ≡ path
path-found batches b path set (first _ has e) = path-first batches b set has e
path-found batches b path set (below _ before key front has e at r) =
    path-below batches b key set has e
    ∙ ap (λ (l : List Batch). l ++ b ∷ []) (subst (λ (k : BatchKey). path_to k batches ≡ front) (found-key batches key before at) (path-found batches before front set r))

-- a test that holds exactly where another does passes the same
filter-alike : {X : Type 0} (p q : X → Bool) (xs : List X) → ((x : X) → Among x xs → p x ≡ q x) → filter p xs ≡ filter q xs
filter-alike p q [] each = refl
filter-alike p q (x ∷ xs) each =
    ap (λ t. cond t (x ∷ filter p xs) (filter p xs)) (each x (inl refl)) ∙ ap (λ (l : List _). cond (q x) (x ∷ l) l) (filter-alike p q xs (λ y h. each y (inr h)))

filter-twice : {X : Type 0} (p q : X → Bool) (xs : List X) → filter q (filter p xs) ≡ filter (λ x. p x && q x) xs
filter-twice p q [] = refl
filter-twice p q (x ∷ xs) = by (p x) (q x) refl refl (filter-twice p q xs)
  where
    by : (s t : Bool) → p x ≡ s → q x ≡ t → filter q (filter p xs) ≡ filter (λ y. p y && q y) xs → filter q (filter p (x ∷ xs)) ≡ filter (λ y. p y && q y) (x ∷ xs)
    by true true e f rest = rw (e, f) (ap (λ l. x ∷ l) rest)
    by true false e f rest = rw (e, f) rest
    by false t e f rest = rw e rest

-- some batch passes where any does
any-among : {X : Type 0} (p : X → Bool) (xs : List X) → list_any p xs ≡ true → (x : X) × Among x xs × (p x ≡ true)
any-among p [] h = absurd (true≢false (sym h))
any-among {X = X} p (x ∷ xs) h = by (p x) refl h (any-among p xs)
  where
    by : (t : Bool) → p x ≡ t → (t || list_any p xs) ≡ true → (list_any p xs ≡ true → (y : X) × Among y xs × (p y ≡ true)) → (y : X) × Among y (x ∷ xs) × (p y ≡ true)
    by true e h rest = (x, inl refl, e)
    by false e h rest = let r = rest h in (r.0, inr r.1, r.2)

module _ (batches : List Batch) (sound : IsSound batches) (run : RunId) where
  pub part-set : IsSet (part_of run batches)
  part-set = record {
    ordered = Rise-filter (λ b. same_run b.run run) batches sound.set.ordered;
    back = All-filter PointsBack (λ b. same_run b.run run) batches sound.set.back;
  }

  pub part-has : (b : Batch) → Has (part_of run batches) b → Has batches b × (b.run ≡ run)
  part-has b has =
      let k = filter-among (λ x. same_run x.run run) batches b (has-among (part_of run batches) b has) in
      (among-has batches b sound.set.ordered k.1, run-same b.run run k.0)

  pub has-part : (b : Batch) → Has batches b → b.run ≡ run → Has (part_of run batches) b
  has-part b has own = among-has (part_of run batches) b part-set.ordered (among-filter (λ x. same_run x.run run) batches b (same-run b.run run own) (has-among batches b has))

  pub found-part : (key : BatchKey) (b : Batch) → batch_at key batches ≡ Some b → b.run ≡ run → batch_at key (part_of run batches) ≡ Some b
  found-part key b at own = has-found (part_of run batches) key b (found-key batches key b at) (has-part b (found-has batches key b at) own)

  path-part : (b : Batch) (path : List Batch) → b.run ≡ run → IsPath batches b path → IsPath (part_of run batches) b path
  path-part b path own (first _ has e) = first b (has-part b has own) e
  path-part b path own (below _ before key front has e at r) =
      let up : before.run ≡ run = (sound.parents b before key has e at).run ∙ own in
      below b before key front (has-part b has own) e (found-part key before at up) (path-part before front up r)

  -- the path to a batch of the run
  pub part-path : (b : Batch) → Has batches b → b.run ≡ run → path_to b.key (part_of run batches) ≡ path_to b.key batches
  part-path b has own = path-found (part_of run batches) b (path_to b.key batches) part-set (path-part b (path_to b.key batches) own (path_is batches b sound.set sound.closed has))

  pub part-events : (b : Batch) → Has batches b → b.run ≡ run → events_to b.key (part_of run batches) ≡ events_to b.key batches
  part-events b has own = ap history_of (part-path b has own)

  pub part-state : (b : Batch) → Has batches b → b.run ≡ run → state_to run b.key (part_of run batches) ≡ state_to run b.key batches
  part-state b has own = ap (λ events. replayed_or_new run (replay_of run events)) (part-events b has own)

  child-part : (b : Batch) → Has batches b → b.run ≡ run → has_child b batches ≡ has_child b (part_of run batches)
  child-part b has own = by (has_child b batches) refl (has_child b (part_of run batches)) refl
    where
      by : (s : Bool) → has_child b batches ≡ s → (t : Bool) → has_child b (part_of run batches) ≡ t → has_child b batches ≡ has_child b (part_of run batches)
      by true e true f = e ∙ sym f
      by false e false f = e ∙ sym f
      by false e true f =
          let c = any-among (λ child. is_wanted child.parent b) (part_of run batches) f in
          absurd (true≢false (sym (list_any-one (λ child. is_wanted child.parent b) batches c.0 (filter-among (λ x. same_run x.run run) batches c.0 c.1).1 c.2) ∙ e))
      by true e false f =
          let c = any-among (λ child. is_wanted child.parent b) batches e in
          let there : Has batches c.0 = among-has batches c.0 sound.set.ordered c.1 in
          let mine : c.0.run ≡ run = sym (sound.parents c.0 b b.key there (key-wanted c.0.parent b c.2) has).run ∙ own in
          absurd (true≢false (sym (list_any-one (λ child. is_wanted child.parent b) (part_of run batches) c.0 (among-filter (λ x. same_run x.run run) batches c.0 (same-run c.0.run run mine) c.1) c.2) ∙ f))

  -- the tips of the run
  pub part-tips : tips run (part_of run batches) ≡ tips run batches
  part-tips =
      filter-twice (λ b. same_run b.run run) (λ b. same_run b.run run && not (has_child b (part_of run batches))) batches
      ∙ filter-alike (λ b. same_run b.run run && (same_run b.run run && not (has_child b (part_of run batches)))) (λ b. same_run b.run run && not (has_child b batches)) batches
      (λ b h. by b h (same_run b.run run) refl)
    where
      by : (b : Batch) → Among b batches → (t : Bool) → same_run b.run run ≡ t → (same_run b.run run && (same_run b.run run && not (has_child b (part_of run batches)))) ≡ (same_run b.run run && not (has_child b batches))
      by b h true e = rw e (ap not (sym (child-part b (among-has batches b sound.set.ordered h) (run-same b.run run e))))
      by b h false e = rw e refl

  pub part-tip : current_tip run (part_of run batches) ≡ current_tip run batches
  part-tip = ap (λ l. find (leads l) l) part-tips

  pub part-key : current_key run (part_of run batches) ≡ current_key run batches
  part-key = ap (option_map (λ tip. tip.key)) part-tip
