-- The tip of a workflow is that of the current branch of its run.
use Rattle.std.proofs.Common.{◌≡◌, ℕ, true, false, ◌&&◌, not, List, [], ◌∷◌, ◌++◌, length, decimal, Option, Some, None, refl, sym, ◌∙◌, ap}
use Rattle.std.specs.List.{flat_map}
use Rattle.std.specs.Option.{option_map}
use Rattle.std.proofs.lemmas.Bool.{and_parts}
use Rattle.ndc_model_cells.specs.Writing.{state_under}
use Rattle.ndc_model_sets.proofs.NoPaths.{no-path}
use Rattle.ndc_event.specs.Key.{run_text}
use Rattle.ndc_event.specs.declared.batch.Batch.{Batch}
use Rattle.ndc_event.specs.declared.key.RunId.{RunId}
use Rattle.ndc_model_sets.specs.Branches.{current_tip, current_tips, has_child, is_current_run, is_run_of, leads, runs, same_run, tips, workflow_tip}
use Rattle.ndc_model_sets.specs.Current.{run_status, state_at, state_to, status_of}
use Rattle.ndc_model_sets.proofs.BranchLemmas.{greatest-among, run-same, same-run}
use Rattle.ndc_model_sets.proofs.Lists.{Among, filter-among, filter_map-among, find-among}
use Rattle.ndc_model.specs.Reading.{branches_answer, current_answer, history_answer, read_answer, tip_answer}
use Rattle.ndc_model.specs.Texts.{event_line, ok}
use Rattle.ndc_world_queries.specs.Learned.{current_text, history_text}
use Rattle.ndc_model_sets.specs.Paths.{events_to, path_to}
use Rattle.ndc_model_sets.specs.Sets.{batch_at}
use Rattle.ndc_state.specs.Replay.{history_of}
use Rattle.ndc_state.specs.Value.{StateValue}
use Rattle.ndc_text.specs.Views.{key_text, status_text}
use Rattle.ndc_model_sets.specs.Last.{is_nil}
use Rattle.ndc_model_sets.specs.Reading.{path_at}

-- where anything is learned, the line is answered
answered : (answer : List Batch → List ℕ) (batches : List Batch) → is_nil batches ≡ false → read_answer answer batches ≡ answer batches
answered answer [] some = absurd (cc)
answered answer (b ∷ batches) some = refl

pub branches_read : (batches : List Batch) → is_nil batches ≡ false → branches_answer batches ≡ read_answer branches_answer batches
branches_read batches some = sym (answered branches_answer batches some)

module _ (batches : List Batch) (tip : Batch) (is : workflow_tip batches ≡ Some tip) where
  of-run : (run : RunId) × Among run (runs batches) × (current_tip run batches ≡ Some tip)
  of-run = filter_map-among (λ run. current_tip run batches) (runs batches) tip (greatest-among (current_tips batches) tip is)

  run-is : tip.run ≡ of-run.0
  run-is =
      let k = filter-among (λ b. same_run b.run of-run.0 && not (has_child b batches)) batches tip (find-among (leads (tips of-run.0 batches)) (tips of-run.0 batches) tip of-run.2) in
      run-same tip.run of-run.0 (and_parts (same_run tip.run of-run.0) (not (has_child tip batches)) k.0).0

  current-is : current_tip tip.run batches ≡ Some tip
  current-is = ap (λ run. current_tip run batches) run-is ∙ of-run.2

  -- its status is that of a current run in the state of the tip
  pub status-is : run_status tip.run batches ≡ status_of (state_to tip.run tip.key batches).running true
  status-is =
      ap (λ o. status_of (state_at tip.run o batches).running (is_current_run tip.run batches)) current-is
      ∙ ap (λ o. status_of (state_to tip.run tip.key batches).running (is_run_of tip.run o)) is
      ∙ ap (status_of (state_to tip.run tip.key batches).running) (same-run tip.run tip.run refl)

  -- the state is that of the tip
  state-is : (s : StateValue) → Some s ≡ state_under (workflow_tip batches) batches → s ≡ state_to tip.run tip.key batches
  state-is s e = let both : Some s ≡ Some (state_to tip.run tip.key batches) = e ∙ ap (λ o. state_under o batches) is in cc

-- the answers of lines on the current run and on the history
pub current_read : (batches : List Batch) (tip : Batch) (s : StateValue) → is_nil batches ≡ false → Some tip ≡ workflow_tip batches → Some s ≡ state_under (workflow_tip batches) batches
    → current_text tip s ≡ read_answer current_answer batches
current_read batches tip s some is state =
    ap (current_text tip) (state-is batches tip (sym is) s state)
    ∙ ap (λ status. ok (run_text tip.run ∷ key_text tip.key ∷ status_text status (state_to tip.run tip.key batches).close ∷ [])) (sym (status-is batches tip (sym is)))
    ∙ ap (tip_answer (λ t. ok (run_text t.run ∷ key_text t.key ∷ status_text (run_status t.run batches) (state_to t.run t.key batches).close ∷ []))) is
    ∙ sym (answered current_answer batches some)

pub history_read : (batches : List Batch) (tip : Batch) (path : Option (List Batch)) → is_nil batches ≡ false → Some tip ≡ workflow_tip batches → path ≡ path_at tip.key batches
    → history_text path ≡ read_answer history_answer batches
history_read batches tip path some is found =
    ap history_text found ∙ by (batch_at tip.key batches) refl
    ∙ ap (tip_answer (λ t. ok (decimal (length (events_to t.key batches)) ∷ []) ++ flat_map event_line (events_to t.key batches))) is
    ∙ sym (answered history_answer batches some)
  where
    line : List Batch → List ℕ
    line l = ok (decimal (length (history_of l)) ∷ []) ++ flat_map event_line (history_of l)

    by : (o : Option Batch) → batch_at tip.key batches ≡ o → history_text (option_map (λ _. path_to tip.key batches) o) ≡ line (path_to tip.key batches)
    by None e = ap line (sym (no-path batches tip.key e))
    by (Some b) e = refl
