-- What is put off, by what is told of each key, and workflow by workflow.
use Rattle.std.proofs.Common.{◌≡◌, ℕ, ◌+◌, ◌<◌, Bool, true, false, not, List, [], ◌∷◌, ◌++◌, length, drop, get_or, Option, Some, cond, map, refl, sym, ◌∙◌, subst, ap, add-one}
use Rattle.std.specs.Prelude.{unwrap_or}
use Rattle.std.specs.Global.{Vec}
use Rattle.std.specs.List.{AllByRecursion, cons_option, filter, filter_map, flat_map}
use Rattle.std.specs.Option.{option_map}
use Rattle.std.proofs.Math.Seq.{drop-cons}
use Rattle.std.proofs.lemmas.List.{append_assoc, map-append}
use Rattle.ndc_event.specs.declared.batch.Batch.{Batch}
use Rattle.ndc_event.specs.declared.key.BatchKey.{BatchKey}
use Rattle.ndc_event.specs.declared.key.RunId.{RunId}
use Rattle.ndc_event.specs.declared.name.Name.{Name}
use Rattle.ndc_history.specs.declared.item.Item.{Item}
use Rattle.ndc_model_cells.specs.declared.place.Place.{Place}
use Rattle.ndc_model_cells.specs.Cells.{Cell, IsCell, is_learned_in, missing_of, put_off_in}
use Rattle.ndc_model_cells.specs.Jobs.{workflows_of}
use Rattle.ndc_model_cells.specs.Messages.{batches_of}
use Rattle.ndc_model_cells.specs.Places.{is_of, place_of}
use Rattle.ndc_model_cells.specs.Workflow.{WorkflowValue, workflow_of}
use Rattle.ndc_model_sets.specs.Branches.{histories}
use Rattle.ndc_model_sets.specs.Learned.{learned}
use Rattle.ndc_model_sets.specs.Sets.{batch_at}
use Rattle.ndc_shard_waiting.specs.declared.waiting.PutOff.{PutOff}
use Rattle.ndc_shard_waiting.proofs.FreeLemmas.{all-there}
use Rattle.ndc_shard_workflows.specs.Workflow as workflow
use Rattle.ndc_shard_workflows.specs.Workflow.{IsWorkflow, all_missing}
use Rattle.ndc_shard_workflows.proofs.PutOffLemmas.{put_off_waits}
use Rattle.ndc_shard_workflows.proofs.SameLemmas.{names-of}
use Rattle.ndc_shard_workflows.proofs.WaitLemmas.{off-own, ordered-kept}
use Rattle.ndc_resend.specs.declared.asking.GapOf.{GapOf}
use Rattle.ndc_resend.specs.PutOff.{gap_in, gap_with, gaps_at, gaps_in, gaps_of}
use Rattle.ndc_shard.specs.Gaps.{gap_there}
use Rattle.ndc_shard.specs.Histories.{histories_at}
use Rattle.ndc_shard.proofs.GroupLemmas.{by-workflow}

-- the gap before each batch is told by its key
module _ (w : WorkflowValue) (known : List (ℕ × Vec (List Item))) (local : (run : RunId) → histories_at run known ≡ histories run (learned w.arrived)) where
  abbrev pair : BatchKey → Option BatchKey → BatchKey × Option BatchKey
  pair key missing = (key, missing)

  each-gap : (list : List PutOff) (bs : List Batch) → map (λ (one : PutOff). pair one.key (Some one.missing)) list ≡ map (λ (b : Batch). pair b.key (missing_of b w.arrived)) bs
      → AllByRecursion (λ b. batch_at b.key (batches_of w.waiting) ≡ Some b) bs → filter_map (gap_there known w.waiting) list ≡ map (gap_in w) bs
  each-gap [] [] e all = refl
  each-gap [] (b ∷ bs) e all = absurd (cc)
  each-gap (one ∷ list) [] e all = absurd (cc)
  each-gap (one ∷ list) (b ∷ bs) e all =
      ap (λ o. cons_option o (filter_map (gap_there known w.waiting) list)) here ∙ ap (λ l. gap_in w b ∷ l) (each-gap list bs later all.1)
    where
      same : pair one.key (Some one.missing) ≡ pair b.key (missing_of b w.arrived)
      same = cc

      later : map (λ (x : PutOff). pair x.key (Some x.missing)) list ≡ map (λ (x : Batch). pair x.key (missing_of x w.arrived)) bs
      later = cc

      missing : one.missing ≡ unwrap_or (missing_of b w.arrived) b.key
      missing = λ i. unwrap_or (same i).1 b.key

      here : gap_there known w.waiting one ≡ Some (gap_in w b)
      here =
          ap (λ (k : BatchKey). option_map (λ (x : Batch). gap_with (histories_at x.run known) w.waiting one.missing x) (batch_at k (batches_of w.waiting))) (λ i. (same i).0)
          ∙ ap (option_map (λ (x : Batch). gap_with (histories_at x.run known) w.waiting one.missing x)) all.0
          ∙ ap (λ (h : List (List Item)). Some (gap_with h w.waiting one.missing b)) (local b.run)
          ∙ ap (λ (k : BatchKey). Some (gap_with (histories b.run (learned w.arrived)) w.waiting k b)) missing

  pub told-all : IsWorkflow w → (told : List GapOf) (list : List PutOff) → told ≡ [] → map (λ (one : PutOff). pair one.key (Some one.missing)) list ≡ all_missing w
      → told ++ filter_map (gap_there known w.waiting) list ≡ gaps_in w
  told-all is told list none missing =
      ap (λ l. l ++ filter_map (gap_there known w.waiting) list) none
      ∙ each-gap list (workflow.off_in w) missing
      (subst (AllByRecursion (λ b. batch_at b.key (batches_of w.waiting) ≡ Some b)) (sym (put_off_waits w is)) (all-there (batches_of w.waiting) is.apart.messages.set.ordered))

-- what is put off in a cell is what is put off of its workflows
module _ (cell : Cell) where
  abbrev gap_at : Batch → GapOf
  gap_at b = gap_in (workflow_of b.domain b.workflow cell) b

  each-own : (d n : Name) (bs : List Batch) → map (gap_in (workflow_of d n cell)) (filter (is_of d n) bs) ≡ map gap_at (filter (is_of d n) bs)
  each-own d n [] = refl
  each-own d n (b ∷ bs) = by (is_of d n b) refl (each-own d n bs)
    where
      by : (t : Bool) → is_of d n b ≡ t → map (gap_in (workflow_of d n cell)) (filter (is_of d n) bs) ≡ map gap_at (filter (is_of d n) bs)
          → map (gap_in (workflow_of d n cell)) (cond t (b ∷ filter (is_of d n) bs) (filter (is_of d n) bs)) ≡ map gap_at (cond t (b ∷ filter (is_of d n) bs) (filter (is_of d n) bs))
      by true e rest =
          let names = names-of d n b e in
          ap (λ (k : Name). gap_in (workflow_of k n cell) b ∷ map (gap_in (workflow_of d n cell)) (filter (is_of d n) bs)) (sym names.0)
          ∙ ap (λ (k : Name). gap_in (workflow_of b.domain k cell) b ∷ map (gap_in (workflow_of d n cell)) (filter (is_of d n) bs)) (sym names.1) ∙ ap (λ l. gap_at b ∷ l) rest
      by false e rest = rest

  own-gaps : (h : Batch) → gaps_at cell (place_of h) ≡ map gap_at (filter (is_of h.domain h.workflow) (put_off_in cell))
  own-gaps h = ap (map (gap_in (workflow_of h.domain h.workflow cell))) (sym (off-own h.domain h.workflow cell)) ∙ each-own h.domain h.workflow (put_off_in cell)

  workflow-gaps : (heads : List Batch) → flat_map (gaps_at cell) (map place_of heads) ≡ map gap_at (flat_map (λ h. filter (is_of h.domain h.workflow) (put_off_in cell)) heads)
  workflow-gaps [] = refl
  workflow-gaps (h ∷ heads) =
      ap (λ l. l ++ flat_map (gaps_at cell) (map place_of heads)) (own-gaps h)
      ∙ ap (λ l. map gap_at (filter (is_of h.domain h.workflow) (put_off_in cell)) ++ l) (workflow-gaps heads)
      ∙ sym (map-append gap_at (filter (is_of h.domain h.workflow) (put_off_in cell)) (flat_map (λ x. filter (is_of x.domain x.workflow) (put_off_in cell)) heads))

  pub all-gaps : IsCell cell → (told : List GapOf) (places : List Place) → told ≡ [] → places ≡ map place_of (workflows_of (put_off_in cell)) → told ++ flat_map (gaps_at cell) places ≡ gaps_of cell
  all-gaps is told places none e =
      ap (λ l. l ++ flat_map (gaps_at cell) places) none ∙ ap (flat_map (gaps_at cell)) e ∙ workflow-gaps (workflows_of (put_off_in cell))
      ∙ ap (map gap_at) (by-workflow (put_off_in cell) (ordered-kept (λ b. not (is_learned_in cell b)) cell.arrived is.ordered))

-- one more workflow is gone over
pub told-more : (f : Place → List GapOf) (told more after whole : List GapOf) (places : List Place) (i : ℕ) (place : Place) → i < length places → place ≡ get_or places i place
    → told ++ flat_map f (drop i places) ≡ whole → more ≡ f place → after ≡ told ++ more → after ++ flat_map f (drop (i + 1) places) ≡ whole
told-more f told more after whole places i place less at so_far e g =
    ap (λ l. l ++ flat_map f (drop (i + 1) places)) (g ∙ ap (λ l. told ++ l) e) ∙ append_assoc told (f place) (flat_map f (drop (i + 1) places))
    ∙ ap (λ l. told ++ flat_map f l) (sym here) ∙ so_far
  where
    here : drop i places ≡ place ∷ drop (i + 1) places
    here = rw (drop-cons places i place less, ← at, add-one i) refl
