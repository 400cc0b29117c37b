-- What a reset writes, put together from its parts.
use Rattle.std.proofs.Common.{◌≡◌, ℕ, Bool, true, false, ◌++◌, List, [], ◌∷◌, Some, None, Ok, Err, if◌then◌else◌, sym, ◌∙◌, ap}
use Rattle.ndc_model_cells.specs.Writing.{Entry, alone, closing_entries, first_batch, is_close_full, next_key, reset_below, reset_entries, reset_key, reset_refused}
use Rattle.ndc_command.specs.declared.refusal.CommandError.TheVariants.{Refused}
use Rattle.ndc_command.specs.declared.refusal.Refusal.TheVariants.{HistoryFull}
use Rattle.ndc_event.specs.Outcome.{◌>>=◌}
use Rattle.ndc_event.specs.declared.batch.Batch.{Batch}
use Rattle.ndc_event.specs.declared.batch.Event.{Event}
use Rattle.ndc_event.specs.declared.key.BatchKey.{BatchKey}
use Rattle.ndc_event.specs.declared.kind.EventKind.{EventKind}
use Rattle.ndc_event.specs.declared.name.Name.{Name}
use Rattle.ndc_reset.specs.Reset.{reset_of}
use Rattle.ndc_model_sets.specs.Branches.{workflow_tip}
use Rattle.ndc_model_sets.specs.Current.{state_to}
use Rattle.ndc_model_sets.specs.Paths.{events_to}
use Rattle.ndc_state.specs.Value.{StateValue}

module _ (domain workflow : Name) (event limit version : ℕ) (batches : List Batch) (tip : Batch) (s : StateValue) (is_tip : workflow_tip batches ≡ Some tip)
    (is_state : state_to tip.run tip.key batches ≡ s) (key : BatchKey) (is_key : key ≡ next_key version batches) where
  abbrev new : List EventKind → Entry
  new kinds = alone (first_batch domain workflow (reset_key key s) None kinds)

  closed : (kinds : List EventKind) (entries : List Entry) → (if is_close_full limit s key.version then Err (Refused HistoryFull) else Ok (closing_entries domain workflow key tip s)) ≡ Ok entries
      → reset_entries domain workflow limit key tip s kinds ≡ Ok (entries ++ new kinds ∷ [])
  closed kinds entries e = by (is_close_full limit s key.version) e
    where
      by : (full : Bool) → (if full then Err (Refused HistoryFull) else Ok (closing_entries domain workflow key tip s)) ≡ Ok entries
          → (if full then Err (Refused HistoryFull) else Ok (closing_entries domain workflow key tip s ++ new kinds ∷ [])) ≡ Ok (entries ++ new kinds ∷ [])
      by true f = absurd (cc)
      by false f = let same : closing_entries domain workflow key tip s ≡ entries = cc in ap (λ (l : List Entry). Ok (l ++ new kinds ∷ [])) same

  pub reset-written : (history : List Event) (kinds : List EventKind) (entries : List Entry) → history ≡ events_to tip.key batches → reset_refused (reset_of history tip.run event limit) ≡ Ok kinds
      → (if is_close_full limit s key.version then Err (Refused HistoryFull) else Ok (closing_entries domain workflow key tip s)) ≡ Ok entries
      → reset_below domain workflow event limit version (workflow_tip batches) batches ≡ Ok (entries ++ new kinds ∷ [])
  reset-written history kinds entries h k e =
      ap (λ o. reset_below domain workflow event limit version o batches) is_tip
      ∙ ap (λ events. reset_refused (reset_of events tip.run event limit) >>= λ kinds. reset_entries domain workflow limit (next_key version batches) tip (state_to tip.run tip.key batches) kinds) (sym h)
      ∙ ap (λ r. r >>= λ kinds. reset_entries domain workflow limit (next_key version batches) tip (state_to tip.run tip.key batches) kinds) k
      ∙ ap (λ x. reset_entries domain workflow limit (next_key version batches) tip x kinds) is_state
      ∙ ap (λ x. reset_entries domain workflow limit x tip s kinds) (sym is_key)
      ∙ closed kinds entries e
