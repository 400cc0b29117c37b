-- Batches that are listed under their runs.
use Rattle.std.proofs.Common.{◌≡◌, Bool, true, false, List, [], ◌∷◌, ◌++◌, map, cond, IfSome, IfNone, Option, Some, None, refl, sym, ap, ◌∙◌}
use Rattle.std.specs.Map.{lookup}
use Rattle.std.specs.Option.{option_map, unwrap_or}
use Rattle.std.proofs.lemmas.List.{append-nil}
use Rattle.std.proofs.lemmas.Map.Made.{lookup-map_values}
use Rattle.ndc_event.specs.declared.batch.Batch.{Batch}
use Rattle.ndc_event.specs.declared.key.RunId.{RunId}
use Rattle.ndc_dump.specs.Groups.{listed}
use Rattle.ndc_shard_runs.specs.RunMap.{part_of}
use Rattle.ndc_model_sets.specs.Branches.{same_run}
use Rattle.ndc_model_sets.proofs.BranchLemmas.{run-same}

module _ {V : Type 0} (f : V → List Batch) where
  -- the batches that the values under the runs represent
  abbrev seen : List (RunId × V) → List (RunId × List Batch)
  seen entries = map (λ entry. (entry.0, f entry.1)) entries

  -- what is listed under a run, from the value there
  pub listed-at : (run : RunId) (entries : List (RunId × V)) (o : Option V) → lookup (same_run run) entries ≡ o → listed run (seen entries) ≡ unwrap_or (option_map f o) []
  listed-at run entries o at = ap (λ l. unwrap_or l []) (lookup-map_values f (same_run run) entries ∙ ap (option_map f) at)

  -- what a value represents, or an empty one
  value-or : (empty : V) → f empty ≡ [] → (o : Option V) → f (unwrap_or o empty) ≡ unwrap_or (option_map f o) []
  value-or empty none None = none
  value-or empty none (Some v) = refl

  -- a list was taken out, and put back with one more batch at its end
  pub put-behind : (b : Batch) (empty list : V) (before between after : List (RunId × V)) → f empty ≡ []
      → f list ≡ f (unwrap_or (lookup (same_run b.run) before) empty) ++ b ∷ []
      → ((run : RunId) → lookup (same_run run) between ≡ cond (same_run b.run run) None (lookup (same_run run) before))
      → ((run : RunId) → lookup (same_run run) after ≡ cond (same_run b.run run) (Some list) (lookup (same_run run) between))
      → (run : RunId) → listed run (seen after) ≡ listed run (seen before) ++ part_of run (b ∷ [])
  put-behind b empty list before between after none grown taken put run = by (same_run b.run run) refl
    where
      by : (t : Bool) → same_run b.run run ≡ t → listed run (seen after) ≡ listed run (seen before) ++ part_of run (b ∷ [])
      by true e =
          let own : lookup (same_run b.run) before ≡ lookup (same_run run) before = ap (λ r. lookup (same_run r) before) (run-same b.run run e) in
          listed-at run after (Some list) (put run ∙ rw e refl)
          ∙ grown ∙ ap (λ l. l ++ b ∷ []) (value-or empty none (lookup (same_run b.run) before) ∙ ap (λ o. unwrap_or (option_map f o) []) own ∙ sym (listed-at run before _ refl))
          ∙ sym (rw e refl)
      by false e =
          listed-at run after (lookup (same_run run) before) (put run ∙ rw e (taken run ∙ rw e refl))
          ∙ sym (listed-at run before _ refl) ∙ sym (rw e (append-nil (listed run (seen before))))

  -- what a look-up lends represents what is listed under the run
  module _ {L : Type 0} (lent : L → V) (run : RunId) (entries : List (RunId × V)) where
    pub lent-some : (o : Option L) → option_map lent o ≡ lookup (same_run run) entries → IfSome o (λ x. f (lent x) ≡ listed run (seen entries))
    lent-some None at = tt
    lent-some (Some x) at = sym (listed-at run entries (Some (lent x)) (sym at))

    pub lent-none : (o : Option L) → option_map lent o ≡ lookup (same_run run) entries → IfNone o (listed run (seen entries) ≡ [])
    lent-none None at = listed-at run entries None (sym at)
    lent-none (Some x) at = tt
