-- Strays that are known to be none.
use Rattle.std.proofs.Common.{◌≡◌, Bool, true, false, List, [], ◌∷◌, Option, Some, None, sym}
use Rattle.ndc_event.specs.declared.batch.Batch.{Batch}
use Rattle.ndc_reapply.specs.declared.stray.Stray.{Stray}
use Rattle.ndc_model_sets.specs.Current.{strays}
use Rattle.ndc_model_sets.specs.Sets.{arrived}
use Rattle.ndc_model_sets.specs.Sound.{IsSound}
use Rattle.ndc_shard_runs.specs.Kept.{AreKnown, after_any, follows, lies_beside, stays_empty, StaysSettled}
use Rattle.ndc_shard_runs.proofs.BesideLemmas.{known-any}

-- strays that are none stay none
still-none : (batches : List Batch) (b : Batch) (kept : Option (List Stray)) (s t : Bool) → stays_empty s t kept ≡ true → AreKnown (arrived b batches) (after_any b s t kept) → strays (arrived b batches) ≡ []
still-none batches b None s t e known = absurd (cc)
still-none batches b (Some (stray ∷ list)) s t e known = absurd (cc)
still-none batches b (Some []) true t e known = sym known
still-none batches b (Some []) false true e known = sym known
still-none batches b (Some []) false false e known = absurd (cc)

pub stays-settled : (batches : List Batch) (b : Batch) (kept : Option (List Stray)) (s t : Bool) → IsSound batches → s ≡ lies_beside batches b → t ≡ follows batches b → AreKnown batches kept → stays_empty s t kept ≡ true
    → StaysSettled b batches
stays-settled batches b kept s t sound lies told known e after none = still-none batches b kept s t e (known-any batches b kept s t sound after none lies told known)
