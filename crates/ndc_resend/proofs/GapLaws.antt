-- Where a gap begins.
use Rattle.std.proofs.Common.{◌≡◌, List, ◌++◌, None, ap}
use Rattle.ndc_event.specs.declared.batch.Batch.{Batch}
use Rattle.ndc_history.specs.declared.item.Item.{Item}
use Rattle.ndc_resend.specs.Gaps.{gap_of}
use Rattle.ndc_history.specs.Common.{item_or_zero}
use Rattle.ndc_resend.specs.declared.serving.Gap.{Gap}
use Rattle.ndc_model_sets.specs.Branches.{histories}
use Rattle.ndc_model_sets.specs.Learned.{IsClosed, IsPart}
use Rattle.ndc_model_sets.specs.Paths.{events_to, last_item_of, path_to, versions_of}
use Rattle.ndc_model_sets.specs.Sets.{Has, IsSet, batch_at}
use Rattle.ndc_model_sets.specs.Sound.{IsSound}
use Rattle.ndc_state.specs.Replay.{history_of}
use Rattle.ndc_model_sets.proofs.GapLaws.{gap_names_the_last_learned}

-- the gap between two ends
abbrev between : Item → Item → Gap
between after before = record { after = after; before = before }

-- a gap begins after the last event of what is learned of the path
pub begins_behind : (batches part : List Batch) (b : Batch) (front rest : List Batch) (first : Item) → IsSound batches → IsSet part → IsClosed part → IsPart part batches → Has batches b
    → path_to b.key batches ≡ front ++ rest → IsPart front part → ((c : Batch) → Has rest c → batch_at c.key part ≡ None)
    → gap_of (histories b.run part) (versions_of (events_to b.key batches)) first ≡ record { after = item_or_zero (last_item_of (history_of front)); before = first }
begins_behind batches part b front rest first sound set closed within has path learned unlearned =
    ap (λ best. between (item_or_zero best) first) (gap_names_the_last_learned batches part b front rest sound set closed within has path learned unlearned)
