-- What cells have written, message by message.
use Rattle.std.proofs.Common.{◌≡◌, ◌<◌, ◌+◌, ℕ, List, [], ◌∷◌, ◌++◌, Some, length, map, slice_get, take, ap, sym, ◌∙◌, length-append}
use Rattle.std.specs.List.{flat_map, fold}
use Rattle.std.proofs.lemmas.List.{append-nil, map-append, take_more}
use Rattle.std.proofs.lemmas.List.Concat.{flat_map-cons}
use Rattle.std.proofs.lemmas.List.Sums.{fold_push}
use Rattle.std.proofs.lemmas.Grind.{flat_map-append}
use Rattle.std.proofs.lemmas.Option.{get_or_from_slice_get}
use Rattle.ndc_model_cells.specs.declared.message.Message.{Message}
use Rattle.ndc_model_cells.specs.Cells.{both}
use Rattle.ndc_event.specs.declared.batch.Batch.{Batch}
use Rattle.ndc_world_queries.specs.Summaries.{with_workflow}

-- the prefix with the next item
take_next : {X : Type 0} (xs : List X) (n : ℕ) (x : X) → n < length xs → slice_get xs n ≡ Some x → take (n + 1) xs ≡ take n xs ++ x ∷ []
take_next xs n x below got = take_more xs n x below ∙ ap (λ y. take n xs ++ y ∷ []) (get_or_from_slice_get xs n x x got)

-- the workflows that are found with one message more
pub found_more : (found : List Batch) (whole : List Message) (n : ℕ) (sent : Message) (before after : List Batch) → n < length whole → slice_get whole n ≡ Some sent
    → before ≡ fold with_workflow found (map (λ (sent : Message). sent.batch) (take n whole)) → after ≡ with_workflow before sent.batch
    → after ≡ fold with_workflow found (map (λ (sent : Message). sent.batch) (take (n + 1) whole))
found_more found whole n sent before after below got so added =
    added ∙ ap (λ (list : List Batch). with_workflow list sent.batch) so
    ∙ sym (ap (λ (messages : List Message). fold with_workflow found (map (λ (sent : Message). sent.batch) messages)) (take_next whole n sent below got)
    ∙ ap (fold with_workflow found) (map-append (λ (sent : Message). sent.batch) (take n whole) (sent ∷ []))
    ∙ fold_push with_workflow found (map (λ (sent : Message). sent.batch) (take n whole)) sent.batch)

-- the batches that are counted with one message more
pub count_more : (whole : List Message) (n : ℕ) (sent : Message) → n < length whole → slice_get whole n ≡ Some sent
    → length (flat_map both (take n whole)) + length (both sent) ≡ length (flat_map both (take (n + 1) whole))
count_more whole n sent below got =
    sym (ap (λ (messages : List Message). length (flat_map both messages)) (take_next whole n sent below got)
    ∙ ap length (flat_map-append both (take n whole) (sent ∷ []))
    ∙ length-append (flat_map both (take n whole)) (flat_map both (sent ∷ []))
    ∙ ap (λ (batches : List Batch). length (flat_map both (take n whole)) + length batches) (flat_map-cons both sent [] ∙ append-nil (both sent)))
