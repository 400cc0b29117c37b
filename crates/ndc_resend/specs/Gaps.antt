-- Gaps: between the best item that local histories have in common with a remote one, and the first event of a batch.
use Rattle.std.specs.Prelude.{ℕ, Bool, ◌&&◌, nat_lt, List, [], ◌∷◌, if◌then◌else◌}
use Rattle.std.specs.List.{filter, list_all}
use Rattle.ndc_event.specs.declared.batch.Batch.{Batch}
use Rattle.ndc_history.specs.Common.{best_from, item_or_zero}
use Rattle.ndc_history.specs.declared.item.Item.{Item}
use Rattle.ndc_resend.specs.declared.serving.Gap.{Gap}
use Rattle.ndc_model_sets.specs.Paths.{best_item, first_id, last_id}

-- the gap before an event: after the best item that the local histories have in common with the remote one
abbrev pub gap_of : List (List Item) → List Item → Item → Gap
gap_of local remote first = record { after = item_or_zero (best_item (best_from 0 local remote)); before = first }

-- the first event of a batch, by its id and version; id 0 where it has none
abbrev pub first_item : Batch → Item
first_item b = record { id = first_id b.events; version = b.key.version }

-- whether a batch lies in a gap: all of its events come after the one end and before the other
abbrev pub is_between : Gap → Batch → Bool
is_between gap b = nat_lt gap.after.id (first_id b.events) && nat_lt (last_id b.events) gap.before.id

-- the end of a path that begins after an id: its last batches, as many as all begin after it
abbrev pub end_behind : ℕ → List Batch → List Batch
end_behind id [] = []
end_behind id (b ∷ path) = if list_all (λ c. nat_lt id (first_id c.events)) (b ∷ path) then b ∷ path else end_behind id path

-- the batches of a path that lie in a gap
abbrev pub served : Gap → List Batch → List Batch
served gap path = filter (is_between gap) path
