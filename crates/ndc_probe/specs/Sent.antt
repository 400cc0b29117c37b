-- What is told of queues and of what is in flight.
use Rattle.std.specs.Prelude.{ℕ, ◌+◌, List, [], ◌∷◌, ◌++◌, codes, decimal, length}
use Rattle.std.specs.List.{concat}
use Rattle.std.specs.Option.{option_map}
use Rattle.ndc_model_cells.specs.declared.message.Message.{Message}
use Rattle.ndc_text.specs.Views.{key_text}
use Rattle.ndc_probe.specs.Pieces.{carried_text}

-- `PLACE DOMAIN WORKFLOW KEY`, and ` with KEY` where it carries another batch
abbrev pub entry_line : ℕ → Message → List ℕ
entry_line place sent =
    concat (decimal place ∷ codes " " ∷ sent.batch.domain ∷ codes " " ∷ sent.batch.workflow ∷ codes " " ∷ key_text sent.batch.key
    ∷ carried_text (option_map (λ b. b.key) sent.second) ∷ codes "\n" ∷ [])

-- messages, of which the first stands at this place
abbrev pub entries_from : ℕ → List Message → List ℕ
entries_from place [] = []
entries_from place (sent ∷ entries) = entry_line place sent ++ entries_from (place + 1) entries

-- what is in flight
abbrev pub flight_text : List Message → List ℕ
flight_text entries = decimal (length entries) ++ codes " in flight\n" ++ entries_from 0 entries

-- what is kept of a queue of which so many entries were trimmed
abbrev pub queue_text : ℕ → List Message → List ℕ
queue_text first kept = decimal (length kept) ++ codes " kept, " ++ decimal first ++ codes " trimmed\n" ++ entries_from first kept
