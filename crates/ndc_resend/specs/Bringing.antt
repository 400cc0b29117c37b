-- What asking for put-off batches brings, from the last to the first.
use Rattle.std.specs.Prelude.{◌≡◌, true, List, [], ◌∷◌, ◌++◌, Option, Some, None, IsSome, if◌then◌else◌}
use Rattle.std.specs.List.{filter_map}
use Rattle.ndc_event.specs.Key.{key_eq, key_lt}
use Rattle.ndc_event.specs.declared.batch.Batch.{Batch}
use Rattle.ndc_event.specs.declared.key.BatchKey.{BatchKey}
use Rattle.ndc_model_cells.specs.declared.message.Message.{Message}
use Rattle.ndc_model_cells.specs.Arrival.{has_arrived}
use Rattle.ndc_model_cells.specs.Cells.{Cell}
use Rattle.ndc_model_cells.specs.Messages.{batches_of}
use Rattle.ndc_model_cells.specs.Workflow.{WorkflowValue}
use Rattle.ndc_model_sets.specs.Learned.{IsPart, has_key}
use Rattle.ndc_model_sets.specs.Paths.{events_to, versions_of}
use Rattle.ndc_model_sets.specs.Sets.{Has, IsSet}
use Rattle.ndc_model_sets.specs.Sound.{IsSound}
use Rattle.ndc_resend.specs.declared.asking.GapOf.{GapOf}
use Rattle.ndc_resend.specs.Asked.{HasLearned}
use Rattle.ndc_resend.specs.PutOff.{gap_in, gaps_in, off_in, remote_of}
use Rattle.ndc_resend.specs.Serving.{answered}

-- messages brought so far, and those that are answered for a gap, which is asked for only where none of them has the batch that is missing
abbrev pub asked_for : (GapOf → List Message) → List Message → GapOf → List Message
asked_for answer brought gap = if has_key (Some gap.missing) (batches_of brought) then brought else brought ++ answer gap

-- the same for gaps, from the last to the first: the request for a batch brings what lies on its path, so that for those above it nothing is asked
abbrev pub asked_from : (GapOf → List Message) → List Message → List GapOf → List Message
asked_from answer brought [] = brought
asked_from answer brought (gap ∷ gaps) = asked_for answer (asked_from answer brought gaps) gap

-- what a workflow is brought where something of it is put off
abbrev pub brought_to : (GapOf → List Message) → WorkflowValue → List Message
brought_to answer w = asked_from answer [] (gaps_in w)

-- a message goes to its place by its batch's key, or takes that of the one with this key
abbrev pub with_brought : Message → List Message → List Message
with_brought new [] = new ∷ []
with_brought new (sent ∷ messages) =
    if key_lt new.batch.key sent.batch.key then new ∷ sent ∷ messages
    else if key_eq new.batch.key sent.batch.key then new ∷ messages
    else sent ∷ with_brought new messages

-- messages whose batch has not arrived in a cell, put to those that are in key order, each once
abbrev pub put_new : Cell → List Message → List Message → List Message
put_new cell ordered [] = ordered
put_new cell ordered (sent ∷ messages) = put_new cell (if has_arrived sent.batch cell then ordered else with_brought sent ordered) messages

-- in key order
abbrev pub new_of : Cell → List Message → List Message
new_of cell messages = put_new cell [] messages

-- the messages of batches of a set: a carried batch has none of its own, each other one brings along those that name it as their carrier
pub record AreSent (all : List Batch) (own : Batch → Option Message) : Type 0 where
  pub carried : (b : Batch) → Has all b → IsSome b.carrier → own b ≡ None
  pub lone : (b : Batch) → Has all b → b.carrier ≡ None → IsSome (own b)
  pub batch : (b : Batch) (sent : Message) → Has all b → own b ≡ Some sent → sent.batch ≡ b
  pub second : (b second : Batch) (sent : Message) → Has all b → own b ≡ Some sent → sent.second ≡ Some second → Has all second × (second.carrier ≡ Some b.key)

-- a workflow of a cell beside a sound set: all that has arrived is of it, a carried batch with its carrier; the message of each put-off batch with a parent
-- came with the version history of its path; its author has learned it, and answers by its messages
pub record IsBehindIn (all : List Batch) (author : Batch → List Batch) (own : Batch → Option Message) (answer : GapOf → List Message) (w : WorkflowValue) : Type 0 where
  pub sound : IsSound all
  pub set : IsSet w.arrived
  pub within : IsPart w.arrived all
  pub carried : (b : Batch) (key : BatchKey) → Has w.arrived b → b.carrier ≡ Some key → has_key (Some key) w.arrived ≡ true
  pub history : (b : Batch) → Has (off_in w) b → IsSome b.parent → remote_of b w.waiting ≡ versions_of (events_to b.key all)
  pub learned : (b : Batch) → Has (off_in w) b → HasLearned all (author b) b
  pub sent : AreSent all own
  pub answers : (b : Batch) → Has (off_in w) b → answer (gap_in w b) ≡ filter_map own (answered (author b) (gap_in w b).gap b.key)
