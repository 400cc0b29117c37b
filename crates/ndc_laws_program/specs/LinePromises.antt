-- What is promised after each kind of line, of the world in which it runs.
use Rattle.std.specs.Prelude.{◌≡◌, ◌≢◌, ◌⊎◌, ℕ, ◌<◌, ◌≤◌, true, false, List, [], ◌∷◌, ◌++◌, codes, length, slice_get, Some, Ok}
use Rattle.std.specs.List.{AllByRecursion}
use Rattle.ndc_script_types.specs.declared.script.Act.{Act}
use Rattle.ndc_script_types.specs.declared.script.Act.TheVariants as act
use Rattle.ndc_script_types.specs.declared.script.Header.{Header}
use Rattle.ndc_model_cells.specs.Writing.{Entry, may_write, reset_at}
use Rattle.ndc_model_cells.specs.declared.message.Message.{Message}
use Rattle.ndc_domain.specs.declared.clusters.ClusterNo.{ClusterNo}
use Rattle.ndc_event.specs.declared.batch.Batch.{Batch}
use Rattle.ndc_event.specs.declared.name.Name.{Name}
use Rattle.ndc_graceful.specs.declared.handover.Handover.{Handover}
use Rattle.ndc_laws.specs.HandedOver.{GoesOnAtTheEnd}
use Rattle.ndc_laws.specs.Promised.{HasArrivedFor, IsResetFrom}
use Rattle.ndc_laws_program.specs.Dumps.{HoldsDump}
use Rattle.ndc_laws_reached.specs.Trimmed.{IsLearnedWhereAddressed, trimmed_of}
use Rattle.ndc_letters.specs.Letters.{letter_of}
use Rattle.ndc_model.specs.Fair.{written_of}
use Rattle.ndc_model.specs.Handovers.{handover_to, ready_in, without_handover}
use Rattle.ndc_model.specs.Laws.{ChangesNothing, is_overtaken, is_refusal}
use Rattle.ndc_model.specs.Letters.{with_letters}
use Rattle.ndc_model.specs.Lines.{act_step}
use Rattle.ndc_model.specs.Reading.{learned_at}
use Rattle.ndc_model.specs.Steps.{answered}
use Rattle.ndc_model.specs.Texts.{ok, refused}
use Rattle.ndc_model.specs.World.{World, cell_of, cluster_at, flight_at, home_at}
use Rattle.ndc_model_sets.specs.Branches.{current_tip}
use Rattle.ndc_model_sets.specs.Sets.{Has}
use Rattle.ndc_text.specs.Text.{batch_text}

-- the world after a line that runs in this one
abbrev pub behind : Header → Act → World → World
behind header asked w = (act_step header asked w).world

-- `bootstrap`: of what the source has trimmed the reader misses nothing that is addressed to it
abbrev pub MissesNothingTrimmed : Header → ClusterNo → ClusterNo → World → Type 0
MissesNothingTrimmed header reader source v = (shard : ℕ) → shard < header.shards → AllByRecursion (IsLearnedWhereAddressed reader source shard v) (trimmed_of source shard v)

-- `dump`: it is refused, as nothing of the workflow is learned, or what it answers holds a dump
abbrev pub AnswersDump : Header → ClusterNo → Name → Name → World → Type 0
AnswersDump header cluster domain workflow w =
    ((act_step header (act.Dump cluster domain workflow) w).answer ≡ refused (codes "NoWorkflow" ∷ [])) ⊎ HoldsDump domain workflow (act_step header (act.Dump cluster domain workflow) w).answer

-- a batch of a workflow was written with the old version of a handover, and none with a greater one
pub record EndsWithOld (header : Header) (handover : Handover) (workflow : Name) (w : World) (b : Batch) : Type 0 where
  pub written : Has (written_of header handover.domain workflow w) b
  pub old : b.key.version ≡ handover.old
  pub most : (other : Batch) → Has (written_of header handover.domain workflow w) other → other.key.version ≤ handover.old

-- a handover is completed by a line `complete`: the target has learned every batch of the domain with the old version; and where a workflow ends
-- with such a batch, the target's current branch of the batch's run is that of all that was written, and the target goes on where all that was
-- written ends
pub record Completes (header : Header) (at : ClusterNo) (domain : Name) (w : World) (handover : Handover) : Type 0 where
  pub learned : (workflow : Name) (b : Batch) → Has (written_of header handover.domain workflow w) b → b.key.version ≡ handover.old → Has (learned_at header handover.to handover.domain workflow w) b
  pub current : (workflow : Name) (b : Batch) → EndsWithOld header handover workflow w b
      → current_tip b.run (learned_at header handover.to handover.domain workflow w) ≡ current_tip b.run (written_of header handover.domain workflow w)
  pub goes_on : (workflow : Name) (b : Batch) → EndsWithOld header handover workflow w b → GoesOnAtTheEnd header handover.to handover.domain workflow (behind header (act.Complete at domain) w)

-- `complete`: where a handover to the cluster is open and ready, it is completed
abbrev pub CompletesWhereReady : Header → ClusterNo → Name → World → Type 0
CompletesWhereReady header at domain w = (handover : Handover) → handover_to at domain w ≡ Some handover → ready_in handover w ≡ Ok tt → Completes header at domain w handover

-- the old version of a handover that was open in one world is ended in a later one: no cluster may write to the domain with it, and what is written
-- with it was written already
pub record IsEnded (header : Header) (handover : Handover) (w v : World) : Type 0 where
  pub unused : (cluster : ClusterNo) (workflow : Name) (version : ℕ) → may_write (home_at header cluster v) handover.domain workflow (cell_of header cluster handover.domain workflow v) ≡ Ok version → version ≢ handover.old
  pub written : (workflow : Name) (b : Batch) → Has (written_of header handover.domain workflow v) b → b.key.version ≡ handover.old → Has (written_of header handover.domain workflow w) b

-- `reset`: where it is not refused, the workflow goes on in a new current run
abbrev pub GoesOnInNewRun : Header → ClusterNo → Name → Name → ℕ → World → Type 0
GoesOnInNewRun header cluster domain workflow event w =
    (entries : List Entry) → reset_at (home_at header cluster w) domain workflow event (cell_of header cluster domain workflow w) ≡ Ok entries
    → IsResetFrom event (learned_at header cluster domain workflow w) (learned_at header cluster domain workflow (behind header (act.Reset cluster domain workflow event) w))

-- `damage` of a message in flight: where it is cut, it is lost and set aside as a letter, else nothing changes
pub record SetsAside (header : Header) (reader source : ClusterNo) (shard place cut : ℕ) (w : World) (sent : Message) : Type 0 where
  pub aside : cut < length (batch_text sent.batch) → act_step header (act.Damage reader source shard place cut) w
      ≡ answered (with_letters reader ((cluster_at reader w).letters ++ letter_of source cut sent.batch ∷ []) (act_step header (act.Lose reader source shard place) w).world) (ok (codes "aside" ∷ []))
  pub whole : length (batch_text sent.batch) ≤ cut → act_step header (act.Damage reader source shard place cut) w ≡ answered w (ok (codes "whole" ∷ []))

-- the same of the message at the line's place, where there is one
abbrev pub SetsAsideWhereCut : Header → ClusterNo → ClusterNo → ℕ → ℕ → ℕ → World → Type 0
SetsAsideWhereCut header reader source shard place cut w =
    (sent : Message) → slice_get (flight_at reader source shard w) place ≡ Some sent → SetsAside header reader source shard place cut w sent

-- `mergeletters`: the batch of each letter that the cluster had has arrived there
abbrev pub BringsLetters : Header → ClusterNo → World → Type 0
BringsLetters header cluster w = AllByRecursion (HasArrivedFor header cluster (behind header (act.MergeLetters cluster) w)) (cluster_at cluster w).letters

-- a refused line changes nothing and makes nothing learned, but a `complete` whose handover was overtaken
abbrev pub RefusedChangesNothing : Header → Act → World → Type 0
RefusedChangesNothing header asked w =
    is_refusal (act_step header asked w).answer ≡ true → is_overtaken (act_step header asked w).answer ≡ false → ChangesNothing w (act_step header asked w)

-- that one ends the handover, and changes nothing else
abbrev pub OvertakenEndsAlone : Header → ClusterNo → Name → World → Type 0
OvertakenEndsAlone header at domain w =
    is_overtaken (act_step header (act.Complete at domain) w).answer ≡ true → ChangesNothing (without_handover domain w) (act_step header (act.Complete at domain) w)
