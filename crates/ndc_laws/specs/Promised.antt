-- What is promised of every world of a script.
use Rattle.std.specs.Prelude.{◌≡◌, ◌↔◌, ℕ, ◌<◌, true, false, is_some, List, [], ◌∷◌, codes, Some, None, Ok}
use Rattle.std.specs.List.{IsAmong}
use Rattle.ndc_script_types.specs.WellFormed.{IsCluster, IsWellFormedAct}
use Rattle.ndc_script_types.specs.declared.script.Act.{Act}
use Rattle.ndc_script_types.specs.declared.script.Act.TheVariants as act
use Rattle.ndc_script_types.specs.declared.script.Header.{Header}
use Rattle.ndc_script_types.specs.declared.script.Line.{Line}
use Rattle.ndc_model_cells.specs.Arrival.{has_arrived}
use Rattle.ndc_model_cells.specs.Cells.{Cell, put_off_in}
use Rattle.ndc_model_cells.specs.Places.{batch_there}
use Rattle.ndc_domain.specs.declared.clusters.ClusterNo.{ClusterNo}
use Rattle.ndc_event.specs.declared.batch.Batch.{Batch}
use Rattle.ndc_event.specs.declared.key.BatchKey.{BatchKey}
use Rattle.ndc_event.specs.declared.key.RunId.{RunId}
use Rattle.ndc_event.specs.declared.name.Name.{Name}
use Rattle.ndc_laws_reached.specs.OneWriter.{EachHasOneCurrent}
use Rattle.ndc_letters.specs.Letters.{place_of_letter}
use Rattle.ndc_letters.specs.declared.letter.Letter.{Letter}
use Rattle.ndc_model.specs.Facts.{IsReached}
use Rattle.ndc_model.specs.Fair.{written_of}
use Rattle.ndc_model.specs.Laws.{script_of}
use Rattle.ndc_model.specs.Lines.{act_step, ran_of, world_behind}
use Rattle.ndc_model.specs.Reading.{learned_at}
use Rattle.ndc_model.specs.Texts.{ok}
use Rattle.ndc_model.specs.World.{World, cell_at, cell_of, cluster_at, opening_world}
use Rattle.ndc_progress.specs.declared.report.Report.{Report}
use Rattle.ndc_reset.specs.Laws.{GoesOn}
use Rattle.ndc_reset.specs.Reset.{reset_kinds}
use Rattle.ndc_model_sets.specs.Branches.{current_tip, workflow_tip}
use Rattle.ndc_model_sets.specs.Current.{state_to}
use Rattle.ndc_model_sets.specs.Learned.{IsPart, WaitsFor}
use Rattle.ndc_model_sets.specs.Paths.{events_to}
use Rattle.ndc_model_sets.specs.Origins.{origins_in}
use Rattle.ndc_model_sets.specs.Sets.{batch_at, earlier, Has}
use Rattle.ndc_model_sets.specs.Sound.{OriginsDiffer}
use Rattle.ndc_model_sets.specs.View.{view_of}
use Rattle.ndc_state.specs.Laws.{AreApart}
use Rattle.ndc_state.specs.Replay.{replay_of}
use Rattle.ndc_state.specs.Written.{events_from}
use Rattle.ndc_text.specs.Views.{dump_text}

-- two clusters have learned the same batches of a workflow
pub record LearnedTheSame (header : Header) (one two : ClusterNo) (domain workflow : Name) (w : World) : Type 0 where
  pub there : IsPart (learned_at header one domain workflow w) (learned_at header two domain workflow w)
  pub back : IsPart (learned_at header two domain workflow w) (learned_at header one domain workflow w)

-- two clusters answer alike about a workflow
pub record AnswerAlike (header : Header) (one two : ClusterNo) (domain workflow : Name) (w : World) : Type 0 where
  pub history : (act_step header (act.History one domain workflow) w).answer ≡ (act_step header (act.History two domain workflow) w).answer
  pub branches : (act_step header (act.Branches one domain workflow) w).answer ≡ (act_step header (act.Branches two domain workflow) w).answer
  pub current : (act_step header (act.Current one domain workflow) w).answer ≡ (act_step header (act.Current two domain workflow) w).answer
  pub state : (act_step header (act.StateOf one domain workflow) w).answer ≡ (act_step header (act.StateOf two domain workflow) w).answer
  pub dump : (act_step header (act.Dump one domain workflow) w).answer ≡ (act_step header (act.Dump two domain workflow) w).answer
  pub text : dump_text domain workflow (view_of (learned_at header one domain workflow w)) ≡ dump_text domain workflow (view_of (learned_at header two domain workflow w))

-- `compare` answers that two clusters show the same
abbrev pub ComparesSame : Header → ClusterNo → ClusterNo → Name → Name → World → Type 0
ComparesSame header one two domain workflow w = (act_step header (act.Compare one two domain workflow) w).answer ≡ ok (codes "same" ∷ [])

-- no two runs have current branches with one tip
abbrev pub TipsDiffer : List Batch → Type 0
TipsDiffer batches = (one two : RunId) (tip other : Batch) → current_tip one batches ≡ Some tip → current_tip two batches ≡ Some other → tip.key ≡ other.key → one ≡ two

-- the state that is shown of each branch is what all events of the branch replay to
abbrev pub StatesAreReplays : List Batch → Type 0
StatesAreReplays batches = (b : Batch) → Has batches b → replay_of b.run (events_to b.key batches) ≡ Ok (state_to b.run b.key batches)

-- an ancestor of a batch, among all batches of its workflow, has not arrived in a cell
pub record LacksAncestorAmong (all : List Batch) (cell : Cell) (b : Batch) : Type 0 where
  pub ancestor : Batch
  pub above : WaitsFor all ancestor b
  pub missing : has_arrived ancestor cell ≡ false

-- an ancestor of a batch, among all that was written, has not arrived in a cell
abbrev pub LacksAncestor : Header → Cell → Batch → World → Type 0
LacksAncestor header cell b w = LacksAncestorAmong (written_of header b.domain b.workflow w) cell b

-- following earlier keys upwards from a batch through these, this is the first key that is that of none of them
pub data FirstMissing (batches : List Batch) (key : BatchKey) : Batch → Type 0 where
  comes_next : (b : Batch) → earlier b ≡ Some key → batch_at key batches ≡ None → FirstMissing batches key b
  further : (b before : Batch) (k : BatchKey) → earlier b ≡ Some k → batch_at k batches ≡ Some before → FirstMissing batches key before → FirstMissing batches key b

-- what is put off in a cell is exactly what has arrived there and lacks an ancestor
abbrev pub WaitsForAncestors : Header → Cell → World → Type 0
WaitsForAncestors header cell w = (b : Batch) → IsAmong (put_off_in cell) b ↔ (IsAmong cell.arrived b × LacksAncestor header cell b w)

-- a workflow of which these were learned was reset at an event: another run is the current one, whose first batch alone is on its branch; its
-- events are the kinds of the reset; its state is their replay, open and with a decision pending; and its origins are those of the old
-- current branch, each once
pub record IsResetFrom (event : ℕ) (before after : List Batch) : Type 0 where
  pub old : Batch
  pub was_current : workflow_tip before ≡ Some old
  pub new : Batch
  pub is_current : workflow_tip after ≡ Some new
  pub begins : new.parent ≡ None
  pub fresh : batch_at new.key before ≡ None
  pub events : events_to new.key after ≡ events_from 1 new.key.version (reset_kinds old.run event (events_to old.key before))
  pub replays : replay_of new.run (events_to new.key after) ≡ Ok (state_to new.run new.key after)
  pub state : GoesOn (state_to old.run old.key before) new.run (state_to new.run new.key after)
  pub origins : (state_to new.run new.key after).origins ≡ origins_in old.run (events_to old.key before)
  pub once : AreApart (state_to new.run new.key after).origins

-- the batch that a letter was has arrived at a cluster
abbrev pub HasArrivedFor : Header → ClusterNo → World → Letter → Type 0
HasArrivedFor header cluster w letter = is_some (batch_there (cell_of header cluster letter.domain letter.workflow w).arrived (place_of_letter letter)) ≡ true

-- two clusters have the same progress reports
pub record HaveTheSameReports (one two : ClusterNo) (w : World) : Type 0 where
  pub there : (report : Report) → IsAmong (cluster_at one w).reports report → IsAmong (cluster_at two w).reports report
  pub back : (report : Report) → IsAmong (cluster_at two w).reports report → IsAmong (cluster_at one w).reports report

-- nothing is put off in any cell of a cluster
abbrev pub NothingPutOff : Header → ClusterNo → World → Type 0
NothingPutOff header cluster w = (shard : ℕ) → shard < header.shards → put_off_in (cell_at cluster shard w) ≡ []

-- a line of a script
abbrev pub line : ℕ → Act → Line
line number asked = record { number = number; act = asked }

-- the world in which a line of a script runs: the one that the lines before it left
abbrev pub world_before : Header → List Line → World
world_before header front = world_behind (opening_world header) (ran_of (script_of header front))

-- a well-formed line runs after these, and fewer than 100,000 led to the world in which it does
pub record RunsReached (header : Header) (front : List Line) (asked : Act) : Type 0 where
  pub fit : IsWellFormedAct header asked
  pub lines : ℕ
  pub most : lines < 100000
  pub reached : IsReached header lines (world_before header front)

-- a world is as promised: clusters that have learned the same batches of a workflow answer alike about it, and `compare` answers `same`
-- exactly then; each run that is learned has one branch of greatest last version, which is the current one, and runs have different tips;
-- shown states are replays of their branches, on which no origin stands twice; and batches wait exactly while an ancestor is missing
pub record IsAsPromised (header : Header) (w : World) : Type 0 where
  pub alike : (one two : ClusterNo) (domain workflow : Name) → IsCluster header one → IsCluster header two → LearnedTheSame header one two domain workflow w → AnswerAlike header one two domain workflow w
  pub compare : (one two : ClusterNo) (domain workflow : Name) → IsCluster header one → IsCluster header two → ComparesSame header one two domain workflow w ↔ LearnedTheSame header one two domain workflow w
  pub current : (cluster : ClusterNo) (domain workflow : Name) → IsCluster header cluster → EachHasOneCurrent (learned_at header cluster domain workflow w)
  pub tips : (cluster : ClusterNo) (domain workflow : Name) → IsCluster header cluster → TipsDiffer (learned_at header cluster domain workflow w)
  pub states : (cluster : ClusterNo) (domain workflow : Name) → IsCluster header cluster → StatesAreReplays (learned_at header cluster domain workflow w)
  pub origins : (cluster : ClusterNo) (domain workflow : Name) → IsCluster header cluster → OriginsDiffer (learned_at header cluster domain workflow w)
  pub waiting : (cluster : ClusterNo) (shard : ℕ) → IsCluster header cluster → shard < header.shards → WaitsForAncestors header (cell_at cluster shard w) w
