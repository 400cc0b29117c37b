-- The world of a script that runs: its clusters, and beside them the progress reports that each of them holds.
use Rattle.std.specs.Prelude.{◌≡◌, ℕ, ◌+◌, ◌≤◌, Bool, true, false, List, [], ◌∷◌, length, map, sum}
use Rattle.ndc_script_types.specs.WellFormed.{IsWellFormedHeader}
use Rattle.ndc_script_types.specs.declared.script.Header.{Header}
use Rattle.ndc_script_types.specs.declared.script.Line.{Line}
use Rattle.ndc_model.specs.Standing.{StandFor}
use Rattle.ndc_index.specs.declared.seen.Seen.{Seen}
use Rattle.ndc_laws.specs.Promised.{IsAsPromised}
use Rattle.ndc_laws_reached.specs.Settled.{IsSettled}
use Rattle.ndc_model.specs.Facts.{IsReached}
use Rattle.ndc_model.specs.Laws.{is_overtaken, is_refusal}
use Rattle.ndc_model.specs.Lines.{act_step, answers_of, lines_of_act, ran_from, seen_in, world_behind}
use Rattle.ndc_model.specs.Moves.{after_settlement}
use Rattle.ndc_model.specs.Steps.{applied_by, learned_by, seen_of}
use Rattle.ndc_model.specs.World.{World}
use Rattle.ndc_progress.specs.declared.report.Report.{Report}
use Rattle.ndc_world.specs.Counts.{refused_in}

-- whether memory ran out in it; the header; how many lines were run, how many answers they gave, and how many of these are refusals; the
-- clusters after them without progress reports, and the greatest report of each activity that each cluster has
pub record WorldValue : Type 0 where
  pub spent : Bool
  pub header : Header
  pub lines : ℕ
  pub answers : ℕ
  pub refused : ℕ
  pub world : World
  pub reports : List (List Report)

-- the header is as it should be, and clusters and reports represent a world that so many lines lead to
pub record IsStanding (header : Header) (lines : ℕ) (v : World) (reports : List (List Report)) : Type 0 where
  pub fit : IsWellFormedHeader header
  pub whole : World
  pub reached : IsReached header lines whole
  pub stands : StandFor v reports whole

-- a world that is not spent: it represents one that its lines lead to, and no more is counted than was run
pub record IsUnspent (value : WorldValue) : Type 0 where
  pub standing : IsStanding value.header value.lines value.world value.reports
  pub answers_most : value.answers ≤ value.lines
  pub refused_most : value.refused ≤ value.answers

-- clusters and reports represent a world that is as it should be after so many lines; and so are the clusters by themselves, which are as promised
pub record IsReachedWorld (value : WorldValue) : Type 0 where
  pub whole : World
  pub stands : StandFor value.world value.reports whole
  pub reached : IsReached value.header value.lines whole
  pub clusters : IsReached value.header value.lines value.world
  pub promised : IsAsPromised value.header value.world

-- and the clusters are settled
pub record IsSettledWorld (value : WorldValue) : Type 0 where
  pub is : IsReachedWorld value
  pub settled : IsSettled value.header value.world

-- they represent the world that a line of the text leaves, and what was told is what it tells: each answer after the number of its line,
-- what became learned, and how many of the answers are refusals
pub record IsBehind (header : Header) (line : Line) (w v : World) (reports : List (List Report)) (told : List ℕ) (shown : List Seen) (count : ℕ) : Type 0 where
  pub stands : StandFor v reports (world_behind w (ran_from header w (lines_of_act line.number line.act)))
  pub answers : told ≡ answers_of (ran_from header w (lines_of_act line.number line.act))
  pub seen : shown ≡ seen_in (ran_from header w (lines_of_act line.number line.act))
  pub refused : count ≡ refused_in (ran_from header w (lines_of_act line.number line.act))

-- a line of the text that is refused by itself, and not for a handover that was overtaken, leaves clusters and reports as they were
abbrev pub LeavesAllWhereRefused : WorldValue → Line → WorldValue → Type 0
LeavesAllWhereRefused before line after =
    (w : World) → StandFor before.world before.reports w → lines_of_act line.number line.act ≡ line ∷ []
    → is_refusal (act_step before.header line.act w).answer ≡ true → is_overtaken (act_step before.header line.act w).answer ≡ false
    → (after.world ≡ before.world) × (after.reports ≡ before.reports)

-- a line of the text was run: it is counted, each line in a burst as one, with its answers and its refusals, and in each world for which
-- the clusters represented before it, they represent what it leaves, and this was told
pub record IsStepped (before : WorldValue) (line : Line) (after : WorldValue) (told : List ℕ) (shown : List Seen) : Type 0 where
  pub unspent : after.spent ≡ false
  pub header : after.header ≡ before.header
  pub lines : after.lines ≡ before.lines + length (lines_of_act line.number line.act)
  pub answers : after.answers ≡ before.answers + length (lines_of_act line.number line.act)
  pub refusals : ℕ
  pub refused : after.refused ≡ before.refused + refusals
  pub behind : (w : World) → StandFor before.world before.reports w → IsBehind before.header line w after.world after.reports told shown refusals

-- they represent the world that a settlement leaves, with how many batches it made learned, how many were applied again, and what became
-- learned
pub record IsBehindSettlement (header : Header) (w v : World) (reports : List (List Report)) (learned applied : ℕ) (shown : List Seen) : Type 0 where
  pub stands : StandFor v reports (after_settlement header w).world
  pub learned_count : learned ≡ sum (map learned_by (after_settlement header w).notes)
  pub applied_count : applied ≡ sum (map applied_by (after_settlement header w).notes)
  pub seen : shown ≡ seen_of (after_settlement header w).notes

-- the clusters were settled: that is one line without an answer, and in each world that the clusters represented before it, they represent
-- what it leaves, and this was told
pub record IsSettledBy (before after : WorldValue) (learned applied : ℕ) (shown : List Seen) : Type 0 where
  pub unspent : after.spent ≡ false
  pub header : after.header ≡ before.header
  pub lines : after.lines ≡ before.lines + 1
  pub answers : after.answers ≡ before.answers
  pub refused : after.refused ≡ before.refused
  pub behind : (w : World) → StandFor before.world before.reports w → IsBehindSettlement before.header w after.world after.reports learned applied shown
