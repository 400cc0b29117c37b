-- The jobs of every line may be done.
use Rattle.std.proofs.Common.{ℕ, ◌<◌, arith}
use Rattle.ndc_script_types.specs.WellFormed.{IsWellFormedAct, IsWellFormedHeader}
use Rattle.ndc_script_types.specs.declared.script.Act.{Act}
use Rattle.ndc_script_types.specs.declared.script.Act.TheVariants as act
use Rattle.ndc_script_types.specs.declared.script.Header.{Header}
use Rattle.ndc_model.specs.Facts.{IsReached}
use Rattle.ndc_model.specs.World.{World}
use Rattle.ndc_model_cells.specs.Allowed.{IsAllowed}
use Rattle.ndc_model.specs.Allowed.{LineIsAllowed}
use Rattle.ndc_laws_jobs.proofs.AskLemmas.{command-allowed, reset-allowed}
use Rattle.ndc_laws_jobs.proofs.ComeLemmas.{again_allowed, late_allowed}
use Rattle.ndc_laws_jobs.proofs.LetterLemmas.{letters_allowed}
use Rattle.ndc_laws_jobs.proofs.SettleLemmas.{settle_allowed, work_allowed}

pub line_allowed : (header : Header) (lines : ℕ) (line : Act) (w : World) → IsWellFormedHeader header → IsWellFormedAct header line → lines < 100000 → IsReached header lines w → LineIsAllowed IsAllowed header line w
line_allowed header lines line w well asked few is = by line asked
  where
    by : (line : Act) → IsWellFormedAct header line → LineIsAllowed IsAllowed header line w
    by (act.Command cluster domain workflow command) fit = (command-allowed header well lines w is cluster domain workflow fit.0 command fit.1, tt)
    by (act.Burst cluster jobs) fit = tt
    by (act.Register at domain target days members) fit = tt
    by (act.Retain at domain days) fit = tt
    by (act.Join at domain member) fit = tt
    by (act.Failover at domain target) fit = tt
    by (act.Domains to from) fit = tt
    by (act.Domain at domain) fit = tt
    by (act.MembersOf at domain) fit = tt
    by (act.Pull reader source) fit = tt
    by (act.PullSome reader source shard count) fit = tt
    by (act.Lose reader source shard place) fit = tt
    by (act.Repeat reader source shard place) fit = tt
    by (act.Move reader source shard place to) fit = tt
    by (act.Work cluster) fit = work_allowed header lines cluster w fit few is
    by (act.Rewind reader source) fit = tt
    by (act.Trim source) fit = tt
    by (act.LevelsOf reader source shard) fit = tt
    by (act.Gaps cluster) fit = tt
    by (act.Resend cluster) fit = again_allowed header lines cluster w fit is
    by (act.Bootstrap reader source) fit = late_allowed header lines reader source fit w is
    by act.Settle fit = settle_allowed header lines w few is
    by (act.History cluster domain workflow) fit = tt
    by (act.Branches cluster domain workflow) fit = tt
    by (act.Current cluster domain workflow) fit = tt
    by (act.StateOf cluster domain workflow) fit = tt
    by (act.Dump cluster domain workflow) fit = tt
    by (act.Compare one two domain workflow) fit = tt
    by (act.Handover at domain target) fit = tt
    by (act.Complete at domain) fit = tt
    by (act.Reset cluster domain workflow event) fit = (reset-allowed header well lines w is cluster domain workflow fit.0 few event, tt)
    by (act.Damage reader source shard place cut) fit = tt
    by (act.LettersOf reader) fit = tt
    by (act.Purge reader) fit = tt
    by (act.MergeLetters reader) fit = letters_allowed header lines reader fit (let l = well.shards_least in omega (arith, l)) w is
    by (act.Beat cluster domain workflow id details) fit = tt
    by (act.Sync to from) fit = tt
    by (act.ProgressOf cluster domain workflow id) fit = tt
