-- All worlds of a script are reached, and as promised.
use Rattle.std.proofs.Common.{ℕ}
use Rattle.std.specs.List.{AllByRecursion}
use Rattle.ndc_script_types.specs.WellFormed.{IsWellFormed, IsWellFormedHeader}
use Rattle.ndc_script_types.specs.declared.script.Header.{Header}
use Rattle.ndc_script_types.specs.declared.script.Script.{Script}
use Rattle.ndc_model.specs.Sometime.{IsReachedSometime}
use Rattle.ndc_laws_reached.proofs.ScriptLemmas.{worlds_kept}
use Rattle.ndc_laws_reached.proofs.WorkflowApplyLemmas.{writing_keeps}
use Rattle.ndc_laws.specs.Promised.{IsAsPromised}
use Rattle.ndc_laws.proofs.AncestorLemmas.{waits-for-ancestors}
use Rattle.ndc_laws.proofs.HeadlineLemmas.{answers-alike, compares-same, each-current, origins-differ, states-replay, tips-differ}
use Rattle.ndc_model.specs.Facts.{IsReached, ReportsAgree}
use Rattle.ndc_model.specs.Lines.{worlds_of}
use Rattle.ndc_model.specs.World.{World}
use Rattle.ndc_model.proofs.ListLemmas.{all-weaker}

-- all worlds of a script
pub worlds_reached : (script : Script) → IsWellFormed script → AllByRecursion (IsReachedSometime script.header) (worlds_of script)
worlds_reached script fit = worlds_kept script fit (λ lines below. writing_keeps script.header lines fit.header below)

-- a reached world is as promised
pub world-promised : (header : Header) (lines : ℕ) (w : World) → IsWellFormedHeader header → IsReached header lines w → IsAsPromised header w
world-promised header lines w fit is = record {
  alike = λ one two domain workflow first second. answers-alike header lines w fit is one two domain workflow first second;
  compare = λ one two domain workflow first second. compares-same header lines w fit is one two domain workflow first second;
  current = λ cluster domain workflow known. each-current header lines w fit is cluster known domain workflow;
  tips = λ cluster domain workflow known. tips-differ header lines w fit is cluster known domain workflow;
  states = λ cluster domain workflow known. states-replay header lines w fit is cluster known domain workflow;
  origins = λ cluster domain workflow known. origins-differ header lines w fit is cluster known domain workflow;
  waiting = λ cluster shard known below. waits-for-ancestors header lines w cluster shard is known below;
}

pub worlds_promised : (script : Script) → IsWellFormed script → AllByRecursion (IsAsPromised script.header) (worlds_of script)
worlds_promised script fit =
    all-weaker (IsReachedSometime script.header) (IsAsPromised script.header) (λ w at. world-promised script.header at.lines w fit.header at.reached) (worlds_of script) (worlds_reached script fit)

pub reports_agree : (script : Script) → IsWellFormed script → AllByRecursion (ReportsAgree script.header) (worlds_of script)
reports_agree script fit =
    all-weaker (IsReachedSometime script.header) (ReportsAgree script.header) (λ w at. at.reached.reports) (worlds_of script) (worlds_reached script fit)
