-- Every world of a script is as it should be.
use Rattle.std.proofs.Common.{ℕ, ◌+◌, ◌<◌, ◌≤◌, List, [], ◌∷◌, length, map, arith}
use Rattle.std.specs.List.{AllByRecursion}
use Rattle.std.specs.Prelude.{codes}
use Rattle.std.proofs.lemmas.List.{length-append}
use Rattle.ndc_script_types.specs.Print.{act_lines, body_lines, header_lines, job_words}
use Rattle.ndc_script_types.specs.WellFormed.{IsWellFormed, IsWellFormedAct, IsWellFormedHeader, IsWellFormedJob}
use Rattle.ndc_script_types.specs.declared.script.Act.{Act}
use Rattle.ndc_script_types.specs.declared.script.Act.TheVariants as act
use Rattle.ndc_script_types.specs.declared.script.BurstJob.{BurstJob}
use Rattle.ndc_script_types.specs.declared.script.Header.{Header}
use Rattle.ndc_script_types.specs.declared.script.Line.{Line}
use Rattle.ndc_script_types.specs.declared.script.Script.{Script}
use Rattle.ndc_domain.specs.Clusters.{name_of}
use Rattle.ndc_model.specs.Facts.{IsReached}
use Rattle.ndc_model.specs.Lines.{act_step, job_line, lines_of_act, plain_lines, ran_from, worlds_of}
use Rattle.ndc_model.specs.World.{World, opening_world}
use Rattle.ndc_model.proofs.FairLemmas.{opening_reached}
use Rattle.ndc_model.proofs.ListLemmas.{all-append, length-mapped, all-listed}
use Rattle.ndc_laws_reached.specs.Writing.{WritingKeeps}
use Rattle.ndc_model.specs.Sometime.{IsReachedSometime}
use Rattle.ndc_laws_reached.proofs.LineLemmas.{line_kept}

-- a line that is well-formed
abbrev pub Fits : Header → Line → Type 0
Fits header line = IsWellFormedAct header line.act

-- the lines of a well-formed act are well-formed
pub act-fits : (header : Header) (number : ℕ) (asked : Act) → IsWellFormedAct header asked → AllByRecursion (Fits header) (lines_of_act number asked)
act-fits header number (act.Burst cluster jobs) fit = each jobs (all-listed IsWellFormedJob jobs fit.1)
  where
    each : (jobs : List BurstJob) → AllByRecursion IsWellFormedJob jobs → AllByRecursion (Fits header) (map (job_line cluster) jobs)
    each [] all = tt
    each (job ∷ jobs) all = ((record { known = fit.0; domain_name = all.0.domain; workflow_name = all.0.workflow }, all.0.command), each jobs all.1)
act-fits header number other fit = (fit, tt)

lines-fit : (header : Header) (lines : List Line) → AllByRecursion (Fits header) lines → AllByRecursion (Fits header) (plain_lines lines)
lines-fit header [] all = tt
lines-fit header (line ∷ lines) all = all-append (Fits header) (lines_of_act line.number line.act) (plain_lines lines) (act-fits header line.number line.act all.0) (lines-fit header lines all.1)

-- they are no more than the lines in print
pub act-short : (header : Header) (number : ℕ) (asked : Act) → length (lines_of_act number asked) ≤ length (act_lines header asked)
act-short header number (act.Burst cluster jobs) =
    omega (arith, length-mapped (job_line cluster) jobs, length-append (map (job_words (name_of header.clusters cluster)) jobs) ((codes "end" ∷ []) ∷ []), length-mapped (job_words (name_of header.clusters cluster)) jobs)
act-short header number other = omega arith

pub lines-short : (header : Header) (lines : List Line) → length (plain_lines lines) ≤ length (body_lines header lines)
lines-short header [] = omega arith
lines-short header (line ∷ lines) =
    omega (arith, act-short header line.number line.act, lines-short header lines, length-append (lines_of_act line.number line.act) (plain_lines lines), length-append (act_lines header line.act) (body_lines header lines))

module _ (header : Header) (sound : IsWellFormedHeader header) (writes : (lines : ℕ) → lines < 100000 → WritingKeeps header lines) where
  -- the worlds after lines
  ran-kept : (list : List Line) (lines : ℕ) (w : World) → AllByRecursion (Fits header) list → lines + length list ≤ 100000 → IsReached header lines w
      → AllByRecursion (IsReachedSometime header) (map (λ run. run.step.world) (ran_from header w list))
  ran-kept [] lines w fit short is = tt
  ran-kept (line ∷ list) lines w fit short is = (
    record { lines = lines + 1; most = omega (arith, short); reached = next },
    ran-kept list (lines + 1) (act_step header line.act w).world fit.1 (omega (arith, short)) next,
  )
    where
      next : IsReached header (lines + 1) (act_step header line.act w).world
      next = line_kept header lines line.act w sound fit.0 (omega (arith, short)) (writes lines (omega (arith, short))) is

-- every world of a script
pub worlds_kept : (script : Script) → IsWellFormed script → ((lines : ℕ) → lines < 100000 → WritingKeeps script.header lines) → AllByRecursion (IsReachedSometime script.header) (worlds_of script)
worlds_kept script is writes = (
  record { lines = 0; most = omega arith; reached = opening_reached script.header },
  ran-kept script.header is.header writes (plain_lines script.lines) 0 (opening_world script.header) (lines-fit script.header script.lines (all-listed (Fits script.header) script.lines is.lines))
      (omega (arith, is.short, lines-short script.header script.lines, length-append (header_lines script.header) (body_lines script.header script.lines))) (opening_reached script.header),
)
