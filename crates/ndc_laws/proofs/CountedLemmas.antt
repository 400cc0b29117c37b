-- Every world of a script is as it should be after the lines that led to it.
use Rattle.std.proofs.Common.{ℕ, ◌+◌, ◌≤◌, List, [], ◌∷◌, length, map, append-nil, sym, subst, arith}
use Rattle.std.specs.List.{AllByRecursion}
use Rattle.std.proofs.lemmas.List.{length-append}
use Rattle.ndc_script_types.specs.Print.{body_lines, header_lines}
use Rattle.ndc_script_types.specs.WellFormed.{IsWellFormed, IsWellFormedHeader}
use Rattle.ndc_script_types.specs.declared.script.Header.{Header}
use Rattle.ndc_script_types.specs.declared.script.Line.{Line}
use Rattle.ndc_script_types.specs.declared.script.Script.{Script}
use Rattle.ndc_laws.specs.Counts.{AreReachedFrom}
use Rattle.ndc_laws.specs.Grown.{IsWellFormedLine}
use Rattle.ndc_laws.proofs.LinesBefore.{front-fits}
use Rattle.ndc_laws_reached.proofs.LineLemmas.{line_kept}
use Rattle.ndc_laws_reached.proofs.ScriptLemmas.{lines-short}
use Rattle.ndc_laws_reached.proofs.WorkflowApplyLemmas.{writing_keeps}
use Rattle.ndc_model.specs.Facts.{IsReached}
use Rattle.ndc_model.specs.Lines.{act_step, plain_lines, ran_from, worlds_of}
use Rattle.ndc_model.specs.World.{World, opening_world}
use Rattle.ndc_model.proofs.FairLemmas.{opening_reached}
use Rattle.ndc_model.proofs.ListLemmas.{all-listed}

-- the worlds after lines
ran-counted : (header : Header) → IsWellFormedHeader header → (list : List Line) (lines : ℕ) (w : World) → AllByRecursion (IsWellFormedLine header) list → lines + length list ≤ 100000 → IsReached header lines w
    → AreReachedFrom header (lines + 1) (map (λ run. run.step.world) (ran_from header w list))
ran-counted header sound [] lines w fit short is = tt
ran-counted header sound (line ∷ list) lines w fit short is = (next, ran-counted header sound list (lines + 1) (act_step header line.act w).world fit.1 (omega (arith, short)) next)
  where
    next : IsReached header (lines + 1) (act_step header line.act w).world
    next = line_kept header lines line.act w sound fit.0 (omega (arith, short)) (writing_keeps header lines sound (omega (arith, short))) is

pub worlds-counted : (script : Script) → IsWellFormed script → AreReachedFrom script.header 0 (worlds_of script)
worlds-counted script is = (
  opening_reached script.header,
  ran-counted script.header is.header (plain_lines script.lines) 0 (opening_world script.header) (front-fits script.header script.lines [] (subst (AllByRecursion (IsWellFormedLine script.header)) (sym (append-nil script.lines)) (all-listed (IsWellFormedLine script.header) script.lines is.lines)))
      (omega (arith, is.short, lines-short script.header script.lines, length-append (header_lines script.header) (body_lines script.header script.lines))) (opening_reached script.header),
)
