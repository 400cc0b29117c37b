-- The world in which a line of a script runs is reached, with a line to spare.
use Rattle.std.proofs.Common.{◌<◌, ◌+◌, ℕ, List, [], ◌∷◌, ◌++◌, length, map, subst, arith}
use Rattle.std.specs.List.{AllByRecursion}
use Rattle.std.specs.Prelude.{codes}
use Rattle.std.proofs.lemmas.List.{length-append}
use Rattle.ndc_script_types.specs.Print.{act_lines, body_lines, header_lines, job_words}
use Rattle.ndc_script_types.specs.WellFormed.{IsWellFormed, IsWellFormedAct, IsWellFormedHeader}
use Rattle.ndc_script_types.specs.declared.script.Act.{Act}
use Rattle.ndc_script_types.specs.declared.script.Act.TheVariants as act
use Rattle.ndc_script_types.specs.declared.script.Header.{Header}
use Rattle.ndc_script_types.specs.declared.script.Line.{Line}
use Rattle.ndc_domain.specs.Clusters.{name_of}
use Rattle.ndc_laws_reached.proofs.LineLemmas.{line_kept}
use Rattle.ndc_laws_reached.proofs.ScriptLemmas.{act-fits, act-short, Fits}
use Rattle.ndc_laws_reached.proofs.WorkflowApplyLemmas.{writing_keeps}
use Rattle.ndc_laws.specs.Promised.{RunsReached, world_before}
use Rattle.ndc_model.specs.Facts.{IsReached}
use Rattle.ndc_model.specs.Laws.{script_of}
use Rattle.ndc_model.specs.Lines.{act_step, lines_of_act, plain_lines, ran_from, world_behind}
use Rattle.ndc_model.specs.World.{World, opening_world}
use Rattle.ndc_model.proofs.FairLemmas.{opening_reached}
use Rattle.ndc_model.proofs.ListLemmas.{all-append, all-listed}

-- the first lines, with each burst taken apart, are well-formed
pub front-fits : (header : Header) (front back : List Line) → AllByRecursion (Fits header) (front ++ back) → AllByRecursion (Fits header) (plain_lines front)
front-fits header [] back all = tt
front-fits header (line ∷ front) back all = all-append (Fits header) (lines_of_act line.number line.act) (plain_lines front) (act-fits header line.number line.act all.0) (front-fits header front back all.1)

-- and so is the line after them
behind-fits : (header : Header) (front back : List Line) (line : Line) → AllByRecursion (Fits header) (front ++ line ∷ back) → IsWellFormedAct header line.act
behind-fits header [] back line all = all.0
behind-fits header (first ∷ front) back line all = behind-fits header front back line all.1

-- each line is printed in a line at least
act-some : (header : Header) (asked : Act) → 0 < length (act_lines header asked)
act-some header (act.Burst cluster jobs) = omega (arith, length-append (map (job_words (name_of header.clusters cluster)) jobs) ((codes "end" ∷ []) ∷ []))
act-some header other = omega arith

-- they are fewer than the lines in print, where another line follows
front-short : (header : Header) (front back : List Line) (line : Line) → length (plain_lines front) < length (body_lines header (front ++ line ∷ back))
front-short header [] back line = omega (arith, act-some header line.act, length-append (act_lines header line.act) (body_lines header back))
front-short header (first ∷ front) back line =
    omega (
      arith,
      act-short header first.number first.act,
      front-short header front back line,
      length-append (lines_of_act first.number first.act) (plain_lines front),
      length-append (act_lines header first.act) (body_lines header (front ++ line ∷ back)),
    )

-- the world after lines
front-reached : (header : Header) → IsWellFormedHeader header → (list : List Line) (lines : ℕ) (w : World) → AllByRecursion (Fits header) list → lines + length list < 100000 → IsReached header lines w
    → IsReached header (lines + length list) (world_behind w (ran_from header w list))
front-reached header sound [] lines w fit short is = subst (λ n. IsReached header n w) (omega arith) is
front-reached header sound (line ∷ list) lines w fit short is =
    subst (λ n. IsReached header n (world_behind (act_step header line.act w).world (ran_from header (act_step header line.act w).world list))) (omega arith)
    (front-reached header sound list (lines + 1) (act_step header line.act w).world fit.1 (omega (arith, short))
    (line_kept header lines line.act w sound fit.0 (omega (arith, short)) (writing_keeps header lines sound (omega (arith, short))) is))

pub runs-reached : (header : Header) (front back : List Line) (line : Line) → IsWellFormed (script_of header (front ++ line ∷ back)) → RunsReached header front line.act
runs-reached header front back line is = record {
  fit = behind-fits header front back line fits;
  lines = length (plain_lines front);
  most = short;
  reached = subst (λ n. IsReached header n (world_before header front)) (omega arith)
      (front-reached header is.header (plain_lines front) 0 (opening_world header) (front-fits header front (line ∷ back) fits) (omega (arith, short)) (opening_reached header));
}
  where
    fits : AllByRecursion (Fits header) (front ++ line ∷ back)
    fits = all-listed (Fits header) (front ++ line ∷ back) is.lines

    short : length (plain_lines front) < 100000
    short = omega (arith, is.short, front-short header front back line, length-append (header_lines header) (body_lines header (front ++ line ∷ back)))
