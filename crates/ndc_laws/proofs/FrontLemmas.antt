-- The first lines of a script are a script.
use Rattle.std.proofs.Common.{◌≤◌, zero, suc, List, [], ◌∷◌, ◌++◌, length, arith}
use Rattle.std.specs.List.{All}
use Rattle.std.proofs.lemmas.List.{length-append}
use Rattle.ndc_script_types.specs.Print.{act_lines, body_lines, header_lines}
use Rattle.ndc_script_types.specs.WellFormed.{IsWellFormed, IsWellFormedAct}
use Rattle.ndc_script_types.specs.declared.script.Header.{Header}
use Rattle.ndc_script_types.specs.declared.script.Line.{Line}
use Rattle.ndc_model.specs.Laws.{script_of}

-- what holds of each line holds of the first ones
all-front : (P : Line → Type 0) (front back : List Line) → All P (front ++ back) → All P front
all-front P [] back all k d less = absurd (omega (arith, less))
all-front P (line ∷ front) back all zero d less = all 0 d (omega arith)
all-front P (line ∷ front) back all (suc k) d less = all-front P front back (λ j e below. all (suc j) e (omega (arith, below))) k d (omega (arith, less))

-- they are no longer in print
front-shorter : (header : Header) (front back : List Line) → length (body_lines header front) ≤ length (body_lines header (front ++ back))
front-shorter header [] back = omega arith
front-shorter header (line ∷ front) back =
    omega (arith, front-shorter header front back, length-append (act_lines header line.act) (body_lines header front), length-append (act_lines header line.act) (body_lines header (front ++ back)))

pub front-script : (header : Header) (front back : List Line) → IsWellFormed (script_of header (front ++ back)) → IsWellFormed (script_of header front)
front-script header front back is = record {
  header = is.header;
  lines = all-front (λ line. IsWellFormedAct header line.act) front back is.lines;
  short = omega (arith, is.short, front-shorter header front back, length-append (header_lines header) (body_lines header front), length-append (header_lines header) (body_lines header (front ++ back)));
}
