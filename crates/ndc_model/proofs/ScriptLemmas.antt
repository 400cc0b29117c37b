-- Scripts in two parts.
use Rattle.std.proofs.Common.{◌≡◌, List, [], ◌∷◌, ◌++◌, append-nil, refl, ap, sym, ◌∙◌}
use Rattle.std.proofs.lemmas.Grind.{flat_map-append}
use Rattle.ndc_script_types.specs.declared.script.Header.{Header}
use Rattle.ndc_script_types.specs.declared.script.Line.{Line}
use Rattle.ndc_model.specs.Laws.{script_of}
use Rattle.ndc_model.specs.Lines.{act_step, answer_text, answers_of, lines_of_act, plain_lines, ran_from, ran_of, seen_in, world_behind}
use Rattle.ndc_model.specs.Report.{report_of}
use Rattle.ndc_model.specs.World.{World, opening_world}

-- lines in two parts: the second runs in the world that the first left
pub runs_in_parts : (header : Header) (w : World) (lines more : List Line) → ran_from header w (lines ++ more) ≡ ran_from header w lines ++ ran_from header (world_behind w (ran_from header w lines)) more
runs_in_parts header w [] more = refl
runs_in_parts header w (line ∷ lines) more =
    ap (λ runs. record { number = line.number; step = act_step header line.act w } ∷ runs) (runs_in_parts header (act_step header line.act w).world lines more)

-- the world after both parts
pub world_in_parts : (header : Header) (w : World) (lines more : List Line)
    → world_behind w (ran_from header w (lines ++ more)) ≡ world_behind (world_behind w (ran_from header w lines)) (ran_from header (world_behind w (ran_from header w lines)) more)
world_in_parts header w [] more = refl
world_in_parts header w (line ∷ lines) more = world_in_parts header (act_step header line.act w).world lines more

-- bursts are taken apart in each part
plain-append : (lines more : List Line) → plain_lines (lines ++ more) ≡ plain_lines lines ++ plain_lines more
plain-append lines more = flat_map-append (λ line. lines_of_act line.number line.act) lines more

-- the lines of a script in two parts
pub script_in_parts : (header : Header) (lines more : List Line)
    → ran_of (script_of header (lines ++ more))
    ≡ ran_of (script_of header lines) ++ ran_from header (world_behind (opening_world header) (ran_of (script_of header lines))) (plain_lines more)
script_in_parts header lines more =
    ap (ran_from header (opening_world header)) (plain-append lines more) ∙ runs_in_parts header (opening_world header) (plain_lines lines) (plain_lines more)

pub answers_in_parts : (header : Header) (lines more : List Line)
    → answers_of (ran_of (script_of header (lines ++ more)))
    ≡ answers_of (ran_of (script_of header lines)) ++ answers_of (ran_from header (world_behind (opening_world header) (ran_of (script_of header lines))) (plain_lines more))
answers_in_parts header lines more = ap answers_of (script_in_parts header lines more) ∙ flat_map-append answer_text (ran_of (script_of header lines)) _

pub seen_in_parts : (header : Header) (lines more : List Line)
    → seen_in (ran_of (script_of header (lines ++ more)))
    ≡ seen_in (ran_of (script_of header lines)) ++ seen_in (ran_from header (world_behind (opening_world header) (ran_of (script_of header lines))) (plain_lines more))
seen_in_parts header lines more = ap seen_in (script_in_parts header lines more) ∙ flat_map-append (λ run. run.step.seen) (ran_of (script_of header lines)) _

-- the report without indexers is the answers
report-answers : (header : Header) (lines : List Line) → report_of (script_of header lines) [] [] ≡ answers_of (ran_of (script_of header lines))
report-answers header lines = append-nil (answers_of (ran_of (script_of header lines)) ++ []) ∙ append-nil (answers_of (ran_of (script_of header lines)))

pub report_in_parts : (header : Header) (lines more : List Line)
    → report_of (script_of header (lines ++ more)) [] []
    ≡ report_of (script_of header lines) [] [] ++ answers_of (ran_from header (world_behind (opening_world header) (ran_of (script_of header lines))) (plain_lines more))
report_in_parts header lines more =
    report-answers header (lines ++ more) ∙ answers_in_parts header lines more
    ∙ sym (ap (λ text. text ++ answers_of (ran_from header (world_behind (opening_world header) (ran_of (script_of header lines))) (plain_lines more))) (report-answers header lines))
