use Rattle.std.proofs.Common.{◌≡◌, Ok, Result, List, ap, rules, subst, sym, ◌∙◌}
use Rattle.ndc_event.specs.Outcome.{Gives}
use Rattle.ndc_script_types.specs.declared.script.Line.{Line}
use Rattle.ndc_script_types.specs.declared.script.ScriptError.{ScriptError}
use Rattle.ndc_script_types.specs.declared.script.ScriptError.TheVariants.{Memory}
use Rattle.ndc_script_read.specs.Body.{body_of, lines_read}
use Rattle.ndc_script_read.proofs.Pieces.{end-right}
use Rattle.ndc_script_read.proofs.parsing.read_lines.Goals as goal

pub returns-clause-answer : goal.returns-clause-answer
returns-clause-answer c =
    let end = c.line_behind.result in
    sym (ap (body_of c.args.header.now end) (c.as_slice.ensures.value ∙ c.in_ok-kept.ensures) ∙ end-right c.args.header.now c.args.first end c.args.bytes.now c.line_behind.ensures)
    ∙ c.in_ok-lines.ensures.answer ∙ ap Ok (sym c.new.ensures)

pub returns-in_err-lines-clause-answer : goal.returns-in_err-lines-clause-answer
returns-in_err-lines-clause-answer c =
    let end = c.line_behind.result in
    let same : body_of c.args.header.now end c.as_slice.result.now ≡ lines_read c.args.header.now c.args.first c.args.bytes.now =
    ap (body_of c.args.header.now end) (c.as_slice.ensures.value ∙ c.in_ok-kept.ensures) ∙ end-right c.args.header.now c.args.first end c.args.bytes.now c.line_behind.ensures in
    let plain : Gives Memory (λ lines. lines) c.from_residual-in_err-lines.result (body_of c.args.header.now end c.as_slice.result.now) = search rules in
    subst (λ (spec : Result (List Line) ScriptError). Gives Memory (λ lines. lines) c.from_residual-in_err-lines.result spec) same plain
