use Rattle.ndc_port.proofs.Steps.{Sent_start, Sent_stop}
use Rattle.ndc_port.specs.Bytes.{AppendsFront}
use Rattle.ndc_tool_top.specs.Show.{shown_text}
use Rattle.ndc_world.proofs.Ends.{on_err}
use Rattle.ndc_tool_top.proofs.show.write_shown.Goals as goal

-- nothing was written yet
pub returns-in_err-text-clause-front : goal.returns-in_err-text-clause-front
returns-in_err-text-clause-front g c =
    let written = g.K.Sink.written c.args.out.now in
    let text = shown_text c.args.how c.args.dump.now in
    on_err (AppendsFront written written text) c.from_residual.result (Sent_stop written written text text (Sent_start written text))
