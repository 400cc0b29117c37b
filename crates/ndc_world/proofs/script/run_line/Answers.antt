use Rattle.ndc_model.specs.Lines.{answers_of}
use Rattle.ndc_port.proofs.Steps.{Sent_start, Sent_stop}
use Rattle.ndc_world.specs.Rest.{at_world}
use Rattle.ndc_world.proofs.Ends.{on_err}
use Rattle.ndc_world.proofs.script.run_line.Goals as goal
use Rattle.ndc_world.specs.Running.{ran_at}

-- nothing was written yet
pub returns-in_err-text-clause-front : goal.returns-in_err-text-clause-front
returns-in_err-text-clause-front g c =
    let written = g.K.Sink.written c.args.out.now in
    on_err _ c.from_residual.result (λ w _. Sent_stop written written (answers_of (ran_at (at_world c.args.world.now w) c.args.line.now)) (answers_of (ran_at (at_world c.args.world.now w) c.args.line.now)) (Sent_start written (answers_of (ran_at (at_world c.args.world.now w) c.args.line.now))))
