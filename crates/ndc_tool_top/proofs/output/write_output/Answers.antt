use Rattle.std.proofs.Common.{refl}
use Rattle.ndc_tool_top.proofs.Endings.{nothing_written}
use Rattle.ndc_tool_top.proofs.output.write_output.Goals as goal

-- nothing was written
pub returns-in-Err-clause-front : goal.returns-in-Err-clause-front
returns-in-Err-clause-front g c = λ bytes _. nothing_written (g.K.Sink.written c.args.out.now) (g.K.Sink.written c.args.out.now) bytes refl
