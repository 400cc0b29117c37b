use Rattle.std.proofs.Common.{[]}
use Rattle.ndc_dump.proofs.PieceLemmas.{on_err}
use Rattle.ndc_dump.specs.Faults.{dump_line}
use Rattle.ndc_explain_top.specs.Top.{spot_head}
use Rattle.ndc_explain_top.proofs.Fronts.{front-of, on-front}
use Rattle.ndc_explain_top.proofs.fault.tell_dump_line.Goals as goal

-- a prefix of where the dump stands
pub returns-in_err-tell_spot-clause-front : goal.returns-in_err-tell_spot-clause-front
returns-in_err-tell_spot-clause-front g c =
    on_err _ c.from_residual.result (front-of (g.E.Sink.written c.args.err.now) (spot_head c.args.spot.now) (dump_line [] c.args.line c.args.cause) _ c.in_err-tell_spot.ensures.front)

-- that, and a prefix of the rest
pub returns-clause-front : goal.returns-clause-front
returns-clause-front g c =
    on-front (g.E.Sink.written c.args.err.now) (spot_head c.args.spot.now) (dump_line [] c.args.line c.args.cause) _ _ c.tell_line.result c.in_ok-tell_spot.ensures.whole c.tell_line.ensures.front
