use Rattle.ndc_dump.specs.Telling.{Streams}
use Rattle.ndc_tool_top.proofs.ShowEndings.{shown_end}
use Rattle.ndc_tool_top.proofs.FaultLemmas.{leaves, tells-cause}
use Rattle.ndc_tool_top.proofs.show.show_input.Goals as goal

pub returns-in-Err-clause-front : goal.returns-in-Err-clause-front
returns-in-Err-clause-front g c = λ _.
    let source = g.S.Source in
    let sink = g.K.Sink in
    let old : Streams = record { left = source.left c.args.source.now; source_faults = source.faults c.args.source.now; written = sink.written c.args.out.now; out_faults = sink.faults c.args.out.now } in
    let new : Streams = record { left = source.left c.show.new.source; source_faults = source.faults c.show.new.source; written = sink.written c.show.new.out; out_faults = sink.faults c.show.new.out } in
    shown_end c.args.how old new c.in-Err.fault c.in-Err.ensures.fault

-- the fault is told, and leaves what its status says
pub returns-in-Err-clause-cause : goal.returns-in-Err-clause-cause
returns-in-Err-clause-cause g c =
    let sink = g.E.Sink in
    tells-cause (sink.written c.args.err.now) (sink.written c.end.new.err) (sink.faults c.args.err.now) (sink.faults c.end.new.err) c.in-Err.fault c.end.result c.end.ensures.status c.end.ensures.told

pub returns-in-Err-clause-rest : goal.returns-in-Err-clause-rest
returns-in-Err-clause-rest g c =
    let source = g.S.Source in
    leaves (source.left c.args.source.now) (source.left c.show.new.source) c.in-Err.fault c.end.result c.end.ensures.status c.in-Err.ensures.rest
