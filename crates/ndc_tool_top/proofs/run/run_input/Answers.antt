use Rattle.std.proofs.Common.{[], ◌∷◌, subst, sym}
use Rattle.ndc_dump.specs.Telling.{IsAmong, Streams}
use Rattle.ndc_tool_top.proofs.Endings.{front_end}
use Rattle.ndc_tool_top.proofs.FaultLemmas.{leaves, tells-line}
use Rattle.ndc_tool_top.proofs.run.run_input.Goals as goal

pub returns-in-Err-clause-unknown : goal.returns-in-Err-clause-unknown
returns-in-Err-clause-unknown g c = λ e. subst (λ n. IsAmong n (2 ∷ 8 ∷ [])) (sym c.end.ensures.status) (c.in-Err.ensures.unknown e).0

pub returns-in-Err-clause-unknown_source : goal.returns-in-Err-clause-unknown_source
returns-in-Err-clause-unknown_source g c = λ e. (c.in-Err.ensures.unknown e).1

pub returns-in-Err-clause-unknown_out : goal.returns-in-Err-clause-unknown_out
returns-in-Err-clause-unknown_out g c = λ e. (c.in-Err.ensures.unknown e).2

pub returns-in-Err-clause-front : goal.returns-in-Err-clause-front
returns-in-Err-clause-front g c = λ _.
    let source = g.S.Source in
    let sink = g.K.Sink in
    let old : Streams = record { left = source.left c.args.source.now; source_faults = source.faults c.args.source.now; written = sink.written c.args.out.now; out_faults = sink.faults c.args.out.now } in
    let new : Streams = record { left = source.left c.run.new.source; source_faults = source.faults c.run.new.source; written = sink.written c.run.new.out; out_faults = sink.faults c.run.new.out } in
    front_end _ c.args.index.now c.args.late.now old new c.in-Err.fault c.in-Err.ensures.fault

-- the fault is told, and leaves what its status says
pub returns-in-Err-clause-line : goal.returns-in-Err-clause-line
returns-in-Err-clause-line g c =
    let sink = g.E.Sink in
    tells-line (sink.written c.args.err.now) (sink.written c.end.new.err) (sink.faults c.args.err.now) (sink.faults c.end.new.err) c.in-Err.fault c.end.result c.end.ensures.status c.end.ensures.told

pub returns-in-Err-clause-rest : goal.returns-in-Err-clause-rest
returns-in-Err-clause-rest g c =
    let source = g.S.Source in
    leaves (source.left c.args.source.now) (source.left c.run.new.source) c.in-Err.fault c.end.result c.end.ensures.status c.in-Err.ensures.rest
