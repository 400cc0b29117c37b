use Rattle.std.proofs.Common.{refl}
use Rattle.std.proofs.lemmas.Result.{err_from_is_err_and}
use Rattle.ndc_dump.specs.Telling.{Streams}
use Rattle.ndc_tool_top.proofs.FaultLemmas.{left-input}
use Rattle.ndc_tool_top.proofs.ShowEndings.{input_fault}
use Rattle.ndc_tool_top.proofs.ReadLemmas.{prints-as-read}
use Rattle.ndc_tool_top.proofs.show.show.Goals as goal

-- reading has written nothing
pub returns-in_err-dump-clause-fault : goal.returns-in_err-dump-clause-fault
returns-in_err-dump-clause-fault g c =
    let source = g.S.Source in
    let out = c.args.out.now in
    let old : Streams = record { left = source.left c.args.source.now; source_faults = source.faults c.args.source.now; written = g.K.Sink.written out; out_faults = g.K.Sink.faults out } in
    let new : Streams = record { left = source.left c.read_input.new.source; source_faults = source.faults c.read_input.new.source; written = g.K.Sink.written out; out_faults = g.K.Sink.faults out } in
    let p = err_from_is_err_and c.from_residual.result c.from_residual.ensures.1 in
    rw (p.1, p.2) (input_fault c.args.how old new c.in_err-dump.field-0.0 refl c.in_err-dump.ensures.fault)

pub returns-in_err-dump-clause-rest : goal.returns-in_err-dump-clause-rest
returns-in_err-dump-clause-rest g c =
    let source = g.S.Source in
    let p = err_from_is_err_and c.from_residual.result c.from_residual.ensures.1 in
    rw (p.1, p.2) (left-input (source.left c.args.source.now) (source.left c.read_input.new.source) c.in_err-dump.field-0.0 c.in_err-dump.ensures.rest)

-- what was read was a dump, and all that is shown of it was written
pub returns-in-Ok-clause-as_read : goal.returns-in-Ok-clause-as_read
returns-in-Ok-clause-as_read g c =
    let sink = g.K.Sink in
    prints-as-read c.args.how (g.S.Source.left c.args.source.now) (sink.written c.args.out.now) (sink.written c.write_shown.new.out) c.in_ok-dump.dump c.in_ok-dump.ensures.dump c.in_ok-dump.ensures.view c.in-Ok.ensures.whole
