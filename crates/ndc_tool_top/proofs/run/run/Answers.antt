use Rattle.std.proofs.Common.{Err, inl, inr, ◌∙◌, ap, refl, sym}
use Rattle.std.proofs.lemmas.Bool.{false≢true}
use Rattle.ndc_laws_program.proofs.PromiseLemmas.{keeps_promises}
use Rattle.ndc_world.proofs.SeatLemmas.{reports_front, reports_whole, seated_chosen, unknown_chosen}
use Rattle.ndc_dump.specs.Telling.{Streams}
use Rattle.ndc_tool_top.proofs.Endings.{read_fault, stops_within, succeeds}
use Rattle.ndc_tool_top.proofs.run.run.Goals as goal

pub returns-in-Err-UnknownIndexer-clause-fault : goal.returns-in-Err-UnknownIndexer-clause-fault
returns-in-Err-UnknownIndexer-clause-fault g c = (unknown_chosen _ c.args.index.now c.args.late.now c.requires.differ (c.in-Err-UnknownIndexer.ensures.unknown (ap (λ e. Err e) c.in-Err-UnknownIndexer.field-0-is)), refl)

pub returns-in-Err-Memory-clause-fault : goal.returns-in-Err-Memory-clause-fault
returns-in-Err-Memory-clause-fault g c = inl refl

-- reading has written nothing
pub returns-in-Err-clause-fault : goal.returns-in-Err-clause-fault
returns-in-Err-clause-fault g c =
    let source = g.S.Source in
    let out = c.args.out.now in
    let old : Streams = record { left = source.left c.args.source.now; source_faults = source.faults c.args.source.now; written = g.K.Sink.written out; out_faults = g.K.Sink.faults out } in
    let new : Streams = record { left = source.left c.read_script.new.source; source_faults = source.faults c.read_script.new.source; written = g.K.Sink.written out; out_faults = g.K.Sink.faults out } in
    read_fault _ c.args.index.now c.args.late.now old new c.in-Err.fault refl c.in-Err.ensures.fault

pub returns-in-Err-clause-unknown : goal.returns-in-Err-clause-unknown
returns-in-Err-clause-unknown g c = λ e.
    let seated = seated_chosen _ c.args.index.now c.args.late.now _ _ c.requires.differ c.in-Ok.ensures.chosen in
    absurd (false≢true (sym e ∙ seated.both_known))

-- after the choice of indexers none was refused
pub returns-in-Ok-run_script-clause-unknown : goal.returns-in-Ok-run_script-clause-unknown
returns-in-Ok-run_script-clause-unknown g c = λ e.
    let seated = seated_chosen _ c.args.index.now c.args.late.now _ _ c.requires.differ c.in-Ok.ensures.chosen in
    absurd (false≢true (sym e ∙ seated.both_known))

pub returns-clause-unknown : goal.returns-clause-unknown
returns-clause-unknown g c = λ e.
    let seated = seated_chosen _ c.args.index.now c.args.late.now _ _ c.requires.differ c.in-Ok.ensures.chosen in
    absurd (false≢true (sym e ∙ seated.both_known))

pub returns-in-Ok-run_script-clause-known : goal.returns-in-Ok-run_script-clause-known
returns-in-Ok-run_script-clause-known g c = (seated_chosen _ c.args.index.now c.args.late.now _ _ c.requires.differ c.in-Ok.ensures.chosen).both_known

pub returns-in-Ok-run_script-clause-done : goal.returns-in-Ok-run_script-clause-done
returns-in-Ok-run_script-clause-done g c =
    let seated = seated_chosen _ c.args.index.now c.args.late.now _ _ c.requires.differ c.in-Ok.ensures.chosen in
    let script = c.in-Ok-read_script.script in
    let before = g.K.Sink.written c.args.out.now in
    let after = g.K.Sink.written c.run_script.new.out in
    succeeds _ c.args.index.now c.args.late.now (g.S.Source.left c.args.source.now) script c.in-Ok-read_script.ensures.script before after (g.S.Source.left c.read_script.new.source) c.in-Ok-read_script.ensures.end
    (reports_whole _ script c.args.index.now c.args.late.now _ _ c.requires.new seated before after c.in-Ok-run_script.ensures.whole) (keeps_promises script c.in-Ok-read_script.ensures.well_formed)

pub returns-in-Err-Write-clause-unknown : goal.returns-in-Err-Write-clause-unknown
returns-in-Err-Write-clause-unknown g c = λ e.
    let seated = seated_chosen _ c.args.index.now c.args.late.now _ _ c.requires.differ c.in-Ok.ensures.chosen in
    absurd (false≢true (sym e ∙ seated.both_known))

pub returns-in-Err-Write-clause-fault : goal.returns-in-Err-Write-clause-fault
returns-in-Err-Write-clause-fault g c =
    let seated = seated_chosen _ c.args.index.now c.args.late.now _ _ c.requires.differ c.in-Ok.ensures.chosen in
    let script = c.in-Ok-read_script.script in
    let before = g.K.Sink.written c.args.out.now in
    let after = g.K.Sink.written c.run_script.new.out in (
      (c.in-Err-Write.ensures.cause (ap (λ e. Err e) c.in-Err-Write.field-0-is)),
      stops_within _ c.args.index.now c.args.late.now (g.S.Source.left c.args.source.now) script c.in-Ok-read_script.ensures.script before after
          (reports_front _ script c.args.index.now c.args.late.now _ _ c.requires.new seated before after c.in-Err-Write.ensures.front) (keeps_promises script c.in-Ok-read_script.ensures.well_formed),
    )

pub returns-clause-fault : goal.returns-clause-fault
returns-clause-fault g c =
    let seated = seated_chosen _ c.args.index.now c.args.late.now _ _ c.requires.differ c.in-Ok.ensures.chosen in
    let script = c.in-Ok-read_script.script in
    let before = g.K.Sink.written c.args.out.now in
    let after = g.K.Sink.written c.run_script.new.out in
    inr (stops_within _ c.args.index.now c.args.late.now (g.S.Source.left c.args.source.now) script c.in-Ok-read_script.ensures.script before after
    (reports_front _ script c.args.index.now c.args.late.now _ _ c.requires.new seated before after c.in-Err-Memory-run_script.ensures.front)
    (keeps_promises script c.in-Ok-read_script.ensures.well_formed))
