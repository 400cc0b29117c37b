use Rattle.std.proofs.Common.{refl}
use Rattle.ndc_script_types.specs.Print.{script_text}
use Rattle.ndc_script.specs.Generate.{generated_script}
use Rattle.ndc_tool_top.specs.Demo.{demo_text}
use Rattle.ndc_tool_top.proofs.AskingLemmas.{if_demo, if_made, run_front, shown_front}
use Rattle.ndc_tool_top.proofs.Endings.{nothing_written}
use Rattle.ndc_tool_top.proofs.top.ndc_top.Goals as goal

-- nothing was read
pub returns-clause-made_source : goal.returns-clause-made_source
returns-clause-made_source g c = if_made _ _ (λ _ _. refl)

pub returns-clause-demo_source : goal.returns-clause-demo_source
returns-clause-demo_source g c = if_demo _ _ (λ _. refl)

-- nothing was written
pub returns-clause-front : goal.returns-clause-front
returns-clause-front g c =
    let left = g.S.Source.left c.args.source.now in
    let written = g.K.Sink.written c.args.out.now in
    run_front left written written _ refl _ _

pub returns-clause-shown_front : goal.returns-clause-shown_front
returns-clause-shown_front g c =
    let left = g.S.Source.left c.args.source.now in
    let written = g.K.Sink.written c.args.out.now in
    shown_front left written written _ refl _

pub returns-clause-made_front : goal.returns-clause-made_front
returns-clause-made_front g c =
    let written = g.K.Sink.written c.args.out.now in
    if_made _ _ (λ count seed. nothing_written written written (script_text (generated_script count seed)) refl)

pub returns-clause-demo_front : goal.returns-clause-demo_front
returns-clause-demo_front g c =
    let written = g.K.Sink.written c.args.out.now in
    if_demo _ _ (λ count. nothing_written written written (demo_text (generated_script count 0)) refl)
