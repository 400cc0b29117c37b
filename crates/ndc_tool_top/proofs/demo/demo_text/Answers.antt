use Rattle.std.proofs.Common.{◌≡◌, ℕ, List, IfOk, subst}
use Rattle.ndc_script.specs.Generate.{generated_script}
use Rattle.ndc_tool_top.proofs.DemoLemmas.{demo_is}
use Rattle.ndc_tool_top.proofs.demo.demo_text.Goals as goal

pub returns : goal.returns
returns g c =
    let line = demo_is c.in_ok-script.script (generated_script c.args.count 0) c.in_ok-world.world c.in_ok-summary.summary c.in_ok-script.ensures.script
    c.in_ok-world.ensures.header c.in_ok-world.ensures.answers c.in_ok-world.ensures.refused c.in_ok-world.ensures.stands c.in_ok-summary.ensures in
    subst (λ (l : List ℕ). IfOk c.summary_line.result (λ text. text.items ≡ l)) line c.summary_line.ensures
