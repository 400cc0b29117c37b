use Rattle.std.proofs.Common.{◌≡◌, ◌++◌, drop}
use Rattle.std.specs.List.{flat_map}
use Rattle.ndc_explain_top.specs.Sections.{taking_shown}
use Rattle.ndc_explain_top.proofs.section.push_each_shown.Given as goal

abbrev pub invariant-loop-taken : goal.invariant-loop-taken
invariant-loop-taken l = l.text.items ++ flat_map taking_shown (drop l.taken-index l.dumps) ≡ l.initial.text.items ++ flat_map taking_shown l.dumps
