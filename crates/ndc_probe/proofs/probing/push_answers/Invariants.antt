use Rattle.std.proofs.Common.{◌≡◌, ◌++◌, drop}
use Rattle.std.specs.List.{flat_map}
use Rattle.ndc_probe.specs.Answers.{answer_to}
use Rattle.ndc_probe.proofs.probing.push_answers.Given as goal

-- the answers so far, with those that are left, are all
abbrev pub invariant-loop-one : goal.invariant-loop-one
invariant-loop-one l = l.answers.items ++ flat_map (answer_to l.header l.world.world) (drop l.one-index l.asked) ≡ flat_map (answer_to l.header l.world.world) l.asked
