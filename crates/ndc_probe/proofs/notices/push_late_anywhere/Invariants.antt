use Rattle.std.proofs.Common.{◌≡◌, ◌++◌}
use Rattle.std.specs.List.{flat_map, range_with_len}
use Rattle.ndc_probe.specs.Notices.{late_from}
use Rattle.ndc_probe.proofs.notices.push_late_anywhere.Given as goal

-- the lines of the sources so far
abbrev pub invariant-loop-number : goal.invariant-loop-number
invariant-loop-number l = l.text.items ≡ l.initial.text.items ++ flat_map (late_from l.header l.reader l.domain l.world.world) (range_with_len 0 l.number)
