use Rattle.std.proofs.Common.{◌≡◌, map, take}
use Rattle.ndc_node_frames.specs.Parts.{member_value}
use Rattle.ndc_node_frames.proofs.record.numbers_in.Given as goal

abbrev pub invariant-loop-member : goal.invariant-loop-member
invariant-loop-member l = l.numbers.items ≡ map member_value (take l.member-index l.list)
