use Rattle.std.proofs.Common.{◌≡◌, ◌≤◌, ◌+◌, ◌-◌, length, drop}
use Rattle.ndc_node_shapes.specs.Bytes.{digits_of}
use Rattle.ndc_node_shapes.proofs.piece.count_digits.Given as goal

abbrev pub invariant-loop-count : goal.invariant-loop-count
invariant-loop-count l = record {
  within : l.count ≤ length l.left;
  same : l.count + length (digits_of (drop l.count l.left)) ≡ length (digits_of l.left);
}

abbrev pub decreases-loop-count : goal.decreases-loop-count
decreases-loop-count l = length l.left - l.count
