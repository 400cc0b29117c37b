use Rattle.std.proofs.Common.{◌≡◌, false, drop}
use Rattle.ndc_node_shapes.specs.Bytes.{unquoted, with_items}
use Rattle.ndc_node_shapes.proofs.piece.take_unquoted.Given as goal

-- the bytes so far, before those of the rest, are those of all
abbrev pub invariant-loop-place : goal.invariant-loop-place
invariant-loop-place l = with_items l.bytes.items (unquoted l.marked (drop l.place l.left)) ≡ unquoted false l.left
