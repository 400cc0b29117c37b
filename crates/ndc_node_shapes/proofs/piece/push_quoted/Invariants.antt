use Rattle.std.proofs.Common.{◌≡◌, ◌++◌, drop}
use Rattle.ndc_node_shapes.specs.Bytes.{escaped}
use Rattle.ndc_node_shapes.proofs.piece.push_quoted.Given as goal

abbrev pub invariant-loop-byte : goal.invariant-loop-byte
invariant-loop-byte l = l.text.items ++ escaped (drop l.byte-index l.bytes) ≡ l.initial.text.items ++ escaped l.bytes
