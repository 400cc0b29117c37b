use Rattle.std.proofs.Common.{◌≡◌, ◌≤◌, drop}
use Rattle.ndc_node_shapes.specs.Objects.{rest_after}
use Rattle.ndc_node_shapes.specs.declared.object.Place.TheVariants.{Outside}
use Rattle.ndc_node_shapes.proofs.object.count_to_end.Given as goal

abbrev pub invariant-loop-index : goal.invariant-loop-index
invariant-loop-index l = record {
  same : rest_after l.place l.inner (drop l.index l.bytes) ≡ rest_after Outside 0 l.bytes;
  few : l.inner ≤ l.index;
}
