use Rattle.std.proofs.Common.{◌≡◌, ◌≤◌, length, drop}
use Rattle.ndc_explain_picture.specs.Graph.{with_blocks}
use Rattle.ndc_explain_picture.proofs.graph.Graph.add_all.Given as goal

-- the blocks from this place on were gone over
abbrev pub invariant-loop-place : goal.invariant-loop-place
invariant-loop-place l = record {
  within : l.place ≤ length l.blocks;
  so_far : l.self ≡ with_blocks l.clusters l.keys (drop l.place l.blocks) l.initial.self;
}

abbrev pub decreases-loop-place : goal.decreases-loop-place
decreases-loop-place l = l.place
