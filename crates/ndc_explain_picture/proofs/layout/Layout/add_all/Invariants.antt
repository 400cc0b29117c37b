use Rattle.std.proofs.Common.{◌≡◌, drop}
use Rattle.ndc_explain_picture.specs.Layout.{with_blocks}
use Rattle.ndc_explain_picture.proofs.layout.Layout.add_all.Given as goal

abbrev pub invariant-loop-block : goal.invariant-loop-block
invariant-loop-block l = with_blocks l.clusters (drop l.block-index l.blocks) l.self ≡ with_blocks l.clusters l.blocks l.initial.self
