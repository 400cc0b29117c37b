use Rattle.std.proofs.Common.{◌≡◌, ◌++◌, drop}
use Rattle.ndc_explain_sides.specs.Sides.{lost_of}
use Rattle.ndc_explain_sides.proofs.sides.lost_of.Given as goal

-- the events so far, with those of the other batches, are all
abbrev pub invariant-loop-batch : goal.invariant-loop-batch
invariant-loop-batch l = l.lost.items ++ lost_of l.keys l.partings l.latest (drop l.batch-index l.batches) ≡ lost_of l.keys l.partings l.latest l.batches
