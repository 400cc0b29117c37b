use Rattle.std.proofs.Common.{◌≡◌, ◌++◌, drop}
use Rattle.ndc_explain_sides.specs.Sides.{alone_of}
use Rattle.ndc_explain_sides.proofs.sides.alone_of.Given as goal

-- the events so far, with those of the other batches, are all
abbrev pub invariant-loop-batch : goal.invariant-loop-batch
invariant-loop-batch l = l.alone.items ++ alone_of l.keys l.ends l.least (drop l.batch-index l.batches) ≡ alone_of l.keys l.ends l.least l.batches
