use Rattle.std.proofs.Common.{◌≡◌, ◌++◌, drop}
use Rattle.std.specs.List.{flat_map}
use Rattle.ndc_explain.specs.Losses.{alone_told}
use Rattle.ndc_explain.proofs.losses.push_each_alone.Given as goal

-- the text so far, with what is left, is the whole
abbrev pub invariant-loop-trace : goal.invariant-loop-trace
invariant-loop-trace l = l.text.items ++ flat_map (alone_told l.clusters l.all) (drop l.trace-index l.alone)
    ≡ l.initial.text.items ++ flat_map (alone_told l.clusters l.all) l.alone
