use Rattle.std.proofs.Common.{◌≡◌, ◌++◌, drop}
use Rattle.std.specs.List.{flat_map}
use Rattle.ndc_explain.specs.Losses.{loss_told}
use Rattle.ndc_explain.proofs.losses.push_losses.Given as goal

-- the text so far, with what is left, is the whole
abbrev pub invariant-loop-loss : goal.invariant-loop-loss
invariant-loop-loss l = l.text.items ++ flat_map (loss_told l.clusters l.all l.both) (drop l.loss-index l.lost)
    ≡ l.initial.text.items ++ flat_map (loss_told l.clusters l.all l.both) l.lost
