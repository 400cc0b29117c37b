use Rattle.std.proofs.Common.{List, ◌++◌, ap, ◌∙◌}
use Rattle.ndc_resend.specs.declared.asking.GapOf.{GapOf}
use Rattle.ndc_resend.specs.PutOff.{gaps_of}
use Rattle.ndc_world_queries.proofs.gaps.add_shard.Goals as goal

pub returns : goal.returns
returns g c = c.in_ok-append.ensures.items ∙ ap (λ (l : List GapOf). c.args.gaps.now.items ++ l) (c.in_ok-more.ensures ∙ ap gaps_of c.cell_of-cell.ensures)
