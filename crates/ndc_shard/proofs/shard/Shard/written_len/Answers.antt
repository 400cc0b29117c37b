use Rattle.std.proofs.Common.{length, ap, arith}
use Rattle.ndc_model_cells.specs.Cells.{Cell}
use Rattle.ndc_shard.proofs.SentLemmas.{many-sent}
use Rattle.ndc_shard.proofs.shard.Shard.written_len.Goals as goal

pub returns : goal.returns
returns c =
    omega (arith, many-sent c.self.inside.workflows c.self.inside.places.items c.self.invariant.sent, ap (λ (cell : Cell). length cell.written) c.self.view_is)
