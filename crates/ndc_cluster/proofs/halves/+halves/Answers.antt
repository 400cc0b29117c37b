use Rattle.std.proofs.Common.{length, ◌/◌}
use Rattle.ndc_cluster.proofs.EachLemmas.{each_cut}
use Rattle.ndc_cluster.proofs.halves.+halves.Goals as goal

pub work_all-returns-in_default : goal.work_all-returns-in_default
work_all-returns-in_default g t c =
    each_cut g.P.Work.worked c.args.pieces.now c.split_at_mut-front.result.0.now c.split_at_mut-front.result.1.now (length c.args.pieces.now / 2) c.work_halves.new.front c.work_halves.new.back
    c.split_at_mut-front.ensures.front c.split_at_mut-front.ensures.back c.work_halves.ensures.front c.work_halves.ensures.back
