use Rattle.std.proofs.Common.{length, ◌/◌}
use Rattle.ndc_cluster.proofs.EachLemmas.{each_cut}
use Rattle.ndc_cluster.proofs.halves.+work_in_turn.Goals as goal

pub returns-in_default : goal.returns-in_default
returns-in_default g t c =
    each_cut g.P.Work.worked c.args.pieces.now c.split_at_mut-front.result.0.now c.split_at_mut-front.result.1.now (length c.args.pieces.now / 2) c.work_in_turn-in_default.new.pieces c.work_in_turn.new.pieces
    c.split_at_mut-front.ensures.front c.split_at_mut-front.ensures.back c.work_in_turn-in_default.ensures c.work_in_turn.ensures
