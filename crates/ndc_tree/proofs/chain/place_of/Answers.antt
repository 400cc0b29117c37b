use Rattle.std.proofs.Common.{length, sym, ◌-◌}
use Rattle.ndc_tree.proofs.LastPlace.{at_last, behind_last, last_place}
use Rattle.ndc_tree.proofs.chain.place_of.Goals as goal

pub returns-then-is_before-clause-absent : goal.returns-then-is_before-clause-absent
returns-then-is_before-clause-absent c =
    behind_last c.args.key c.args.batches.now (length c.args.batches.now - 1) c.requires (last_place (length c.args.batches.now) (sym c.if-is_empty.ensures)) c.index-batches-last.result (sym c.if-is_before.ensures)

pub returns-then-not-is_before-clause-found : goal.returns-then-not-is_before-clause-found
returns-then-not-is_before-clause-found c =
    at_last c.args.key c.args.batches.now (length c.args.batches.now - 1) c.requires (last_place (length c.args.batches.now) (sym c.if-is_empty.ensures)) c.index-batches-last.result (sym c.if-is_before.ensures) (sym c.if-not-is_before.ensures)
