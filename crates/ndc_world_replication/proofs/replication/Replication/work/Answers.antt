use Rattle.std.proofs.Common.{sym, subst, ◌∙◌}
use Rattle.ndc_model.specs.Fair.{IsShaped}
use Rattle.ndc_model.specs.Moves.{all_reapply, from_world}
use Rattle.ndc_world_replication.proofs.OrderlyLemmas.{orderly_arrived, orderly_reapplied}
use Rattle.ndc_world_replication.proofs.TraceLemmas.{worked_notes, worked_world}
use Rattle.ndc_model.specs.Conditions.{MayDoAll}
use Rattle.ndc_world_replication.specs.Dones.{notes_in}
use Rattle.ndc_world_replication.specs.Orderly.{IsOrderly}
use Rattle.ndc_world_replication.proofs.replication.Replication.work.Goals as goal

pub reapply-requires-clause-shaped : goal.reapply-requires-clause-shaped
reapply-requires-clause-shaped g c κs within =
    subst (IsShaped c.args.header.now) (sym c.in_ok-arrived.ensures.arrived) (orderly_arrived c.args.header.now c.args.self.now c.requires.orderly c.args.reader c.requires.reader).shaped

pub reapply-requires-clause-allowed : goal.reapply-requires-clause-allowed
reapply-requires-clause-allowed g c κs within =
    subst (MayDoAll g.C.Cell.allows c.args.header.now c.args.reader (all_reapply c.args.header.now)) (sym c.in_ok-arrived.ensures.arrived) c.requires.allowed.reapply

pub renew-requires-clause-orderly : goal.renew-requires-clause-orderly
renew-requires-clause-orderly g c =
    subst (IsOrderly c.args.header.now) (sym c.in_ok-reapplied.ensures.reapplied)
    (orderly_reapplied c.args.header.now (from_world c.arrive.new.self)
    (subst (IsOrderly c.args.header.now) (sym c.in_ok-arrived.ensures.arrived) (orderly_arrived c.args.header.now c.args.self.now c.requires.orderly c.args.reader c.requires.reader)) c.args.reader c.requires.reader)

pub returns-clause-worked : goal.returns-clause-worked
returns-clause-worked g c =
    c.renew.ensures ∙ worked_world c.args.header.now c.args.reader c.args.self.now c.arrive.new.self c.reapply.new.self c.in_ok-arrived.ensures.arrived c.in_ok-reapplied.ensures.reapplied

pub returns-clause-notes : goal.returns-clause-notes
returns-clause-notes g c =
    worked_notes c.args.header.now c.args.reader c.args.self.now c.arrive.new.self c.reapply.new.self c.in_ok-arrived.ensures.arrived (notes_in c.in_ok-arrived.arrived) (notes_in c.in_ok-reapplied.reapplied)
    c.in_ok-arrived.ensures.notes c.in_ok-reapplied.ensures.notes
