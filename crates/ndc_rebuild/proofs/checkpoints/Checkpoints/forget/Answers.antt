use Rattle.ndc_rebuild.proofs.checkpoints.Checkpoints.forget.Goals as goal

pub returns-clause-states : goal.returns-clause-states
returns-clause-states c = rw (← c.self.view_is) c.shift_remove.ensures.entries
