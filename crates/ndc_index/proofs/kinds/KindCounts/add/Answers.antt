use Rattle.ndc_index.proofs.KindLemmas.{counted_put, uncounted_put}
use Rattle.ndc_index.proofs.kinds.KindCounts.add.Goals as goal

pub returns-in_ok-entry-in-Ok-clause-added : goal.returns-in_ok-entry-in-Ok-clause-added
returns-in_ok-entry-in-Ok-clause-added c =
    counted_put _ c.self.inside.items.items c.as_slice.result.now c.args.self.now c.args.name.now c.in-Ok.place c.index.result.now c.in_ok-entry-in-Ok.entry c.self.view_is c.as_slice.ensures.value
    c.in-Ok.ensures.counted c.index.ensures c.in_ok-entry-in-Ok.ensures.name c.in_ok-entry-in-Ok.ensures.count

pub returns-in_ok-insert-in-Err-clause-added : goal.returns-in_ok-insert-in-Err-clause-added
returns-in_ok-insert-in-Err-clause-added c =
    uncounted_put _ c.self.inside.items.items c.as_slice.result.now c.insert.new.self.items c.args.self.now c.args.name.now c.in-Err.place _ c.self.view_is c.as_slice.ensures.value c.in-Err.ensures.uncounted (λ i. (c.in_ok-name-in-Err.ensures i, 1))
    c.in_ok-insert-in-Err.ensures.items
