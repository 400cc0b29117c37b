use Rattle.std.proofs.Common.{◌≡◌, ◌≤◌, length}
use Rattle.indexmap.specs.IndexMap.{insert_all, spare}
use Rattle.ndc_progress.specs.Reports.{same_activity}
use Rattle.ndc_progress.proofs.progress.put_all.Given as goal

abbrev pub invariant-loop-activity : goal.invariant-loop-activity
invariant-loop-activity l =
    (goal.iterator-loop-activity).can_next l.activity-iterator
    × (goal.iterator-loop-activity).is_finite l.activity-iterator
    × (insert_all same_activity l.reports.entries l.activity-iterator.rest.items ≡ insert_all same_activity l.initial.reports.entries l.fn.taken.items)
    × (length l.activity-iterator.rest.items ≤ spare l.reports)
