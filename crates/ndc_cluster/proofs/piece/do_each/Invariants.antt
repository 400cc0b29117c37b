use Rattle.std.proofs.Common.{◌≡◌, ◌++◌, map, drop}
use Rattle.ndc_model_cells.specs.Conditions.{MayDo}
use Rattle.ndc_cluster.specs.Rounds.{cell_after, cell_replies}
use Rattle.ndc_cluster.proofs.piece.do_each.Given as goal

abbrev pub invariant-loop-place : goal.invariant-loop-place
invariant-loop-place g l =
    (l.slot.jobs ≡ l.initial.slot.jobs)
    × MayDo g.C.Cell.allows l.desk (map (λ job. job.now) (drop l.place l.slot.jobs.items)) (g.C.Cell.cell l.slot.cell)
    × (cell_after l.desk (map (λ job. job.now) (drop l.place l.slot.jobs.items)) (g.C.Cell.cell l.slot.cell) ≡ cell_after l.desk (map (λ job. job.now) l.initial.slot.jobs.items) (g.C.Cell.cell l.initial.slot.cell))
    × (l.slot.replies.items ++ cell_replies l.desk (map (λ job. job.now) (drop l.place l.slot.jobs.items)) (g.C.Cell.cell l.slot.cell)
    ≡ l.initial.slot.replies.items ++ cell_replies l.desk (map (λ job. job.now) l.initial.slot.jobs.items) (g.C.Cell.cell l.initial.slot.cell))
