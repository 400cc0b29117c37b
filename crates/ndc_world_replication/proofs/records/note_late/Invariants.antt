use Rattle.std.proofs.Common.{◌≡◌, ◌++◌, drop, map, take}
use Rattle.ndc_model.specs.World.{with_late}
use Rattle.ndc_world_replication.proofs.records.note_late.Given as goal

abbrev pub invariant-loop-place : goal.invariant-loop-place
invariant-loop-place l = l.links.items ≡ map (with_late l.source l.before l.after) (take l.place l.initial.links.items) ++ drop l.place l.initial.links.items
