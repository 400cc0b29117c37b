use Rattle.std.proofs.Common.{◌≡◌, drop}
use Rattle.ndc_world_steps.specs.Versions.{version_reaching}
use Rattle.ndc_world_steps.proofs.activities.version_in.Given as goal

abbrev pub invariant-loop-item : goal.invariant-loop-item
invariant-loop-item l = version_reaching l.id (drop l.item-index l.items) ≡ version_reaching l.id l.items
