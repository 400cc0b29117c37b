use Rattle.std.proofs.Common.{◌≡◌, ◌++◌, drop}
use Rattle.ndc_model.specs.Allowed.{burst_jobs}
use Rattle.ndc_world.proofs.bursts.jobs_of.Given as goal

abbrev pub invariant-loop-one : goal.invariant-loop-one
invariant-loop-one l = l.jobs.items ++ burst_jobs l.fn.header (drop l.one-index l.burst) ≡ burst_jobs l.fn.header l.burst
