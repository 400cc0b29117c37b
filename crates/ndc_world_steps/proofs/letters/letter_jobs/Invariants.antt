use Rattle.std.proofs.Common.{◌≡◌, ◌++◌, drop}
use Rattle.std.specs.List.{filter_map}
use Rattle.ndc_model.specs.Letters.{letter_job}
use Rattle.ndc_world_steps.proofs.letters.letter_jobs.Given as goal

abbrev pub invariant-loop-place : goal.invariant-loop-place
invariant-loop-place g l = l.jobs.items ++ filter_map (letter_job l.header l.replication) (drop l.place l.letters) ≡ filter_map (letter_job l.header l.replication) l.letters
