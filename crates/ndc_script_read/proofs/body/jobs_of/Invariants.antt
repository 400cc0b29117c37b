use Rattle.std.proofs.Common.{◌≡◌, All, drop}
use Rattle.ndc_script_read.specs.Body.{jobs_of}
use Rattle.ndc_script_types.specs.WellFormed.{IsWellFormedJob}
use Rattle.ndc_script_read.proofs.LineLists.{behind}
use Rattle.ndc_script_read.proofs.body.jobs_of.Given as goal

-- the jobs so far, before those of the lines that are left, are those of the burst
abbrev pub invariant-loop-line : goal.invariant-loop-line
invariant-loop-line l = record {
  read : behind l.jobs.items (jobs_of l.end l.name (drop l.line-index l.lines)) ≡ jobs_of l.end l.name l.lines;
  well_formed : All IsWellFormedJob l.jobs.items;
}
