use Rattle.std.proofs.Common.{◌≡◌, drop}
use Rattle.ndc_script_read.specs.Body.{body_behind, body_of}
use Rattle.ndc_script_types.specs.WellFormed.{AreWellFormedLines}
use Rattle.ndc_script_read.proofs.LineLists.{behind}
use Rattle.ndc_script_read.proofs.body.body_of.Given as goal

-- the lines read so far, before those that the rest gives, are those of the body
abbrev pub invariant-loop-place : goal.invariant-loop-place
invariant-loop-place l = record {
  read : behind l.body.items (body_behind l.header l.end l.within (drop l.place l.lines)) ≡ body_of l.header l.end l.lines;
  well_formed : AreWellFormedLines l.header l.body.items;
}
