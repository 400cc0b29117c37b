use Rattle.std.proofs.Common.{◌≡◌, ◌++◌, drop}
use Rattle.ndc_explain_top.specs.Report.{sections_of}
use Rattle.ndc_explain_top.proofs.report.sections_of.Given as goal

abbrev pub invariant-loop-place : goal.invariant-loop-place
invariant-loop-place l = l.sections.items ++ sections_of l.request l.named (drop l.place l.groups) ≡ sections_of l.request l.named l.groups
