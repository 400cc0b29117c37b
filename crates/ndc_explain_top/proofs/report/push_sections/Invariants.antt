use Rattle.std.proofs.Common.{◌≡◌, ◌++◌, drop}
use Rattle.std.specs.List.{flat_map}
use Rattle.ndc_explain_top.specs.Report.{section_told}
use Rattle.ndc_explain_top.proofs.report.push_sections.Given as goal

abbrev pub invariant-loop-section : goal.invariant-loop-section
invariant-loop-section l = l.text.items ++ flat_map (section_told l.summed) (drop l.section-index l.sections) ≡ l.initial.text.items ++ flat_map (section_told l.summed) l.sections
