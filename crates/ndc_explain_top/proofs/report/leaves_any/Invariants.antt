use Rattle.std.proofs.Common.{◌≡◌, drop}
use Rattle.std.specs.List.{list_any}
use Rattle.ndc_explain_top.specs.Sections.{leaves}
use Rattle.ndc_explain_top.proofs.report.leaves_any.Given as goal

abbrev pub invariant-loop-section : goal.invariant-loop-section
invariant-loop-section l = list_any (λ section. leaves section.marks) (drop l.section-index l.sections) ≡ list_any (λ section. leaves section.marks) l.sections
