use Rattle.std.proofs.Common.{◌≡◌, ◌+◌, ◌≤◌, drop}
use Rattle.ndc_explain_top.specs.Sections.{count_of}
use Rattle.ndc_explain_top.proofs.section.count_of.Given as goal

abbrev pub invariant-loop-section : goal.invariant-loop-section
invariant-loop-section l = record {
  few : l.count ≤ l.section-index;
  rest : l.count + count_of l.mark (drop l.section-index l.sections) ≡ count_of l.mark l.sections;
}
