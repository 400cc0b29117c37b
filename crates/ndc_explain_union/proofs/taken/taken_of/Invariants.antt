use Rattle.std.proofs.Common.{◌≡◌, ◌+◌, drop}
use Rattle.ndc_explain_union.specs.Takings.{behind, taken_on}
use Rattle.ndc_explain_union.proofs.taken.taken_of.Given as goal

-- the dumps so far, with those of the parts that are left, are all
abbrev pub invariant-loop-part : goal.invariant-loop-part
invariant-loop-part l = record {
  number : l.number ≡ l.part-index + 1;
  taken : behind l.list.items (taken_on l.bare l.number (drop l.part-index l.parts)) ≡ taken_on l.bare 1 l.parts;
}
