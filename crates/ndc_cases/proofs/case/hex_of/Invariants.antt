use Rattle.std.proofs.Common.{◌≡◌, length}
use Rattle.ndc_script_read.proofs.LineLists.{behind}
use Rattle.ndc_cases.specs.Case.{hex_of}
use Rattle.ndc_cases.proofs.case.hex_of.Given as goal

-- the bytes so far, before those that the rest gives, are those of the text
abbrev pub invariant-loop-left : goal.invariant-loop-left
invariant-loop-left l = behind l.bytes.items (hex_of l.left) ≡ hex_of l.text

abbrev pub decreases-loop-left : goal.decreases-loop-left
decreases-loop-left l = length l.left
