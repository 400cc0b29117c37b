use Rattle.std.proofs.Common.{◌≡◌, ◌++◌, drop}
use Rattle.ndc_probe.specs.Late.{late_lines}
use Rattle.ndc_probe.proofs.late.push_late_lines.Given as goal

-- the text so far, with the lines of what is left, is the whole
abbrev pub invariant-loop-domain : goal.invariant-loop-domain
invariant-loop-domain l = l.text.items ++ late_lines l.reader l.source (drop l.domain-index l.domains) ≡ l.initial.text.items ++ late_lines l.reader l.source l.domains
