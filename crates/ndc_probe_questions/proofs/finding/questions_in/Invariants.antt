use Rattle.std.proofs.Common.{◌≡◌, ◌+◌, ◌++◌, drop, map}
use Rattle.ndc_probe_questions.specs.Finding.{asked_from}
use Rattle.ndc_probe_questions.proofs.finding.questions_in.Given as goal

-- what was found so far, with what the lines ask that are left, is what all of them ask
abbrev pub invariant-loop-line : goal.invariant-loop-line
invariant-loop-line l = record {
  count : l.number ≡ l.line-index;
  found : l.asked.items ++ asked_from (l.line-index + 1) (map (λ line. line.now) (drop l.line-index l.line-items)) ≡ asked_from 1 (map (λ line. line.now) l.line-items);
}
