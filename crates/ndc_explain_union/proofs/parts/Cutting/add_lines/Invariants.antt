use Rattle.std.proofs.Common.{◌≡◌, drop, map}
use Rattle.ndc_explain_union.specs.Parts.{with_lines}
use Rattle.ndc_explain_union.proofs.parts.Cutting.add_lines.Given as goal

abbrev pub invariant-loop-line : goal.invariant-loop-line
invariant-loop-line l = with_lines (map (λ line. line.now) (drop l.line-index l.lines)) l.self ≡ with_lines (map (λ line. line.now) l.lines) l.initial.self
