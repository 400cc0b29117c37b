use Rattle.std.proofs.Common.{◌≡◌, ◌+◌, ◌-◌, ◌++◌}
use Rattle.ndc_script.specs.Generate.{drawn_lines}
use Rattle.ndc_script.proofs.generating.push_drawn.Given as goal

-- the lines so far, with those that the state makes, are those of the seed
abbrev pub invariant-loop-place : goal.invariant-loop-place
invariant-loop-place l =
    l.lines.items ++ drawn_lines (l.count - l.place) (l.place + 1) l.state ≡ l.fn.lines.items ++ drawn_lines l.count 1 l.seed
