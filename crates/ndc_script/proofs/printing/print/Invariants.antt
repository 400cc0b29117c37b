use Rattle.std.proofs.Common.{◌≡◌, ◌++◌, drop}
use Rattle.std.specs.List.{flat_map}
use Rattle.ndc_script_types.specs.Print.{lines_text, act_lines, script_text}
use Rattle.ndc_script.proofs.printing.print.Given as goal

-- the text so far, with the lines that are left, is that of the script
abbrev pub invariant-loop-line : goal.invariant-loop-line
invariant-loop-line l =
    l.text.items ++ flat_map (λ line. lines_text (act_lines l.script.header line.act)) (drop l.line-index l.line-items) ≡ script_text l.script
