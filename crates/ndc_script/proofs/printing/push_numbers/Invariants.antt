use Rattle.std.proofs.Common.{◌≡◌, ◌++◌, map, drop, decimal}
use Rattle.ndc_script_types.specs.Print.{behind_spaces}
use Rattle.ndc_script.proofs.printing.push_numbers.Given as goal

-- the text so far, with the numbers that are left, is the whole
abbrev pub invariant-loop-number : goal.invariant-loop-number
invariant-loop-number l =
    l.text.items ++ behind_spaces (map decimal (drop l.number-index l.numbers)) ≡ l.fn.text.items ++ behind_spaces (map decimal l.numbers)
