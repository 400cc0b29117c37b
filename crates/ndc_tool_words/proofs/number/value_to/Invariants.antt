use Rattle.std.proofs.Common.{◌≡◌, true, drop}
use Rattle.std.specs.List.{list_all}
use Rattle.ndc_script_words.specs.Number.{is_digit, value_on}
use Rattle.ndc_tool_words.proofs.number.value_to.Given as goal

-- the value so far, over the digits that are left, is that of the number
abbrev pub invariant-loop-byte : goal.invariant-loop-byte
invariant-loop-byte l = record {
  value : value_on l.value (drop l.byte-index l.word) ≡ value_on 0 l.word;
  digits : list_all is_digit (drop l.byte-index l.word) ≡ true;
}
