use Rattle.std.proofs.Common.{◌≡◌, ◌<◌, ◌≤◌, ◌^◌, true, length, drop}
use Rattle.std.specs.List.{list_all}
use Rattle.ndc_node_shapes.specs.Bytes.{is_digit, value_on}
use Rattle.ndc_node_shapes.proofs.piece.value_of.Given as goal

-- the value so far, over the digits that are left, is that of the number
abbrev pub invariant-loop-byte : goal.invariant-loop-byte
invariant-loop-byte l = record {
  value : value_on l.value (drop l.byte-index l.digits) ≡ value_on 0 l.digits;
  digits : list_all is_digit (drop l.byte-index l.digits) ≡ true;
  small : l.value < 10 ^ l.byte-index;
  short : length l.digits ≤ 18;
}
