use Rattle.std.proofs.Common.{◌-◌, ◌/◌, ◌<◌, slice_index_or, arith, rules, tests}
use Rattle.ndc_script_words.specs.Number.{value_on}
use Rattle.ndc_tool_words.proofs.Digits.{number_past}
use Rattle.ndc_tool_words.proofs.number.value_to.Goals as goal

pub returns-then-value-digit : goal.returns-then-value-digit
returns-then-value-digit c =
    let digit : (18446744073709551615 - (slice_index_or c.args.word.now c.loop-byte.byte-index 0 - 48)) / 10 < c.loop-byte.value =
    rw (← c.from-digit.ensures) c.if-value-digit.true in
    let past = number_past c.args.word.now c.loop-byte.value c.loop-byte.byte-index c.loop-byte.invariant.value c.loop-byte-test.true digit in
    let most : c.args.most < value_on 0 c.args.word.now = omega (arith, past, c.ranges.most.fits) in
    search (rules, tests)
