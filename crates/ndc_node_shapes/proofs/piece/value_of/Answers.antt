use Rattle.std.proofs.Common.{◌<◌, arith}
use Rattle.ndc_node_shapes.proofs.Digits.{few_digits}
use Rattle.ndc_node_shapes.proofs.piece.value_of.Goals as goal

pub overflow_mul-value : goal.overflow_mul-value
overflow_mul-value c =
    let short : c.loop-byte.byte-index < 18 = omega (arith, c.loop-byte.invariant.short) in
    omega (arith, few_digits c.loop-byte.byte-index short, c.loop-byte.invariant.small)

pub overflow_add-value : goal.overflow_add-value
overflow_add-value c =
    let short : c.loop-byte.byte-index < 18 = omega (arith, c.loop-byte.invariant.short) in
    omega (arith, few_digits c.loop-byte.byte-index short, c.loop-byte.invariant.small)
