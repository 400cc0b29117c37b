use Rattle.std.proofs.Common.{◌≡◌, ℕ, List, get_or, Ok, sym, subst, ◌∙◌}
use Rattle.ndc_cases.specs.Case.{byte_of}
use Rattle.ndc_cases.proofs.Hex.{hex_step}
use Rattle.ndc_cases.proofs.case.hex_of.Goals as goal

pub loop-left-preserved : goal.loop-left-preserved
loop-left-preserved c =
    let pair : List ℕ = c.split_at.result.0.now in
    let read : byte_of (get_or pair 0 0) (get_or pair 1 0) ≡ Ok c.in_ok-byte.byte = sym c.in_ok-byte.ensures in
    rw (c.in_ok-push.ensures.items, c.split_at.ensures.back)
    (hex_step c.loop-left.bytes.items c.loop-left.left.now c.in_ok-byte.byte c.loop-left-test.true
    (subst (λ (p : List ℕ). byte_of (get_or p 0 0) (get_or p 1 0) ≡ Ok c.in_ok-byte.byte) c.split_at.ensures.front read)
    ∙ c.loop-left.invariant)
