-- Hexadecimal digits are read two by two.
use Rattle.std.proofs.Common.{◌≡◌, ◌≤◌, ℕ, List, [], ◌∷◌, ◌++◌, length, take, drop, get_or, Result, Ok, sym, ap, ◌∙◌, arith}
use Rattle.ndc_event.specs.Outcome.{◌>>=◌}
use Rattle.ndc_script_read.proofs.LineLists.{behind, behind-one}
use Rattle.ndc_cases.specs.Case.{byte_of, hex_of}
use Rattle.ndc_cases.specs.declared.case.CaseError.{CaseError}

pub hex_step : (front left : List ℕ) (byte : ℕ) → 2 ≤ length left → byte_of (get_or (take 2 left) 0 0) (get_or (take 2 left) 1 0) ≡ Ok byte → behind (front ++ byte ∷ []) (hex_of (drop 2 left)) ≡ behind front (hex_of left)
unfolding hex_of
hex_step front [] byte some ok = absurd (omega (arith, some))
hex_step front (high ∷ []) byte some ok = absurd (omega (arith, some))
hex_step front (high ∷ low ∷ rest) byte some ok =
    sym (behind-one front byte (hex_of rest))
    ∙ ap (λ (r : Result ℕ CaseError). behind front (r >>= (λ one. hex_of rest >>= (λ more. Ok (one ∷ more))))) (sym ok)
