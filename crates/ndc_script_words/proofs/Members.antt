-- The members of cluster lines.
use Rattle.std.proofs.Common.{ℕ, ◌≤◌, List, [], ◌∷◌, length, Option, Some, None, arith}
use Rattle.ndc_script_words.specs.Text.{KeptLine}
use Rattle.ndc_script_words.specs.Header.{members_of, member_of, before_members}

-- there are no more members than lines
pub length-members_of : (lines : List KeptLine) → length (members_of lines) ≤ length lines
length-members_of [] = omega arith
length-members_of (line ∷ lines) =
    elim (member_of line) as (λ (m : Option (List ℕ × ℕ)). length (before_members m (members_of lines)) ≤ length (line ∷ lines))
    [ None ↦ omega arith | Some member ↦ omega (arith, length-members_of lines) ]
