-- The first five words tell whether there is a heading.
use Rattle.std.proofs.Common.{◌≡◌, ℕ, List, [], ◌∷◌, Option, Result, Ok, Err, IfOk, take, refl, ap, ◌∙◌}
use Rattle.ndc_dump.specs.declared.frame.Heading.{Heading}
use Rattle.ndc_dump.specs.Frame.{heading_in}

pub heading-taken : (words : List (List ℕ)) → heading_in (take 5 words) ≡ heading_in words
heading-taken [] = refl
heading-taken (a ∷ []) = refl
heading-taken (a ∷ b ∷ []) = refl
heading-taken (a ∷ b ∷ c ∷ []) = refl
heading-taken (a ∷ b ∷ c ∷ d ∷ []) = refl
heading-taken (a ∷ b ∷ c ∷ d ∷ e ∷ words) = refl

-- what is made of them is the heading of all
pub heading-from : {E : Type 0} (r : Result (Option Heading) E) (few words : List (List ℕ)) → few ≡ take 5 words → IfOk r (λ heading. heading ≡ heading_in few) → IfOk r (λ heading. heading ≡ heading_in words)
heading-from (Ok h) few words e same = same ∙ ap heading_in e ∙ heading-taken words
heading-from (Err error) few words e same = tt
