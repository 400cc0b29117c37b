-- Dumps that are read one after the other.
use Rattle.std.proofs.Common.{◌≡◌, ◌+◌, ◌<◌, ℕ, Bool, List, [], ◌∷◌, ◌++◌, Result, Ok, Err, length, drop, get_or, refl, sym, ap, ◌∙◌, append_assoc}
use Rattle.std.proofs.lemmas.List.{at_drop_more}
use Rattle.ndc_event.specs.Outcome.{◌>>=◌}
use Rattle.ndc_explain_union.specs.Parts.{Parted}
use Rattle.ndc_explain_union.specs.Takings.{Taking, behind, taken_in, taken_on}
use Rattle.ndc_explain_union.specs.declared.taken.InputError.{InputError}

behind-two : (before : List Taking) (taking : Taking) (r : Result (List Taking) InputError) → behind before (behind (taking ∷ []) r) ≡ behind (before ++ taking ∷ []) r
behind-two before taking (Ok takings) = ap (λ (ts : List Taking). Ok ts) (sym (append_assoc before (taking ∷ []) takings))
behind-two before taking (Err error) = refl

-- with the dump of one more part
pub taken-next : (bare : Bool) (number i : ℕ) (parts : List Parted) (part : Parted) (taking : Taking) (before after : List Taking) (whole : Result (List Taking) InputError)
    → i < length parts → part ≡ get_or parts i part → taken_in bare number part ≡ Ok taking → after ≡ before ++ taking ∷ []
    → behind before (taken_on bare number (drop i parts)) ≡ whole → behind after (taken_on bare (number + 1) (drop (i + 1) parts)) ≡ whole
taken-next bare number i parts part taking before after whole lt is e n h =
    let rest : Result (List Taking) InputError = taken_on bare (number + 1) (drop (i + 1) parts) in
    ap (λ (ts : List Taking). behind ts rest) n
    ∙ sym (behind-two before taking rest)
    ∙ ap (λ (o : Result Taking InputError). behind before (o >>= (λ (t : Taking). behind (t ∷ []) rest))) (sym e)
    ∙ ap (λ (p : Parted). behind before (taken_on bare number (p ∷ drop (i + 1) parts))) is
    ∙ ap (behind before) (sym (at_drop_more (taken_on bare number) parts i part lt))
    ∙ h
