-- Lists that are read item by item.
use Rattle.std.proofs.Common.{◌≡◌, List, [], ◌∷◌, ◌++◌, Result, Ok, Err, refl, sym, ap, append_assoc}
use Rattle.ndc_event.specs.Outcome.{◌>>=◌}

-- items before those that were read
abbrev pub behind : {A E : Type 0} → List A → Result (List A) E → Result (List A) E
behind front (Ok items) = Ok (front ++ items)
behind front (Err error) = Err error

-- one item more before those that were read
pub behind-one : {A E : Type 0} (front : List A) (item : A) (rest : Result (List A) E) → behind front (rest >>= (λ more. Ok (item ∷ more))) ≡ behind (front ++ item ∷ []) rest
behind-one front item (Ok items) = ap Ok (sym (append_assoc front (item ∷ []) items))
behind-one front item (Err error) = refl
