-- Lists as they are read, item by item.
use Rattle.std.proofs.Common.{◌≡◌, ◌+◌, ◌<◌, ℕ, zero, suc, List, [], ◌∷◌, ◌++◌, length, map, Option, Some, None, Ok, Err, refl, sym, ap, ◌∙◌, subst, arith, append-nil, append_assoc}
use Rattle.std.specs.List.{AllByRecursion}
use Rattle.std.proofs.lemmas.List.{map-append, length-append}
use Rattle.ndc_event.specs.Outcome.{◌>>=◌}
use Rattle.ndc_node_shapes.specs.Bytes.{Taken, after, expect, digits_of, further, further_at, with_commas, with_items, unless_closed, items_at, list_at, list_text}
use Rattle.ndc_node_shapes.specs.declared.fault.Fault.{Fault}
use Rattle.ndc_node_shapes.proofs.Steps.{bound, parts}
use Rattle.ndc_node_shapes.proofs.Pieces.{is_there, was_expected}

pub with_more : {A : Type 0} (xs ys : List A) (r : Taken (List A)) → with_items xs (with_items ys r) ≡ with_items (xs ++ ys) r
with_more xs ys (Ok r) = ap (λ (zs : List _). Ok (zs, r.1)) (sym (append_assoc xs ys r.0))
with_more xs ys (Err e) = refl

module _ {A : Type 0} (read : List ℕ → Taken A) (items : List A) (most : ℕ) (rest : List ℕ) where
  -- the list is closed
  pub closed : (last : List ℕ) → after (93 ∷ []) rest ≡ Some last → with_items items (further_at read (suc most) rest) ≡ Ok (items, last)
  closed last e = rw e (ap (λ (zs : List A). Ok (zs, last)) (append-nil items))

  -- no comma stands there
  pub no_comma : (e : Fault) → after (93 ∷ []) rest ≡ None → expect (44 ∷ []) rest ≡ Err e → with_items items (further_at read (suc most) rest) ≡ Err e
  no_comma e n f = rw (n, f) refl

  module _ (next : List ℕ) (goes_on : after (93 ∷ []) rest ≡ None) (comma : expect (44 ∷ []) rest ≡ Ok next) where
    -- no item stands there
    pub no_item : (e : Fault) → read next ≡ Err e → with_items items (further_at read (suc most) rest) ≡ Err e
    no_item e f = rw (goes_on, comma, f) refl

    -- one more item
    pub one_more : (x : A) (after_it : List ℕ) → read next ≡ Ok (x, after_it) → with_items (items ++ x ∷ []) (further_at read most after_it) ≡ with_items items (further_at read (suc most) rest)
    one_more x after_it f = rw (goes_on, comma, f) (sym (with_more items (x ∷ []) (further_at read most after_it)))

-- what is seen of items, with one more
pub map_more : {X A : Type 0} (f : X → A) (xs : List X) (x : X) (now : List X) (k : Taken (List A)) → now ≡ xs ++ x ∷ [] → with_items (map f now) k ≡ with_items (map f xs ++ f x ∷ []) k
map_more f xs x now k e = ap (λ zs. with_items zs k) (ap (map f) e ∙ map-append f xs (x ∷ []))

-- ---- what is printed is read

further_length : {A : Type 0} (text : A → List ℕ) (xs : List A) (rest : List ℕ) → length xs < length (further text xs ++ 93 ∷ rest)
further_length text [] rest = omega arith
further_length text (x ∷ xs) rest =
    let more = further_length text xs rest in
    let same : length ((text x ++ further text xs) ++ 93 ∷ rest) ≡ length (text x) + length (further text xs ++ 93 ∷ rest) =
    ap (λ (bs : List ℕ). length bs) (append_assoc (text x) (further text xs) (93 ∷ rest)) ∙ length-append (text x) (further text xs ++ 93 ∷ rest) in
    omega (arith, more, same)

-- what a list asks of its items: each is read where it is printed, and none begins as a list ends
pub record IsRead {A : Type 0} (text : A → List ℕ) (read : List ℕ → Taken A) (Fit : A → Type 0) : Type 0 where
  pub again : (x : A) (rest : List ℕ) → Fit x → digits_of rest ≡ [] → read (text x ++ rest) ≡ Ok (x, rest)
  pub begins : (x : A) (rest : List ℕ) → Fit x → after (93 ∷ []) (text x ++ rest) ≡ None

module _ {A : Type 0} (text : A → List ℕ) (read : List ℕ → Taken A) (Fit : A → Type 0) (it : IsRead text read Fit) where
  stops : (xs : List A) (rest : List ℕ) → digits_of (further text xs ++ 93 ∷ rest) ≡ []
  stops [] rest = refl
  stops (x ∷ xs) rest = refl

  further_again : (xs : List A) (most : ℕ) (rest : List ℕ) → AllByRecursion Fit xs → length xs < most → further_at read most (further text xs ++ 93 ∷ rest) ≡ Ok (xs, rest)
  further_again xs zero rest h few = absurd (omega (arith, few))
  further_again [] (suc most) rest h few = refl
  further_again (x ∷ xs) (suc most) rest h few =
      let next = append_assoc (text x) (further text xs) (93 ∷ rest) in
      let one = it.again x (further text xs ++ 93 ∷ rest) h.0 (stops xs rest) in
      let more = further_again xs most rest h.1 (omega (arith, few)) in
      rw (next, one, more) refl

  items_again : (xs : List A) (rest : List ℕ) → AllByRecursion Fit xs → items_at read (with_commas text xs ++ 93 ∷ rest) ≡ Ok (xs, rest)
  items_again [] rest h = refl
  items_again (x ∷ xs) rest h =
      let next = append_assoc (text x) (further text xs) (93 ∷ rest) in
      let none = it.begins x (further text xs ++ 93 ∷ rest) h.0 in
      let one = it.again x (further text xs ++ 93 ∷ rest) h.0 (stops xs rest) in
      let more = further_again xs (length (further text xs ++ 93 ∷ rest)) rest h.1 (further_length text xs rest) in
      rw (next, none, one, more) refl

  pub list_again : (xs : List A) (rest : List ℕ) → AllByRecursion Fit xs → list_at read (list_text text xs ++ rest) ≡ Ok (xs, rest)
  list_again xs rest h = ap (items_at read) (append_assoc (with_commas text xs) (93 ∷ []) rest) ∙ items_again xs rest h

-- ---- what is read was printed

-- what was read begins with these items
items_first : {A : Type 0} (x : A) (r : Taken (List A)) (xs : List A) (rest : List ℕ) → with_items (x ∷ []) r ≡ Ok (xs, rest) → (ys : List A) × ((xs ≡ x ∷ ys) × (r ≡ Ok (ys, rest)))
items_first x (Ok r) xs rest h = let p = parts (x ∷ r.0) xs r.1 rest h in (r.0, (sym p.0, ap (λ (z : List ℕ). Ok (r.0, z)) p.1))
items_first x (Err e) xs rest h = absurd (cc)

module _ {A : Type 0} (text : A → List ℕ) (read : List ℕ → Taken A) (Fit : A → Type 0)
    (only : (left rest : List ℕ) (x : A) → read left ≡ Ok (x, rest) → Fit x × (left ≡ text x ++ rest)) where
  IsFurther : List ℕ → List A → List ℕ → Type 0
  IsFurther left xs rest = AllByRecursion Fit xs × (left ≡ further text xs ++ 93 ∷ rest)

  closing : (most : ℕ) (left rest : List ℕ) (xs : List A) (o : Option (List ℕ)) → after (93 ∷ []) left ≡ o
      → ((next : List ℕ) (ys : List A) (end_of : List ℕ) → further_at read most next ≡ Ok (ys, end_of) → IsFurther next ys end_of)
      → unless_closed o (expect (44 ∷ []) left >>= (λ next. read next >>= (λ x. with_items (x.0 ∷ []) (further_at read most x.1)))) ≡ Ok (xs, rest) → IsFurther left xs rest
  unfolding IsFurther
  closing most left rest xs (Some end_of) e k h =
      let p = parts [] xs end_of rest h in
      subst (λ ys. IsFurther left ys rest) p.0 (tt, is_there (93 ∷ []) left end_of e ∙ ap (λ (z : List ℕ). 93 ∷ z) p.1)
  closing most left rest xs None e k h =
      let p = bound _ (expect (44 ∷ []) left) (xs, rest) h in
      let q = bound _ (read p.0) (xs, rest) p.1.1 in
      let f = items_first q.0.0 (further_at read most q.0.1) xs rest q.1.1 in
      let one = only p.0 q.0.1 q.0.0 q.1.0 in
      let more = k q.0.1 f.0 rest f.1.1 in
      let same = was_expected (44 ∷ []) left p.0 p.1.0 ∙ ap (λ (z : List ℕ). 44 ∷ z) (one.1 ∙ ap (λ (z : List ℕ). text q.0.0 ++ z) more.1 ∙ sym (append_assoc (text q.0.0) (further text f.0) (93 ∷ rest))) in
      subst (λ ys. IsFurther left ys rest) (sym f.1.0) ((one.0, more.0), same)

  further_only : (most : ℕ) (left rest : List ℕ) (xs : List A) → further_at read most left ≡ Ok (xs, rest) → IsFurther left xs rest
  further_only zero left rest xs h = absurd (cc)
  further_only (suc most) left rest xs h = closing most left rest xs (after (93 ∷ []) left) refl (λ next ys end_of. further_only most next end_of ys) h

  opening : (left rest : List ℕ) (xs : List A) (o : Option (List ℕ)) → after (93 ∷ []) left ≡ o
      → unless_closed o (read left >>= (λ x. with_items (x.0 ∷ []) (further_at read (length x.1) x.1))) ≡ Ok (xs, rest)
      → AllByRecursion Fit xs × (left ≡ with_commas text xs ++ 93 ∷ rest)
  unfolding IsFurther
  opening left rest xs (Some end_of) e h =
      let p = parts [] xs end_of rest h in
      subst (λ ys. AllByRecursion Fit ys × (left ≡ with_commas text ys ++ 93 ∷ rest)) p.0 (tt, is_there (93 ∷ []) left end_of e ∙ ap (λ (z : List ℕ). 93 ∷ z) p.1)
  opening left rest xs None e h =
      let q = bound _ (read left) (xs, rest) h in
      let f = items_first q.0.0 (further_at read (length q.0.1) q.0.1) xs rest q.1.1 in
      let one = only left q.0.1 q.0.0 q.1.0 in
      let more = further_only (length q.0.1) q.0.1 rest f.0 f.1.1 in
      let same = one.1 ∙ ap (λ (z : List ℕ). text q.0.0 ++ z) more.1 ∙ sym (append_assoc (text q.0.0) (further text f.0) (93 ∷ rest)) in
      subst (λ ys. AllByRecursion Fit ys × (left ≡ with_commas text ys ++ 93 ∷ rest)) (sym f.1.0) ((one.0, more.0), same)

  pub list_only : (left rest : List ℕ) (xs : List A) → list_at read left ≡ Ok (xs, rest) → AllByRecursion Fit xs × (left ≡ list_text text xs ++ rest)
  list_only left rest xs h =
      let p = bound (items_at read) (expect (91 ∷ []) left) (xs, rest) h in
      let it = opening p.0 rest xs (after (93 ∷ []) p.0) refl p.1.1 in
      (it.0, was_expected (91 ∷ []) left p.0 p.1.0 ∙ ap (λ (z : List ℕ). 91 ∷ z) (it.1 ∙ sym (append_assoc (with_commas text xs) (93 ∷ []) rest)))
