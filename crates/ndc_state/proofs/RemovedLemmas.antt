-- Entries of which some were taken out by name.
use Rattle.std.proofs.Common.{◌≡◌, ℕ, zero, suc, ◌+◌, length, slice_get, Bool, true, false, not, ◌||◌, cond, List, [], ◌∷◌, ◌++◌, Option, None, Some, is_some, IsTrue, if◌then◌else◌, refl, ap, sym, subst, ◌∙◌, true≢false, arith}
use Rattle.std.specs.List.{list_any}
use Rattle.std.specs.Map.{values_of}
use Rattle.std.proofs.lemmas.List.Elements.{filter-append}
use Rattle.std.proofs.lemmas.Slice.Eq.{bytes_eq-Decides}
use Rattle.indexmap.specs.IndexSet.{insert_key}
use Rattle.ndc_event.specs.declared.name.Name.{Name}
use Rattle.ndc_state.specs.declared.pendings.Pending.{Pending}
use Rattle.ndc_state.specs.Pendings.{same_name, pending_of, with_started, without, is_gone, is_waiting, remaining, values_from}
use Rattle.ndc_state.proofs.PlaceLemmas.{without-absent}

-- names that are one
one-name : (a b : Name) → same_name a b ≡ true → a ≡ b
one-name a b e = (bytes_eq-Decides a b).0 e

name-itself : (a : Name) → same_name a a ≡ true
name-itself a = (bytes_eq-Decides a a).1 refl

-- the other way round
turned : (a b : Name) → same_name a b ≡ same_name b a
turned a b = by (same_name a b) refl (same_name b a) refl
  where
    by : (t : Bool) → same_name a b ≡ t → (u : Bool) → same_name b a ≡ u → t ≡ u
    by true x true y = refl
    by false x false y = refl
    by true x false y = absurd (true≢false (sym (name-itself a) ∙ ap (λ c. same_name c a) (one-name a b x) ∙ y))
    by false x true y = absurd (true≢false (sym (name-itself b) ∙ ap (λ c. same_name c b) (one-name b a y) ∙ x))

module _ (names : List Name) (name : Name) where
  -- an entry of a name that was not taken out stays
  stays : (entry : Name × Pending) → same_name name entry.0 ≡ true → is_gone names name ≡ false → is_gone names entry.0 ≡ false
  stays entry t h = ap (is_gone names) (sym (one-name name entry.0 t)) ∙ h

  -- what stands under a name that was not taken out stays
  pub found_remaining : (es : List (Name × Pending)) → is_gone names name ≡ false → pending_of name (remaining names es) ≡ pending_of name es
  found_remaining [] h = refl
  found_remaining (e ∷ es) h = by (found_remaining es h) (is_gone names e.0) refl (same_name name e.0) refl
    where
      by : pending_of name (remaining names es) ≡ pending_of name es → (b : Bool) → is_gone names e.0 ≡ b → (t : Bool) → same_name name e.0 ≡ t
          → pending_of name (remaining names (e ∷ es)) ≡ pending_of name (e ∷ es)
      by rest true x true y = absurd (true≢false (sym x ∙ stays e y h))
      by rest true x false y = rw (x, y) rest
      by rest false x t y = rw x (ap (cond (same_name name e.0) (Some e.1)) rest)

  -- nothing stands under a name that was taken out
  pub gone_remaining : (es : List (Name × Pending)) → is_gone names name ≡ true → pending_of name (remaining names es) ≡ None
  gone_remaining [] h = refl
  gone_remaining (e ∷ es) h = by (gone_remaining es h) (is_gone names e.0) refl (same_name name e.0) refl
    where
      by : pending_of name (remaining names es) ≡ None → (b : Bool) → is_gone names e.0 ≡ b → (t : Bool) → same_name name e.0 ≡ t → pending_of name (remaining names (e ∷ es)) ≡ None
      by rest true x t y = rw x rest
      by rest false x true y = absurd (true≢false (sym h ∙ ap (is_gone names) (one-name name e.0 y) ∙ x))
      by rest false x false y = rw (x, y) rest

  any-more : (test : Name → Bool) (ns : List Name) → list_any test (ns ++ name ∷ []) ≡ (list_any test ns || test name)
  any-more test [] = last (test name)
    where
      last : (t : Bool) → (t || false) ≡ t
      last true = refl
      last false = refl
  any-more test (n ∷ ns) = by (any-more test ns) (test n)
    where
      by : list_any test (ns ++ name ∷ []) ≡ (list_any test ns || test name) → (one : Bool) → (one || list_any test (ns ++ name ∷ [])) ≡ ((one || list_any test ns) || test name)
      by rest true = refl
      by rest false = rest

  -- one name more is taken out
  one-more : (es : List (Name × Pending)) → remaining (names ++ name ∷ []) es ≡ without name (remaining names es)
  one-more [] = refl
  one-more (e ∷ es) = by (one-more es) (is_gone names e.0) refl (same_name name e.0) refl
    where
      more : (b t : Bool) → is_gone names e.0 ≡ b → same_name name e.0 ≡ t → is_gone (names ++ name ∷ []) e.0 ≡ (b || t)
      more b t x y = any-more (same_name e.0) names ∙ ap (λ c. c || same_name e.0 name) x ∙ ap (λ c. b || c) (turned e.0 name ∙ y)

      by : remaining (names ++ name ∷ []) es ≡ without name (remaining names es) → (b : Bool) → is_gone names e.0 ≡ b → (t : Bool) → same_name name e.0 ≡ t
          → remaining (names ++ name ∷ []) (e ∷ es) ≡ without name (remaining names (e ∷ es))
      by rest true x t y = rw (more true t x y, x) rest
      by rest false x true y = rw (more false true x y, x, y) rest
      by rest false x false y = rw (more false false x y, x, y) (ap (λ l. e ∷ l) rest)

  -- the same, where it may have been taken out before
  pub remaining_taken : (es : List (Name × Pending)) → remaining (insert_key same_name names name) es ≡ without name (remaining names es)
  remaining_taken es = by (is_gone names name) refl
    where
      by : (b : Bool) → is_gone names name ≡ b → remaining (if b then names else names ++ name ∷ []) es ≡ without name (remaining names es)
      by true x = sym (without-absent name (remaining names es) (gone_remaining es x))
      by false x = one-more es

  -- a further entry of a name that was not taken out stays
  pub remaining_scheduled : (es : List (Name × Pending)) (p : Pending) → is_gone names name ≡ false → remaining names (es ++ (name, p) ∷ []) ≡ remaining names es ++ (name, p) ∷ []
  remaining_scheduled es p h =
      filter-append (λ (entry : Name × Pending). not (is_gone names entry.0)) es ((name, p) ∷ []) ∙ ap (λ b. remaining names es ++ (if not b then (name, p) ∷ [] else [])) h

  -- a start leaves what was taken out
  pub remaining_started : (id : ℕ) (es : List (Name × Pending)) → is_gone names name ≡ false → remaining names (with_started name id es) ≡ with_started name id (remaining names es)
  remaining_started id [] h = refl
  remaining_started id (e ∷ es) h = by (remaining_started id es h) (is_gone names e.0) refl (same_name name e.0) refl
    where
      by : remaining names (with_started name id es) ≡ with_started name id (remaining names es) → (b : Bool) → is_gone names e.0 ≡ b → (t : Bool) → same_name name e.0 ≡ t
          → remaining names (with_started name id (e ∷ es)) ≡ with_started name id (remaining names (e ∷ es))
      by rest true x true y = absurd (true≢false (sym x ∙ stays e y h))
      by rest true x false y = rw (y, x) rest
      by rest false x true y = rw (y, x, y) refl
      by rest false x false y = rw (y, x, y) (ap (λ l. e ∷ l) rest)

  -- a name that waits was not taken out
  pub waits-there : (es : List (Name × Pending)) → IsTrue (is_waiting (pending_of name (remaining names es))) → is_gone names name ≡ false
  waits-there es w = by (is_gone names name) refl
    where
      by : (b : Bool) → is_gone names name ≡ b → b ≡ false
      by true x = let never : IsTrue (is_waiting None) = subst (λ o. IsTrue (is_waiting o)) (gone_remaining es x) w in absurd (cc)
      by false x = refl

-- what waits is there
pub never-absent : (o : Option Pending) → IsTrue (is_waiting o) → is_some o ≡ false → ⊥
never-absent None w h = absurd (cc)
never-absent (Some p) w h = absurd (cc)

-- where nothing was taken out, all remains
pub remaining_none : (es : List (Name × Pending)) → remaining [] es ≡ es
remaining_none [] = refl
remaining_none (e ∷ es) = ap (λ l. e ∷ l) (remaining_none es)

pub remaining_nothing : (names : List Name) (es : List (Name × Pending)) → names ≡ [] → remaining names es ≡ es
remaining_nothing names es none = ap (λ l. remaining l es) none ∙ remaining_none es

module _ (names : List Name) where
  -- from the end on nothing is left
  pub values_behind : (es : List (Name × Pending)) (place : ℕ) → None ≡ slice_get es place → values_from place names es ≡ values_from (suc place) names es
  values_behind [] zero h = refl
  values_behind [] (suc place) h = refl
  values_behind (e ∷ es) zero h = absurd (cc)
  values_behind (e ∷ es) (suc place) h = values_behind es place h

  -- the entry at a place of which the name was taken out is passed
  pub values_gone : (es : List (Name × Pending)) (place : ℕ) (name : Name) (p : Pending) → Some (name, p) ≡ slice_get es place → is_gone names name ≡ true
      → values_from place names es ≡ values_from (suc place) names es
  values_gone [] place name p h gone = absurd (cc)
  values_gone (e ∷ es) zero name p h gone = let x : is_gone names e.0 ≡ true = cc in rw x refl
  values_gone (e ∷ es) (suc place) name p h gone = values_gone es place name p h gone

  -- any other is the next one
  pub values_there : (es : List (Name × Pending)) (place : ℕ) (name : Name) (p : Pending) → Some (name, p) ≡ slice_get es place → is_gone names name ≡ false
      → values_from place names es ≡ p ∷ values_from (suc place) names es
  values_there [] place name p h gone = absurd (cc)
  values_there (e ∷ es) zero name p h gone = let x : is_gone names e.0 ≡ false = cc in let same : e.1 ≡ p = cc in rw (x, same) refl
  values_there (e ∷ es) (suc place) name p h gone = values_there es place name p h gone

  values_end : (es : List (Name × Pending)) → values_from (length es) names es ≡ []
  values_end [] = refl
  values_end (e ∷ es) = values_end es

  length-values : (es : List (Name × Pending)) → length (values_of es) ≡ length es
  length-values [] = refl
  length-values (e ∷ es) = ap suc (length-values es)

  -- all was counted
  pub counted-all : (es : List (Name × Pending)) (count : ℕ) → count + length (values_from (length es) names es) ≡ length (values_of (remaining names es)) → count ≡ length (remaining names es)
  counted-all es count h = omega (arith, h, ap length (values_end es), length-values (remaining names es))

  -- no place was left
  pub none-left : (es : List (Name × Pending)) (left place : ℕ) → slice_get (values_from (length es) names es) left ≡ slice_get (values_of (remaining names es)) place
      → None ≡ slice_get (values_of (remaining names es)) place
  none-left es left place h = sym (ap (λ l. slice_get l left) (values_end es)) ∙ h

  pub length_none : (es : List (Name × Pending)) → names ≡ [] → length es ≡ length (remaining names es)
  length_none es none = ap length (sym (remaining_nothing names es none))

  pub place_none : (es : List (Name × Pending)) (place : ℕ) → names ≡ [] → slice_get (values_of es) place ≡ slice_get (values_of (remaining names es)) place
  place_none es place none = ap (λ l. slice_get (values_of l) place) (sym (remaining_nothing names es none))
