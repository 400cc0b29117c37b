-- Names that are none of others, one after the other.
use Rattle.std.proofs.Common.{◌≡◌, ℕ, ◌+◌, ◌<◌, Bool, true, false, List, [], ◌∷◌, ◌++◌, length, drop, get_or, sym, ap, ◌∙◌, if◌then◌else◌}
use Rattle.std.specs.List.{list_any}
use Rattle.std.specs.Str.{bytes_eq}
use Rattle.std.proofs.lemmas.List.{append_assoc, at_drop_more}
use Rattle.ndc_event.specs.declared.name.Name.{Name}
use Rattle.ndc_probe.specs.Workflows.{not_among}

module _ (known names others : List Name) (i : ℕ) (name : Name) (all : List Name) (within : i < length others) (is : name ≡ get_or others i name) (before : names ++ not_among known (drop i others) ≡ all) where
  abbrev rest : List Name
  rest = not_among known (drop (i + 1) others)

  next : (b : Bool) → list_any (λ one. bytes_eq one name) known ≡ b → names ++ (if b then rest else name ∷ rest) ≡ all
  next b among =
      sym (at_drop_more (λ l. names ++ not_among known l) others i name within
      ∙ ap (λ (one : Name). names ++ not_among known (one ∷ drop (i + 1) others)) (sym is)
      ∙ ap (λ (c : Bool). names ++ (if c then rest else name ∷ rest)) among)
      ∙ before

  -- one that is among the others is passed
  pub passed : list_any (λ one. bytes_eq one name) known ≡ true → names ++ rest ≡ all
  passed among = next true among

  -- any other one is added
  pub added : (new : List Name) → new ≡ names ++ name ∷ [] → list_any (λ one. bytes_eq one name) known ≡ false → new ++ rest ≡ all
  added new is_new among = ap (λ (l : List Name). l ++ rest) is_new ∙ append_assoc names (name ∷ []) rest ∙ next false among
