-- Merging step by step.
use Rattle.std.proofs.Common.{◌≡◌, ◌⊎◌, true, false, List, [], ◌∷◌, ◌++◌, inl, inr, refl, sym, ap, ◌∙◌}
use Rattle.std.proofs.lemmas.List.{append-nil}
use Rattle.ndc_event.specs.Key.{key_eq, key_lt}
use Rattle.ndc_event.specs.declared.batch.Batch.{Batch}
use Rattle.ndc_explain_union.specs.Unions.{merged}

merged_nil : (ours : List Batch) → merged ours [] ≡ ours
merged_nil [] = refl
merged_nil (b ∷ ours) = ap (λ (bs : List Batch). b ∷ bs) (merged_nil ours)

-- where one of the lists is at its end, the other is left
pub merged_end : (ours theirs : List Batch) → (ours ≡ []) ⊎ (theirs ≡ []) → merged ours theirs ≡ ours ++ theirs
merged_end ours theirs (inl e) = rw e refl
merged_end ours theirs (inr e) = rw e (merged_nil ours ∙ sym (append-nil ours))

module _ (one two : Batch) (ours theirs : List Batch) where
  pub ours-first : key_lt one.key two.key ≡ true → merged (one ∷ ours) (two ∷ theirs) ≡ one ∷ merged ours (two ∷ theirs)
  ours-first e = rw e refl

  pub one-key : key_lt one.key two.key ≡ false → key_eq one.key two.key ≡ true → merged (one ∷ ours) (two ∷ theirs) ≡ one ∷ merged ours theirs
  one-key e same = rw (e, same) refl

  pub theirs-first : key_lt one.key two.key ≡ false → key_eq one.key two.key ≡ false → merged (one ∷ ours) (two ∷ theirs) ≡ two ∷ merged (one ∷ ours) theirs
  theirs-first e other = rw (e, other) refl
