-- The hash of a workflow, name by name.
use Rattle.std.proofs.Common.{◌≡◌, ℕ, List, [], ◌∷◌, ◌++◌, refl, sym, ◌∙◌, ap}
use Rattle.std.specs.List.{fold}
use Rattle.ndc_model_cells.specs.Shards.{hash_of, hashed}
use Rattle.ndc_event.specs.declared.name.Name.{Name}

fold-both : (hash : ℕ) (one two : List ℕ) → fold hashed hash (one ++ two) ≡ fold hashed (fold hashed hash one) two
fold-both hash [] two = refl
fold-both hash (byte ∷ one) two = fold-both (hashed hash byte) one two

pub hash_in_parts : (domain workflow : Name) (first joint all : ℕ) → first ≡ fold hashed 2166136261 domain → joint ≡ hashed first 0 → all ≡ fold hashed joint workflow → all ≡ hash_of domain workflow
hash_in_parts domain workflow first joint all e f g =
    g ∙ ap (λ hash. fold hashed hash workflow) (f ∙ ap (λ hash. hashed hash 0) e) ∙ sym (fold-both 2166136261 domain (0 ∷ workflow))
