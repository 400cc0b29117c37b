-- Walks upwards in a tree: over its batches, and over its versions.
use Rattle.std.proofs.Common.{◌≡◌, ◌<◌, true, List, [], ◌∷◌, ◌++◌, map, reverse, Option, Some, None, refl, sym, ◌∙◌, subst, ap}
use Rattle.std.proofs.lemmas.List.{append-nil, append_assoc, reverse-append, map-append}
use Rattle.ndc_event.specs.declared.batch.Batch.{Batch}
use Rattle.ndc_event.specs.declared.key.RunId.{RunId}
use Rattle.ndc_history.specs.declared.item.Item.{Item}
use Rattle.ndc_history.specs.History.{rises}
use Rattle.ndc_model_sets.specs.Sets.{Has}
use Rattle.ndc_model_sets.specs.Paths.{events_to}
use Rattle.ndc_model_sets.proofs.HistoryLemmas.{versions-rise}
use Rattle.ndc_model_sets.proofs.PathIds.{AreEventsTo, path-events}
use Rattle.ndc_tree.specs.Inserting.{end_of}
use Rattle.ndc_model_sets.specs.Reading.{named, elder_of, path_of, items_of}
use Rattle.ndc_tree.specs.Tree.{IsTree}
use Rattle.ndc_tree.proofs.PathLemmas.{path_is}
use Rattle.ndc_tree.proofs.VersionLemmas.{IsOf, rank, elder-step, elder-has, elder-less, parent-step, parent-has, parent-rank}

-- what is left of a walk, and what it has gone over, newest first
pub record Walks {X : Type 0} (batches : List Batch) (left : Option Batch → List Batch → List X) (next : Option Batch) (done whole : List X) : Type 0 where
  pub rest : left next batches ++ reverse done ≡ whole
  pub has : IsOf batches next

pub walks-start : {X : Type 0} (batches : List Batch) (left : Option Batch → List Batch → List X) (b : Batch) (next : Option Batch) (done : List X) → Has batches b → next ≡ Some b → done ≡ [] → Walks batches left next done (left (Some b) batches)
walks-start batches left b next done has e none = record {
  rest = ap (λ (o : Option Batch). left o batches ++ reverse done) e ∙ ap (λ l. left (Some b) batches ++ reverse l) none ∙ append-nil (left (Some b) batches);
  has = subst (IsOf batches) (sym e) has;
}

more : {X : Type 0} (front done whole : List X) (x : X) → (front ++ x ∷ []) ++ reverse done ≡ whole → front ++ reverse (done ++ x ∷ []) ≡ whole
more front done whole x e = ap (λ l. front ++ l) (reverse-append done (x ∷ [])) ∙ sym (append_assoc front (x ∷ []) (reverse done)) ∙ e

pub path-walks : (run : RunId) (batches : List Batch) (b : Batch) (next up : Option Batch) (done after whole : List Batch) → IsTree run batches → next ≡ Some b → Walks batches path_of next done whole
    → up ≡ named b.parent batches → after ≡ done ++ b ∷ [] → Walks batches path_of up after whole
path-walks run batches b next up done after whole tree at w e f =
    let has : Has batches b = subst (IsOf batches) at w.has in record {
      rest = ap (λ (o : Option Batch). path_of o batches ++ reverse after) e ∙ ap (λ l. path_of (named b.parent batches) batches ++ reverse l) f
          ∙ more (path_of (named b.parent batches) batches) done whole b
          (ap (λ l. l ++ reverse done) (sym (parent-step run batches tree b has)) ∙ sym (ap (λ (o : Option Batch). path_of o batches ++ reverse done) at) ∙ w.rest);
      has = subst (IsOf batches) (sym e) (parent-has run batches tree b has);
    }

pub items-walk : (run : RunId) (batches : List Batch) (b : Batch) (next up : Option Batch) (done after whole : List Item) → IsTree run batches → next ≡ Some b → Walks batches items_of next done whole
    → up ≡ elder_of b batches → after ≡ done ++ end_of (Some b) ∷ [] → Walks batches items_of up after whole
items-walk run batches b next up done after whole tree at w e f =
    let has : Has batches b = subst (IsOf batches) at w.has in record {
      rest = ap (λ (o : Option Batch). items_of o batches ++ reverse after) e ∙ ap (λ l. items_of (elder_of b batches) batches ++ reverse l) f
          ∙ more (items_of (elder_of b batches) batches) done whole (end_of (Some b))
          (ap (λ l. l ++ reverse done) (sym (elder-step run batches tree b has)) ∙ sym (ap (λ (o : Option Batch). items_of o batches ++ reverse done) at) ∙ w.rest);
      has = subst (IsOf batches) (sym e) (elder-has run batches tree b has);
    }

-- each step upwards makes the measure smaller
pub path-less : (run : RunId) (batches : List Batch) (b : Batch) (next up : Option Batch) (done whole : List Batch) → IsTree run batches → next ≡ Some b → Walks batches path_of next done whole
    → up ≡ named b.parent batches → rank up < rank next
path-less run batches b next up done whole tree at w e =
    subst (λ (o : Option Batch). rank up < rank o) (sym at) (subst (λ (o : Option Batch). rank o < rank (Some b)) (sym e) (parent-rank run batches tree b (subst (IsOf batches) at w.has)))

pub items-less : (run : RunId) (batches : List Batch) (b : Batch) (next up : Option Batch) (done whole : List Item) → IsTree run batches → next ≡ Some b → Walks batches items_of next done whole
    → up ≡ elder_of b batches → rank up < rank next
items-less run batches b next up done whole tree at w e =
    subst (λ (o : Option Batch). rank up < rank o) (sym at) (subst (λ (o : Option Batch). rank o < rank (Some b)) (sym e) (elder-less run batches tree b (subst (IsOf batches) at w.has)))

-- what is not an item is none
pub none-of : {Y : Type 0} (o : Option Y) → ((y : Y) → o ≡ Some y → ⊥) → o ≡ None
none-of None h = refl
none-of (Some y) h = absurd (h y refl)

-- what is made of what was made of each
pub map-twice : {X Y Z : Type 0} (f : X → Y) (g : Y → Z) (xs : List X) → map (λ x. g (f x)) xs ≡ map g (map f xs)
map-twice f g [] = refl
map-twice f g (x ∷ xs) = ap (λ l. g (f x) ∷ l) (map-twice f g xs)

-- the items of a reversed list
pub map-reversed : {X Y : Type 0} (f : X → Y) (xs : List X) → map f (reverse xs) ≡ reverse (map f xs)
map-reversed f [] = refl
map-reversed f (x ∷ xs) =
    ap (map f) (reverse-append (x ∷ []) xs) ∙ map-append f (reverse xs) (x ∷ []) ∙ ap (λ l. l ++ f x ∷ []) (map-reversed f xs) ∙ sym (reverse-append (f x ∷ []) (map f xs))

-- the version history of a path rises
pub items-rise : (run : RunId) (batches : List Batch) (b : Batch) → IsTree run batches → Has batches b → rises (items_of (Some b) batches) ≡ true
items-rise run batches b tree has =
    let a : AreEventsTo b (events_to b.key batches) = path-events batches b _ tree.faultless tree.parents (path_is run batches tree b has) in
    (versions-rise 0 0 (events_to b.key batches) a.follow a.climb).0
