-- Version histories read off the one that is noted.
use Rattle.std.proofs.Common.{◌≡◌, true, List, [], ◌∷◌, ◌++◌, Option, Some, None, refl, sym, ◌∙◌, subst, ap}
use Rattle.std.specs.Prelude.{is_some, Result, Ok, Err, IfOk}
use Rattle.ndc_event.specs.declared.batch.Batch.{Batch}
use Rattle.ndc_event.specs.declared.key.BatchKey.{BatchKey}
use Rattle.ndc_event.specs.declared.key.RunId.{RunId}
use Rattle.ndc_history.specs.declared.item.Item.{Item}
use Rattle.ndc_model_sets.specs.Keys.{is_key}
use Rattle.ndc_model_sets.specs.Paths.{versions_of}
use Rattle.ndc_model_sets.specs.Reading.{elder_of, items_of}
use Rattle.ndc_model_sets.specs.Sets.{Has, arrived, batch_at}
use Rattle.ndc_model_sets.proofs.ArrivalLemmas.{stays}
use Rattle.ndc_model_sets.proofs.KeyLemmas.{same-keys}
use Rattle.ndc_model_sets.proofs.SetLemmas.{found-has, found-key, has-found}
use Rattle.ndc_state.specs.Replay.{history_of}
use Rattle.ndc_tree.specs.Inserting.{end_of}
use Rattle.ndc_tree.specs.Noted.{IsNoted}
use Rattle.ndc_tree.specs.Tree.{IsTree, Joins}
use Rattle.ndc_tree.proofs.GrowLemmas.{grown_is_tree}
use Rattle.ndc_tree.proofs.PathLemmas.{paths_stay}
use Rattle.ndc_tree.proofs.VersionLemmas.{IsOf, elder-has, elder-step}

-- it is still noted where a batch joins the tree
pub noted_grown : (run : RunId) (batches : List Batch) (new : Batch) (to : Option BatchKey) (items : List Item) → IsTree run batches → Joins run batches new → IsNoted batches to items → IsNoted (arrived new batches) to items
noted_grown run batches new None items tree joins noted = (noted.0, refl)
noted_grown run batches new (Some key) items tree joins noted = by (batch_at key batches) refl
  where
    none : batch_at key batches ≡ None → ⊥
    none e = let h : is_some (batch_at key batches) ≡ true = noted.1 in absurd (cc)

    by : (o : Option Batch) → batch_at key batches ≡ o → IsNoted (arrived new batches) (Some key) items
    by None e = absurd (none e)
    by (Some b) e =
        let has : Has batches b = found-has batches key b e in
        let there = stays new batches tree.set.ordered in
        let found : batch_at key (arrived new batches) ≡ Some b = has-found (arrived new batches) key b (found-key batches key b e) (there b has) in (
          noted.0 ∙ ap (λ (o : Option Batch). items_of o batches) e
              ∙ sym (ap (λ (l : List Batch). versions_of (history_of l)) (paths_stay run batches (arrived new batches) b tree (grown_is_tree run batches new tree joins) there has))
              ∙ sym (ap (λ (o : Option Batch). items_of o (arrived new batches)) found),
          ap is_some found,
        )

-- the elder of a batch is there
pub elder_there : (run : RunId) (batches : List Batch) (b elder : Batch) → IsTree run batches → Has batches b → elder_of b batches ≡ Some elder → Has batches elder
elder_there run batches b elder tree has is = subst (IsOf batches) is (elder-has run batches tree b has)

-- what is noted is the version history of a batch with the key
noted-at : (batches : List Batch) (to : Option BatchKey) (items : List Item) (b : Batch) → IsNoted batches to items → Has batches b → is_key b.key to ≡ true → items ≡ items_of (Some b) batches
noted-at batches None items b noted has is = absurd (cc)
noted-at batches (Some key) items b noted has is =
    noted.0 ∙ ap (λ (o : Option Batch). items_of o batches) (has-found batches key b (same-keys b.key key is) has)

-- where it is that of a batch's elder, one item more makes it that of the batch
pub noted_before : (run : RunId) (batches : List Batch) (b elder : Batch) (to : Option BatchKey) (items : List Item) → IsTree run batches → IsNoted batches to items → Has batches b → elder_of b batches ≡ Some elder
    → is_key elder.key to ≡ true → items_of (Some b) batches ≡ items ++ end_of (Some b) ∷ []
noted_before run batches b elder to items tree noted has is same =
    elder-step run batches tree b has
    ∙ ap (λ (l : List Item). l ++ end_of (Some b) ∷ [])
    (ap (λ (o : Option Batch). items_of o batches) is ∙ sym (noted-at batches to items elder noted (elder_there run batches b elder tree has is) same))

-- the version history of the path to a batch may be noted
pub noted_now : (batches : List Batch) (b : Batch) (key : BatchKey) (items : List Item) → Has batches b → b.key ≡ key → items ≡ items_of (Some b) batches → IsNoted batches (Some key) items
noted_now batches b key items has own same =
    let found : batch_at key batches ≡ Some b = has-found batches key b own has in
    (same ∙ sym (ap (λ (o : Option Batch). items_of o batches) found), ap is_some found)

-- what holds of a value that is given holds of it in other words
pub if-ok : {A E : Type 0} {P Q : A → Type 0} (r : Result A E) → ((a : A) → P a → Q a) → IfOk r P → IfOk r Q
if-ok (Ok a) f p = f a p
if-ok (Err e) f p = tt
