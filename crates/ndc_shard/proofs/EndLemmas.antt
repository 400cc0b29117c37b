-- Going up a path as far as it begins after an id.
use Rattle.std.proofs.Common.{◌≡◌, ℕ, nat_lt, ◌+◌, ◌<◌, ◌&&◌, Bool, true, false, List, [], ◌∷◌, ◌++◌, length, reverse, Option, Some, None, if◌then◌else◌, refl, sym, ◌∙◌, subst, ap, arith, length-append}
use Rattle.std.specs.Prelude.{IfSome}
use Rattle.std.specs.List.{list_all}
use Rattle.std.proofs.lemmas.List.{append-nil, append_assoc, reverse-append}
use Rattle.ndc_event.specs.declared.batch.Batch.{Batch}
use Rattle.ndc_event.specs.declared.key.BatchKey.{BatchKey}
use Rattle.ndc_model_sets.specs.Paths.{Walk, first_id, path_from, path_to}
use Rattle.ndc_model_sets.specs.Reading.{named}
use Rattle.ndc_model_sets.specs.Sets.{Has, IsSet, batch_at}
use Rattle.ndc_model_sets.proofs.NoPaths.{no-path}
use Rattle.ndc_model_sets.proofs.PathLemmas.{none-wanted, path-parent}
use Rattle.ndc_model_sets.proofs.SetLemmas.{found-has, found-key}
use Rattle.ndc_resend.specs.Gaps.{end_behind}
use Rattle.ndc_shard.specs.Ends.{behind}

module _ (id : ℕ) where
  abbrev is-behind : Batch → Bool
  is-behind c = nat_lt id (first_id c.events)

  -- all pass with one more exactly where that does
  all-snoc : (xs : List Batch) (b : Batch) → list_all (λ c. nat_lt id (first_id c.events)) (xs ++ b ∷ []) ≡ (list_all (λ c. nat_lt id (first_id c.events)) xs && nat_lt id (first_id b.events))
  all-snoc [] b = by (is-behind b)
    where
      by : (t : Bool) → (t && true) ≡ (true && t)
      by true = refl
      by false = refl
  all-snoc (x ∷ xs) b = by (is-behind x) (all-snoc xs b)
    where
      by : (t : Bool) → list_all (λ c. nat_lt id (first_id c.events)) (xs ++ b ∷ []) ≡ (list_all (λ c. nat_lt id (first_id c.events)) xs && nat_lt id (first_id b.events))
          → (t && list_all (λ c. nat_lt id (first_id c.events)) (xs ++ b ∷ [])) ≡ ((t && list_all (λ c. nat_lt id (first_id c.events)) xs) && nat_lt id (first_id b.events))
      by true e = e
      by false e = refl

  -- a batch more at the end of a path
  end-more : (xs : List Batch) (b : Batch) → is-behind b ≡ true → end_behind id (xs ++ b ∷ []) ≡ end_behind id xs ++ b ∷ []
  end-more [] b e = ap (λ t. if t && true then b ∷ [] else []) e
  end-more (x ∷ xs) b e =
      ap (λ t. if t then x ∷ (xs ++ b ∷ []) else end_behind id (xs ++ b ∷ [])) (all-snoc (x ∷ xs) b ∙ ap (λ t. list_all (λ c. nat_lt id (first_id c.events)) (x ∷ xs) && t) e)
      ∙ by (list_all (λ c. nat_lt id (first_id c.events)) (x ∷ xs)) (end-more xs b e)
    where
      by : (t : Bool) → end_behind id (xs ++ b ∷ []) ≡ end_behind id xs ++ b ∷ []
          → (if t && true then x ∷ (xs ++ b ∷ []) else end_behind id (xs ++ b ∷ [])) ≡ (if t then x ∷ xs else end_behind id xs) ++ b ∷ []
      by true rest = refl
      by false rest = rest

  end-none : (xs : List Batch) (b : Batch) → is-behind b ≡ false → end_behind id (xs ++ b ∷ []) ≡ []
  end-none [] b e = ap (λ t. if t && true then b ∷ [] else []) e
  end-none (x ∷ xs) b e =
      ap (λ t. if t then x ∷ (xs ++ b ∷ []) else end_behind id (xs ++ b ∷ [])) (all-snoc (x ∷ xs) b ∙ ap (λ t. list_all (λ c. nat_lt id (first_id c.events)) (x ∷ xs) && t) e)
      ∙ by (list_all (λ c. nat_lt id (first_id c.events)) (x ∷ xs)) (end-none xs b e)
    where
      by : (t : Bool) → end_behind id (xs ++ b ∷ []) ≡ [] → (if t && false then x ∷ (xs ++ b ∷ []) else end_behind id (xs ++ b ∷ [])) ≡ []
      by true rest = rest
      by false rest = rest

  -- the end of the path to a batch, where there is one
  abbrev pub end_of : Option Batch → List Batch → List Batch
  end_of None batches = []
  end_of (Some b) batches = end_behind id (path_to b.key batches)

  module _ (batches : List Batch) (set : IsSet batches) where
    end-named : (wanted : Option BatchKey) → end_of (behind id (named wanted batches)) batches ≡ end_behind id (path_from wanted batches)
    end-named None = sym (ap (λ (v : Walk). end_behind id v.path) (none-wanted batches))
    end-named (Some key) = by (batch_at key batches) refl
      where
        by : (o : Option Batch) → batch_at key batches ≡ o → end_of (behind id o) batches ≡ end_behind id (path_to key batches)
        by None e = sym (ap (end_behind id) (no-path batches key e))
        by (Some b) e = here (is-behind b) refl
          where
            own : b.key ≡ key
            own = found-key batches key b e

            path : path_to key batches ≡ path_from b.parent batches ++ b ∷ []
            path = ap (λ (k : BatchKey). path_to k batches) (sym own) ∙ path-parent batches b set (found-has batches key b e)

            here : (t : Bool) → is-behind b ≡ t → end_of (if t then Some b else None) batches ≡ end_behind id (path_to key batches)
            here true f = ap (λ (k : BatchKey). end_behind id (path_to k batches)) own
            here false f = sym (ap (end_behind id) path ∙ end-none (path_from b.parent batches) b f)

    -- the next batch is one of them, and begins after the id
    abbrev IsNext : Batch → Type 0
    IsNext b = Has batches b × (is-behind b ≡ true)

    next-is : (wanted : Option BatchKey) → IfSome (behind id (named wanted batches)) IsNext
    next-is None = tt
    next-is (Some key) = by (batch_at key batches) refl
      where
        by : (o : Option Batch) → batch_at key batches ≡ o → IfSome (behind id o) IsNext
        by None e = tt
        by (Some b) e = here (is-behind b) refl
          where
            here : (t : Bool) → is-behind b ≡ t → IfSome (if t then Some b else None) IsNext
            here true f = (found-has batches key b e, f)
            here false f = tt

-- what is left of the end, and after it those gone over, newest first
pub record Ascends (id : ℕ) (batches : List Batch) (next : Option Batch) (done whole : List Batch) : Type 0 where
  pub rest : end_of id next batches ++ reverse done ≡ whole
  pub is : IfSome next (λ b. Has batches b × (nat_lt id (first_id b.events) ≡ true))

pub ascends-start : (id : ℕ) (batches : List Batch) (key : BatchKey) (found next : Option Batch) (done : List Batch) → IsSet batches → found ≡ named (Some key) batches → next ≡ behind id found → done ≡ []
    → Ascends id batches next done (end_behind id (path_to key batches))
ascends-start id batches key found next done set at e none =
    let same : next ≡ behind id (named (Some key) batches) = e ∙ ap (behind id) at in
    record {
      rest = ap (λ l. end_of id next batches ++ reverse l) none ∙ append-nil (end_of id next batches) ∙ ap (λ (o : Option Batch). end_of id o batches) same ∙ end-named id batches set (Some key);
      is = subst (λ (o : Option Batch). IfSome o (λ b. Has batches b × (nat_lt id (first_id b.events) ≡ true))) (sym same) (next-is id batches set (Some key));
    }

module _ (id : ℕ) (batches : List Batch) (set : IsSet batches) (b : Batch) (next found up : Option Batch) (done whole : List Batch) (at : next ≡ Some b) (ascends : Ascends id batches next done whole) (looked : found ≡ named b.parent batches) (above : up ≡ behind id found) where
  same-up : up ≡ behind id (named b.parent batches)
  same-up = above ∙ ap (behind id) looked

  own : Has batches b × (nat_lt id (first_id b.events) ≡ true)
  own = subst (λ (o : Option Batch). IfSome o (λ c. Has batches c × (nat_lt id (first_id c.events) ≡ true))) at ascends.is

  step : end_of id next batches ≡ end_of id up batches ++ b ∷ []
  step =
      ap (λ (o : Option Batch). end_of id o batches) at ∙ ap (end_behind id) (path-parent batches b set own.0) ∙ end-more id (path_from b.parent batches) b own.1
      ∙ ap (λ (l : List Batch). l ++ b ∷ []) (sym (ap (λ (o : Option Batch). end_of id o batches) same-up ∙ end-named id batches set b.parent))

  pub ascends-more : (after : List Batch) → after ≡ done ++ b ∷ [] → Ascends id batches up after whole
  ascends-more after e = record {
    rest = ap (λ l. end_of id up batches ++ reverse l) e ∙ ap (λ l. end_of id up batches ++ l) (reverse-append done (b ∷ [])) ∙ sym (append_assoc (end_of id up batches) (b ∷ []) (reverse done))
        ∙ ap (λ l. l ++ reverse done) (sym step) ∙ ascends.rest;
    is = subst (λ (o : Option Batch). IfSome o (λ c. Has batches c × (nat_lt id (first_id c.events) ≡ true))) (sym same-up) (next-is id batches set b.parent);
  }

  pub ascends-less : length (end_of id up batches) < length (end_of id next batches)
  ascends-less =
      let n : length (end_of id next batches) ≡ length (end_of id up batches) + 1 = ap (λ (l : List Batch). length l) step ∙ length-append (end_of id up batches) (b ∷ []) in omega (arith, n)
