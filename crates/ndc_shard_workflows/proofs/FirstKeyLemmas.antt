-- The first batch for which a test holds, by its key, as batches arrive.
use Rattle.std.proofs.Common.{◌≡◌, Bool, true, false, List, [], ◌∷◌, ◌++◌, Option, Some, None, if◌then◌else◌, refl, sym, ◌∙◌, subst, ap, true≢false}
use Rattle.std.specs.Prelude.{find, option_to_list}
use Rattle.std.specs.List.{AllByRecursion}
use Rattle.ndc_model_cells.specs.declared.message.Message.{Message}
use Rattle.ndc_model_cells.specs.Laws.{arrived_second}
use Rattle.ndc_event.specs.Key.{key_eq, key_lt}
use Rattle.ndc_event.specs.declared.batch.Batch.{Batch}
use Rattle.ndc_event.specs.declared.key.BatchKey.{BatchKey}
use Rattle.ndc_model_sets.specs.Sets.{Rise, ComeAfter, arrived, batch_at}
use Rattle.ndc_model_sets.proofs.KeyLemmas.{before-irrefl, before-trans, before-total, key_eq-self, same-keys}
use Rattle.ndc_model_sets.proofs.SetLemmas.{after-trans}
use Rattle.ndc_model_sets.specs.Reading.{named}
use Rattle.ndc_shard_runs.proofs.ArrivedLemmas.{Rise-arrived, none-after, none-parts}
use Rattle.ndc_shard_waiting.specs.Learning.{with_messages}
use Rattle.ndc_model_cells.specs.Messages.{batches_of}
use Rattle.ndc_shard_workflows.specs.Messages.{first_key, least_of, least_with, lesser}

not-before : (a b : BatchKey) → key_lt a b ≡ true → key_lt b a ≡ false
not-before a b l = by (key_lt b a) refl
  where
    by : (t : Bool) → key_lt b a ≡ t → t ≡ false
    by true e = absurd (before-irrefl a (before-trans a b a l e))
    by false e = refl

not-same : (a b : BatchKey) → key_lt a b ≡ true → key_eq a b ≡ false
not-same a b l = by (key_eq a b) refl
  where
    by : (t : Bool) → key_eq a b ≡ t → t ≡ false
    by true e = absurd (before-irrefl b (subst (λ (k : BatchKey). key_lt k b ≡ true) (same-keys a b e) l))
    by false e = refl

-- batches arrive one after the other
abbrev pub all_in : List Batch → List Batch → List Batch
all_in [] batches = batches
all_in (b ∷ more) batches = all_in more (arrived b batches)

pub all-in : (waiting : List Message) (known : List Batch) → with_messages waiting known ≡ all_in (batches_of waiting) known
all-in [] known = refl
all-in (sent ∷ waiting) known = by sent.second (λ l. all-in waiting l)
  where
    by : (o : Option Batch) → ((l : List Batch) → with_messages waiting l ≡ all_in (batches_of waiting) l)
        → with_messages waiting (arrived_second o (arrived sent.batch known)) ≡ all_in ((sent.batch ∷ option_to_list o) ++ batches_of waiting) known
    by None rest = rest (arrived sent.batch known)
    by (Some second) rest = rest (arrived second (arrived sent.batch known))

module _ (test : Batch → Bool) where
  -- the key that is found among batches after this one comes after it
  found-behind : (own : BatchKey) (batches : List Batch) → ComeAfter own batches → lesser own (first_key test batches) ≡ own
  found-behind own [] after = refl
  found-behind own (x ∷ xs) after = by (test x) (found-behind own xs after.1)
    where
      by : (t : Bool) → lesser own (first_key test xs) ≡ own → lesser own (if t then Some x.key else first_key test xs) ≡ own
      by true rest = ap (λ t. if t then x.key else own) (not-before own x.key after.0)
      by false rest = rest

  -- with one more batch, the first is that one, or the first before, whichever is less
  found-arrived : (b : Batch) (batches : List Batch) → Rise batches → batch_at b.key batches ≡ None → first_key test (arrived b batches) ≡ least_with test b (first_key test batches)
  found-arrived b [] rise none = refl
  found-arrived b (x ∷ xs) rise none = by (key_lt b.key x.key) refl (key_eq b.key x.key) refl (found-arrived b xs rise.1 (none-parts x xs b.key none).1)
    where
      less : key_lt b.key x.key ≡ true → (t : Bool) → (if t then Some b.key else first_key test (x ∷ xs)) ≡ (if t then Some (lesser b.key (first_key test (x ∷ xs))) else first_key test (x ∷ xs))
      less l true = ap Some (sym (found-behind b.key (x ∷ xs) (l, after-trans b.key x.key xs l rise.0)))
      less l false = refl

      more : key_lt x.key b.key ≡ true → (s t : Bool) → first_key test (arrived b xs) ≡ (if s then Some (lesser b.key (first_key test xs)) else first_key test xs)
          → (if t then Some x.key else first_key test (arrived b xs))
          ≡ (if s then Some (lesser b.key (if t then Some x.key else first_key test xs)) else (if t then Some x.key else first_key test xs))
      more l true true rest = ap (λ t. Some (if t then x.key else b.key)) (sym l)
      more l false true rest = refl
      more l true false rest = rest
      more l false false rest = rest

      by : (l : Bool) → key_lt b.key x.key ≡ l → (e : Bool) → key_eq b.key x.key ≡ e → first_key test (arrived b xs) ≡ least_with test b (first_key test xs)
          → first_key test (if l then b ∷ x ∷ xs else if e then x ∷ xs else x ∷ arrived b xs) ≡ least_with test b (first_key test (x ∷ xs))
      by true l e f rest = less l (test b)
      by false l true f rest =
          absurd (true≢false (sym (subst (λ (k : BatchKey). key_eq x.key k ≡ true) (sym (same-keys b.key x.key f)) (key_eq-self x.key)) ∙ (none-parts x xs b.key none).0))
      by false l false f rest = more (before-total b.key x.key l f) (test b) (test x) rest

  -- what was found stays, where it comes before all others
  found-stays : (found : BatchKey) (batches : List Batch) → ComeAfter found batches → least_of test batches (Some found) ≡ Some found
  found-stays found [] after = refl
  found-stays found (x ∷ xs) after = by (test x) (found-stays found xs after.1)
    where
      by : (t : Bool) → least_of test xs (Some found) ≡ Some found → least_of test xs (if t then Some (lesser x.key (Some found)) else Some found) ≡ Some found
      by true rest = ap (λ t. least_of test xs (Some (if t then found else x.key))) after.0 ∙ rest
      by false rest = rest

  -- of batches that rise, the least is the first
  pub least-first : (batches : List Batch) → Rise batches → least_of test batches None ≡ first_key test batches
  least-first [] rise = refl
  least-first (x ∷ xs) rise = by (test x) (least-first xs rise.1)
    where
      by : (t : Bool) → least_of test xs None ≡ first_key test xs → least_of test xs (if t then Some x.key else None) ≡ (if t then Some x.key else first_key test xs)
      by true rest = found-stays x.key xs rise.0
      by false rest = rest

  pub least-known : (known batches : List Batch) (result : Option BatchKey) → Rise known → batches ≡ known → result ≡ least_of test batches None → result ≡ first_key test known
  least-known known batches result rise same e = e ∙ ap (λ (l : List Batch). least_of test l None) same ∙ least-first known rise

  -- the first of all that have arrived is the least of what was found, and of those that arrived since
  pub first-all : (more batches : List Batch) → Rise more → Rise batches → AllByRecursion (λ b. batch_at b.key batches ≡ None) more
      → first_key test (all_in more batches) ≡ least_of test more (first_key test batches)
  first-all [] batches rises rise fresh = refl
  first-all (b ∷ more) batches rises rise fresh =
      first-all more (arrived b batches) rises.1 (Rise-arrived b batches rise) (still more rises.0 fresh.1) ∙ ap (least_of test more) (found-arrived b batches rise fresh.0)
    where
      still : (xs : List Batch) → ComeAfter b.key xs → AllByRecursion (λ x. batch_at x.key batches ≡ None) xs → AllByRecursion (λ x. batch_at x.key (arrived b batches) ≡ None) xs
      still [] after none = tt
      still (x ∷ xs) after none = (none-after b batches x.key (not-same b.key x.key after.0) none.0, still xs after.1 none.1)

  first-behind : (low : BatchKey) (batches : List Batch) → ComeAfter low batches → (found : BatchKey) → first_key test batches ≡ Some found → key_lt low found ≡ true
  first-behind low [] after found e = absurd (cc)
  first-behind low (x ∷ xs) after found e = by (test x) e (λ h. first-behind low xs after.1 found h)
    where
      by : (t : Bool) → (if t then Some x.key else first_key test xs) ≡ Some found → (first_key test xs ≡ Some found → key_lt low found ≡ true) → key_lt low found ≡ true
      by true h rest = let same : x.key ≡ found = cc in subst (λ (k : BatchKey). key_lt low k ≡ true) same after.0
      by false h rest = rest h

  -- the batch of the first key is the first batch
  pub first-batch : (batches : List Batch) → Rise batches → named (first_key test batches) batches ≡ find test batches
  first-batch [] rise = refl
  first-batch (x ∷ xs) rise = by (test x) (first-batch xs rise.1)
    where
      skip : (o : Option BatchKey) → first_key test xs ≡ o → named o (x ∷ xs) ≡ named o xs
      skip None e = refl
      skip (Some found) e = ap (λ t. if t then Some x else batch_at found xs) (not-same x.key found (first-behind x.key xs rise.0 found e))

      by : (t : Bool) → named (first_key test xs) xs ≡ find test xs → named (if t then Some x.key else first_key test xs) (x ∷ xs) ≡ (if t then Some x else find test xs)
      by true rest = ap (λ t. if t then Some x else batch_at x.key xs) (key_eq-self x.key)
      by false rest = skip (first_key test xs) refl ∙ rest
