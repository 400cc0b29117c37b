-- What a learned batch carries has the key just after its own.
use Rattle.std.proofs.Common.{◌≡◌, ◌+◌, ◌≤◌, Bool, true, false, not, ◌==◌, List, [], ◌∷◌, Option, Some, None, if◌then◌else◌, refl, sym, ◌∙◌, subst, ap, true≢false, arith}
use Rattle.std.specs.Prelude.{is_some}
use Rattle.std.specs.List.{AllByRecursion}
use Rattle.std.proofs.lemmas.Bool.{and_parts, eqb-true}
use Rattle.ndc_model_cells.specs.Cells.{carries}
use Rattle.ndc_model_cells.specs.Places.{is_of}
use Rattle.ndc_model_cells.specs.Writing.{greatest_task, key_behind}
use Rattle.ndc_event.specs.Batch.{fault_of, is_carrier_fit}
use Rattle.ndc_event.specs.Key.{key_eq}
use Rattle.ndc_event.specs.declared.batch.Batch.{Batch}
use Rattle.ndc_event.specs.declared.key.BatchKey.{BatchKey}
use Rattle.ndc_model_sets.specs.Paths.{is_wanted}
use Rattle.ndc_model_sets.specs.Sets.{Rise, ComeAfter, batch_at}
use Rattle.ndc_model_sets.specs.Sound.{IsSound}
use Rattle.ndc_model_sets.proofs.BranchLemmas.{has-among}
use Rattle.ndc_model_sets.proofs.FaultLemmas.{passes}
use Rattle.ndc_model_sets.proofs.KeyLemmas.{key-parts, key_eq-self, same-keys}
use Rattle.ndc_model_sets.proofs.SetLemmas.{found-has, found-key, none-there}
use Rattle.ndc_shard_runs.proofs.TakenLemmas.{task-up-to}
use Rattle.ndc_shard_waiting.proofs.FreeLemmas.{all-there}
use Rattle.ndc_shard_workflows.specs.Messages.{first_key, key_if_carried}

behind-key : (b x : Batch) → fault_of x ≡ None → carries b x ≡ true → x.key ≡ key_behind b.key
behind-key b x fine c = by x.carrier (and_parts (is_of b.domain b.workflow x) (is_wanted x.carrier b) c).1 (passes x fine).carrier
  where
    by : (o : Option BatchKey) → is_wanted o b ≡ true → is_carrier_fit x.key x.parent o ≡ true → x.key ≡ key_behind b.key
    by None w t = absurd (true≢false (sym w))
    by (Some key) w t =
        let same : b.key ≡ key = same-keys b.key key w in
        let r = and_parts (key.version == x.key.version) (key.task + 1 == x.key.task) (and_parts (not (is_some x.parent)) _ t).1 in
        key-parts x.key (key_behind b.key) (sym (eqb-true key.version x.key.version r.0) ∙ sym (ap (λ (k : BatchKey). k.version) same))
        (sym (eqb-true (key.task + 1) x.key.task r.1) ∙ sym (ap (λ (k : BatchKey). k.task + 1) same))

module _ (b : Batch) where
  all-behind : (known xs : List Batch) → IsSound known → AllByRecursion (λ x. batch_at x.key known ≡ Some x) xs → AllByRecursion (λ x. carries b x ≡ true → x.key ≡ key_behind b.key) xs
  all-behind known [] sound has = tt
  all-behind known (x ∷ xs) sound has = (behind-key b x (sound.faultless x has.0), all-behind known xs sound has.1)

  next-first : (xs : List Batch) → Rise xs → AllByRecursion (λ x. carries b x ≡ true → x.key ≡ key_behind b.key) xs → key_if_carried b (batch_at (key_behind b.key) xs) ≡ first_key (carries b) xs
  next-first [] rise all = refl
  next-first (x ∷ xs) rise all = by (carries b x) refl (key_eq x.key (key_behind b.key)) refl (next-first xs rise.1 all.1)
    where
      by : (c : Bool) → carries b x ≡ c → (e : Bool) → key_eq x.key (key_behind b.key) ≡ e → key_if_carried b (batch_at (key_behind b.key) xs) ≡ first_key (carries b) xs
          → key_if_carried b (if e then Some x else batch_at (key_behind b.key) xs) ≡ (if c then Some x.key else first_key (carries b) xs)
      by true c true e rest = ap (λ t. if t then Some x.key else None) c
      by true c false e rest = absurd (true≢false (sym (subst (λ (k : BatchKey). key_eq x.key k ≡ true) (all.0 c) (key_eq-self x.key)) ∙ e))
      by false c true e rest =
          ap (λ t. if t then Some x.key else None) c
          ∙ ap (key_if_carried b) (sym (none-there xs (key_behind b.key) (subst (λ (k : BatchKey). ComeAfter k xs) (same-keys x.key (key_behind b.key) e) rise.0))) ∙ rest
      by false c false e rest = rest

-- the first that a batch carries is the one of the next key
pub next-known : (b : Batch) (known : List Batch) → IsSound known → key_if_carried b (batch_at (key_behind b.key) known) ≡ first_key (carries b) known
next-known b known sound = next-first b known sound.set.ordered (all-behind b known known sound (all-there known sound.set.ordered))

-- after the greatest task there is none
pub none-next : (key : BatchKey) (known : List Batch) → greatest_task known ≤ key.task → batch_at (key_behind key) known ≡ None
none-next key known most = by (batch_at (key_behind key) known) refl
  where
    by : (o : Option Batch) → batch_at (key_behind key) known ≡ o → o ≡ None
    by None e = refl
    by (Some x) e =
        let same : x.key ≡ key_behind key = found-key known (key_behind key) x e in
        let task : x.key.task ≡ key.task + 1 = ap (λ (k : BatchKey). k.task) same in
        let up = task-up-to known x (has-among known x (found-has known (key_behind key) x e)) in
        absurd (omega (arith, task, up, most))
