-- The last batch of a list in key order, looked at before all others.
use Rattle.std.proofs.Common.{◌≡◌, ℕ, zero, suc, ◌+◌, ◌-◌, ◌==◌, ◌≤◌, true, false, List, length, get_or, Ok, Err, refl, sym, ap, subst, ◌∙◌, arith}
use Rattle.std.proofs.lemmas.List.{get_or_default}
use Rattle.std.specs.Ordering.{ordering_index}
use Rattle.std.specs.declared.cmp.Ordering.{Ordering}
use Rattle.std.specs.declared.cmp.Ordering.TheVariants.{Less, Equal, Greater}
use Rattle.ndc_event.specs.Key.{key_lt}
use Rattle.ndc_event.specs.declared.batch.Batch.{Batch}
use Rattle.ndc_event.specs.declared.key.BatchKey.{BatchKey}
use Rattle.ndc_model_sets.proofs.KeyOrder.{key_cmp}
use Rattle.ndc_tree.specs.Places.{comes_before, IsAt, IsGap}
use Rattle.ndc_event.specs.Sorted.{InOrder}
use Rattle.ndc_tree.proofs.KeyPlaces.{batch-place, c, less-from, tested}

-- what compares as no more than less compares as less
less-of : (o : Ordering) → ordering_index o ≤ 0 → o ≡ Less
less-of Less most = refl
less-of Equal most = absurd (omega (arith, most))
less-of Greater most = absurd (omega (arith, most))

-- keys of which neither comes before the other are one
equal-of : (one two : BatchKey) → key_lt one two ≡ false → key_lt two one ≡ false → key_cmp one two ≡ Equal
equal-of one two front behind = by (key_cmp one two) refl
  where
    by : (o : Ordering) → key_cmp one two ≡ o → o ≡ Equal
    by Less e = let clash : false ≡ true = sym front ∙ (tested one two Less e).lt in absurd (cc)
    by Equal e = refl
    by Greater e = let clash : false ≡ true = sym behind ∙ (tested one two Greater e).gt in absurd (cc)

-- where there is one, the last one's place is one below the length
pub last_place : (n : ℕ) → (n == 0) ≡ false → n - 1 + 1 ≡ n
last_place zero some = absurd (cc)
last_place (suc n) some = omega arith

-- a key after the last one goes last
pub behind_last : (key : BatchKey) (batches : List Batch) (last : ℕ) → InOrder comes_before batches → last + 1 ≡ length batches → (d : Batch) → key_lt (get_or batches last d).key key ≡ true
    → IsGap batches key (length batches)
behind_last key batches last order many d before =
    (batch-place key batches order (Err (length batches)) (omega arith)
    (λ rises. (
      (λ k other start below.
          let end : c key (get_or batches last other) ≡ Less =
          subst (λ (b : Batch). c key b ≡ Less) (get_or_default batches last d other (omega (arith, many))) (less-from (get_or batches last d).key key before) in
          less-of (c key (get_or batches k other)) (omega (arith, rises k last other (omega (arith, below, many)) (omega (arith, many)), ap ordering_index end))),
      (λ k d from below. absurd (omega (arith, from, below))),
    ))).absent

-- a key that is neither before nor after the last one is there
pub at_last : (key : BatchKey) (batches : List Batch) (last : ℕ) → InOrder comes_before batches → last + 1 ≡ length batches → (d : Batch) → key_lt (get_or batches last d).key key ≡ false → key_lt key (get_or batches last d).key ≡ false
    → IsAt batches key last
at_last key batches last order many d before behind =
    (batch-place key batches order (Ok last) (omega (arith, many)) (λ other. subst (λ (b : Batch). c key b ≡ Equal) (get_or_default batches last d other (omega (arith, many))) (equal-of (get_or batches last d).key key before behind))).found
