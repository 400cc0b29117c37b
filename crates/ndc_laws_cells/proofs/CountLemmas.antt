-- How much is written: counts with one more batch, how long paths are, and how many strays there can be.
use Rattle.std.proofs.Common.{◌≡◌, ◌≤◌, ◌+◌, ◌*◌, Bool, true, false, List, [], ◌∷◌, length, Some, None, refl, sym, ◌∙◌, subst, arith}
use Rattle.std.specs.List.{AllByRecursion, flat_map}
use Rattle.std.specs.Prelude.{if◌then◌else◌}
use Rattle.std.proofs.lemmas.List.{length-append}
use Rattle.std.proofs.lemmas.List.Sums.{sum_by-append}
use Rattle.ndc_event.specs.Key.{key_eq, key_lt}
use Rattle.ndc_event.specs.declared.batch.Batch.{Batch}
use Rattle.ndc_event.specs.declared.batch.Event.{Event}
use Rattle.ndc_event.specs.declared.key.BatchKey.{BatchKey}
use Rattle.ndc_index.specs.Texts.{count_kinds, is_original}
use Rattle.ndc_laws_cells.specs.Entries.{originals_in}
use Rattle.ndc_model_sets.specs.Paths.{Walk, events_to, is_wanted, walk_down}
use Rattle.ndc_model_sets.specs.Sets.{arrived, batch_at}
use Rattle.ndc_model_sets.proofs.KeyLemmas.{key_eq-self, same-keys}
use Rattle.ndc_model_sets.proofs.SetLemmas.{at-cases}
use Rattle.ndc_state.specs.Replay.{history_of}
use Rattle.ndc_laws_cells.proofs.KindLemmas.{one_if}

-- arrival of a new batch, by whether it goes before or after the first
pub arrived-cases : (P : List Batch → Type 0) (new b : Batch) (bs : List Batch) → batch_at new.key (b ∷ bs) ≡ None
    → P (new ∷ b ∷ bs) → (batch_at new.key bs ≡ None → P (b ∷ arrived new bs)) → P (arrived new (b ∷ bs))
arrived-cases P new b bs fresh front behind = by (key_lt new.key b.key) (key_eq new.key b.key) refl
  where
    none : (key_eq b.key new.key ≡ true → ⊥) × (batch_at new.key bs ≡ None)
    none =
        at-cases (λ o. o ≡ None → (key_eq b.key new.key ≡ true → ⊥) × (batch_at new.key bs ≡ None)) b bs new.key
        (λ _ e. absurd (cc))
        (λ no e. ((λ yes. let both : true ≡ false = sym yes ∙ no in absurd (cc)), e)) fresh

    by : (less same : Bool) → key_eq new.key b.key ≡ same → P (if less then new ∷ b ∷ bs else if same then b ∷ bs else b ∷ arrived new bs)
    by true same e = front
    by false true e = absurd (none.0 (subst (λ (k : BatchKey). key_eq b.key k ≡ true) (sym (same-keys new.key b.key e)) (key_eq-self b.key)))
    by false false e = behind none.1

pub arrived-length : (new : Batch) (bs : List Batch) → batch_at new.key bs ≡ None → length (arrived new bs) ≡ length bs + 1
arrived-length new [] fresh = refl
arrived-length new (b ∷ bs) fresh = arrived-cases (λ l. length l ≡ length (b ∷ bs) + 1) new b bs fresh (omega arith) (λ rest. let e = arrived-length new bs rest in omega (arith, e))

-- original signals of one batch and of more
pub originals-cons : (b : Batch) (bs : List Batch) → originals_in (b ∷ bs) ≡ count_kinds is_original b.events + originals_in bs
originals-cons b bs = sum_by-append (λ (e : Event). one_if (is_original e.kind)) b.events (flat_map (λ (x : Batch). x.events) bs)

pub arrived-originals : (new : Batch) (bs : List Batch) → batch_at new.key bs ≡ None → originals_in (arrived new bs) ≡ originals_in bs + count_kinds is_original new.events
arrived-originals new [] fresh = originals-cons new [] ∙ omega arith
arrived-originals new (b ∷ bs) fresh =
    arrived-cases (λ l. originals_in l ≡ originals_in (b ∷ bs) + count_kinds is_original new.events) new b bs fresh
    (let e = originals-cons new (b ∷ bs) in omega (arith, e))
    (λ rest. let e = arrived-originals new bs rest in let one = originals-cons b (arrived new bs) in let two = originals-cons b bs in omega (arith, e, one, two))

pub arrived-all : (P : Batch → Type 0) (new : Batch) (bs : List Batch) → batch_at new.key bs ≡ None → P new → AllByRecursion P bs → AllByRecursion P (arrived new bs)
arrived-all P new [] fresh p all = (p, tt)
arrived-all P new (b ∷ bs) fresh p all = arrived-cases (AllByRecursion P) new b bs fresh (p, all) (λ rest. (all.0, arrived-all P new bs rest p all.1))

-- a path is no longer than its batches
walk-most : (bs : List Batch) (w : Walk) → AllByRecursion (λ (b : Batch). length b.events ≤ 204803) bs → length (history_of (walk_down bs w).path) ≤ length bs * 204803 + length (history_of w.path)
walk-most [] w all = omega arith
walk-most (b ∷ bs) w all = by (is_wanted (walk_down bs w).wanted b) (walk-most bs w all.1) all.0
  where
    rest : Walk
    rest = walk_down bs w

    by : (wanted : Bool) → length (history_of rest.path) ≤ length bs * 204803 + length (history_of w.path) → length b.events ≤ 204803
        → length (history_of (if wanted then record { wanted = b.parent; path = b ∷ rest.path } else rest).path) ≤ length (b ∷ bs) * 204803 + length (history_of w.path)
    by true few most = let e = length-append b.events (history_of rest.path) in omega (arith, e, few, most)
    by false few most = omega (arith, few, most)

pub events-most : (key : BatchKey) (bs : List Batch) → AllByRecursion (λ (b : Batch). length b.events ≤ 204803) bs → length (events_to key bs) ≤ length bs * 204803
events-most key bs all = let m = walk-most bs (record { wanted = Some key; path = [] }) all in omega (arith, m)
