-- The events that kinds become, kind by kind.
use Rattle.std.proofs.Common.{◌≡◌, ◌≤◌, ◌<◌, ◌^◌, ℕ, suc, ◌+◌, List, [], ◌∷◌, ◌++◌, length, refl, sym, ◌∙◌, ap, arith}
use Rattle.std.proofs.lemmas.List.{append_assoc, length-append}
use Rattle.ndc_event.specs.declared.batch.Event.{Event}
use Rattle.ndc_event.specs.declared.kind.EventKind.{EventKind}
use Rattle.ndc_state.specs.Written.{events_from}

-- there are as many events as kinds
pub length-events : (id version : ℕ) (kinds : List EventKind) → length (events_from id version kinds) ≡ length kinds
length-events id version [] = refl
length-events id version (kind ∷ kinds) = ap suc (length-events (id + 1) version kinds)

-- the event of a last kind goes last
pub events-more : (id version : ℕ) (kinds : List EventKind) (kind : EventKind)
    → events_from id version (kinds ++ kind ∷ []) ≡ events_from id version kinds ++ record { id = id + length kinds; version = version; kind = kind } ∷ []
events-more id version [] kind =
    let same : id ≡ id + 0 = omega arith in
    ap (λ (n : ℕ). record { id = n; version = version; kind = kind } ∷ []) same
events-more id version (first ∷ kinds) kind =
    let same : id + 1 + length kinds ≡ id + suc (length kinds) = omega arith in
    ap (λ l. record { id = id; version = version; kind = first } ∷ l)
    (events-more (id + 1) version kinds kind ∙ ap (λ (n : ℕ). events_from (id + 1) version kinds ++ record { id = n; version = version; kind = kind } ∷ []) same)

-- a kind more is taken
pub kind-next : (all kinds now rest : List EventKind) (kind : EventKind) → all ≡ kinds ++ now → now ≡ kind ∷ rest → all ≡ kinds ++ kind ∷ rest
kind-next all kinds now rest kind are so = are ∙ ap (λ l. kinds ++ l) so

pub kind-taken : (all kinds rest : List EventKind) (kind : EventKind) → all ≡ kinds ++ kind ∷ rest → all ≡ (kinds ++ kind ∷ []) ++ rest
kind-taken all kinds rest kind are = are ∙ sym (append_assoc kinds (kind ∷ []) rest)

module _ (first version : ℕ) (kinds : List EventKind) (kind : EventKind) (events : List Event) (so : events ≡ events_from first version kinds) (count : ℕ) (counts : count ≡ length events) where
  -- the id of the next of these kinds fits
  pub id-fits : (all rest : List EventKind) → first + length all ≤ 2 ^ 64 → all ≡ kinds ++ kind ∷ rest → first + count < 2 ^ 64
  id-fits all rest most are =
      let one = ap length so ∙ length-events first version kinds in
      let many : length all ≡ length kinds + suc (length rest) = ap length are ∙ length-append kinds (kind ∷ rest) in
      omega (arith, most, counts, one, many)

  -- its event goes last
  pub event-pushed : (now : List Event) → now ≡ events ++ record { id = first + count; version = version; kind = kind } ∷ [] → now ≡ events_from first version (kinds ++ kind ∷ [])
  event-pushed now pushed =
      let n : count ≡ length kinds = counts ∙ ap length so ∙ length-events first version kinds in
      pushed
      ∙ ap (λ (m : ℕ). events ++ record { id = first + m; version = version; kind = kind } ∷ []) n
      ∙ ap (λ l. l ++ record { id = first + length kinds; version = version; kind = kind } ∷ []) so
      ∙ sym (events-more first version kinds kind)
