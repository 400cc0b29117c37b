-- What is freed of the messages that wait, and what is kept.
use Rattle.std.proofs.Common.{◌≡◌, Bool, true, false, List, [], ◌∷◌, ◌++◌, Option, Some, None, refl, sym, ◌∙◌, subst, ap}
use Rattle.std.specs.Prelude.{if◌then◌else◌}
use Rattle.std.specs.Option.{option_or}
use Rattle.std.specs.List.{AllByRecursion}
use Rattle.ndc_model_cells.specs.declared.message.Message.{Message}
use Rattle.ndc_model_cells.specs.Cells.{both}
use Rattle.ndc_event.specs.Key.{key_lt}
use Rattle.ndc_event.specs.declared.batch.Batch.{Batch}
use Rattle.ndc_event.specs.declared.key.BatchKey.{BatchKey}
use Rattle.ndc_model_sets.specs.Sets.{ComeAfter, Rise, batch_at}
use Rattle.ndc_model_sets.proofs.SetLemmas.{at-append, none-there, found-all, found-key}
use Rattle.ndc_model_cells.specs.Messages.{batches_of, waits_for}
use Rattle.ndc_shard_waiting.specs.Waiting.{freed_by, kept_by}
use Rattle.ndc_model_sets.proofs.Lists.{all-join}
use Rattle.ndc_shard_waiting.proofs.OrderLemmas.{all-front, all-back, Precede, rise-join, rise-front, rise-back, rise-precede}

-- what is freed and what is kept, by whether the first message waits for the batches
pub freed-cases : (P : List Message → List Message → Type 0) (so_far : List Batch) (sent : Message) (waiting : List Message)
    → (waits_for so_far sent ≡ true → P (sent ∷ freed_by (so_far ++ both sent) waiting) (kept_by (so_far ++ both sent) waiting))
    → (waits_for so_far sent ≡ false → P (freed_by so_far waiting) (sent ∷ kept_by so_far waiting))
    → P (freed_by so_far (sent ∷ waiting)) (kept_by so_far (sent ∷ waiting))
freed-cases P so_far sent waiting frees keeps = by (waits_for so_far sent) refl
  where
    by : (t : Bool) → waits_for so_far sent ≡ t → P (if t then sent ∷ freed_by (so_far ++ both sent) waiting else freed_by so_far waiting)
        (if t then kept_by (so_far ++ both sent) waiting else sent ∷ kept_by so_far waiting)
    by true e = frees e
    by false e = keeps e

-- what holds of each message holds of each that is freed, and of each that is kept
pub all-freed : (P : Message → Type 0) (so_far : List Batch) (waiting : List Message) → AllByRecursion P waiting → AllByRecursion P (freed_by so_far waiting) × AllByRecursion P (kept_by so_far waiting)
all-freed P so_far [] all = (tt, tt)
all-freed P so_far (sent ∷ waiting) all =
    freed-cases (λ f k. AllByRecursion P f × AllByRecursion P k) so_far sent waiting
    (λ _. let r = all-freed P (so_far ++ both sent) waiting all.1 in ((all.0, r.0), r.1))
    (λ _. let r = all-freed P so_far waiting all.1 in (r.0, (all.0, r.1)))

-- the same of batches
pub batches-freed : (P : Batch → Type 0) (so_far : List Batch) (waiting : List Message) → AllByRecursion P (batches_of waiting)
    → AllByRecursion P (batches_of (freed_by so_far waiting)) × AllByRecursion P (batches_of (kept_by so_far waiting))
batches-freed P so_far [] all = (tt, tt)
batches-freed P so_far (sent ∷ waiting) all =
    let own = all-front P (both sent) (batches_of waiting) all in
    let rest = all-back P (both sent) (batches_of waiting) all in
    freed-cases (λ f k. AllByRecursion P (batches_of f) × AllByRecursion P (batches_of k)) so_far sent waiting
    (λ _. let r = batches-freed P (so_far ++ both sent) waiting rest in (all-join P (both sent) (batches_of (freed_by (so_far ++ both sent) waiting)) own r.0, r.1))
    (λ _. let r = batches-freed P so_far waiting rest in (r.0, all-join P (both sent) (batches_of (kept_by so_far waiting)) own r.1))

pub precede-part : (front rest part : List Batch) → ((P : Batch → Type 0) → AllByRecursion P rest → AllByRecursion P part) → Precede front rest → Precede front part
precede-part [] rest part within before = tt
precede-part (b ∷ front) rest part within before = (within (λ x. key_lt b.key x.key ≡ true) before.0, precede-part front rest part within before.1)

-- what is freed stands in key order, and so does what is kept
pub rise-freed : (so_far : List Batch) (waiting : List Message) → Rise (batches_of waiting) → Rise (batches_of (freed_by so_far waiting)) × Rise (batches_of (kept_by so_far waiting))
rise-freed so_far [] rise = (tt, tt)
rise-freed so_far (sent ∷ waiting) rise =
    let own = rise-front (both sent) (batches_of waiting) rise in
    let rest = rise-back (both sent) (batches_of waiting) rise in
    let before = rise-precede (both sent) (batches_of waiting) rise in
    freed-cases (λ f k. Rise (batches_of f) × Rise (batches_of k)) so_far sent waiting
    (λ _. let r = rise-freed (so_far ++ both sent) waiting rest in (
      rise-join (both sent) (batches_of (freed_by (so_far ++ both sent) waiting)) own
          (precede-part (both sent) (batches_of waiting) (batches_of (freed_by (so_far ++ both sent) waiting)) (λ P all. (batches-freed P (so_far ++ both sent) waiting all).0) before) r.0,
      r.1,
    ))
    (λ _. let r = rise-freed so_far waiting rest in (
      r.0,
      rise-join (both sent) (batches_of (kept_by so_far waiting)) own
          (precede-part (both sent) (batches_of waiting) (batches_of (kept_by so_far waiting)) (λ P all. (batches-freed P so_far waiting all).1) before) r.1,
    ))

-- what is found before is not found after
pub found-precedes : (front rest : List Batch) (key : BatchKey) (b : Batch) → Precede front rest → batch_at key front ≡ Some b → batch_at key rest ≡ None
found-precedes front rest key b before h =
    none-there rest key (subst (λ (k : BatchKey). ComeAfter k rest) (found-key front key b h) (found-all (λ x. ComeAfter x.key rest) front key b before h))

pub or-assoc : (a b c : Option Batch) → option_or (option_or a b) c ≡ option_or a (option_or b c)
or-assoc (Some x) b c = refl
or-assoc None b c = refl

-- each of the batches is freed or kept
pub found-parts : (so_far : List Batch) (waiting : List Message) (key : BatchKey) → Rise (batches_of waiting)
    → batch_at key (batches_of waiting) ≡ option_or (batch_at key (batches_of (freed_by so_far waiting))) (batch_at key (batches_of (kept_by so_far waiting)))
found-parts so_far [] key rise = refl
found-parts so_far (sent ∷ waiting) key rise =
    let rest = rise-back (both sent) (batches_of waiting) rise in
    let before = rise-precede (both sent) (batches_of waiting) rise in
    freed-cases (λ f k. batch_at key (both sent ++ batches_of waiting) ≡ option_or (batch_at key (batches_of f)) (batch_at key (batches_of k))) so_far sent waiting
    (λ _. at-append (both sent) (batches_of waiting) key
    ∙ ap (option_or (batch_at key (both sent))) (found-parts (so_far ++ both sent) waiting key rest)
    ∙ sym (or-assoc (batch_at key (both sent)) (batch_at key (batches_of (freed_by (so_far ++ both sent) waiting))) (batch_at key (batches_of (kept_by (so_far ++ both sent) waiting))))
    ∙ ap (λ o. option_or o (batch_at key (batches_of (kept_by (so_far ++ both sent) waiting)))) (sym (at-append (both sent) (batches_of (freed_by (so_far ++ both sent) waiting)) key)))
    (λ _. at-append (both sent) (batches_of waiting) key
    ∙ by (batch_at key (both sent)) refl
    (precede-part (both sent) (batches_of waiting) (batches_of (freed_by so_far waiting)) (λ P all. (batches-freed P so_far waiting all).0) before)
    (found-parts so_far waiting key rest)
    ∙ ap (option_or (batch_at key (batches_of (freed_by so_far waiting)))) (sym (at-append (both sent) (batches_of (kept_by so_far waiting)) key)))
  where
    by : (o : Option Batch) → batch_at key (both sent) ≡ o → Precede (both sent) (batches_of (freed_by so_far waiting))
        → batch_at key (batches_of waiting) ≡ option_or (batch_at key (batches_of (freed_by so_far waiting))) (batch_at key (batches_of (kept_by so_far waiting)))
        → option_or o (batch_at key (batches_of waiting)) ≡ option_or (batch_at key (batches_of (freed_by so_far waiting))) (option_or o (batch_at key (batches_of (kept_by so_far waiting))))
    by None e before same = same
    by (Some x) e before same = rw (found-precedes (both sent) (batches_of (freed_by so_far waiting)) key x before e) refl
