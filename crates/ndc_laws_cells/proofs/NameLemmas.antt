-- Batches of one workflow; workflows, each once.
use Rattle.std.proofs.Common.{◌≡◌, Bool, true, false, not, List, [], ◌∷◌, Option, Some, None, inl, inr, refl, sym, ◌∙◌, ap, true≢false}
use Rattle.std.specs.List.{AllByRecursion, filter}
use Rattle.std.specs.Str.{bytes_eq}
use Rattle.std.proofs.lemmas.Bool.{and_from}
use Rattle.std.proofs.lemmas.Slice.Eq.{bytes_eq-Decides}
use Rattle.ndc_model_cells.specs.Jobs.{workflows_of}
use Rattle.ndc_model_cells.specs.Places.{is_of}
pub use Rattle.ndc_model_cells.proofs.NameLemmas.{names-of, own-names}
use Rattle.ndc_event.specs.declared.batch.Batch.{Batch}
use Rattle.ndc_event.specs.declared.key.BatchKey.{BatchKey}
use Rattle.ndc_event.specs.declared.name.Name.{Name}
use Rattle.ndc_model_sets.specs.Paths.{is_wanted}
use Rattle.ndc_model_sets.proofs.KeyLemmas.{same-keys}
use Rattle.ndc_model_sets.proofs.Lists.{Among, all-among, all-from, filter-among, filter-cases}

-- batches of one workflow
pub of-both : (domain workflow : Name) (b other : Batch) → is_of domain workflow b ≡ true → is_of domain workflow other ≡ true → is_of b.domain b.workflow other ≡ true
of-both domain workflow b other h k =
    let n = names-of domain workflow b h in
    let m = names-of domain workflow other k in
    and_from (bytes_eq other.domain b.domain) (bytes_eq other.workflow b.workflow) ((bytes_eq-Decides other.domain b.domain).1 (m.0 ∙ sym n.0)) ((bytes_eq-Decides other.workflow b.workflow).1 (m.1 ∙ sym n.1))

-- where the second is not of the first's workflow, the first is not of the second's
pub apart-flip : (b other : Batch) → is_of b.domain b.workflow other ≡ false → is_of other.domain other.workflow b ≡ false
apart-flip b other never = by (is_of other.domain other.workflow b) refl
  where
    by : (t : Bool) → is_of other.domain other.workflow b ≡ t → t ≡ false
    by true h = absurd (true≢false (sym (of-both other.domain other.workflow b other h (own-names other)) ∙ never))
    by false h = refl

-- no two of the batches are of one workflow
abbrev pub AreApart : List Batch → Type 0
AreApart [] = Unit {0}
AreApart (b ∷ bs) = AllByRecursion (λ other. is_of b.domain b.workflow other ≡ false) bs × AreApart bs

apart-filter : (p : Batch → Bool) (bs : List Batch) → AreApart bs → AreApart (filter p bs)
apart-filter p [] apart = tt
apart-filter p (b ∷ bs) apart =
    filter-cases AreApart p b bs
    (λ passes. (all-from (λ other. is_of b.domain b.workflow other ≡ false) (filter p bs) (λ y h. all-among (λ other. is_of b.domain b.workflow other ≡ false) bs y apart.0 (filter-among p bs y h).1), apart-filter p bs apart.1)) (λ fails. apart-filter p bs apart.1)

not-true : (t : Bool) → not t ≡ true → t ≡ false
not-true true h = absurd (true≢false (sym h))
not-true false h = refl

-- the workflows of batches differ, and are workflows of those
pub workflows-apart : (bs : List Batch) → AreApart (workflows_of bs)
workflows-apart [] = tt
workflows-apart (b ∷ bs) = (
  all-from (λ other. is_of b.domain b.workflow other ≡ false) (filter (λ other. not (is_of b.domain b.workflow other)) (workflows_of bs))
      (λ other among. not-true (is_of b.domain b.workflow other) ((filter-among (λ o. not (is_of b.domain b.workflow o)) (workflows_of bs) other among).0)),
  apart-filter (λ other. not (is_of b.domain b.workflow other)) (workflows_of bs) (workflows-apart bs),
)

pub workflows-among : (bs : List Batch) (x : Batch) → Among x (workflows_of bs) → Among x bs
workflows-among [] x none = absurd none
workflows-among (b ∷ bs) x (inl same) = inl same
workflows-among (b ∷ bs) x (inr among) = inr (workflows-among bs x ((filter-among (λ o. not (is_of b.domain b.workflow o)) (workflows_of bs) x among).1))

-- a wanted batch has the key that is wanted
pub wanted-some : (o : Option BatchKey) (b : Batch) → is_wanted o b ≡ true → o ≡ Some b.key
wanted-some None b w = absurd (true≢false (sym w))
wanted-some (Some key) b w = ap (λ (k : BatchKey). Some k) (sym (same-keys b.key key w))
