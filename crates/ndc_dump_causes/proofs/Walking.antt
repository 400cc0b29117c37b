-- Walks upwards from a batch to the first of its run.
use Rattle.std.proofs.Common.{◌≡◌, ℕ, zero, suc, ◌^◌, ◌<◌, ◌≤◌, Bool, true, false, nat_le, All, List, [], ◌∷◌, ◌++◌, map, reverse, length, get_or, if◌then◌else◌, Option, Some, None, refl, sym, ◌∙◌, subst, ap, arith}
use Rattle.std.proofs.lemmas.List.{append-nil, append_assoc, reverse-append}
use Rattle.std.proofs.lemmas.Bool.{and_parts, leb-true}
use Rattle.std.proofs.lemmas.List.Elements.{All-nil, All-cons}
use Rattle.std.specs.List.{AllByRecursion}
use Rattle.ndc_event.specs.declared.batch.Batch.{Batch}
use Rattle.ndc_event.specs.declared.batch.Event.{Event}
use Rattle.ndc_event.specs.declared.key.BatchKey.{BatchKey}
use Rattle.ndc_model_sets.specs.Sets.{IsSet, batch_at, Has}
use Rattle.ndc_model_sets.specs.Paths.{Walk, is_wanted, walk_down, walk_over, path_from, path_to}
use Rattle.ndc_model_sets.proofs.PathLemmas.{from, none-wanted, path-parent}
use Rattle.ndc_model_sets.proofs.SetLemmas.{at-cases, found-key, found-has}
use Rattle.ndc_model_sets.specs.Reading.{named, path_of}
use Rattle.ndc_tree.proofs.GrowLemmas.{parent-task}
use Rattle.ndc_tree.proofs.ReadingLemmas.{Walks}
use Rattle.ndc_tree.proofs.VersionLemmas.{IsOf, rank}
use Rattle.ndc_text.specs.Ranges.{EventsFit, InRange}
use Rattle.ndc_dump_causes.specs.Given.{AreRead, HasSmallIds}

-- what is not there is not found
absent : (batches : List Batch) (key : BatchKey) → batch_at key batches ≡ None → walk_down batches (from (Some key)) ≡ from (Some key)
absent [] key = λ h. refl
absent (b ∷ bs) key = at-cases (λ o. o ≡ None → walk_down (b ∷ bs) (from (Some key)) ≡ from (Some key)) b bs key
    (λ _ h. absurd (cc))
    (λ e h. ap (walk_over b) (absent bs key h) ∙ rw e refl)

-- the path that ends where a key is wanted is that to the batch of the key
pub wanted-path : (batches : List Batch) (wanted : Option BatchKey) → path_from wanted batches ≡ path_of (named wanted batches) batches
wanted-path batches None = ap (λ w. w.path) (none-wanted batches)
wanted-path batches (Some key) = by (batch_at key batches) refl
  where
    by : (o : Option Batch) → batch_at key batches ≡ o → path_from (Some key) batches ≡ path_of (batch_at key batches) batches
    by None e = ap (λ w. w.path) (absent batches key e) ∙ sym (ap (λ o. path_of o batches) e)
    by (Some b) e = sym (ap (λ o. path_of o batches) e ∙ ap (λ k. path_to k batches) (found-key batches key b e))

-- what a key names is one of the batches
pub named-has : (batches : List Batch) (wanted : Option BatchKey) → IsOf batches (named wanted batches)
named-has batches None = tt
named-has batches (Some key) = by (batch_at key batches) refl
  where
    by : (o : Option Batch) → batch_at key batches ≡ o → IsOf batches (batch_at key batches)
    by None e = subst (IsOf batches) (sym e) tt
    by (Some b) e = subst (IsOf batches) (sym e) (found-has batches key b e)

-- the path to a batch is that to what its parent names, and then the batch
pub step-up : (batches : List Batch) (b : Batch) → IsSet batches → Has batches b → path_to b.key batches ≡ path_of (named b.parent batches) batches ++ b ∷ []
step-up batches b set has = path-parent batches b set has ∙ ap (λ p. p ++ b ∷ []) (wanted-path batches b.parent)

more : (front done whole : List Batch) (x : Batch) → (front ++ x ∷ []) ++ reverse done ≡ whole → front ++ reverse (done ++ x ∷ []) ≡ whole
more front done whole x e = ap (λ l. front ++ l) (reverse-append done (x ∷ [])) ∙ sym (append_assoc front (x ∷ []) (reverse done)) ∙ e

pub walks-begin : (batches : List Batch) (wanted : Option BatchKey) (next : Option Batch) (done : List Batch) → next ≡ named wanted batches → done ≡ [] → Walks batches path_of next done (path_from wanted batches)
walks-begin batches wanted next done e none = record {
  rest = ap (λ l. path_of next batches ++ reverse l) none ∙ append-nil (path_of next batches) ∙ ap (λ o. path_of o batches) e ∙ sym (wanted-path batches wanted);
  has = subst (IsOf batches) (sym e) (named-has batches wanted);
}

pub walks-up : (batches : List Batch) (b : Batch) (next up : Option Batch) (done after whole : List Batch) → AreRead batches → next ≡ Some b → Walks batches path_of next done whole
    → up ≡ named b.parent batches → after ≡ done ++ b ∷ [] → Walks batches path_of up after whole
walks-up batches b next up done after whole read at w e f =
    let has : Has batches b = subst (IsOf batches) at w.has in record {
      rest = ap (λ (o : Option Batch). path_of o batches ++ reverse after) e ∙ ap (λ l. path_of (named b.parent batches) batches ++ reverse l) f
          ∙ more (path_of (named b.parent batches) batches) done whole b
          (ap (λ l. l ++ reverse done) (sym (step-up batches b read.set has)) ∙ sym (ap (λ (o : Option Batch). path_of o batches ++ reverse done) at) ∙ w.rest);
      has = subst (IsOf batches) (sym e) (named-has batches b.parent);
    }

-- a parent comes before
parent-rank : (batches : List Batch) (b : Batch) → AreRead batches → Has batches b → rank (named b.parent batches) < rank (Some b)
parent-rank batches b read has = by b.parent refl
  where
    by : (o : Option BatchKey) → b.parent ≡ o → rank (named o batches) < rank (Some b)
    by None e = omega arith
    by (Some key) e = at (batch_at key batches) refl
      where
        at : (p : Option Batch) → batch_at key batches ≡ p → rank (batch_at key batches) < rank (Some b)
        at None f = subst (λ (x : Option Batch). rank x < rank (Some b)) (sym f) (omega arith)
        at (Some p) f =
            let less : p.key.task < b.key.task = subst (λ (k : BatchKey). k.task < b.key.task) (sym (found-key batches key p f)) (parent-task b key (read.faultless b has) e) in
            subst (λ (x : Option Batch). rank x < rank (Some b)) (sym f) (omega (arith, less))

pub walks-less : (batches : List Batch) (b : Batch) (next up : Option Batch) (done whole : List Batch) → AreRead batches → next ≡ Some b → Walks batches path_of next done whole
    → up ≡ named b.parent batches → rank up < rank next
walks-less batches b next up done whole read at w e =
    subst (λ (o : Option Batch). rank up < rank o) (sym at) (subst (λ (o : Option Batch). rank o < rank (Some b)) (sym e) (parent-rank batches b read (subst (IsOf batches) at w.has)))

-- ---- what holds of the batches of a path

walk-all : (P : Batch → Type 0) (batches : List Batch) (w : Walk) → AllByRecursion P batches → AllByRecursion P w.path → AllByRecursion P (walk_down batches w).path
walk-all P [] w all h = h
walk-all P (b ∷ bs) w all h = by (is_wanted (walk_down bs w).wanted b) (walk-all P bs w all.1 h)
  where
    by : (t : Bool) → AllByRecursion P (walk_down bs w).path → AllByRecursion P (if t then record { wanted = b.parent; path = b ∷ (walk_down bs w).path } else walk_down bs w).path
    by true h = (all.0, h)
    by false h = h

-- what holds of all batches holds of those of a path
pub path-all : (P : Batch → Type 0) (batches : List Batch) (wanted : Option BatchKey) → AllByRecursion P batches → AllByRecursion P (path_from wanted batches)
path-all P batches wanted all = walk-all P batches (from wanted) all tt

small-events : (events : List Event) → EventsFit events → All (λ event. event.id ≤ 10 ^ 12) events
small-events [] fit = All-nil (λ event. event.id ≤ 10 ^ 12)
small-events (e ∷ es) fit = All-cons (λ event. event.id ≤ 10 ^ 12) e es (leb-true e.id (10 ^ 12) (and_parts (nat_le 1 e.id) (nat_le e.id (10 ^ 12)) fit.0.0).1) (small-events es fit.1)

pub all-small : (batches : List Batch) → AllByRecursion InRange batches → AllByRecursion HasSmallIds batches
all-small [] all = tt
all-small (b ∷ bs) all = (small-events b.events all.0.events, all-small bs all.1)

pub path-small : (batches : List Batch) (wanted : Option BatchKey) → AreRead batches → AllByRecursion HasSmallIds (path_from wanted batches)
path-small batches wanted read = path-all HasSmallIds batches wanted (all-small batches read.range)

-- what holds of all that a list of references refers to holds of the one at a place
pub all-at : {X Y : Type 0} (P : Y → Type 0) (f : X → Y) (xs : List X) (i : ℕ) (x : X) → AllByRecursion P (map f xs) → i < length xs → x ≡ get_or xs i x → P (f x)
all-at P f [] i x all less is = absurd (omega (arith, less))
all-at P f (y ∷ ys) zero x all less is = subst (λ z. P (f z)) (sym is) all.0
all-at P f (y ∷ ys) (suc i) x all less is = all-at P f ys i x all.1 (omega (arith, less)) is
