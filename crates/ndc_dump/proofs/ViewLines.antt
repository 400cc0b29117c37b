-- The lines after those of batches, and where they differ from what is shown.
use Rattle.std.proofs.Common.{◌≡◌, ℕ, zero, suc, ◌<◌, ◌≤◌, Bool, true, false, List, [], ◌∷◌, ◌++◌, map, length, drop, codes, if◌then◌else◌, Option, Some, None, Ok, Err, refl, sym, ap, ◌∙◌, arith}
use Rattle.std.specs.List.{flat_map}
use Rattle.std.proofs.lemmas.List.{length-map, length-drop}
use Rattle.ndc_event.specs.declared.batch.Batch.{Batch}
use Rattle.ndc_model_sets.specs.View.{view_of}
use Rattle.ndc_model_sets.specs.declared.view.RunView.{RunView}
use Rattle.ndc_model_sets.specs.declared.view.View.{View}
use Rattle.ndc_text.specs.Views.{run_state_lines}
use Rattle.ndc_text.specs.declared.form.TextForm.{TextForm}
use Rattle.ndc_dump_causes.specs.declared.error.DumpError.TheVariants.{Line}
use Rattle.ndc_dump_causes.specs.declared.error.LineCause.TheVariants.{BadView}
use Rattle.ndc_dump.specs.Batches.{batch_count, view_lines}
use Rattle.ndc_dump.specs.Frame.{begins_batch}
use Rattle.ndc_dump.specs.Lines.{differ_at, lines_of}
use Rattle.ndc_dump.specs.Migrated.{standing_for}
use Rattle.ndc_dump.specs.Read.{shown_or, view_on, view_text}
use Rattle.ndc_dump.proofs.Carriers.{standing-runs}

pub count-within : (lines : List (List ℕ)) → batch_count lines ≤ length lines
count-within [] = omega arith
count-within (line ∷ lines) =
    elim (begins_batch line) as (λ (t : Bool). (if t then suc (batch_count lines) else 0) ≤ length (line ∷ lines)) [ true ↦ omega (arith, count-within lines) | false ↦ omega arith ]

drop-count : (lines : List (List ℕ)) → drop (batch_count lines) lines ≡ view_lines lines
drop-count [] = refl
drop-count (line ∷ lines) =
    elim (begins_batch line) as (λ (t : Bool). drop (if t then suc (batch_count lines) else 0) (line ∷ lines) ≡ (if t then view_lines lines else line ∷ lines)) [ true ↦ drop-count lines | false ↦ refl ]

map-dropped : {X Y : Type 0} (f : X → Y) (xs : List X) (n : ℕ) → map f (drop n xs) ≡ drop n (map f xs)
map-dropped f [] n = by n
  where
    by : (n : ℕ) → map f (drop n []) ≡ drop n []
    by zero = refl
    by (suc n) = refl
map-dropped f (x ∷ xs) zero = refl
map-dropped f (x ∷ xs) (suc n) = map-dropped f xs n

pub behind-batches : {X : Type 0} (f : X → List ℕ) (xs : List X) (n : ℕ) → n ≡ batch_count (map f xs) → map f (drop n xs) ≡ view_lines (map f xs)
behind-batches f xs n e = map-dropped f xs n ∙ ap (λ k. drop k (map f xs)) e ∙ drop-count (map f xs)

pub few-batches : {X : Type 0} (f : X → List ℕ) (xs : List X) (n : ℕ) → n ≡ batch_count (map f xs) → n ≤ length xs
few-batches f xs n e = let within : batch_count (map f xs) ≤ length (map f xs) = count-within (map f xs) in omega (arith, e, within, length-map xs f)

-- where nothing is wanted, the first line is one too many
pub first-too-many : {X : Type 0} (f : X → List ℕ) (number : ℕ) (xs : List X) → 1 ≤ length xs → differ_at number (map f xs) [] ≡ Some number
first-too-many f number [] some = absurd (omega (arith, some))
first-too-many f number (x ∷ xs) some = refl

-- where nothing is wanted any more, a line is one too many
pub too-many : {X : Type 0} (f : X → List ℕ) (number : ℕ) (xs ys : List X) (i : ℕ) (all : Option ℕ) → i < length xs → length ys < 1 → differ_at number (map f (drop i xs)) (map f ys) ≡ all → Some number ≡ all
too-many f number xs [] i all below none e =
    let some : 1 ≤ length (drop i xs) = omega (arith, length-drop i xs, below) in
    sym (first-too-many f number (drop i xs) some) ∙ e
too-many f number xs (y ∷ ys) i all below none e = absurd (omega (arith, none))

-- ---- what is shown

differs : (number : ℕ) (lines : List (List ℕ)) (form : TextForm) (batches : List Batch) (runs : List RunView) (o : Option ℕ) → runs ≡ (view_of batches).runs
    → o ≡ differ_at number lines (lines_of (flat_map run_state_lines runs ++ codes "end\n")) → differ_at number lines (lines_of (view_text (view_of (standing_for form batches)))) ≡ o
differs number lines form batches runs o same e =
    sym (e ∙ ap (λ (rs : List RunView). differ_at number lines (lines_of (flat_map run_state_lines rs ++ codes "end\n"))) (same ∙ sym (standing-runs form batches)))

pub shown-other : (number other : ℕ) (lines : List (List ℕ)) (form : TextForm) (batches : List Batch) (runs : List RunView) (o : Option ℕ) → runs ≡ (view_of batches).runs
    → o ≡ differ_at number lines (lines_of (flat_map run_state_lines runs ++ codes "end\n")) → o ≡ Some other → view_on number lines (view_of (standing_for form batches)) ≡ Err (Line other BadView)
unfolding view_on
shown-other number other lines form batches runs o same e f = ap (shown_or (view_of (standing_for form batches))) (differs number lines form batches runs o same e ∙ f)

pub shown-same : (number : ℕ) (lines : List (List ℕ)) (form : TextForm) (batches : List Batch) (runs : List RunView) (o : Option ℕ) (view : View) → runs ≡ (view_of batches).runs
    → o ≡ differ_at number lines (lines_of (flat_map run_state_lines runs ++ codes "end\n")) → o ≡ None → view ≡ view_of (standing_for form batches)
    → view_on number lines (view_of (standing_for form batches)) ≡ Ok view
unfolding view_on
shown-same number lines form batches runs o view same e f g =
    ap (shown_or (view_of (standing_for form batches))) (differs number lines form batches runs o same e ∙ f) ∙ ap Ok (sym g)

-- the view of the set that batches represent has its batches, and the runs of the set that was read
pub standing-view : (form : TextForm) (batches stands : List Batch) (runs : List RunView) → stands ≡ standing_for form batches → runs ≡ (view_of batches).runs
    → record { batches = stands; runs = runs } ≡ view_of (standing_for form batches)
standing-view form batches stands runs e f =
    ap (λ (bs : List Batch). record { batches = bs; runs = runs }) e
    ∙ ap (λ (rs : List RunView). record { batches = standing_for form batches; runs = rs }) (f ∙ sym (standing-runs form batches))
