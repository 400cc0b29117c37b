-- A damaged message is read as what it was exactly where no byte is missing.
use Rattle.std.proofs.Common.{◌≡◌, ℕ, ◌<◌, ◌≤◌, Bool, true, false, not, nat_lt, [], ◌++◌, length, take, drop, Result, Ok, Err, None, if◌then◌else◌, refl, ap, sym, ◌∙◌, arith, length-drop}
use Rattle.std.proofs.lemmas.Bool.Decides.{nat_tests}
use Rattle.std.proofs.lemmas.List.{take-append-drop, take_all}
use Rattle.ndc_event.specs.Batch.{fault_of}
use Rattle.ndc_event.specs.declared.batch.Batch.{Batch}
use Rattle.ndc_text.proofs.Exact.{found, no_front, text_again}
use Rattle.ndc_text.specs.Ranges.{InRange}
use Rattle.ndc_text.specs.Read.{read_of}
use Rattle.ndc_text.specs.Text.{batch_text}
use Rattle.ndc_text.specs.declared.error.TextError.{TextError}
use Rattle.ndc_text.specs.declared.form.TextForm.TheVariants.{Two}
use Rattle.ndc_model_cells.specs.Places.{place_of}
use Rattle.ndc_domain.specs.declared.clusters.ClusterNo.{ClusterNo}
use Rattle.ndc_laws_cells.proofs.FoundLemmas.{is_at-own}
use Rattle.ndc_letters.specs.Letters.{is_whole, letter_of, taken_as, taken_of, was_whole}
use Rattle.ndc_letters.specs.declared.letters.Taken.TheVariants.{Aside, Whole}

-- a prefix of a batch text that is read as a batch is the whole text
front-whole : (b c : Batch) (cut : ℕ) → InRange b → read_of Two (take cut (batch_text b)) ≡ Ok c → length (batch_text b) ≤ cut
front-whole b c cut range read =
    let f = found Two (take cut (batch_text b)) c read in
    let whole : batch_text c ++ drop cut (batch_text b) ≡ batch_text b = ap (λ front. front ++ drop cut (batch_text b)) (sym f.1) ∙ take-append-drop cut (batch_text b) in
    let none : drop cut (batch_text b) ≡ [] = no_front c b (drop cut (batch_text b)) f.0 range whole in
    omega (arith, length-drop cut (batch_text b), ap length none)

-- whether what was read of a batch's text is the batch
abbrev reads : Batch → Result Batch TextError → Bool
reads b r = was_whole (taken_as (place_of b) r)

read-where-whole : (b : Batch) (cut : ℕ) → InRange b → fault_of b ≡ None → reads b (read_of Two (take cut (batch_text b))) ≡ not (nat_lt cut (length (batch_text b)))
read-where-whole b cut range sound = by (nat_lt cut (length (batch_text b))) refl
  where
    cut_off : (r : Result Batch TextError) → read_of Two (take cut (batch_text b)) ≡ r → cut < length (batch_text b) → reads b r ≡ false
    cut_off (Ok c) read less = absurd (omega (arith, less, front-whole b c cut range read))
    cut_off (Err error) read less = refl

    by : (t : Bool) → nat_lt cut (length (batch_text b)) ≡ t → reads b (read_of Two (take cut (batch_text b))) ≡ not t
    by true e = let less : cut < length (batch_text b) = grind (arith, nat_tests) in cut_off (read_of Two (take cut (batch_text b))) refl less
    by false e =
        let most : length (batch_text b) ≤ cut = grind (arith, nat_tests) in
        let whole : take cut (batch_text b) ≡ batch_text b = take_all cut (batch_text b) most in
        ap (λ bytes. reads b (read_of Two bytes)) whole ∙ ap (reads b) (text_again b range sound) ∙ ap (λ t. was_whole (if t then Whole b else Aside)) (is_at-own b)

-- what comes of a batch is whole exactly where no byte is missing
pub whole_where_uncut : (source : ClusterNo) (b : Batch) (cut : ℕ) → InRange b → fault_of b ≡ None → is_whole (letter_of source cut b) ≡ not (nat_lt cut (length (batch_text b)))
unfolding taken_of
whole_where_uncut source b cut range sound = read-where-whole b cut range sound
