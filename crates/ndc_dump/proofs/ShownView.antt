-- What is read is the view of a set.
use Rattle.std.proofs.Common.{◌≡◌, ℕ, List, Option, Some, None, Result, Ok, Err, IfOk, refl, sym, ap, ◌∙◌}
use Rattle.ndc_event.specs.Outcome.{Gives}
use Rattle.ndc_model_sets.specs.View.{view_of}
use Rattle.ndc_model_sets.specs.declared.view.View.{View}
use Rattle.ndc_dump.specs.declared.dump.Dump.{Dump}
use Rattle.ndc_dump_causes.specs.declared.error.DumpError.{DumpError}
use Rattle.ndc_dump_causes.specs.declared.error.DumpError.TheVariants.{Memory}
use Rattle.ndc_dump.specs.Batches.{batches_on}
use Rattle.ndc_dump_causes.specs.Causes.{sound_or}
use Rattle.ndc_dump.specs.Frame.{heading_of, body_of}
use Rattle.ndc_dump.specs.Read.{dump_on, dump_with, shown_or, view_on}
use Rattle.ndc_dump_causes.proofs.NoCause.{went}

pub shown : (view v : View) (o : Option ℕ) → shown_or view o ≡ Ok v → v ≡ view
shown view v None e = cc
shown view v (Some n) e = absurd (cc)

view-shown : (number : ℕ) (lines : List (List ℕ)) (view v : View) → view ≡ view_of view.batches → view_on number lines view ≡ Ok v → v ≡ view_of v.batches
unfolding view_on
view-shown number lines view v is e = let same = shown view v _ e in same ∙ is ∙ ap (λ (w : View). view_of w.batches) (sym same)

pub shown-view : (lines : List (List ℕ)) (d : Dump) → dump_on lines ≡ Ok d → d.view ≡ view_of d.view.batches
unfolding dump_on
shown-view lines d e =
    let one = went (heading_of lines) _ d e in
    let two = went (body_of lines) _ d one.2 in
    let three = went (batches_on one.0 2 None two.0) _ d two.2 in
    let four = went (sound_or three.0) _ d three.2 in
    let five = went (view_on _ _ _) _ d four.2 in
    let last : dump_with one.0 five.0 ≡ d = cc in
    sym (ap (λ (x : Dump). x.view) last) ∙ view-shown _ _ _ five.0 refl five.1 ∙ ap (λ (x : Dump). view_of x.view.batches) last

pub given-shown : (lines : List (List ℕ)) (r : Result Dump DumpError) → Gives Memory (λ dump. dump) r (dump_on lines) → IfOk r (λ dump. dump.view ≡ view_of dump.view.batches)
given-shown lines (Ok d) e = shown-view lines d e
given-shown lines (Err error) e = tt
