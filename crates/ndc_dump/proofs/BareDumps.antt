-- What is read of batches alone.
use Rattle.std.proofs.Common.{◌≡◌, ℕ, ◌+◌, List, [], length, None, Result, Ok, Err, IfOk, refl, sym, ap, ◌∙◌, subst}
use Rattle.ndc_event.specs.Outcome.{Gives}
use Rattle.ndc_model_sets.specs.Sound.{IsSound}
use Rattle.ndc_model_sets.specs.View.{view_of}
use Rattle.ndc_model_sets.specs.declared.view.View.{View}
use Rattle.ndc_text.specs.Views.{dump_text}
use Rattle.ndc_dump_causes.specs.Causes.{sound_or}
use Rattle.ndc_dump_causes.specs.declared.error.DumpError.{DumpError}
use Rattle.ndc_dump_causes.specs.declared.error.DumpError.TheVariants.{Memory}
use Rattle.ndc_dump_causes.proofs.NoCause.{went}
use Rattle.ndc_dump.specs.Bare.{bare_dump_of, bare_dump_on}
use Rattle.ndc_dump.specs.Batches.{batches_on, view_lines}
use Rattle.ndc_dump.specs.Frame.{heading_of, body_of}
use Rattle.ndc_dump.specs.Lines.{differ_at, lines_of}
use Rattle.ndc_dump.specs.Migrated.{standing_for}
use Rattle.ndc_dump.specs.Printed.{CanBeDumped}
use Rattle.ndc_dump.specs.Read.{dump_of, dump_with, shown_or}
use Rattle.ndc_dump.specs.declared.dump.Dump.{Dump}
use Rattle.ndc_dump.proofs.Dumped.{set-found}
use Rattle.ndc_dump.proofs.Printed.{dump-again}
use Rattle.ndc_dump.proofs.ShownView.{shown}

-- what is known of a dump that is read of batches alone
record IsBare (d : Dump) : Type 0 where
  can : CanBeDumped d.domain d.workflow d.view.batches
  view : d.view ≡ view_of d.view.batches

found-bare : (lines : List (List ℕ)) (d : Dump) → bare_dump_on lines ≡ Ok d → IsBare d
unfolding bare_dump_on
found-bare lines d e =
    let one = went (heading_of lines) _ d e in
    let second = went (body_of lines) _ d one.2 in
    let three = went (batches_on one.0 2 None second.0) _ d second.2 in
    let four = went (sound_or three.0) _ d three.2 in
    let set = standing_for one.0.form three.0 in
    let five = went (shown_or (view_of set) (differ_at (2 + length three.0) (view_lines second.0) [])) _ d four.2 in
    let last : dump_with one.0 five.0 ≡ d = cc in
    let view : five.0 ≡ view_of set = shown (view_of set) five.0 _ five.1 in
    let can : CanBeDumped one.0.domain one.0.workflow set = set-found lines one.0 second.0 three.0 one.1 second.1 three.1 (four.1 ∙ refl) in
    subst IsBare last (subst (λ (v : View). IsBare (dump_with one.0 v)) (sym view) (record { can = can; view = refl }))

pub can-be-printed : (bytes : List ℕ) (d : Dump) → bare_dump_of bytes ≡ Ok d → CanBeDumped d.domain d.workflow d.view.batches
unfolding bare_dump_of
can-be-printed bytes d e = (found-bare (lines_of bytes) d e).can

-- what is read is printed as bytes that are read as the same
pub printed-again : (bytes : List ℕ) (d : Dump) → bare_dump_of bytes ≡ Ok d → dump_of (dump_text d.domain d.workflow d.view) ≡ Ok d
unfolding bare_dump_of
printed-again bytes d e =
    let found = found-bare (lines_of bytes) d e in
    ap (λ v. dump_of (dump_text d.domain d.workflow v)) found.view ∙ dump-again d.domain d.workflow d.view.batches found.can
    ∙ ap (λ v. Ok (record { domain = d.domain; workflow = d.workflow; view = v })) (sym found.view)

-- it is the view of a sound set
pub bare-shown : (lines : List (List ℕ)) (r : Result Dump DumpError) → Gives Memory (λ dump. dump) r (bare_dump_on lines) → IfOk r (λ dump. dump.view ≡ view_of dump.view.batches)
bare-shown lines (Ok d) e = (found-bare lines d e).view
bare-shown lines (Err error) e = tt

pub bare-sound : (lines : List (List ℕ)) (r : Result Dump DumpError) → Gives Memory (λ dump. dump) r (bare_dump_on lines) → IfOk r (λ dump. IsSound dump.view.batches)
bare-sound lines (Ok d) e = (found-bare lines d e).can.sound
bare-sound lines (Err error) e = tt
