-- Clusters show the same exactly where they have learned the same.
use Rattle.std.proofs.Common.{◌≡◌, ◌↔◌, Bool, true, false, ◌&&◌, ◌||◌, IsTrue, List, refl, sym, ap, true≢false}
use Rattle.std.specs.List.{AllByRecursion}
use Rattle.std.specs.Str.{bytes_eq}
use Rattle.std.proofs.lemmas.Slice.Eq.{bytes_eq-Decides}
use Rattle.ndc_event.specs.declared.batch.Batch.{Batch}
use Rattle.ndc_event.specs.declared.name.Name.{Name}
use Rattle.ndc_model.proofs.DumpLemmas.{shown-same}
use Rattle.ndc_model.specs.Reading.{is_nothing, shows_same}
use Rattle.ndc_model_sets.specs.View.{view_of}
use Rattle.ndc_text.specs.Ranges.{InRange}
use Rattle.ndc_text.specs.Views.{dump_text}

or-right : (a b : Bool) → b ≡ true → (a || b) ≡ true
or-right true b e = refl
or-right false b e = e

-- what is learned shows the same as itself
shows-itself : (domain workflow : Name) (one two : List Batch) → one ≡ two → shows_same domain workflow one two ≡ true
shows-itself domain workflow one two e =
    or-right (is_nothing one && is_nothing two) (bytes_eq (dump_text domain workflow (view_of one)) (dump_text domain workflow (view_of two)))
    ((bytes_eq-Decides (dump_text domain workflow (view_of one)) (dump_text domain workflow (view_of two))).1 (ap (λ batches. dump_text domain workflow (view_of batches)) e))

pub compared : (domain workflow : Name) (one two : List Batch) (same : Bool) → AllByRecursion InRange one → AllByRecursion InRange two → IsTrue same ↔ (one ≡ two) → same ≡ shows_same domain workflow one two
compared domain workflow one two true first second iff = sym (shows-itself domain workflow one two (iff.0 refl))
compared domain workflow one two false first second iff = by (shows_same domain workflow one two) refl
  where
    by : (t : Bool) → shows_same domain workflow one two ≡ t → false ≡ t
    by true e = absurd (true≢false (sym (iff.1 (shown-same domain workflow one two first second e))))
    by false e = refl
