-- The first key that is missing on the way up from a batch.
use Rattle.std.proofs.Common.{◌≡◌, true, List, Option, Some, None, refl, sym, ◌∙◌, ap, true≢false}
use Rattle.ndc_model_cells.specs.Cells.{missing_of}
use Rattle.ndc_event.specs.Key.{key_eq}
use Rattle.ndc_event.specs.declared.batch.Batch.{Batch}
use Rattle.ndc_event.specs.declared.key.BatchKey.{BatchKey}
use Rattle.ndc_laws.specs.Promised.{FirstMissing, comes_next, further}
use Rattle.ndc_laws_reached.proofs.MissingLemmas.{back-up, wanted_behind, whole}
use Rattle.ndc_model_sets.specs.Paths.{is_wanted}
use Rattle.ndc_model_sets.specs.Sets.{Has, IsSet, batch_at, earlier}
use Rattle.ndc_model_sets.proofs.BranchLemmas.{has-among}
use Rattle.ndc_model_sets.proofs.KeyLemmas.{key_eq-self}
use Rattle.ndc_model_sets.proofs.SetLemmas.{found-has, found-key}

-- what is missing is the first key on the way up that is that of none
pub first-missing : (held : List Batch) (b : Batch) (key : BatchKey) → IsSet held → Has held b → missing_of b held ≡ Some key → FirstMissing held key b
first-missing held b key set has e =
    back-up held (earlier b) (wanted_behind (earlier b) held) (FirstMissing held key) (λ x c k x_has f at rest. further x c k f at rest) (whole held set (earlier b)).goes
    (λ x x_has f. comes_next x (f ∙ e) (gone (batch_at key held) refl)) b has refl
  where
    gone : (o : Option Batch) → batch_at key held ≡ o → batch_at key held ≡ None
    gone None f = f
    gone (Some x) f =
        let wanted : is_wanted (wanted_behind (earlier b) held) x ≡ true = ap (λ o. is_wanted o x) e ∙ ap (λ k. key_eq x.key k) (sym (found-key held key x f)) ∙ key_eq-self x.key in
        absurd (true≢false (sym wanted ∙ (whole held set (earlier b)).none x (has-among held x (found-has held key x f))))
