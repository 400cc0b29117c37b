use Rattle.std.proofs.Common.{◌≡◌, ℕ, List, Err, sym, subst}
use Rattle.ndc_text.specs.Read.{read_of}
use Rattle.ndc_text.specs.declared.error.TextError.TheVariants.{Check}
use Rattle.ndc_text.specs.declared.form.TextForm.TheVariants.{Two}
use Rattle.ndc_text.proofs.Errors.{faulty_found}
use Rattle.ndc_text.proofs.Exact.{faulty_again}
use Rattle.ndc_text.proofs.laws.refused_for_a_fault.Goals as goal

pub returns : goal.returns
returns c bytes fault = (
  faulty_found Two bytes fault,
  λ h. subst (λ (t : List ℕ). read_of Two t ≡ Err (Check fault)) (sym h.1.1) (faulty_again h.0 fault h.1.0 h.1.2),
)
