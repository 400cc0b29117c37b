use Rattle.std.proofs.Common.{◌≡◌, ℕ, List, Ok, sym, subst}
use Rattle.ndc_text.specs.Read.{read_of}
use Rattle.ndc_text.specs.declared.form.TextForm.TheVariants.{Two}
use Rattle.ndc_text.proofs.Exact.{found, text_again}
use Rattle.ndc_text.proofs.laws.read_where_printed.Goals as goal

pub returns : goal.returns
returns c b bytes = (found Two bytes b, λ h. subst (λ (t : List ℕ). read_of Two t ≡ Ok b) (sym h.1) (text_again b h.0 h.2))
