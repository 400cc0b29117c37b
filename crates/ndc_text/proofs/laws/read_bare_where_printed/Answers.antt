use Rattle.std.proofs.Common.{◌≡◌, ℕ, List, Ok, sym, subst}
use Rattle.ndc_text.specs.Read.{read_of}
use Rattle.ndc_text.specs.declared.form.TextForm.TheVariants.{One, Two}
use Rattle.ndc_text.proofs.Exact.{found, bare, text_again, bare_text_again}
use Rattle.ndc_text.proofs.laws.read_bare_where_printed.Goals as goal

pub returns : goal.returns
returns c b bytes = (
  λ e. let f = found One bytes b e in (subst (λ (t : List ℕ). read_of Two t ≡ Ok b) (sym f.1) (text_again b f.0 f.2), bare bytes b e),
  λ h. let f = found Two bytes b h.0 in subst (λ (t : List ℕ). read_of One t ≡ Ok b) (sym f.1) (bare_text_again b f.0 f.2 h.1),
)
