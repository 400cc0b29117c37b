use Rattle.std.proofs.Common.{◌≡◌, List, ℕ, [], ◌∷◌, ◌++◌, OnOk, codes, decimal, subst}
use Rattle.std.specs.List.{concat}
use Rattle.ndc_text.specs.Views.{key_text}
use Rattle.ndc_explain.specs.Pieces.{by_text}
use Rattle.ndc_explain.proofs.branches.push_leading.Goals as goal

pub returns : goal.returns
returns c =
    let tip = c.args.branch.now.tip in
    let line : List ℕ → List ℕ = λ name. concat (codes "branch " ∷ key_text tip ∷ codes " leads: its last event has version " ∷ decimal tip.version ∷ by_text name ∷ codes "\n" ∷ []) in
    subst (λ (name : List ℕ). OnOk c.push_pieces.result (c.push_pieces.new.text.items ≡ c.args.text.now.items ++ line name)) c.writer_name.ensures c.push_pieces.ensures
