use Rattle.std.proofs.Common.{◌≡◌, List, ℕ, [], ◌∷◌, ◌++◌, Option, OnOk, codes, decimal, subst}
use Rattle.std.specs.List.{concat}
use Rattle.ndc_history.specs.declared.item.Item.{Item}
use Rattle.ndc_text.specs.Views.{key_text}
use Rattle.ndc_explain.specs.Pieces.{by_text, shared_text}
use Rattle.ndc_explain.specs.Writers.{writer_name}
use Rattle.ndc_explain.proofs.branches.push_losing.Goals as goal

pub returns : goal.returns
returns c =
    let lead = c.args.lead.now.tip in
    let tip = c.args.branch.now.tip in
    let greater = writer_name c.args.clusters.now lead.version in
    let lesser = writer_name c.args.clusters.now tip.version in
    let line : List ℕ → List ℕ → Option Item → List ℕ = λ one two shared. concat (
    codes "branch " ∷ key_text tip ∷ codes " lost: the last event of " ∷ key_text lead ∷ codes " has version " ∷ decimal lead.version ∷ by_text one
    ∷ codes ", that of " ∷ key_text tip ∷ codes " has version " ∷ decimal tip.version ∷ by_text two ∷ codes "; " ∷ shared_text shared ∷ codes "\n" ∷ []) in
    subst (λ (shared : Option Item). OnOk c.push_pieces.result (c.push_pieces.new.text.items ≡ c.args.text.now.items ++ line greater lesser shared)) c.common.ensures
    (subst (λ (two : List ℕ). OnOk c.push_pieces.result (c.push_pieces.new.text.items ≡ c.args.text.now.items ++ line greater two c.common.result)) c.writer_name-2.ensures
    (subst (λ (one : List ℕ). OnOk c.push_pieces.result (c.push_pieces.new.text.items ≡ c.args.text.now.items ++ line one c.writer_name-2.result.now c.common.result)) c.writer_name.ensures
    c.push_pieces.ensures))
