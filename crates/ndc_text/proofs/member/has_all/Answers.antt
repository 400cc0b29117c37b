-- The chain tests each key, as the definition does.
use Rattle.std.proofs.Common.{ℕ, List, Bor, is_some, sym, ◌∙◌, rules, tests}
use Rattle.std.proofs.lemmas.Iterator.{YieldsList-from_slice}
use Rattle.std.proofs.lemmas.Iterator.Search.{all_from_yields_List}
use Rattle.std.proofs.lemmas.List.Folds.{list_all-map}
use Rattle.serde_json.specs.Find.{get}
use Rattle.serde_json.specs.View.{view}
use Rattle.ndc_text.proofs.member.has_all.Goals as goal

pub returns : goal.returns
returns c =
    let d = view c.args.value.now in
    all_from_yields_List (λ (k : Bor (List ℕ)). is_some (get k.now d)) _ _ c.all.result c.all.ensures.ran (YieldsList-from_slice c.args.keys.now cc) (λ x b q k. search (rules, tests))
    ∙ sym (list_all-map (λ (key : List ℕ). is_some (get key d)) (λ (k : Bor (List ℕ)). k.now) c.args.keys.now)
