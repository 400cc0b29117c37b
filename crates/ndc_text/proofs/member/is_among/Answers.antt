-- The chain compares each key, as the definition does.
use Rattle.std.proofs.Common.{ℕ, List, Bor, sym, ◌∙◌, rules, tests}
use Rattle.std.specs.Str.{bytes_eq}
use Rattle.std.proofs.lemmas.Iterator.{YieldsList-from_slice}
use Rattle.std.proofs.lemmas.Iterator.Search.{any_from_yields_List}
use Rattle.ndc_text.proofs.Lists.{list_any-map}
use Rattle.ndc_text.proofs.member.is_among.Goals as goal

pub returns : goal.returns
returns c =
    let key = c.args.key.now in
    any_from_yields_List (λ (k : Bor (List ℕ)). bytes_eq k.now key) _ _ c.any.result c.any.ensures.ran (YieldsList-from_slice c.args.keys.now cc) (λ x b q k. search (rules, tests))
    ∙ sym (list_any-map (λ (k : List ℕ). bytes_eq k key) (λ (k : Bor (List ℕ)). k.now) c.args.keys.now)
