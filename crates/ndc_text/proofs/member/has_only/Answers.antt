-- The chain goes over the keys in order, as the definition does.
use Rattle.std.proofs.Common.{ℕ, ◌||◌, List, length, map, Bor, String, Global, ap, ◌∙◌, rules, tests}
use Rattle.std.specs.Map.Iter.{TakesFirst}
use Rattle.std.specs.String.{string_bytes}
use Rattle.std.proofs.lemmas.Iterator.Search.{all_from_yields_List}
use Rattle.std.proofs.lemmas.Iterator.Consumers.{YieldsList-from_shown, YieldsList-at}
use Rattle.ndc_text.specs.Walk.{is_among}
use Rattle.ndc_text.proofs.Values.{all_keys-members_view}
use Rattle.ndc_text.proofs.member.has_only.Goals as goal

texts : List (Bor (List ℕ)) → List (List ℕ)
texts keys = map (λ (k : Bor (List ℕ)). k.now) keys

pub returns : goal.returns
unfolding texts
returns c =
    let es = c.args.members.now.entries in
    all_from_yields_List (λ (key : String Global). is_among (texts c.args.own.now) (string_bytes key) || is_among (texts c.args.more.now) (string_bytes key) || is_among (texts c.args.optional.now) (string_bytes key)) _ _ c.all.result c.all.ensures.ran
    (YieldsList-at c.keys.ensures.rest (YieldsList-from_shown (TakesFirst (λ (k : Bor (String Global)). k.now)) (λ (k : Bor (String Global)). k.now) (λ (s : List (String Global)). s) (λ s t h. ap length h.0) (λ s x t h. h) (map (λ e. e.0) es)))
    (λ x b q k. search (rules, tests))
    ∙ all_keys-members_view (λ key. is_among (texts c.args.own.now) key || is_among (texts c.args.more.now) key || is_among (texts c.args.optional.now) key) es
