use Rattle.std.proofs.Common.{rules, tests, ◌==◌, ◌++◌, ◌∙◌, Bor, List, Ok, ℕ, ap, length, map, not}
use Rattle.std.proofs.lemmas.Iterator.Consumers.{YieldsList-at, YieldsList-from_filter}
use Rattle.std.proofs.lemmas.Iterator.Splits.{YieldsList-from_slice_split}
use Rattle.ndc_script_words.proofs.WordLists.{seen_of_extend}
use Rattle.ndc_script_words.proofs.text.words_of.Goals as goal

-- the parts that are not empty, in order
pub returns : goal.returns
returns c =
    seen_of_extend {E = Unit {0}} (λ (word : Bor (List ℕ)). word.now) (Ok tt) c.in_ok-extend.ensures.ran
    (YieldsList-from_filter _ (λ word. not (length word == 0))
    (YieldsList-at c.filter.ensures.source
    (YieldsList-from_slice_split _ (λ byte. byte == 32) c.args.line.now c.split.ensures.rest c.split.ensures.done c.split.ensures.closure
    (λ x b q k. search (rules, tests))))
    c.filter.ensures.closure (λ x r q k. search (rules, tests)))
    (λ words all given. ap (map (λ (word : Bor (List ℕ)). word.now)) (given.0 ∙ ap (λ (front : List (Bor (List ℕ))). front ++ words) c.in_ok-words.ensures.items) ∙ all)
