use Rattle.std.proofs.Common.{◌||◌, sym, ◌∙◌, ap}
use Rattle.std.specs.Prelude.{◌∷◌, option_to_list}
use Rattle.std.specs.Option.{option_copied}
use Rattle.ndc_model_sets.specs.Keys.{is_key_among}
use Rattle.ndc_shard_waiting.specs.Linking.{is_awaited, is_linked, is_woken}
use Rattle.ndc_shard_waiting.proofs.LoopLemmas.{woken-alone, woken-two, or-join}
use Rattle.ndc_shard_waiting.proofs.shelf.Shelf.wake.Goals as goal

pub returns-in_ok-wake-2-clause-woken : goal.returns-in_ok-wake-2-clause-woken
returns-in_ok-wake-2-clause-woken c one =
    let b = c.args.batch.now in
    let s = c.in-Some.second.now in
    let messages = c.self.inside.messages in
    c.in_ok-wake-2.ensures one ∙ ap (λ t. t || is_linked s.key one c.self.inside.links) (c.in_ok-wake.ensures one)
    ∙ or-join (is_key_among one c.args.todo.now) (is_linked b.key one c.self.inside.links) (is_linked s.key one c.self.inside.links)
    ∙ ap (λ t. is_key_among one c.args.todo.now || (t || is_linked s.key one c.self.inside.links)) (c.self.invariant.linked b.key one)
    ∙ ap (λ t. is_key_among one c.args.todo.now || (is_awaited b.key one messages || t)) (c.self.invariant.linked s.key one)
    ∙ ap (λ t. is_key_among one c.args.todo.now || t) (sym (woken-two b s (option_copied c.args.second) one messages (ap option_copied c.in-Some.is) c.self.invariant.are.each))
    ∙ ap (λ l. is_key_among one c.args.todo.now || is_woken (b ∷ option_to_list (option_copied c.args.second)) one l) c.self.view_is

pub returns-in_default-clause-woken : goal.returns-in_default-clause-woken
returns-in_default-clause-woken c one =
    let b = c.args.batch.now in
    let messages = c.self.inside.messages in
    c.in_ok-wake.ensures one
    ∙ ap (λ t. is_key_among one c.args.todo.now || t) (c.self.invariant.linked b.key one)
    ∙ ap (λ t. is_key_among one c.args.todo.now || t) (sym (woken-alone b (option_copied c.args.second) one messages (ap option_copied c.in_default.is) c.self.invariant.are.each))
    ∙ ap (λ l. is_key_among one c.args.todo.now || is_woken (b ∷ option_to_list (option_copied c.args.second)) one l) c.self.view_is
