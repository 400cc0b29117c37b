use Rattle.std.proofs.Common.{◌≡◌, ◌+◌, ◌-◌, suc, ◌∷◌, [], None, Some, Ok, Err, map, length, sym, ◌∙◌, arith, rules}
use Rattle.ndc_node_shapes.specs.Bytes.{after, expect}
use Rattle.ndc_node_shapes.specs.Read.{read_of}
use Rattle.ndc_node_shapes.specs.declared.fault.Fault.{Fault}
use Rattle.ndc_node_shapes.proofs.Lists.{closed, no_comma, no_item, one_more, map_more}
use Rattle.ndc_node_shapes.proofs.framed.take_further.Goals as goal

pub returns-in-Some : goal.returns-in-Some
returns-in-Some g c =
    let t = g.T.Framed in
    let rest = length c.args.left.now - (c.loop.counter + 1) in
    let shut : after (93 ∷ []) c.loop.rest.now ≡ Some c.in-Some.end.now = search rules in
    sym (c.loop.invariant (suc rest) (omega arith)) ∙ closed (read_of t.shape) (map t.value c.loop.items.items) rest c.loop.rest.now c.in-Some.end.now shut

pub returns-in_err-next : goal.returns-in_err-next
returns-in_err-next g c =
    let t = g.T.Framed in
    let rest = length c.args.left.now - (c.loop.counter + 1) in
    let goes_on : after (93 ∷ []) c.loop.rest.now ≡ None = search rules in
    let all = c.loop.invariant (suc rest) (omega arith) in
    let fails : (e : Fault) → expect (44 ∷ []) c.loop.rest.now ≡ Err e → _ = λ e f. sym all ∙ no_comma (read_of t.shape) (map t.value c.loop.items.items) rest c.loop.rest.now e goes_on f in
    search (rules, fails)

pub returns-in_err-item : goal.returns-in_err-item
returns-in_err-item g c =
    let t = g.T.Framed in
    let rest = length c.args.left.now - (c.loop.counter + 1) in
    let goes_on : after (93 ∷ []) c.loop.rest.now ≡ None = search rules in
    let comma : expect (44 ∷ []) c.loop.rest.now ≡ Ok c.in_ok-next.next.now = search rules in
    let all = c.loop.invariant (suc rest) (omega arith) in
    let fails : (e : Fault) → read_of t.shape c.in_ok-next.next.now ≡ Err e → _ = λ e f. sym all ∙ no_item (read_of t.shape) (map t.value c.loop.items.items) rest c.loop.rest.now c.in_ok-next.next.now goes_on comma e f in
    search (rules, fails)

pub loop-preserved : goal.loop-preserved
loop-preserved g c most e =
    let t = g.T.Framed in
    let items = map t.value c.loop.items.items in
    let goes_on : after (93 ∷ []) c.loop.rest.now ≡ None = search rules in
    let comma : expect (44 ∷ []) c.loop.rest.now ≡ Ok c.in_ok-next.next.now = search rules in
    let one : read_of t.shape c.in_ok-next.next.now ≡ Ok (t.value c.in_ok-item.item, c.in_ok-item.later.now) = search rules in
    map_more t.value c.loop.items.items c.in_ok-item.item c.push-in-loop.new.self.items _ (search rules)
    ∙ one_more (read_of t.shape) items most c.loop.rest.now c.in_ok-next.next.now goes_on comma (t.value c.in_ok-item.item) c.in_ok-item.later.now one
    ∙ c.loop.invariant (suc most) (omega arith)

pub returns : goal.returns
returns g c n = sym (c.loop.invariant 0 (omega arith)) ∙ search rules
