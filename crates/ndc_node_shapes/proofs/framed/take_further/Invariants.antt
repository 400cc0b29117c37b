use Rattle.std.proofs.Common.{◌≡◌, ◌+◌, ◌∷◌, [], ℕ, map, length}
use Rattle.ndc_node_shapes.specs.Bytes.{further_at, with_items}
use Rattle.ndc_node_shapes.specs.Read.{read_of}
use Rattle.ndc_node_shapes.proofs.framed.take_further.Given as goal

-- the items so far, before those of the rest, are those of all
abbrev pub invariant-loop : goal.invariant-loop
invariant-loop g l =
    let t = g.T.Framed in
    (most : ℕ) → l.counter + most ≡ length l.left
    → with_items (map t.value l.items.items) (further_at (read_of t.shape) most l.rest) ≡ with_items (t.value l.fn.first ∷ []) (further_at (read_of t.shape) (length l.left) l.left)
