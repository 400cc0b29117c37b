use Rattle.std.proofs.Common.{◌≡◌, ◌++◌, map, drop}
use Rattle.std.specs.List.{concat}
use Rattle.ndc_probe.specs.Pieces.{piece_text}
use Rattle.ndc_probe.proofs.piece.push_pieces.Given as goal

-- the text so far, with the pieces that are left, is the whole
abbrev pub invariant-loop-piece : goal.invariant-loop-piece
invariant-loop-piece l = l.text.items ++ concat (map piece_text (drop l.piece-index l.pieces)) ≡ l.initial.text.items ++ concat (map piece_text l.pieces)
