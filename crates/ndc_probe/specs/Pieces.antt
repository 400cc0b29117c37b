-- Pieces of a line.
use Rattle.std.specs.Prelude.{ℕ, List, [], ◌++◌, codes, decimal, Option, Some, None}
use Rattle.ndc_event.specs.declared.key.BatchKey.{BatchKey}
use Rattle.ndc_text.specs.Views.{key_text}
use Rattle.ndc_probe.specs.declared.piece.Piece.{Piece}
use Rattle.ndc_probe.specs.declared.piece.Piece.TheVariants as piece

-- the key of a batch that is carried, where there is one
abbrev pub carried_text : Option BatchKey → List ℕ
carried_text None = []
carried_text (Some key) = codes " with " ++ key_text key

-- how a piece is printed
abbrev pub piece_text : Piece → List ℕ
piece_text (piece.Plain words) = words.now
piece_text (piece.Bytes bytes) = bytes.now
piece_text (piece.Number number) = decimal number
piece_text (piece.Key key) = key_text key
piece_text (piece.Carried carried) = carried_text carried
