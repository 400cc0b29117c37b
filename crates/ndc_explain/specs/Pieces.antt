-- Pieces of a line.
use Rattle.std.specs.Prelude.{ℕ, ◌==◌, List, [], ◌∷◌, ◌++◌, codes, decimal, Option, Some, None, if◌then◌else◌}
use Rattle.std.specs.List.{concat, flat_map}
use Rattle.ndc_event.specs.Key.{run_text}
use Rattle.ndc_event.specs.declared.key.BatchKey.{BatchKey}
use Rattle.ndc_history.specs.declared.item.Item.{Item}
use Rattle.ndc_text.specs.Views.{item_text, key_text}
use Rattle.ndc_explain.specs.declared.piece.Piece.{Piece}
use Rattle.ndc_explain.specs.declared.piece.Piece.TheVariants as piece
use Rattle.ndc_explain.specs.declared.summary.Summary.{Summary}

-- ` by` and the name of a writer; nothing where there is no name
abbrev pub by_text : List ℕ → List ℕ
by_text [] = []
by_text (byte ∷ bytes) = codes " by " ++ byte ∷ bytes

-- a name after a space; nothing where there is no name
abbrev pub behind_space : List ℕ → List ℕ
behind_space [] = []
behind_space (byte ∷ bytes) = codes " " ++ byte ∷ bytes

-- what two branches share
abbrev pub shared_text : Option Item → List ℕ
shared_text None = codes "they share no event"
shared_text (Some item) = codes "the last event that both share is " ++ item_text item

-- a byte of a name as it stands in an XML document
abbrev pub escaped : ℕ → List ℕ
escaped byte =
    if byte == 38 then codes "&amp;"
    else if byte == 60 then codes "&lt;"
    else if byte == 62 then codes "&gt;"
    else byte ∷ []

-- a name as it stands in an XML document
abbrev pub escaped_text : List ℕ → List ℕ
escaped_text bytes = flat_map escaped bytes

-- ` by` and the name of a writer as it stands in an XML document; nothing where there is no name
abbrev pub escaped_by_text : List ℕ → List ℕ
escaped_by_text [] = []
escaped_by_text (byte ∷ bytes) = codes " by " ++ escaped_text (byte ∷ bytes)

-- from which batch to which a block goes, and how many it has where they are several
abbrev pub span_text : Summary → List ℕ
span_text summary =
    if summary.count == 1 then key_text summary.first
    else concat (key_text summary.first ∷ codes " to " ∷ key_text summary.last ∷ codes ", " ∷ decimal summary.count ∷ codes " batches" ∷ [])

-- the batch that closed the run before, where that one continued
abbrev pub carrier_text : Option BatchKey → List ℕ
carrier_text None = []
carrier_text (Some key) = codes " continues " ++ key_text key

-- how a piece is printed
abbrev pub piece_text : Piece → List ℕ
piece_text (piece.Plain text) = text.now
piece_text (piece.Bytes bytes) = bytes.now
piece_text (piece.Number number) = decimal number
piece_text (piece.Key key) = key_text key
piece_text (piece.Event item) = item_text item
piece_text (piece.Shared item) = shared_text item
piece_text (piece.Writer name) = by_text name.now
piece_text (piece.Name name) = behind_space name.now
piece_text (piece.Escaped bytes) = escaped_text bytes.now
piece_text (piece.EscapedWriter name) = escaped_by_text name.now
piece_text (piece.Run run) = run_text run
piece_text (piece.Span summary) = span_text summary
piece_text (piece.Carrier key) = carrier_text key
