-- The text of a value of a shape.
use Rattle.std.specs.Prelude.{ℕ, List, [], ◌∷◌, ◌++◌, Some, None, codes, decimal}
use Rattle.ndc_event.specs.Key.{run_text}
use Rattle.ndc_node_shapes.specs.Bytes.{flag_text, quoted, list_text, first_key, next_key}
use Rattle.ndc_node_shapes.specs.Shapes.{Shape, number, flag, name, word, text, run, numbers, list, nullable, object, next, end, Value}

abbrev pub text_of : (shape : Shape) → Value shape → List ℕ
text_of (number least most) n = decimal n
text_of flag value = flag_text value
text_of name bytes = quoted bytes
text_of (word test) bytes = quoted bytes
text_of text bytes = quoted bytes
text_of run id = quoted (run_text id)
text_of (numbers most test) ns = list_text decimal ns
text_of (list shape) values = list_text (text_of shape) values
text_of (nullable shape) None = codes "null"
text_of (nullable shape) (Some value) = text_of shape value
text_of (object key shape members) value = first_key key ++ text_of shape value.0 ++ text_of members value.1
text_of (next key shape members) value = next_key key ++ text_of shape value.0 ++ text_of members value.1
text_of end value = 125 ∷ []

-- bytes with the text of a value after them, member by member
abbrev pub onto : (shape : Shape) → List ℕ → Value shape → List ℕ
onto (number least most) old n = old ++ text_of (number least most) n
onto flag old value = old ++ text_of flag value
onto name old bytes = old ++ text_of name bytes
onto (word test) old bytes = old ++ text_of (word test) bytes
onto text old bytes = old ++ text_of text bytes
onto run old id = old ++ text_of run id
onto (numbers most test) old ns = old ++ text_of (numbers most test) ns
onto (list shape) old values = old ++ text_of (list shape) values
onto (nullable shape) old value = old ++ text_of (nullable shape) value
onto (object key shape members) old value = onto members (onto shape (old ++ first_key key) value.0) value.1
onto (next key shape members) old value = onto members (onto shape (old ++ next_key key) value.0) value.1
onto end old value = old ++ text_of end value
