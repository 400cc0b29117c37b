-- The value of a shape that bytes begin with, or why they begin with none.
use Rattle.std.specs.Prelude.{ℕ, List, [], ◌∷◌, codes, Ok}
use Rattle.ndc_event.specs.Outcome.{◌>>=◌}
use Rattle.ndc_node_shapes.specs.Bytes.{Taken, after, expect, number_at, flag_at, text_at, name_at, word_at, run_at, numbers_at, list_at, unless_null, member_at, first_key, next_key}
use Rattle.ndc_node_shapes.specs.Shapes.{Shape, number, flag, name, word, text, run, numbers, list, nullable, object, next, end, Value}

abbrev pub read_of : (shape : Shape) → List ℕ → Taken (Value shape)
read_of (number least most) left = number_at least most left
read_of flag left = flag_at left
read_of name left = name_at left
read_of (word test) left = word_at test left
read_of text left = text_at left
read_of run left = run_at left
read_of (numbers most test) left = numbers_at most test left
read_of (list shape) left = list_at (read_of shape) left
read_of (nullable shape) left = unless_null (after (codes "null") left) (read_of shape left)
read_of (object key shape members) left = member_at (first_key key) (read_of shape) (read_of members) left
read_of (next key shape members) left = member_at (next_key key) (read_of shape) (read_of members) left
read_of end left = do
  left ← expect (125 ∷ []) left
  Ok (tt, left)
