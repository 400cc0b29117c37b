-- The language of shapes: what may stand in a text between nodes, and the values that it is the text of.
use Rattle.std.specs.Prelude.{ℕ, Bool, List, Option}
use Rattle.ndc_event.specs.declared.key.RunId.{RunId}

-- a shape; a word is a name that passes a test, and `numbers` a list of numbers up to the most that passes one; `next` and `end` are what follows the first member of an object
pub data Shape : Type 0 where
  number : ℕ → ℕ → Shape
  flag : Shape
  name : Shape
  word : (List ℕ → Bool) → Shape
  text : Shape
  run : Shape
  numbers : ℕ → (List ℕ → Bool) → Shape
  list : Shape → Shape
  nullable : Shape → Shape
  object : List ℕ → Shape → Shape → Shape
  next : List ℕ → Shape → Shape → Shape
  end : Shape

-- the values of a shape
abbrev pub Value : Shape → Type 0
Value (number least most) = ℕ
Value flag = Bool
Value name = List ℕ
Value (word test) = List ℕ
Value text = List ℕ
Value run = RunId
Value (numbers most test) = List ℕ
Value (list shape) = List (Value shape)
Value (nullable shape) = Option (Value shape)
Value (object key shape members) = Value shape × Value members
Value (next key shape members) = Value shape × Value members
Value end = Unit {0}
