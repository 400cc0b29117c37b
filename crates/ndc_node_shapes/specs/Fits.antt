-- Which values of a shape have a text that is read again, and which shapes are sound.
use Rattle.std.specs.Prelude.{ℕ, ◌^◌, Bool, true, false, ◌&&◌, not, nat_lt, nat_le, List, Some, None, IsTrue, ⊤}
use Rattle.std.specs.List.{list_all, AllByRecursion}
use Rattle.ndc_event.specs.Name.{is_name}
use Rattle.ndc_node_shapes.specs.Bytes.{is_plain, is_marked}
use Rattle.ndc_node_shapes.specs.Ranges.{is_run}
use Rattle.ndc_node_shapes.specs.Shapes.{Shape, number, flag, name, word, text, run, numbers, list, nullable, object, next, end, Value}

-- numbers are in their ranges, names are names, texts have the bytes from space to `~` alone
abbrev pub Fits : (shape : Shape) → Value shape → Type 0
Fits (number least most) n = IsTrue (nat_le least n && nat_le n most)
Fits flag value = ⊤
Fits name bytes = IsTrue (is_name bytes)
Fits (word test) bytes = IsTrue (is_name bytes) × IsTrue (test bytes)
Fits text bytes = IsTrue (list_all is_plain bytes)
Fits run id = IsTrue (is_run id.value)
Fits (numbers most test) ns = IsTrue (list_all (λ n. nat_le n most) ns) × IsTrue (test ns)
Fits (list shape) values = AllByRecursion (Fits shape) values
Fits (nullable shape) None = ⊤
Fits (nullable shape) (Some value) = Fits shape value
Fits (object key shape members) value = Fits shape value.0 × Fits members value.1
Fits (next key shape members) value = Fits shape value.0 × Fits members value.1
Fits end value = ⊤

-- a key of bytes from space to `~`, without a quote or a backslash
abbrev pub is_key : List ℕ → Bool
is_key key = list_all (λ b. is_plain b && not (is_marked b)) key

-- an object
abbrev pub is_object : Shape → Bool
is_object (number least most) = false
is_object flag = false
is_object name = false
is_object (word test) = false
is_object text = false
is_object run = false
is_object (numbers most test) = false
is_object (list shape) = false
is_object (nullable shape) = false
is_object (object key shape members) = true
is_object (next key shape members) = false
is_object end = false

-- what follows the first member of an object
abbrev pub is_rest : Shape → Bool
is_rest (number least most) = false
is_rest flag = false
is_rest name = false
is_rest (word test) = false
is_rest text = false
is_rest run = false
is_rest (numbers most test) = false
is_rest (list shape) = false
is_rest (nullable shape) = false
is_rest (object key shape members) = false
is_rest (next key shape members) = true
is_rest end = true

-- numbers have at most 18 digits, `null` is written in place of objects alone, keys are plain, and members follow members
abbrev pub is_sound : Shape → Bool
is_sound (number least most) = nat_lt most (10 ^ 18)
is_sound flag = true
is_sound name = true
is_sound (word test) = true
is_sound text = true
is_sound run = true
is_sound (numbers most test) = nat_lt most (10 ^ 18)
is_sound (list shape) = is_sound shape && not (is_rest shape)
is_sound (nullable shape) = is_sound shape && is_object shape
is_sound (object key shape members) = is_key key && is_sound shape && not (is_rest shape) && is_sound members && is_rest members
is_sound (next key shape members) = is_key key && is_sound shape && not (is_rest shape) && is_sound members && is_rest members
is_sound end = true
