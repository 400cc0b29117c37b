-- Where the object ends that bytes begin with: at the bracket that closes it.
use Rattle.std.specs.Prelude.{ℕ, zero, suc, ◌-◌, ◌||◌, ◌==◌, List, [], ◌∷◌, length, take, Option, Some, None, Result, Ok, if◌then◌else◌}
use Rattle.ndc_event.specs.Outcome.{◌>>=◌}
use Rattle.ndc_node_shapes.specs.Bytes.{Taken, wanted}
use Rattle.ndc_node_shapes.specs.declared.fault.Cause.TheVariants.{Unexpected}
use Rattle.ndc_node_shapes.specs.declared.fault.Fault.{Fault}
use Rattle.ndc_node_shapes.specs.declared.object.Place.{Place}
use Rattle.ndc_node_shapes.specs.declared.object.Place.TheVariants.{Outside, Inside, Escaped}

-- one bracket closes: one of those that are open in the object, or its own
abbrev pub closed : ℕ → Option (Place × ℕ)
closed zero = None
closed (suc n) = Some (Outside, n)

-- where a reader of brackets stands after a byte, with the brackets that are open in the object; nowhere where the object is closed
abbrev pub step : Place → ℕ → ℕ → Option (Place × ℕ)
step Outside n b =
    if b == 34 then Some (Inside, n)
    else if (b == 91) || (b == 123) then Some (Outside, suc n)
    else if (b == 93) || (b == 125) then closed n
    else Some (Outside, n)
step Inside n b = if b == 34 then Some (Outside, n) else if b == 92 then Some (Escaped, n) else Some (Inside, n)
step Escaped n b = Some (Inside, n)

-- what comes after an object that is closed, or what is found further on
abbrev pub unless_done : Option (Place × ℕ) → List ℕ → (Place → ℕ → Option (List ℕ)) → Option (List ℕ)
unless_done None bytes go = Some bytes
unless_done (Some at) bytes go = go at.0 at.1

-- what comes after the bracket that closes the object
unfoldable pub rest_after : Place → ℕ → List ℕ → Option (List ℕ)
rest_after place n [] = None
rest_after place n (b ∷ bytes) = unless_done (step place n b) bytes (λ p m. rest_after p m bytes)

-- what comes after the object that bytes begin with
abbrev pub after_object : List ℕ → Option (List ℕ)
after_object [] = None
after_object (b ∷ bytes) = if b == 123 then rest_after Outside 0 bytes else None

-- what comes after the object, where there is one
abbrev pub skipped : List ℕ → Result (List ℕ) Fault
skipped left = wanted Unexpected left (after_object left)

-- the bytes of an object
abbrev pub object_at : List ℕ → Taken (List ℕ)
object_at left = do
  rest ← skipped left
  Ok (take (length left - length rest) left, rest)
