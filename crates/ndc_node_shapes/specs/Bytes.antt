-- The pieces of a text, each read from the bytes that are left.
use Rattle.std.specs.Prelude.{ℕ, zero, suc, ◌+◌, ◌-◌, ◌*◌, Bool, true, false, ◌&&◌, ◌||◌, ◌==◌, not, nat_lt, nat_le, List, [], ◌∷◌, ◌++◌, length, drop, codes, Option, Some, None, Result, Ok, Err, if◌then◌else◌}
use Rattle.std.specs.Str.{bytes_eq}
use Rattle.std.specs.Int.{w128, from_be_bytes}
use Rattle.uuid.specs.Text.{parsed}
use Rattle.ndc_event.specs.Key.{run_text}
use Rattle.ndc_event.specs.Name.{is_name}
use Rattle.ndc_event.specs.Outcome.{◌>>=◌}
use Rattle.ndc_event.specs.declared.key.RunId.{RunId}
use Rattle.ndc_node_shapes.specs.Ranges.{is_run}
use Rattle.ndc_node_shapes.specs.declared.fault.Cause.{Cause}
use Rattle.ndc_node_shapes.specs.declared.fault.Cause.TheVariants.{Unexpected, Number, Byte, Range}
use Rattle.ndc_node_shapes.specs.declared.fault.Fault.{Fault}
use Rattle.ndc_node_shapes.specs.declared.fault.Fault.TheVariants.{At}

-- what is read of the bytes that are left, with those that are left then
abbrev pub Taken : Type 0 → Type 0
Taken A = Result (A × List ℕ) Fault

-- a fault where these bytes are left
abbrev pub fault_at : {A : Type 0} → Cause → List ℕ → Result A Fault
fault_at cause left = Err (At cause (length left))

-- ---- fixed pieces

-- what comes after the piece, where the bytes begin with it
abbrev pub after : List ℕ → List ℕ → Option (List ℕ)
after [] bytes = Some bytes
after (p ∷ piece) [] = None
after (p ∷ piece) (b ∷ bytes) = if b == p then after piece bytes else None

-- what is there, or else the fault
abbrev pub wanted : {A : Type 0} → Cause → List ℕ → Option A → Result A Fault
wanted cause left None = fault_at cause left
wanted cause left (Some x) = Ok x

-- the piece is wanted
abbrev pub expect : List ℕ → List ℕ → Result (List ℕ) Fault
expect piece left = wanted Unexpected left (after piece left)

-- ---- numbers

-- a byte from `0` to `9`
abbrev pub is_digit : ℕ → Bool
is_digit byte = nat_le 48 byte && nat_le byte 57

-- the digits that bytes begin with
abbrev pub digits_of : List ℕ → List ℕ
digits_of [] = []
digits_of (b ∷ bytes) = if is_digit b then b ∷ digits_of bytes else []

-- a number does not begin with 0, itself excepted
abbrev pub has_leading_zero : List ℕ → Bool
has_leading_zero [] = false
has_leading_zero (b ∷ bytes) = (b == 48) && nat_lt 0 (length bytes)

-- 1 to 18 digits without a leading zero
abbrev pub is_number : List ℕ → Bool
is_number digits = nat_lt 0 (length digits) && nat_le (length digits) 18 && not (has_leading_zero digits)

-- the value of digits that stand after those of a number
abbrev pub value_on : ℕ → List ℕ → ℕ
value_on value [] = value
value_on value (b ∷ bytes) = value_on (value * 10 + (b - 48)) bytes

-- a number in its range, of these digits
abbrev pub number_in : ℕ → ℕ → List ℕ → List ℕ → Taken ℕ
number_in least most digits left =
    if not (is_number digits) then fault_at Number left
    else if nat_le least (value_on 0 digits) && nat_le (value_on 0 digits) most then Ok (value_on 0 digits, drop (length digits) left)
    else fault_at Range left

-- a number from the least to the most
abbrev pub number_at : ℕ → ℕ → List ℕ → Taken ℕ
number_at least most left = number_in least most (digits_of left) left

-- ---- quoted texts

-- a byte from space to `~`
abbrev pub is_plain : ℕ → Bool
is_plain byte = nat_le 32 byte && nat_le byte 126

-- a quote or a backslash
abbrev pub is_marked : ℕ → Bool
is_marked byte = (byte == 34) || (byte == 92)

-- the bytes with a backslash before each quote and each backslash
abbrev pub escaped : List ℕ → List ℕ
escaped [] = []
escaped (b ∷ bytes) = if is_marked b then 92 ∷ b ∷ escaped bytes else b ∷ escaped bytes

-- the bytes between quotes
abbrev pub quoted : List ℕ → List ℕ
quoted bytes = 34 ∷ escaped bytes ++ 34 ∷ []

-- what was read, with a byte before it
abbrev pub with_byte : ℕ → Taken (List ℕ) → Taken (List ℕ)
with_byte b (Ok r) = Ok (b ∷ r.0, r.1)
with_byte b (Err e) = Err e

-- the bytes up to the closing quote; whether a backslash stands before them
abbrev pub unquoted : Bool → List ℕ → Taken (List ℕ)
unquoted marked [] = fault_at Unexpected []
unquoted true (b ∷ bytes) = if is_marked b then with_byte b (unquoted false bytes) else fault_at Byte (b ∷ bytes)
unquoted false (b ∷ bytes) =
    if b == 34 then Ok ([], bytes)
    else if b == 92 then unquoted true bytes
    else if is_plain b then with_byte b (unquoted false bytes)
    else fault_at Byte (b ∷ bytes)

-- the bytes between quotes
abbrev pub text_at : List ℕ → Taken (List ℕ)
text_at left = expect (34 ∷ []) left >>= unquoted false

-- the value, where the test holds
abbrev pub in_range : {A : Type 0} → Bool → A → List ℕ → Result A Fault
in_range true x left = Ok x
in_range false x left = fault_at Range left

-- a name between quotes
abbrev pub name_at : List ℕ → Taken (List ℕ)
name_at left = do
  r ← text_at left
  in_range (is_name r.0) r left

-- a name that passes a test
abbrev pub word_at : (List ℕ → Bool) → List ℕ → Taken (List ℕ)
word_at test left = do
  r ← name_at left
  in_range (test r.0) r left

-- ---- keys

-- what an object begins with, up to the first member's value
abbrev pub first_key : List ℕ → List ℕ
first_key key = 123 ∷ 34 ∷ key ++ 34 ∷ 58 ∷ []

-- a further key
abbrev pub next_key : List ℕ → List ℕ
next_key key = 44 ∷ 34 ∷ key ++ 34 ∷ 58 ∷ []

-- a member after this piece, and those after it
abbrev pub member_at : {A B : Type 0} → List ℕ → (List ℕ → Taken A) → (List ℕ → Taken B) → List ℕ → Taken (A × B)
member_at piece one more left = do
  left ← expect piece left
  x ← one left
  xs ← more x.1
  Ok ((x.0, xs.0), xs.1)

-- ---- lists

-- each text after a comma
abbrev pub further : {A : Type 0} → (A → List ℕ) → List A → List ℕ
further text [] = []
further text (x ∷ xs) = 44 ∷ text x ++ further text xs

-- the texts with commas between them
abbrev pub with_commas : {A : Type 0} → (A → List ℕ) → List A → List ℕ
with_commas text [] = []
with_commas text (x ∷ xs) = text x ++ further text xs

-- a list, between brackets
abbrev pub list_text : {A : Type 0} → (A → List ℕ) → List A → List ℕ
list_text text xs = 91 ∷ with_commas text xs ++ 93 ∷ []

-- what was read, with items before it
abbrev pub with_items : {A : Type 0} → List A → Taken (List A) → Taken (List A)
with_items items (Ok r) = Ok (items ++ r.0, r.1)
with_items items (Err e) = Err e

-- no more items where the list is closed, or else what is read
abbrev pub unless_closed : {A : Type 0} → Option (List ℕ) → Taken (List A) → Taken (List A)
unless_closed (Some rest) more = Ok ([], rest)
unless_closed None more = more

-- at most so many items, each after a comma, up to the closing bracket
abbrev pub further_at : {A : Type 0} → (List ℕ → Taken A) → ℕ → List ℕ → Taken (List A)
further_at read zero left = fault_at Unexpected left
further_at read (suc most) left = unless_closed (after (93 ∷ []) left) (do
  left ← expect (44 ∷ []) left
  x ← read left
  with_items (x.0 ∷ []) (further_at read most x.1))

-- items with commas between them, up to the closing bracket
abbrev pub items_at : {A : Type 0} → (List ℕ → Taken A) → List ℕ → Taken (List A)
items_at read left = unless_closed (after (93 ∷ []) left) (do
  x ← read left
  with_items (x.0 ∷ []) (further_at read (length x.1) x.1))

-- a list, between brackets
abbrev pub list_at : {A : Type 0} → (List ℕ → Taken A) → List ℕ → Taken (List A)
list_at read left = do
  left ← expect (91 ∷ []) left
  items_at read left

-- ---- what may be missing

-- nothing after `null`, or else what is read
abbrev pub unless_null : {A : Type 0} → Option (List ℕ) → Taken A → Taken (Option A)
unless_null (Some rest) r = Ok (None, rest)
unless_null None r = do
  x ← r
  Ok (Some x.0, x.1)

-- ---- flags

abbrev pub flag_text : Bool → List ℕ
flag_text true = codes "true"
flag_text false = codes "false"

-- `true`, or else `false`
abbrev pub flag_from : Option (List ℕ) → List ℕ → Taken Bool
flag_from (Some rest) left = Ok (true, rest)
flag_from None left = do
  rest ← expect (codes "false") left
  Ok (false, rest)

abbrev pub flag_at : List ℕ → Taken Bool
flag_at left = flag_from (after (codes "true") left) left

-- ---- ids of runs

-- the run of this number, where it is printed as this text
unfoldable pub run_of_value : List ℕ → ℕ → Option RunId
run_of_value text n = if is_run n && bytes_eq text (run_text (record { value = n })) then Some (record { value = n }) else None

-- the run that a text is which was parsed as these bytes
abbrev pub run_from : List ℕ → Option (List ℕ) → Option RunId
run_from text None = None
run_from text (Some bytes) = run_of_value text (from_be_bytes w128 bytes)

-- a run's id between quotes
abbrev pub run_at : List ℕ → Taken RunId
run_at left = do
  r ← text_at left
  run ← wanted Range left (run_from r.0 (parsed r.0))
  Ok (run, r.1)

-- ---- lists of numbers

-- a list of numbers up to a bound that passes a test
abbrev pub numbers_at : ℕ → (List ℕ → Bool) → List ℕ → Taken (List ℕ)
numbers_at most test left = do
  r ← list_at (number_at 0 most) left
  in_range (test r.0) r left
