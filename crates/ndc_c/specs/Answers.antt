-- What calls from C keep to.
use Rattle.std.specs.Prelude.{◌≡◌, ℕ, ℤ, negsuc, true, false, List, length, take, Option, None, IfSome, option_map}
use Rattle.ndc_c.specs.declared.context.Context.{Context}

-- a handle without a node is refused, and stays without one
abbrev pub RefusesNone : Option Context → Option Context → ℤ → Type 0
RefusesNone old new code = old ≡ None → (code ≡ negsuc 0) × (new ≡ None)

-- where the answer before was not fetched no other one is made, and nothing changes
abbrev pub KeepsUnfetched : Option Context → Option Context → ℤ → Type 0
KeepsUnfetched old new code = IfSome old (λ context. context.is_fetched ≡ false → (code ≡ negsuc 2) × (new ≡ old))

-- where there is a node already, nothing changes
abbrev pub KeepsNode : Option Context → Option Context → ℤ → Type 0
KeepsNode old new code = IfSome old (λ _. (code ≡ negsuc 1) × (new ≡ old))

-- the length that is told is that of the last answer
abbrev pub TellsLength : Option Context → ℕ → Type 0
TellsLength new len = IfSome new (λ context. len ≡ length context.answer.items)

-- an answer with bytes waits to be fetched
abbrev pub WaitsForFetching : Option Context → Type 0
WaitsForFetching new = IfSome new (λ context. context.is_fetched ≡ true → length context.answer.items ≡ 0)

-- the last answer
abbrev pub answer_of : Option Context → Option (List ℕ)
answer_of = option_map (λ context. context.answer.items)

-- the last answer stands at the beginning of these bytes
abbrev pub BeginsWithAnswer : Option Context → List ℕ → Type 0
BeginsWithAnswer old out = IfSome old (λ context. take (length context.answer.items) out ≡ context.answer.items)

-- the answer was fetched: it stays, and the next one may be made
abbrev pub fetched : Context → Context
fetched context = record { session = context.session; answer = context.answer; is_fetched = true }
