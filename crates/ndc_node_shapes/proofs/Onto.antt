-- A text that is written member by member is the text.
use Rattle.std.proofs.Common.{◌≡◌, ℕ, List, ◌++◌, refl, ap, ◌∙◌, append_assoc}
use Rattle.ndc_node_shapes.specs.Bytes.{first_key, next_key}
use Rattle.ndc_node_shapes.specs.Shapes.{Shape, number, flag, name, word, text, run, numbers, list, nullable, object, next, end, Value}
use Rattle.ndc_node_shapes.specs.Text.{onto, text_of}

members : (piece : List ℕ) (s ms : Shape) (old : List ℕ) (v : Value s) (vs : Value ms)
    → ((old : List ℕ) → onto s old v ≡ old ++ text_of s v) → ((old : List ℕ) → onto ms old vs ≡ old ++ text_of ms vs)
    → onto ms (onto s (old ++ piece) v) vs ≡ old ++ (piece ++ text_of s v ++ text_of ms vs)
members piece s ms old v vs one more =
    more (onto s (old ++ piece) v) ∙ ap (λ (z : List ℕ). z ++ text_of ms vs) (one (old ++ piece) ∙ append_assoc old piece (text_of s v))
    ∙ append_assoc old (piece ++ text_of s v) (text_of ms vs)

pub at_the_end : (s : Shape) (old : List ℕ) (v : Value s) → onto s old v ≡ old ++ text_of s v
at_the_end (number least most) old v = refl
at_the_end flag old v = refl
at_the_end name old v = refl
at_the_end (word test) old v = refl
at_the_end text old v = refl
at_the_end run old v = refl
at_the_end (numbers most test) old v = refl
at_the_end (list s) old v = refl
at_the_end (nullable s) old v = refl
at_the_end (object key s ms) old v = members (first_key key) s ms old v.0 v.1 (λ old. at_the_end s old v.0) (λ old. at_the_end ms old v.1)
at_the_end (next key s ms) old v = members (next_key key) s ms old v.0 v.1 (λ old. at_the_end s old v.0) (λ old. at_the_end ms old v.1)
at_the_end end old v = refl
