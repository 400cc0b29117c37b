-- What the readers of JSON and of run ids promise, in the words of the walk.
use Rattle.std.proofs.Common.{◌≡◌, ℕ, Bool, true, false, ◌&&◌, List, [], ◌∷◌, map, Option, Some, None, Ok, Err, String, Global, IsUtf8, refl, true≢false, sym, ap}
use Rattle.std.specs.List.{list_all}
use Rattle.std.specs.String.{string_bytes}
use Rattle.std.specs.Str.{is_utf8}
use Rattle.std.specs.Prelude.{if◌then◌else◌}
use Rattle.std.proofs.lemmas.Str.{is_utf8-from_IsUtf8, IsUtf8-from_is_utf8}
use Rattle.serde_json.specs.Data.{Data}
use Rattle.serde_json.specs.Read.{read}
use Rattle.serde_json.specs.View.{members_view}
use Rattle.serde_json.specs.declared.value.Value.{Value}
use Rattle.ndc_text.specs.Read.{json_at}
use Rattle.ndc_text.specs.Walk.{wanted, all_keys, run_from}
use Rattle.ndc_text.specs.declared.error.TextError.TheVariants.{NotJson, Range}

pub json_some : (bytes : List ℕ) (d : Data) → IsUtf8 bytes → read bytes ≡ Some d → json_at bytes ≡ Ok d
json_some bytes d u e = rw (is_utf8-from_IsUtf8 bytes u, e) refl

by_test : (bytes : List ℕ) (b : Bool) → is_utf8 bytes ≡ b → (IsUtf8 bytes → read bytes ≡ None) → (if b then wanted NotJson (read bytes) else Err NotJson) ≡ Err NotJson
by_test bytes true e h = rw (h (IsUtf8-from_is_utf8 bytes e)) refl
by_test bytes false e h = refl

pub json_none : (bytes : List ℕ) → (IsUtf8 bytes → read bytes ≡ None) → json_at bytes ≡ Err NotJson
json_none bytes h = by_test bytes (is_utf8 bytes) refl h

-- a text that does not parse is not a run
pub run_none : (o : Option (List ℕ)) → ((u : List ℕ) × (o ≡ Some u) → false ≡ true) → run_from o ≡ Err Range
run_none None h = refl
run_none (Some u) h = absurd (true≢false (sym (h (u, refl))))

-- the keys of a map pass where those of the object do
pub all_keys-members_view : (p : List ℕ → Bool) (es : List (String Global × Value)) → list_all (λ key. p (string_bytes key)) (map (λ e. e.0) es) ≡ all_keys p (members_view es)
all_keys-members_view p [] = refl
all_keys-members_view p (e ∷ es) = ap (λ b. p (string_bytes e.0) && b) (all_keys-members_view p es)
