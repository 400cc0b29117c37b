-- Laws of all shapes.
use Rattle.std.proofs.Common.{◌≡◌, ◌↔◌, ℕ, true, List, [], Ok, refl, sym, ap, ◌∙◌, append-nil}
use Rattle.ndc_node_shapes.specs.Fits.{Fits, is_sound}
use Rattle.ndc_node_shapes.specs.Read.{read_of}
use Rattle.ndc_node_shapes.specs.Shapes.{Shape, Value}
use Rattle.ndc_node_shapes.specs.Text.{text_of}
use Rattle.ndc_node_shapes.proofs.Steps.{parts}
use Rattle.ndc_node_shapes.proofs.Both.{again, only}

-- the text alone is read
pub alone : (s : Shape) (v : Value s) → is_sound s ≡ true → Fits s v → read_of s (text_of s v) ≡ Ok (v, [])
alone s v sound h = ap (read_of s) (sym (append-nil (text_of s v))) ∙ again s v [] sound h refl

pub where_printed : (s : Shape) (v : Value s) (bytes : List ℕ) → is_sound s ≡ true → (read_of s bytes ≡ Ok (v, [])) ↔ (Fits s v × (bytes ≡ text_of s v))
where_printed s v bytes sound = (
  λ h. let it = only s bytes v [] sound h in (it.0, it.1 ∙ append-nil (text_of s v)),
  λ h. ap (read_of s) h.1 ∙ alone s v sound h.0,
)

pub one_text : (s : Shape) (v : Value s) (bytes more : List ℕ) → is_sound s ≡ true → read_of s bytes ≡ Ok (v, []) → read_of s more ≡ Ok (v, []) → bytes ≡ more
one_text s v bytes more sound h k = (only s bytes v [] sound h).1 ∙ sym (only s more v [] sound k).1

pub one_value : (s : Shape) (v w : Value s) → is_sound s ≡ true → Fits s v → Fits s w → text_of s v ≡ text_of s w → v ≡ w
one_value s v w sound h k e = (parts v w [] [] (sym (alone s v sound h) ∙ ap (read_of s) e ∙ alone s w sound k)).0
