-- The bytes of a name are ASCII.
use Rattle.std.proofs.Common.{◌≡◌, ℕ, ◌<◌, ◌≤◌, true, List, [], ◌∷◌, nat_le, arith}
use Rattle.std.specs.List.{list_all}
use Rattle.std.specs.Str.{IsAscii, IsUtf8}
use Rattle.std.proofs.lemmas.Bool.{leb-true, and_parts}
use Rattle.std.proofs.lemmas.Str.{IsUtf8-from_ascii}
use Rattle.std.proofs.lemmas.Str.Ascii.{IsAscii-cons, IsAscii-nil}
use Rattle.ndc_event.specs.Name.{is_name_byte}

pub byte_IsAscii : (b : ℕ) → is_name_byte b ≡ true → b < 128
byte_IsAscii b h =
    let most : b ≤ 126 = leb-true b 126 ((and_parts (nat_le 33 b) (nat_le b 126) h).1) in omega arith

pub name_IsAscii : (bytes : List ℕ) → list_all is_name_byte bytes ≡ true → IsAscii bytes
name_IsAscii [] h = IsAscii-nil
name_IsAscii (b ∷ bs) h =
    let p : (is_name_byte b ≡ true) × (list_all is_name_byte bs ≡ true) = and_parts (is_name_byte b) (list_all is_name_byte bs) h in
    IsAscii-cons b bs (byte_IsAscii b p.0) (name_IsAscii bs p.1)

pub name_IsUtf8 : (bytes : List ℕ) → list_all is_name_byte bytes ≡ true → IsUtf8 bytes
name_IsUtf8 bytes h = IsUtf8-from_ascii bytes (name_IsAscii bytes h)
