-- A word that is read as a name is one.
use Rattle.std.proofs.Common.{◌≡◌, ℕ, Bool, true, false, ◌==◌, not, nat_le, List, [], ◌∷◌, length, Result, Ok, Err, if◌then◌else◌, refl, sym, ap, ◌∙◌, arith}
use Rattle.std.specs.List.{list_all}
use Rattle.std.proofs.lemmas.Bool.{le-leb}
use Rattle.ndc_event.specs.Name.{is_name, is_name_byte, name_of}
use Rattle.ndc_event.specs.declared.name.NameError.{NameError}
use Rattle.ndc_event.specs.declared.name.NameError.TheVariants.{Empty, TooLong, BadByte}
use Rattle.ndc_script_words.specs.Operands.{name_or_bad, named}

-- the name that bytes are, by the three tests
name_by : Bool → Bool → Bool → List ℕ → Result (List ℕ) NameError
name_by empty short plain bytes = if empty then Err Empty else if not short then Err TooLong else if not plain then Err BadByte else Ok bytes

named_by : (line : ℕ) (empty short plain : Bool) (word name : List ℕ) → name_or_bad line (name_by empty short plain word) ≡ Ok name → (empty ≡ false) × (short ≡ true) × (plain ≡ true) × (word ≡ name)
unfolding name_by
named_by line true short plain word name ok = absurd (cc)
named_by line false false plain word name ok = absurd (cc)
named_by line false true false word name ok = absurd (cc)
named_by line false true true word name ok = (refl, refl, refl, cc)

not_empty : (word : List ℕ) → (length word == 0) ≡ false → nat_le 1 (length word) ≡ true
not_empty [] h = absurd (cc)
not_empty (b ∷ bs) h = le-leb 1 (length (b ∷ bs)) (omega arith)

named_word : (word name : List ℕ) (line : ℕ) → named line word ≡ Ok name → is_name name ≡ true
unfolding name_by
named_word word name line ok =
    let p = named_by line (length word == 0) (nat_le (length word) 200) (list_all is_name_byte word) word name ok in
    ap is_name (sym p.3) ∙ rw (not_empty word p.0, p.1, p.2) refl

-- the name that bytes are is one
pub name_fits : (word name : List ℕ) → name_of word ≡ Ok name → is_name name ≡ true
name_fits word name ok = named_word word name 0 (ap (name_or_bad 0) ok)

pub named_fits : (line : ℕ) (word name : List ℕ) → named line word ≡ Ok name → is_name name ≡ true
named_fits line word name ok = named_word word name line ok
