-- What `Name::new` answers, by the one test that a name passes.
use Rattle.std.proofs.Common.{◌≡◌, ℕ, Bool, true, false, ◌&&◌, nat_le, List, [], ◌∷◌, length, Result, Ok, Err, refl, arith, le-leb, ne_eqb}
use Rattle.std.specs.Prelude.{not, if◌then◌else◌}
use Rattle.std.specs.List.{list_all}
use Rattle.ndc_event.specs.Name.{is_name_byte, name_of}
use Rattle.ndc_event.specs.declared.name.NameError.{NameError}
use Rattle.ndc_event.specs.declared.name.NameError.TheVariants.{TooLong, BadByte}
use Rattle.ndc_text.specs.Walk.{in_range, name_in}
use Rattle.ndc_text.specs.declared.error.TextError.{TextError}
use Rattle.ndc_text.specs.declared.error.TextError.TheVariants.{Range}

-- a name's refusal is one of range
abbrev pub named : Result (List ℕ) NameError → Result (List ℕ) TextError
named (Ok bytes) = Ok bytes
named (Err e) = Err Range

-- the tests of a text that is not empty, in the two orders
by_tests : (b : ℕ) (bs : List ℕ) (some short plain : Bool) → some ≡ true → in_range (some && short && plain) (b ∷ bs) ≡ named (if not short then Err TooLong else if not plain then Err BadByte else Ok (b ∷ bs))
by_tests b bs true true true e = refl
by_tests b bs true true false e = refl
by_tests b bs true false true e = refl
by_tests b bs true false false e = refl
by_tests b bs false short plain e = absurd (cc)

pub name_is : (bytes : List ℕ) → name_in bytes ≡ named (name_of bytes)
name_is [] = refl
name_is (b ∷ bs) =
    rw (ne_eqb (length (b ∷ bs)) 0 (λ e. omega arith))
    (by_tests b bs (nat_le 1 (length (b ∷ bs))) (nat_le (length (b ∷ bs)) 200) (list_all is_name_byte (b ∷ bs)) (le-leb 1 (length (b ∷ bs)) (omega arith)))
