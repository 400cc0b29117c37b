-- Names: 1 to 200 bytes of visible ASCII.
use Rattle.std.specs.Prelude.{◌==◌, ℕ, Bool, ◌&&◌, not, nat_le, List, length, Result, Ok, Err, if◌then◌else◌}
use Rattle.std.specs.List.{list_all}
use Rattle.ndc_event.specs.declared.name.NameError.{NameError}
use Rattle.ndc_event.specs.declared.name.NameError.TheVariants.{Empty, TooLong, BadByte}

-- a byte from `!` to `~`
abbrev pub is_name_byte : ℕ → Bool
is_name_byte byte = nat_le 33 byte && nat_le byte 126

-- what a name may be
abbrev pub is_name : List ℕ → Bool
is_name bytes = nat_le 1 (length bytes) && nat_le (length bytes) 200 && list_all is_name_byte bytes

-- the name that bytes are, or the first reason why they are not one
abbrev pub name_of : List ℕ → Result (List ℕ) NameError
name_of bytes =
    if length bytes == 0 then Err Empty
    else if not (nat_le (length bytes) 200) then Err TooLong
    else if not (list_all is_name_byte bytes) then Err BadByte
    else Ok bytes
