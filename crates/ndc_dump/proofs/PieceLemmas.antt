-- Pieces of bytes that are written one after the other.
use Rattle.std.proofs.Common.{◌≡◌, ℕ, Result, Ok, Err, OnErr, ◌+◌, ◌<◌, List, ◌++◌, Bor, Option, length, drop, map, get_or, subst}
use Rattle.std.specs.List.{concat}
use Rattle.std.proofs.lemmas.List.{at_drop_more}
use Rattle.ndc_port.specs.Bytes.{Appends, AppendsFront, Sent}
use Rattle.ndc_port.proofs.Steps.{Sent_piece, Sent_part}

-- the bytes of pieces
abbrev pub bytes_of : List (Bor (List ℕ)) → List ℕ
bytes_of pieces = concat (map (λ piece. piece.now) pieces)

next_piece : (pieces : List (Bor (List ℕ))) (i : ℕ) (d : Bor (List ℕ)) → i < length pieces → bytes_of (drop i pieces) ≡ (get_or pieces i d).now ++ bytes_of (drop (i + 1) pieces)
next_piece pieces i d within = at_drop_more bytes_of pieces i d within

-- a further piece is written whole
pub Sent_next : (before now after : Option (List ℕ)) (pieces : List (Bor (List ℕ))) (i : ℕ) (d : Bor (List ℕ)) → i < length pieces → Sent before now (bytes_of pieces) (bytes_of (drop i pieces)) → Appends now after ((get_or pieces i d).now) → Sent before after (bytes_of pieces) (bytes_of (drop (i + 1) pieces))
Sent_next before now after pieces i d within sent taken =
    Sent_piece before now after (bytes_of pieces) ((get_or pieces i d).now) (bytes_of (drop (i + 1) pieces))
    (subst (λ (rest : List ℕ). Sent before now (bytes_of pieces) rest) (next_piece pieces i d within) sent) taken

-- of a further piece only a prefix is written
pub Sent_last : (before now after : Option (List ℕ)) (pieces : List (Bor (List ℕ))) (i : ℕ) (d : Bor (List ℕ)) → i < length pieces → Sent before now (bytes_of pieces) (bytes_of (drop i pieces)) → AppendsFront now after ((get_or pieces i d).now) → AppendsFront before after (bytes_of pieces)
Sent_last before now after pieces i d within sent part =
    Sent_part before now after (bytes_of pieces) ((get_or pieces i d).now) (bytes_of (drop (i + 1) pieces))
    (subst (λ (rest : List ℕ). Sent before now (bytes_of pieces) rest) (next_piece pieces i d within) sent) part

-- what holds, holds where a result is an error
pub on_err : {T E : Type 0} (P : Type 0) (r : Result T E) → P → OnErr r P
on_err P (Ok x) p = tt
on_err P (Err e) p = p
