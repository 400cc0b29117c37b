-- How single reads and writes add up to whole runs.
use Rattle.std.proofs.Common.{◌≡◌, ℕ, ◌+◌, ◌<◌, ◌≤◌, inl, inr, List, [], ◌++◌, length, take, drop, Some, None, refl, sym, ap, ◌∙◌, subst, arith, append_assoc, length-append, IfSome, take-append-drop}
use Rattle.std.specs.Prelude.{Option}
use Rattle.std.proofs.lemmas.List.{append-nil, drop_at}
use Rattle.ndc_port.specs.Fault.{Rose}
use Rattle.ndc_port.specs.Bytes.{Consumes, Appends, Sent, AppendsFront}

-- a count that rose at last has risen since any earlier time
pub Rose_later : (before now after : ℕ) → before ≤ now → Rose now after → Rose before after
Rose_later before now after kept rose = elim rose [ inl above ↦ inl (omega arith) | inr greatest ↦ inr greatest ]

-- before the first write nothing of the bytes is sent
pub Sent_start : (written : Option (List ℕ)) (bytes : List ℕ) → Sent written written bytes bytes
Sent_start None bytes = ([], refl, tt)
Sent_start (Some w) bytes = ([], refl, ap (λ (x : List ℕ). Some x) (sym (append-nil w)))

-- a further piece is written whole
pub Sent_piece : (before now after : Option (List ℕ)) (bytes piece rest : List ℕ) → Sent before now bytes (piece ++ rest) → Appends now after piece → Sent before after bytes rest
Sent_piece None now after bytes piece rest sent taken = (sent.0 ++ piece, sent.1 ∙ sym (append_assoc sent.0 piece rest), tt)
Sent_piece (Some w) now after bytes piece rest sent taken =
    let whole = rw sent.2 at taken in
    (sent.0 ++ piece, sent.1 ∙ sym (append_assoc sent.0 piece rest), rw (whole, append_assoc w sent.0 piece) refl)

-- of a further piece only a prefix is written
pub Sent_part : (before now after : Option (List ℕ)) (bytes piece rest : List ℕ) → Sent before now bytes (piece ++ rest) → AppendsFront now after piece → AppendsFront before after bytes
Sent_part before now after bytes piece rest sent part =
    let split : piece ++ rest ≡ part.1.0 ++ (part.0 ++ rest) = ap (λ (x : List ℕ). x ++ rest) part.1.1 ∙ append_assoc part.1.0 part.0 rest in
    let whole = subst (λ (x : List ℕ). Sent before now bytes x) split sent in
    (part.0 ++ rest, Sent_piece before now after bytes part.1.0 (part.0 ++ rest) whole part.1.2)

-- the first n bytes of what was not sent are written
pub Sent_more : (before now after : Option (List ℕ)) (bytes rest : List ℕ) (n : ℕ) → Sent before now bytes rest → Appends now after (take n rest) → Sent before after bytes (drop n rest)
Sent_more before now after bytes rest n sent taken =
    Sent_piece before now after bytes (take n rest) (drop n rest) (subst (λ (x : List ℕ). Sent before now bytes x) (sym (take-append-drop n rest)) sent) taken

-- nothing more is written
pub Sent_stop : (before now : Option (List ℕ)) (bytes rest : List ℕ) → Sent before now bytes rest → AppendsFront before now bytes
Sent_stop before now bytes rest sent = (rest, sent)

-- nothing is left to write
pub Sent_end : (before now : Option (List ℕ)) (bytes : List ℕ) → Sent before now bytes [] → Appends before now bytes
Sent_end before now bytes sent = subst (λ (x : List ℕ). Appends before now x) (sym (sent.1 ∙ append-nil sent.0)) sent.2

-- what was consumed, and then a further piece
pub Consumes_piece : (before now after : Option (List ℕ)) (bytes piece : List ℕ) → Consumes before now bytes → Consumes now after piece → Consumes before after (bytes ++ piece)
Consumes_piece None now after bytes piece consumed given = tt
Consumes_piece (Some w) now after bytes piece consumed given =
    let more = rw consumed.2 at given in
    (more.0, rw (consumed.1, more.1, append_assoc bytes piece more.0) refl, more.2)

-- more bytes were consumed than the limit, by one: there were so many, and the others are left
pub Consumes_past : (before now : Option (List ℕ)) (bytes : List ℕ) (limit : ℕ) → Consumes before now bytes → length bytes ≡ limit + 1 → IfSome before (λ left. (limit < length left) × (now ≡ Some (drop (limit + 1) left)))
Consumes_past None now bytes limit consumed count = tt
Consumes_past (Some w) now bytes limit consumed count =
    (rw consumed.1 (omega (arith, length-append bytes consumed.0)), rw (consumed.1, drop_at bytes consumed.0 (limit + 1) count, consumed.2) refl)
