-- Two pieces of bytes that are written one after the other.
use Rattle.std.proofs.Common.{ℕ, List, [], ◌++◌, Option, Result, Ok, Err, OnErr, sym, subst}
use Rattle.std.proofs.lemmas.List.{append-nil}
use Rattle.ndc_port.specs.Bytes.{Appends, AppendsFront, Sent}
use Rattle.ndc_port.proofs.Steps.{Sent_part, Sent_piece, Sent_start}

module _ (before : Option (List ℕ)) (one two : List ℕ) where
  -- a prefix of the first one
  pub front-of : (after : Option (List ℕ)) → AppendsFront before after one → AppendsFront before after (one ++ two)
  front-of after front = Sent_part before before after (one ++ two) one two (Sent_start before (one ++ two)) front

  -- the first one, and a prefix of the second
  pub front-behind : (now after : Option (List ℕ)) → Appends before now one → AppendsFront now after two → AppendsFront before after (one ++ two)
  front-behind now after whole front =
      Sent_part before now after (one ++ two) two []
      (subst (λ (rest : List ℕ). Sent before now (one ++ two) rest) (sym (append-nil two)) (Sent_piece before before now (one ++ two) one two (Sent_start before (one ++ two)) whole)) front

-- where the second one fails
pub on-front : (before : Option (List ℕ)) (one two : List ℕ) (now after : Option (List ℕ)) {T E : Type 0} (r : Result T E) → Appends before now one → OnErr r (AppendsFront now after two)
    → OnErr r (AppendsFront before after (one ++ two))
on-front before one two now after (Ok x) whole front = tt
on-front before one two now after (Err e) whole front = front-behind before one two now after whole front
