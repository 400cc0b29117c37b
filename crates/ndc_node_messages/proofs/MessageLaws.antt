-- A message is read exactly where it is printed.
use Rattle.std.proofs.Common.{◌≡◌, ℕ, Bool, true, false, List, [], ◌∷◌, ◌++◌, map, Option, Some, None, Result, Ok, Err, codes, refl, sym, ap, ◌∙◌, subst, append_assoc}
use Rattle.std.specs.Prelude.{IsTrue}
use Rattle.ndc_event.specs.Outcome.{◌>>=◌}
use Rattle.ndc_event.specs.declared.batch.Batch.{Batch}
use Rattle.ndc_history.specs.History.{rises}
use Rattle.ndc_history.specs.declared.item.Item.{Item}
use Rattle.ndc_model_cells.specs.declared.message.Message.{Message}
use Rattle.ndc_node_messages.specs.Text.{history_shape, history_value, second_text, message_text, IsWhole, IsWholeIfThere, MessageFits}
use Rattle.ndc_node_messages.specs.Read.{formed, batch_or, batch_at, unless_null, second_at, ended, item_of, with_history, message_at}
use Rattle.ndc_node_messages.specs.declared.error.MessageError.{MessageError}
use Rattle.ndc_node_shapes.specs.Bytes.{after, expect, first_key, next_key}
use Rattle.ndc_node_shapes.specs.Fits.{Fits}
use Rattle.ndc_node_shapes.specs.Objects.{object_at}
use Rattle.ndc_node_shapes.specs.Read.{read_of}
use Rattle.ndc_node_shapes.specs.Shapes.{Value}
use Rattle.ndc_node_shapes.specs.Text.{text_of}
use Rattle.ndc_node_shapes.specs.declared.fault.Fault.{Fault}
use Rattle.ndc_node_shapes.proofs.Both.{again, only}
use Rattle.ndc_node_shapes.proofs.Closing.{cut, object_was}
use Rattle.ndc_node_shapes.proofs.Pieces.{is_there, was_expected}
use Rattle.ndc_text.specs.Read.{read_of as batch_of}
use Rattle.ndc_text.specs.Text.{batch_text}
use Rattle.ndc_text.specs.declared.error.TextError.{TextError}
use Rattle.ndc_text.specs.declared.form.TextForm.TheVariants.{Two}
use Rattle.ndc_text.proofs.Exact.{found, text_again}
use Rattle.ndc_node_messages.proofs.BatchEnds.{batch_ends, no_null}
use Rattle.ndc_node_shapes.proofs.PlainTexts.{IsPlainText, plain_joined, plain}
use Rattle.ndc_node_messages.proofs.Visible.{batch_is_plain}
use Rattle.ndc_node_messages.proofs.Items.{items_back, values_back}

-- ---- steps

bound : {A B : Type 0} (f : A → Result B MessageError) (r : Result A MessageError) (y : B) → (r >>= f) ≡ Ok y → (x : A) × ((r ≡ Ok x) × (f x ≡ Ok y))
bound f (Ok x) y e = (x, (refl, e))
bound f (Err x) y e = absurd (cc)

parts : {A B : Type 0} (x y : A) (r s : B) → ◌≡◌ {A = Result (A × B) MessageError} (Ok (x, r)) (Ok (y, s)) → (x ≡ y) × (r ≡ s)
parts {A} {B} x y r s e =
    let same : ◌≡◌ {A = A × B} (x, r) (y, s) = cc in
    (ap (λ (p : A × B). p.0) same, ap (λ (p : A × B). p.1) same)

was_formed : {A : Type 0} (r : Result A Fault) (x : A) → formed r ≡ Ok x → r ≡ Ok x
was_formed (Ok y) x e = let same : y ≡ x = cc in ap (λ z. Ok z) same
was_formed (Err f) x e = absurd (cc)

-- ---- batches

batch_again : (b : Batch) (rest : List ℕ) → IsWhole b → batch_at (batch_text b ++ rest) ≡ Ok (b, rest)
batch_again b rest h = rw (cut (batch_text b) rest (batch_ends b rest h.range), text_again b h.range h.whole) refl

or_was : (left rest : List ℕ) (r : Result Batch TextError) (b : Batch) (end_of : List ℕ) → batch_or left rest r ≡ Ok (b, end_of) → (r ≡ Ok b) × (rest ≡ end_of)
or_was left rest (Ok c) b end_of h = let p = parts c b rest end_of h in (ap (λ (x : Batch). Ok x) p.0, p.1)
or_was left rest (Err e) b end_of h = absurd (cc)

batch_only : (left rest : List ℕ) (b : Batch) → batch_at left ≡ Ok (b, rest) → IsWhole b × (left ≡ batch_text b ++ rest)
batch_only left rest b h =
    let p = bound (λ (r : List ℕ × List ℕ). batch_or left r.1 (batch_of Two r.0)) (formed (object_at left)) (b, rest) h in
    let q = or_was left p.0.1 (batch_of Two p.0.0) b rest p.1.1 in
    let f = found Two p.0.0 b q.0 in
    let stands = object_was left p.0.0 p.0.1 (was_formed (object_at left) p.0 p.1.0) in
    (record { range = f.0; whole = f.2 }, stands ∙ ap (λ (z : List ℕ). z ++ p.0.1) f.1 ∙ ap (λ (z : List ℕ). batch_text b ++ z) q.1)

second_again : (o : Option Batch) (rest : List ℕ) → IsWholeIfThere o → second_at (second_text o ++ rest) ≡ Ok (o, rest)
second_again None rest h = refl
second_again (Some b) rest h = rw (no_null b rest, batch_again b rest h) refl

second_was : (left rest : List ℕ) (o : Option Batch) (null : Option (List ℕ)) → after (codes "null") left ≡ null → unless_null null left ≡ Ok (o, rest)
    → IsWholeIfThere o × (left ≡ second_text o ++ rest)
second_was left rest o (Some end_of) e h =
    let p = parts None o end_of rest h in
    subst (λ x. IsWholeIfThere x × (left ≡ second_text x ++ rest)) p.0 (tt, is_there (codes "null") left end_of e ∙ ap (λ (z : List ℕ). codes "null" ++ z) p.1)
second_was left rest o None e h =
    let p = bound (λ (b : Batch × List ℕ). Ok (Some b.0, b.1)) (batch_at left) (o, rest) h in
    let q = parts (Some p.0.0) o p.0.1 rest p.1.1 in
    let it = batch_only left p.0.1 p.0.0 p.1.0 in
    subst (λ x. IsWholeIfThere x × (left ≡ second_text x ++ rest)) q.0 (it.0, it.1 ∙ ap (λ (z : List ℕ). batch_text p.0.0 ++ z) q.1)

second_only : (left rest : List ℕ) (o : Option Batch) → second_at left ≡ Ok (o, rest) → IsWholeIfThere o × (left ≡ second_text o ++ rest)
second_only left rest o h = second_was left rest o (after (codes "null") left) refl h

-- ---- messages

-- a text of these parts
text_of_parts : Batch → Value history_shape → Option Batch → List ℕ
text_of_parts b values second =
    first_key (codes "batch") ++ (batch_text b ++ (next_key (codes "history") ++ (text_of history_shape values ++ (next_key (codes "second") ++ (second_text second ++ 125 ∷ [])))))

seven : (a b c d e f g : List ℕ) → (((((a ++ b) ++ c) ++ d) ++ e) ++ f) ++ g ≡ a ++ (b ++ (c ++ (d ++ (e ++ (f ++ g)))))
seven a b c d e f g = simp append_assoc refl

as_parts : (sent : Message) → message_text sent ≡ text_of_parts sent.batch (history_value sent.history) sent.second
unfolding text_of_parts
as_parts sent =
    seven (first_key (codes "batch")) (batch_text sent.batch) (next_key (codes "history")) (text_of history_shape (history_value sent.history)) (next_key (codes "second")) (second_text sent.second) (125 ∷ [])

risen : (b : Batch) (items : List Item) (second : Option Batch) (test : Bool) (sent : Message) → rises items ≡ test → with_history b items second test ≡ Ok sent
    → IsTrue (rises items) × (record { batch = b; history = items; second = second } ≡ sent)
risen b items second true sent e h = (e, cc)
risen b items second false sent e h = absurd (cc)

no_more : (left : List ℕ) → ended left ≡ Ok tt → left ≡ []
no_more [] h = refl
no_more (b ∷ left) h = absurd (cc)

pub message_again : (sent : Message) → MessageFits sent → message_at (message_text sent) ≡ Ok sent
unfolding message_at text_of_parts
message_again sent h =
    let last = second_text sent.second ++ 125 ∷ [] in
    let later = text_of history_shape (history_value sent.history) ++ (next_key (codes "second") ++ last) in
    ap message_at (as_parts sent)
    ∙ rw (
      batch_again sent.batch (next_key (codes "history") ++ later) h.batch,
      again history_shape (history_value sent.history) (next_key (codes "second") ++ last) refl h.history refl,
      second_again sent.second (125 ∷ []) h.second,
      items_back sent.history,
      h.rises,
    ) refl

pub message_only : (bytes : List ℕ) (sent : Message) → message_at bytes ≡ Ok sent → MessageFits sent × (bytes ≡ message_text sent)
unfolding message_at text_of_parts
message_only bytes sent h =
    let p = bound _ (formed (expect (first_key (codes "batch")) bytes)) sent h in
    let b = bound _ (batch_at p.0) sent p.1.1 in
    let q = bound _ (formed (expect (next_key (codes "history")) b.0.1)) sent b.1.1 in
    let v = bound _ (formed (read_of history_shape q.0)) sent q.1.1 in
    let s = bound _ (formed (expect (next_key (codes "second")) v.0.1)) sent v.1.1 in
    let o = bound _ (second_at s.0) sent s.1.1 in
    let e = bound _ (formed (expect (125 ∷ []) o.0.1)) sent o.1.1 in
    let n = bound _ (ended e.0) sent e.1.1 in
    let items = map item_of v.0.0 in
    let up = risen b.0.0 items o.0.0 (rises items) sent refl n.1.1 in
    let batch = batch_only p.0 b.0.1 b.0.0 b.1.0 in
    let history = only history_shape q.0 v.0.0 v.0.1 refl (was_formed (read_of history_shape q.0) v.0 v.1.0) in
    let second = second_only s.0 o.0.1 o.0.0 o.1.0 in
    let back : history_value items ≡ v.0.0 = values_back v.0.0 in
    let made : Message = record { batch = b.0.0; history = items; second = o.0.0 } in
    let fits : MessageFits made = record {
      batch = batch.0;
      history = subst (Fits history_shape) (sym back) history.0;
      rises = up.0;
      second = second.0;
    } in
    let whole : bytes ≡ text_of_parts b.0.0 v.0.0 o.0.0 =
    was_expected (first_key (codes "batch")) bytes p.0 (was_formed _ p.0 p.1.0)
    ∙ ap (λ (z : List ℕ). first_key (codes "batch") ++ z) (batch.1
    ∙ ap (λ (z : List ℕ). batch_text b.0.0 ++ z) (was_expected (next_key (codes "history")) b.0.1 q.0 (was_formed _ q.0 q.1.0)
    ∙ ap (λ (z : List ℕ). next_key (codes "history") ++ z) (history.1
    ∙ ap (λ (z : List ℕ). text_of history_shape v.0.0 ++ z) (was_expected (next_key (codes "second")) v.0.1 s.0 (was_formed _ s.0 s.1.0)
    ∙ ap (λ (z : List ℕ). next_key (codes "second") ++ z) (second.1
    ∙ ap (λ (z : List ℕ). second_text o.0.0 ++ z) (was_expected (125 ∷ []) o.0.1 e.0 (was_formed _ e.0 e.1.0) ∙ ap (λ (z : List ℕ). 125 ∷ z) (no_more e.0 n.1.0))))))) in
    subst (λ (m : Message). MessageFits m × (bytes ≡ message_text m)) up.1
    (fits, whole ∙ ap (λ (values : Value history_shape). text_of_parts b.0.0 values o.0.0) (sym back) ∙ sym (as_parts made))

pub one_message : (one other : Message) → MessageFits one → MessageFits other → message_text one ≡ message_text other → one ≡ other
one_message one other h k e = let both : ◌≡◌ {A = Result Message MessageError} (Ok one) (Ok other) = sym (message_again one h) ∙ ap message_at e ∙ message_again other k in cc

-- ---- in frames

second_plain : (o : Option Batch) → IsWholeIfThere o → IsPlainText (second_text o)
second_plain None h = refl
second_plain (Some b) h = batch_is_plain b h.range

pub message_plain : (sent : Message) → MessageFits sent → IsPlainText (message_text sent)
message_plain sent h =
    let a = first_key (codes "batch") in
    let b = batch_text sent.batch in
    let c = next_key (codes "history") in
    let d = text_of history_shape (history_value sent.history) in
    let e = next_key (codes "second") in
    let f = second_text sent.second in
    plain_joined (((((a ++ b) ++ c) ++ d) ++ e) ++ f) (125 ∷ [])
    (plain_joined ((((a ++ b) ++ c) ++ d) ++ e) f
    (plain_joined (((a ++ b) ++ c) ++ d) e
    (plain_joined ((a ++ b) ++ c) d
    (plain_joined (a ++ b) c
    (plain_joined a b refl (batch_is_plain sent.batch h.batch.range)) refl)
    (plain history_shape (history_value sent.history) refl h.history)) refl)
    (second_plain sent.second h.second)) refl
