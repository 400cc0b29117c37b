-- A frame is read exactly where it is printed.
use Rattle.std.proofs.Common.{◌≡◌, ℕ, true, List, [], ◌∷◌, ◌++◌, Some, Result, Ok, codes, refl, sym, ap, ◌∙◌, subst, append-nil, append_assoc}
use Rattle.std.specs.Prelude.{IsTrue}
use Rattle.std.specs.List.{list_all}
use Rattle.ndc_node_shapes.specs.Bytes.{is_plain}
use Rattle.ndc_node_shapes.proofs.PlainTexts.{plain}
use Rattle.ndc_event.specs.Outcome.{◌>>=◌}
use Rattle.ndc_node_frames.specs.Frames.{Content, Seen, body_shape, tail_shape, frame_shape, named_kind, kind_in, content_at, at_end, tail_at, frame_at, frame_text, FrameFits, seen_of, kind_of, frame_value}
use Rattle.ndc_node_frames.specs.declared.frame.Frame.{Frame}
use Rattle.ndc_node_frames.specs.declared.kind.Kind.{Kind}
use Rattle.ndc_node_frames.specs.declared.kind.Kind.TheVariants.{Poll, Entries, Records, Handover, Gap, Served, Bootstrap, Recall, Recalled, Progress}
use Rattle.ndc_node_shapes.specs.Bytes.{expect, wanted, first_key}
use Rattle.ndc_node_shapes.specs.Fits.{Fits, is_object, is_sound}
use Rattle.ndc_node_shapes.specs.Objects.{after_object, skipped}
use Rattle.ndc_node_shapes.specs.Read.{read_of}
use Rattle.ndc_node_shapes.specs.Shapes.{Value}
use Rattle.ndc_node_shapes.specs.Text.{text_of}
use Rattle.ndc_node_shapes.specs.declared.fault.Cause.TheVariants.{Unexpected, Range}
use Rattle.ndc_node_shapes.specs.declared.fault.Fault.{Fault}
use Rattle.ndc_node_shapes.proofs.Steps.{bound, wanted_some}
use Rattle.ndc_node_shapes.proofs.Pieces.{was_expected}
use Rattle.ndc_node_shapes.proofs.Both.{again, only}
use Rattle.ndc_node_shapes.proofs.AllShapes.{alone}
use Rattle.ndc_node_shapes.proofs.Closing.{object_closes}
use Rattle.ndc_node_frames.proofs.KindNames.{kind_again}

-- ---- bodies

body_sound : (kind : Kind) → is_sound (body_shape kind) ≡ true
body_sound Poll = refl
body_sound Entries = refl
body_sound Records = refl
body_sound Handover = refl
body_sound Gap = refl
body_sound Served = refl
body_sound Bootstrap = refl
body_sound Recall = refl
body_sound Recalled = refl
body_sound Progress = refl

body_object : (kind : Kind) → is_object (body_shape kind) ≡ true
body_object Poll = refl
body_object Entries = refl
body_object Records = refl
body_object Handover = refl
body_object Gap = refl
body_object Served = refl
body_object Bootstrap = refl
body_object Recall = refl
body_object Recalled = refl
body_object Progress = refl

body_closes : (kind : Kind) (v : Value (body_shape kind)) (rest : List ℕ) → Fits (body_shape kind) v → after_object (text_of (body_shape kind) v ++ rest) ≡ Some rest
body_closes kind v rest h = object_closes (body_shape kind) v rest (body_object kind) (body_sound kind) h

-- what is read of a body, for all kinds at once
abbrev contained : (kind : Kind) → Value (body_shape kind) × List ℕ → Result Content Fault
contained kind r = Ok (kind, r.0)

content_is : (kind : Kind) (left : List ℕ) → content_at kind left ≡ (read_of (body_shape kind) left >>= contained kind)
content_is Poll left = refl
content_is Entries left = refl
content_is Records left = refl
content_is Handover left = refl
content_is Gap left = refl
content_is Served left = refl
content_is Bootstrap left = refl
content_is Recall left = refl
content_is Recalled left = refl
content_is Progress left = refl

-- a body that was read has its kind
same_first : (one other : Content) → ◌≡◌ {A = Result Content Fault} (Ok one) (Ok other) → one ≡ other
same_first one other h = cc

pub content_kind : (kind : Kind) (left : List ℕ) (c : Content) → content_at kind left ≡ Ok c → c.0 ≡ kind
content_kind kind left c h =
    let p = bound (contained kind) (read_of (body_shape kind) left) c (sym (content_is kind left) ∙ h) in
    sym (ap (λ (x : Content). x.0) (same_first (kind, p.0.0) c p.1.1))

-- ---- any frame that was read

-- the text of what was read
abbrev text_seen : Seen → List ℕ
text_seen seen = text_of (frame_shape seen.0.0) (seen.0.1, seen.1)

abbrev SeenFits : Seen → Type 0
SeenFits seen = Fits (frame_shape seen.0.0) (seen.0.1, seen.1)

nothing_left : (left : List ℕ) → at_end left ≡ Ok tt → left ≡ []
nothing_left [] h = refl
nothing_left (b ∷ left) h = absurd (cc)

tail_was : (left : List ℕ) (tail : Value tail_shape) → tail_at left ≡ Ok tail → Fits tail_shape tail × (left ≡ text_of tail_shape tail)
tail_was left tail h =
    let p = bound (λ (r : Value tail_shape × List ℕ). at_end r.1 >>= (λ _. Ok r.0)) (read_of tail_shape left) tail h in
    let q = bound (λ _. Ok p.0.0) (at_end p.0.1) tail p.1.1 in
    let same : p.0.0 ≡ tail = cc in
    let none : p.0.1 ≡ [] = nothing_left p.0.1 q.1.0 in
    let it = only tail_shape left p.0.0 p.0.1 refl p.1.0 in
    subst (λ t. Fits tail_shape t × (left ≡ text_of tail_shape t)) same (it.0, it.1 ∙ ap (λ (z : List ℕ). text_of tail_shape p.0.0 ++ z) none ∙ append-nil (text_of tail_shape p.0.0))

tail_again : (tail : Value tail_shape) → Fits tail_shape tail → tail_at (text_of tail_shape tail) ≡ Ok tail
tail_again tail h = rw (alone tail_shape tail refl h) refl

pub seen_only : (bytes : List ℕ) (seen : Seen) → frame_at bytes ≡ Ok seen → SeenFits seen × (bytes ≡ text_seen seen)
unfolding frame_at
seen_only bytes seen h =
    let p = bound _ (expect (first_key (codes "body")) bytes) seen h in
    let left = p.0 in
    let q = bound _ (skipped left) seen p.1.1 in
    let rest = q.0 in
    let t = bound _ (tail_at rest) seen q.1.1 in
    let tail = t.0 in
    let k = bound _ (wanted Range rest (kind_in (named_kind tail))) seen t.1.1 in
    let kind = k.0 in
    let c = bound (λ (c : Content). Ok (c, tail)) (content_at kind left) seen k.1.1 in
    let v = bound (contained kind) (read_of (body_shape kind) left) c.0 (sym (content_is kind left) ∙ c.1.0) in
    let value = v.0.0 in
    let body = only (body_shape kind) left value v.0.1 (body_sound kind) v.1.0 in
    let after = tail_was rest tail t.1.0 in
    let skip = wanted_some Unexpected left (after_object left) rest q.1.0 in
    let shut = ap after_object body.1 ∙ body_closes kind value v.0.1 body.0 in
    let joined : v.0.1 ≡ rest = let both : Some v.0.1 ≡ Some rest = sym shut ∙ skip in cc in
    let whole : bytes ≡ text_of (frame_shape kind) (value, tail) =
    was_expected (first_key (codes "body")) bytes left p.1.0
    ∙ ap (λ (z : List ℕ). first_key (codes "body") ++ z) (body.1 ∙ ap (λ (z : List ℕ). text_of (body_shape kind) value ++ z) (joined ∙ after.1))
    ∙ sym (append_assoc (first_key (codes "body")) (text_of (body_shape kind) value) (text_of tail_shape tail)) in
    let content : ◌≡◌ {A = Content} (kind, value) c.0 = same_first (kind, value) c.0 v.1.1 in
    let seen_is : ◌≡◌ {A = Seen} (c.0, tail) seen = let e = c.1.1 in cc in
    subst (λ (s : Seen). SeenFits s × (bytes ≡ text_seen s)) (ap (λ (x : Content). (x, tail)) content ∙ seen_is) ((body.0, after.0), whole)

-- the steps, one by one
steps : (left rest : List ℕ) (tail : Value tail_shape) (kind : Kind) (c : Content) → after_object left ≡ Some rest → tail_at rest ≡ Ok tail → kind_in (named_kind tail) ≡ Some kind
    → content_at kind left ≡ Ok c → frame_at (first_key (codes "body") ++ left) ≡ Ok (c, tail)
unfolding frame_at
steps left rest tail kind c skip after named body = rw (skip, after, named, body) refl

pub seen_again : (seen : Seen) → kind_in (named_kind seen.1) ≡ Some seen.0.0 → SeenFits seen → frame_at (text_seen seen) ≡ Ok seen
seen_again seen named h =
    let kind = seen.0.0 in
    let after = text_of tail_shape seen.1 in
    let left = text_of (body_shape kind) seen.0.1 ++ after in
    let value = again (body_shape kind) seen.0.1 after (body_sound kind) h.0 refl in
    let body : content_at kind left ≡ Ok seen.0 = content_is kind left ∙ ap (λ r. r >>= contained kind) value in
    ap frame_at (append_assoc (first_key (codes "body")) (text_of (body_shape kind) seen.0.1) after)
    ∙ steps left after seen.1 kind seen.0 (body_closes kind seen.0.1 after h.0) (tail_again seen.1 h.1) named body

-- ---- frames

pub frame_only : (frame : Frame) (bytes : List ℕ) → frame_at bytes ≡ Ok (seen_of frame) → FrameFits frame × (bytes ≡ frame_text frame)
frame_only frame bytes h = seen_only bytes (seen_of frame) h

pub frame_again : (frame : Frame) → FrameFits frame → frame_at (frame_text frame) ≡ Ok (seen_of frame)
frame_again frame h = seen_again (seen_of frame) (kind_again (kind_of frame.body)) h

frame_sound : (kind : Kind) → is_sound (frame_shape kind) ≡ true
frame_sound Poll = refl
frame_sound Entries = refl
frame_sound Records = refl
frame_sound Handover = refl
frame_sound Gap = refl
frame_sound Served = refl
frame_sound Bootstrap = refl
frame_sound Recall = refl
frame_sound Recalled = refl
frame_sound Progress = refl

pub frame_plain : (frame : Frame) → FrameFits frame → IsTrue (list_all is_plain (frame_text frame))
frame_plain frame h = plain (frame_shape (kind_of frame.body)) (frame_value frame) (frame_sound (kind_of frame.body)) h
