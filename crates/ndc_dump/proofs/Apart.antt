-- Two dump texts are one only where the sets are.
use Rattle.std.proofs.Common.{◌≡◌, ℕ, true, false, List, [], ◌∷◌, ◌++◌, ◌⊎◌, inl, inr, codes, append_assoc, refl, sym, ap, ◌∙◌}
use Rattle.std.proofs.lemmas.List.{append-nil, append_cancel_left}
use Rattle.std.specs.List.{flat_map, AllByRecursion}
use Rattle.ndc_event.specs.declared.batch.Batch.{Batch}
use Rattle.ndc_event.specs.declared.name.Name.{Name}
use Rattle.ndc_model_sets.specs.View.{view_of}
use Rattle.ndc_model_sets.specs.declared.view.RunView.{RunView}
use Rattle.ndc_text.specs.Ranges.{InRange}
use Rattle.ndc_text.specs.Text.{batch_text}
use Rattle.ndc_text.specs.Views.{dump_text, run_state_lines}
use Rattle.ndc_text.proofs.Exact.{no_front, one_batch}
use Rattle.ndc_dump.specs.Frame.{begins_batch}
use Rattle.ndc_dump.specs.Read.{view_text}

-- ---- one batch

longer : (b c : ℕ) (one two : List ℕ) → b ≡ c → ((rest : List ℕ) × (one ++ rest ≡ two)) ⊎ ((rest : List ℕ) × (two ++ rest ≡ one))
    → ((rest : List ℕ) × (b ∷ one ++ rest ≡ c ∷ two)) ⊎ ((rest : List ℕ) × (c ∷ two ++ rest ≡ b ∷ one))
longer b c one two same (inl h) = inl (h.0, ap (λ (z : List ℕ). b ∷ z) h.1 ∙ ap (λ z. z ∷ two) same)
longer b c one two same (inr h) = inr (h.0, ap (λ (z : List ℕ). c ∷ z) h.1 ∙ ap (λ z. z ∷ one) (sym same))

-- of two texts that begin alike one goes on from the other
goes_on : (one two x y : List ℕ) → one ++ x ≡ two ++ y → ((rest : List ℕ) × (one ++ rest ≡ two)) ⊎ ((rest : List ℕ) × (two ++ rest ≡ one))
goes_on [] two x y e = inl (two, refl)
goes_on (b ∷ one) [] x y e = inr (b ∷ one, refl)
goes_on (b ∷ one) (c ∷ two) x y e =
    let whole : b ∷ (one ++ x) ≡ c ∷ (two ++ y) = e in
    let same : b ≡ c = cc in
    let tails : one ++ x ≡ two ++ y = cc in
    longer b c one two same (goes_on one two x y tails)

one_of_fronts : (b c : Batch) → InRange b → InRange c → ((rest : List ℕ) × (batch_text b ++ rest ≡ batch_text c)) ⊎ ((rest : List ℕ) × (batch_text c ++ rest ≡ batch_text b)) → b ≡ c
one_of_fronts b c h k (inl f) =
    let none : f.0 ≡ [] = no_front b c f.0 h k f.1 in
    one_batch b c h k (sym (append-nil (batch_text b)) ∙ ap (λ (z : List ℕ). batch_text b ++ z) (sym none) ∙ f.1)
one_of_fronts b c h k (inr f) =
    let none : f.0 ≡ [] = no_front c b f.0 k h f.1 in
    sym (one_batch c b k h (sym (append-nil (batch_text c)) ∙ ap (λ (z : List ℕ). batch_text c ++ z) (sym none) ∙ f.1))

-- two texts that begin with a batch's text begin with one batch
one_in_front : (b c : Batch) (x y : List ℕ) → InRange b → InRange c → batch_text b ++ x ≡ batch_text c ++ y → b ≡ c
one_in_front b c x y h k e = one_of_fronts b c h k (goes_on (batch_text b) (batch_text c) x y e)

-- ---- where the batches end

pub text_begins : (b : Batch) (x : List ℕ) → begins_batch (batch_text b ++ x) ≡ true
unfolding batch_text
text_begins b x = refl

pub runs_begin : (runs : List RunView) → begins_batch (flat_map run_state_lines runs ++ codes "end\n") ≡ false
runs_begin [] = refl
runs_begin (run ∷ runs) = refl

-- ---- all batches

abbrev pub batch_line : Batch → List ℕ
batch_line b = batch_text b ++ codes "\n"

apart : (b : Batch) (batches : List Batch) (x : List ℕ) → flat_map batch_line (b ∷ batches) ++ x ≡ batch_text b ++ (10 ∷ (flat_map batch_line batches ++ x))
apart b batches x =
    append_assoc (batch_line b) (flat_map batch_line batches) x ∙ append_assoc (batch_text b) (codes "\n") (flat_map batch_line batches ++ x)

begins : (b : Batch) (batches : List Batch) (x : List ℕ) → begins_batch (flat_map batch_line (b ∷ batches) ++ x) ≡ true
begins b batches x = ap begins_batch (apart b batches x) ∙ text_begins b _

differs : (b : Batch) (batches : List Batch) (x y : List ℕ) → begins_batch x ≡ false → x ≡ flat_map batch_line (b ∷ batches) ++ y → false ≡ true
differs b batches x y none e = sym none ∙ ap begins_batch e ∙ begins b batches y

-- where the same bytes are lines of batches and what begins none, the batches are the same
same_batches : (one two : List Batch) (x y : List ℕ) → AllByRecursion InRange one → AllByRecursion InRange two → begins_batch x ≡ false → begins_batch y ≡ false
    → flat_map batch_line one ++ x ≡ flat_map batch_line two ++ y → one ≡ two
same_batches [] [] x y h k p q e = refl
same_batches [] (c ∷ two) x y h k p q e = let both : false ≡ true = differs c two x y p e in absurd (cc)
same_batches (b ∷ one) [] x y h k p q e = let both : false ≡ true = differs b one y x q (sym e) in absurd (cc)
same_batches (b ∷ one) (c ∷ two) x y h k p q e =
    let both : batch_text b ++ (10 ∷ (flat_map batch_line one ++ x)) ≡ batch_text c ++ (10 ∷ (flat_map batch_line two ++ y)) = sym (apart b one x) ∙ e ∙ apart c two y in
    let same : b ≡ c = one_in_front b c _ _ h.0 k.0 both in
    let behind : 10 ∷ (flat_map batch_line one ++ x) ≡ 10 ∷ (flat_map batch_line two ++ y) =
    append_cancel_left (batch_text b) _ _ (both ∙ ap (λ z. batch_text z ++ (10 ∷ (flat_map batch_line two ++ y))) (sym same)) in
    let rest : flat_map batch_line one ++ x ≡ flat_map batch_line two ++ y = cc in
    ap (λ z. z ∷ one) same ∙ ap (λ z. c ∷ z) (same_batches one two x y h.1 k.1 p q rest)

-- ---- the dump

in_parts : (heading batches runs end : List ℕ) → ((heading ++ batches) ++ runs) ++ end ≡ heading ++ (batches ++ (runs ++ end))
in_parts heading batches runs end = simp append_assoc

abbrev pub heading : Name → Name → List ℕ
heading domain workflow = codes "dump 2 " ++ domain ++ codes " " ++ workflow ++ codes "\n"

pub dump_apart : (domain workflow : Name) (batches : List Batch) → dump_text domain workflow (view_of batches) ≡ heading domain workflow ++ (flat_map batch_line batches ++ view_text (view_of batches))
dump_apart domain workflow batches = in_parts (heading domain workflow) (flat_map batch_line batches) (flat_map run_state_lines (view_of batches).runs) (codes "end\n")

-- sets in range that have one dump text are equal
pub one_set : (domain workflow : Name) (one two : List Batch) → AllByRecursion InRange one → AllByRecursion InRange two
    → dump_text domain workflow (view_of one) ≡ dump_text domain workflow (view_of two) → one ≡ two
one_set domain workflow one two h k e =
    same_batches one two (view_text (view_of one)) (view_text (view_of two)) h k (runs_begin (view_of one).runs) (runs_begin (view_of two).runs)
    (append_cancel_left (heading domain workflow) _ _ (sym (dump_apart domain workflow one) ∙ e ∙ dump_apart domain workflow two))
