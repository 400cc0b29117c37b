-- Equal dumps are dumps of the same batches.
use Rattle.std.proofs.Common.{◌≡◌, ℕ, Bool, true, false, ◌&&◌, ◌||◌, ◌==◌, codes, List, [], ◌∷◌, ◌++◌, ◌⊎◌, inl, inr, refl, sym, ◌∙◌, ap, true≢false}
use Rattle.std.specs.List.{AllByRecursion, flat_map}
use Rattle.std.specs.Str.{bytes_eq}
use Rattle.std.proofs.lemmas.Bool.{and_parts}
use Rattle.std.proofs.lemmas.List.{append-nil, append_assoc, append_cancel_left}
use Rattle.std.proofs.lemmas.Slice.Eq.{bytes_eq-Decides}
use Rattle.ndc_event.specs.declared.batch.Batch.{Batch}
use Rattle.ndc_event.specs.declared.name.Name.{Name}
use Rattle.ndc_model.specs.Reading.{is_nothing, shows_same}
use Rattle.ndc_model_sets.specs.View.{view_of}
use Rattle.ndc_model_sets.specs.declared.view.RunView.{RunView}
use Rattle.ndc_text.specs.Ranges.{InRange}
use Rattle.ndc_text.specs.Text.{batch_text}
use Rattle.ndc_text.specs.Views.{dump_text, run_state_lines}
use Rattle.ndc_text.proofs.Exact.{no_front, one_batch}

-- of two texts that begin a third, one begins the other
fronts : (u v r s : List ℕ) → u ++ r ≡ v ++ s → ((x : List ℕ) × (u ++ x ≡ v)) ⊎ ((x : List ℕ) × (v ++ x ≡ u))
fronts [] v r s e = inl (v, refl)
fronts (a ∷ u) [] r s e = inr (a ∷ u, refl)
fronts (a ∷ u) (b ∷ v) r s e = by (fronts u v r s (cc))
  where
    first : a ≡ b
    first = cc

    by : ((x : List ℕ) × (u ++ x ≡ v)) ⊎ ((x : List ℕ) × (v ++ x ≡ u)) → ((x : List ℕ) × ((a ∷ u) ++ x ≡ b ∷ v)) ⊎ ((x : List ℕ) × ((b ∷ v) ++ x ≡ a ∷ u))
    by (inl (x, h)) = inl (x, cc)
    by (inr (x, h)) = inr (x, cc)

-- the line of a batch
abbrev batch_lines : List Batch → List ℕ
batch_lines batches = flat_map (λ b. batch_text b ++ codes "\n") batches

-- a text that does not begin as that of a batch
abbrev IsBehind : List ℕ → Type 0
IsBehind text = (rest : List ℕ) → text ≡ 123 ∷ rest → ⊥

opened : (b : Batch) (more : List ℕ) → (rest : List ℕ) × (batch_text b ++ more ≡ 123 ∷ rest)
unfolding batch_text
opened b more = (_, refl)

-- texts of batches that two texts begin with are of one batch
same-text : (b c : Batch) (r s : List ℕ) → InRange b → InRange c → batch_text b ++ r ≡ batch_text c ++ s → batch_text b ≡ batch_text c
same-text b c r s fit other e = by (fronts (batch_text b) (batch_text c) r s e)
  where
    by : ((x : List ℕ) × (batch_text b ++ x ≡ batch_text c)) ⊎ ((x : List ℕ) × (batch_text c ++ x ≡ batch_text b)) → batch_text b ≡ batch_text c
    by (inl (x, h)) = sym (append-nil (batch_text b)) ∙ ap (λ t. batch_text b ++ t) (sym (no_front b c x fit other h)) ∙ h
    by (inr (x, h)) = sym (sym (append-nil (batch_text c)) ∙ ap (λ t. batch_text c ++ t) (sym (no_front c b x other fit h)) ∙ h)

line-first : (b : Batch) (bs : List Batch) (s : List ℕ) → batch_lines (b ∷ bs) ++ s ≡ batch_text b ++ (codes "\n" ++ (batch_lines bs ++ s))
line-first b bs s = append_assoc (batch_text b ++ codes "\n") (batch_lines bs) s ∙ append_assoc (batch_text b) (codes "\n") (batch_lines bs ++ s)

same-lines : (one two : List Batch) (s t : List ℕ) → AllByRecursion InRange one → AllByRecursion InRange two → IsBehind s → IsBehind t → batch_lines one ++ s ≡ batch_lines two ++ t → one ≡ two
same-lines [] [] s t fit other front back e = refl
same-lines [] (c ∷ cs) s t fit other front back e =
    let o = opened c (codes "\n" ++ (batch_lines cs ++ t)) in absurd (front o.0 (e ∙ line-first c cs t ∙ o.1))
same-lines (b ∷ bs) [] s t fit other front back e =
    let o = opened b (codes "\n" ++ (batch_lines bs ++ s)) in absurd (back o.0 (sym e ∙ line-first b bs s ∙ o.1))
same-lines (b ∷ bs) (c ∷ cs) s t fit other front back e =
    let whole : batch_text b ++ (codes "\n" ++ (batch_lines bs ++ s)) ≡ batch_text c ++ (codes "\n" ++ (batch_lines cs ++ t)) = sym (line-first b bs s) ∙ e ∙ line-first c cs t in
    let text = same-text b c (codes "\n" ++ (batch_lines bs ++ s)) (codes "\n" ++ (batch_lines cs ++ t)) fit.0 other.0 whole in
    let behind = append_cancel_left (batch_text b) (codes "\n" ++ (batch_lines bs ++ s)) (codes "\n" ++ (batch_lines cs ++ t)) (whole ∙ ap (λ x. x ++ (codes "\n" ++ (batch_lines cs ++ t))) (sym text)) in
    let rest = append_cancel_left (codes "\n") (batch_lines bs ++ s) (batch_lines cs ++ t) behind in
    let first : b ≡ c = one_batch b c fit.0 other.0 text in
    let more : bs ≡ cs = same-lines bs cs s t fit.1 other.1 front back rest in
    cc

-- whether a text begins as that of a batch
is_opened : List ℕ → Bool
is_opened [] = false
is_opened (c ∷ cs) = c == 123

-- after the batches come the runs
runs-behind : (runs : List RunView) → IsBehind (flat_map run_state_lines runs ++ codes "end\n")
unfolding is_opened
runs-behind [] rest e = true≢false (sym (ap is_opened e))
runs-behind (run ∷ runs) rest e = true≢false (sym (ap is_opened e))

-- equal dumps are of the same batches
pub same-dumps : (domain workflow : Name) (one two : List Batch) → AllByRecursion InRange one → AllByRecursion InRange two
    → dump_text domain workflow (view_of one) ≡ dump_text domain workflow (view_of two) → one ≡ two
same-dumps domain workflow one two fit other e =
    same-lines one two (tail one) (tail two) fit other (runs-behind (view_of one).runs) (runs-behind (view_of two).runs)
    (append_cancel_left head (batch_lines one ++ tail one) (batch_lines two ++ tail two) (sym (parts one) ∙ e ∙ parts two))
  where
    head : List ℕ
    head = codes "dump 2 " ++ domain ++ codes " " ++ workflow ++ codes "\n"

    tail : List Batch → List ℕ
    tail batches = flat_map run_state_lines (view_of batches).runs ++ codes "end\n"

    parts : (batches : List Batch) → dump_text domain workflow (view_of batches) ≡ head ++ (batch_lines batches ++ tail batches)
    parts batches =
        append_assoc (head ++ batch_lines batches) (flat_map run_state_lines (view_of batches).runs) (codes "end\n")
        ∙ append_assoc head (batch_lines batches) (tail batches)

nothing-is : (batches : List Batch) → is_nothing batches ≡ true → batches ≡ []
nothing-is [] h = refl
nothing-is (b ∷ bs) h = absurd (true≢false (sym h))

-- clusters that show the same have learned the same
pub shown-same : (domain workflow : Name) (one two : List Batch) → AllByRecursion InRange one → AllByRecursion InRange two → shows_same domain workflow one two ≡ true → one ≡ two
shown-same domain workflow one two fit other h =
    by (is_nothing one && is_nothing two) (bytes_eq (dump_text domain workflow (view_of one)) (dump_text domain workflow (view_of two))) refl refl h
  where
    by : (none same : Bool) → (is_nothing one && is_nothing two) ≡ none → bytes_eq (dump_text domain workflow (view_of one)) (dump_text domain workflow (view_of two)) ≡ same → (none || same) ≡ true → one ≡ two
    by true same n d h = let p = and_parts (is_nothing one) (is_nothing two) n in nothing-is one p.0 ∙ sym (nothing-is two p.1)
    by false true n d h = same-dumps domain workflow one two fit other ((bytes_eq-Decides (dump_text domain workflow (view_of one)) (dump_text domain workflow (view_of two))).0 d)
    by false false n d h = absurd (true≢false (sym h))
