-- Strays where more origins are settled.
use Rattle.std.proofs.Common.{◌≡◌, Bool, true, false, not, ◌||◌, List, [], ◌∷◌, ◌++◌, if◌then◌else◌, cond, refl, sym, ◌∙◌, subst, ap}
use Rattle.std.specs.List.{filter, list_all}
use Rattle.std.proofs.lemmas.Bool.{and_parts, and_from}
use Rattle.ndc_event.specs.declared.key.Origin.{Origin}
use Rattle.ndc_reapply.specs.declared.stray.Stray.{Stray}
use Rattle.ndc_reapply.specs.Laws.{rises}
use Rattle.ndc_reapply.specs.Strays.{origin_lt, origins_of, strays_of, with_stray}
use Rattle.ndc_reapply.proofs.MeaningLemmas.{rises-strays_of}
use Rattle.ndc_reapply.proofs.OrderLemmas.{origin_lt-neither, origin_lt-trans, same_origin-self}
use Rattle.ndc_state.specs.Origins.{same_origin, is_among}
use Rattle.ndc_shard_runs.specs.Kept.{is_unlisted}

-- a signal that does not pass is not there, whether it was put or not
with-dropped : (p : Origin → Bool) (s : Stray) (list : List Stray) → p s.origin ≡ false → filter (λ x. p x.origin) (with_stray s list) ≡ filter (λ x. p x.origin) list
with-dropped p s [] fails = rw fails refl
with-dropped p s (f ∷ list) fails = by (origin_lt s.origin f.origin) (origin_lt f.origin s.origin) refl refl (with-dropped p s list fails)
  where
    by : (b d : Bool) → origin_lt s.origin f.origin ≡ b → origin_lt f.origin s.origin ≡ d → filter (λ x. p x.origin) (with_stray s list) ≡ filter (λ x. p x.origin) list
        → filter (λ x. p x.origin) (if b then s ∷ f ∷ list else if d then f ∷ with_stray s list else s ∷ list) ≡ filter (λ x. p x.origin) (f ∷ list)
    by true d e g rest = ap (λ t. cond t (s ∷ filter (λ x. p x.origin) (f ∷ list)) (filter (λ x. p x.origin) (f ∷ list))) fails
    by false true e g rest = ap (λ l. cond (p f.origin) (f ∷ l) l) rest
    by false false e g rest =
        let drops : p f.origin ≡ false = subst (λ (o : Origin). p o ≡ false) (origin_lt-neither s.origin f.origin e g) fails in
        ap (λ t. cond t (s ∷ filter (λ x. p x.origin) list) (filter (λ x. p x.origin) list)) fails ∙ ap (λ t. cond t (f ∷ filter (λ x. p x.origin) list) (filter (λ x. p x.origin) list)) (sym drops)

after-filter : (p : Origin → Bool) (o : Origin) (list : List Stray) → list_all (origin_lt o) (origins_of list) ≡ true → list_all (origin_lt o) (origins_of (filter (λ x. p x.origin) list)) ≡ true
after-filter p o [] all = refl
after-filter p o (f ∷ list) all =
    let q = and_parts (origin_lt o f.origin) (list_all (origin_lt o) (origins_of list)) all in by (p f.origin) q.0 (after-filter p o list q.1)
  where
    by : (t : Bool) → origin_lt o f.origin ≡ true → list_all (origin_lt o) (origins_of (filter (λ x. p x.origin) list)) ≡ true
        → list_all (origin_lt o) (origins_of (cond t (f ∷ filter (λ x. p x.origin) list) (filter (λ x. p x.origin) list))) ≡ true
    by true l rest = and_from (origin_lt o f.origin) (list_all (origin_lt o) (origins_of (filter (λ x. p x.origin) list))) l rest
    by false l rest = rest

later-all : (one two : Origin) (list : List Stray) → origin_lt one two ≡ true → list_all (origin_lt two) (origins_of list) ≡ true → list_all (origin_lt one) (origins_of list) ≡ true
later-all one two [] l all = refl
later-all one two (f ∷ list) l all =
    let q = and_parts (origin_lt two f.origin) (list_all (origin_lt two) (origins_of list)) all in
    and_from (origin_lt one f.origin) (list_all (origin_lt one) (origins_of list)) (origin_lt-trans one two f.origin l q.0) (later-all one two list l q.1)

-- what comes before all goes first
in-front : (s : Stray) (list : List Stray) → list_all (origin_lt s.origin) (origins_of list) ≡ true → with_stray s list ≡ s ∷ list
in-front s [] all = refl
in-front s (f ∷ list) all = rw (and_parts (origin_lt s.origin f.origin) (list_all (origin_lt s.origin) (origins_of list)) all).0 refl

with-kept : (p : Origin → Bool) (s : Stray) (list : List Stray) → p s.origin ≡ true → rises (origins_of list) ≡ true
    → filter (λ x. p x.origin) (with_stray s list) ≡ with_stray s (filter (λ x. p x.origin) list)
with-kept p s [] passing rise = rw passing refl
with-kept p s (f ∷ list) passing rise = by (origin_lt s.origin f.origin) (origin_lt f.origin s.origin) refl refl q (with-kept p s list passing q.1) (p f.origin) refl
  where
    q : (list_all (origin_lt f.origin) (origins_of list) ≡ true) × (rises (origins_of list) ≡ true)
    q = and_parts (list_all (origin_lt f.origin) (origins_of list)) (rises (origins_of list)) rise

    kept : List Stray
    kept = filter (λ x. p x.origin) list

    by : (b d : Bool) → origin_lt s.origin f.origin ≡ b → origin_lt f.origin s.origin ≡ d → (list_all (origin_lt f.origin) (origins_of list) ≡ true) × (rises (origins_of list) ≡ true)
        → filter (λ x. p x.origin) (with_stray s list) ≡ with_stray s (filter (λ x. p x.origin) list) → (t : Bool) → p f.origin ≡ t
        → filter (λ x. p x.origin) (if b then s ∷ f ∷ list else if d then f ∷ with_stray s list else s ∷ list) ≡ with_stray s (cond t (f ∷ filter (λ x. p x.origin) list) (filter (λ x. p x.origin) list))
    by true d e g q rest t h =
        ap (λ u. cond u (s ∷ filter (λ x. p x.origin) (f ∷ list)) (filter (λ x. p x.origin) (f ∷ list))) passing
        ∙ sym (in-front s (filter (λ x. p x.origin) (f ∷ list)) (after-filter p s.origin (f ∷ list) (and_from (origin_lt s.origin f.origin) (list_all (origin_lt s.origin) (origins_of list)) e (later-all s.origin f.origin list e q.0))))
        ∙ ap (λ u. with_stray s (cond u (f ∷ filter (λ x. p x.origin) list) (filter (λ x. p x.origin) list))) h
    by false true e g q rest true h =
        ap (λ u. cond u (f ∷ filter (λ x. p x.origin) (with_stray s list)) (filter (λ x. p x.origin) (with_stray s list))) h ∙ ap (λ l. f ∷ l) rest
        ∙ sym (behind s f (filter (λ x. p x.origin) list) e g)
      where
        behind : (s f : Stray) (l : List Stray) → origin_lt s.origin f.origin ≡ false → origin_lt f.origin s.origin ≡ true → with_stray s (f ∷ l) ≡ f ∷ with_stray s l
        behind s f l e g = rw (e, g) refl
    by false true e g q rest false h =
        ap (λ u. cond u (f ∷ filter (λ x. p x.origin) (with_stray s list)) (filter (λ x. p x.origin) (with_stray s list))) h ∙ rest
    by false false e g q rest t h =
        let passes : p f.origin ≡ true = subst (λ (o : Origin). p o ≡ true) (origin_lt-neither s.origin f.origin e g) passing in
        ap (λ u. cond u (s ∷ filter (λ x. p x.origin) list) (filter (λ x. p x.origin) list)) passing
        ∙ sym (instead s f (filter (λ x. p x.origin) list) e g)
        ∙ ap (λ u. with_stray s (cond u (f ∷ filter (λ x. p x.origin) list) (filter (λ x. p x.origin) list))) (sym passes ∙ h)
      where
        instead : (s f : Stray) (l : List Stray) → origin_lt s.origin f.origin ≡ false → origin_lt f.origin s.origin ≡ false → with_stray s (f ∷ l) ≡ s ∷ l
        instead s f l e g = rw (e, g) refl

among-append : (o : Origin) (one two : List Origin) → is_among o (one ++ two) ≡ (is_among o one || is_among o two)
among-append o [] two = refl
among-append o (x ∷ one) two = ap (λ t. same_origin o x || t) (among-append o one two) ∙ or-assoc (same_origin o x) (is_among o one) (is_among o two)
  where
    or-assoc : (a b c : Bool) → (a || (b || c)) ≡ ((a || b) || c)
    or-assoc true b c = refl
    or-assoc false b c = refl

pub among-both : (o : Origin) (one two : List Origin) → is_among o (one ++ two) ≡ (is_among o one || is_among o two)
among-both o one two = among-append o one two

-- where more is settled, the strays are those that are not
pub fewer-strays : (signals : List Stray) (more settled : List Origin) → strays_of signals (more ++ settled) ≡ filter (is_unlisted more) (strays_of signals settled)
fewer-strays [] more settled = refl
fewer-strays (s ∷ signals) more settled = by (is_among s.origin more) (is_among s.origin settled) refl refl (fewer-strays signals more settled)
  where
    by : (m t : Bool) → is_among s.origin more ≡ m → is_among s.origin settled ≡ t → strays_of signals (more ++ settled) ≡ filter (is_unlisted more) (strays_of signals settled)
        → strays_of (s ∷ signals) (more ++ settled) ≡ filter (is_unlisted more) (strays_of (s ∷ signals) settled)
    by m true e f rest =
        ap (λ u. if u then strays_of signals (more ++ settled) else with_stray s (strays_of signals (more ++ settled))) (among-append s.origin more settled ∙ ap (λ u. is_among s.origin more || u) f ∙ or-true (is_among s.origin more))
        ∙ rest ∙ ap (λ u. filter (is_unlisted more) (if u then strays_of signals settled else with_stray s (strays_of signals settled))) (sym f)
      where
        or-true : (t : Bool) → (t || true) ≡ true
        or-true true = refl
        or-true false = refl
    by true false e f rest =
        ap (λ u. if u then strays_of signals (more ++ settled) else with_stray s (strays_of signals (more ++ settled))) (among-append s.origin more settled ∙ ap (λ u. u || is_among s.origin settled) e)
        ∙ rest ∙ sym (with-dropped (λ o. not (is_among o more)) s (strays_of signals settled) (ap not e))
        ∙ ap (λ u. filter (is_unlisted more) (if u then strays_of signals settled else with_stray s (strays_of signals settled))) (sym f)
    by false false e f rest =
        ap (λ u. if u then strays_of signals (more ++ settled) else with_stray s (strays_of signals (more ++ settled))) (among-append s.origin more settled ∙ ap (λ u. u || is_among s.origin settled) e ∙ f)
        ∙ ap (with_stray s) rest ∙ sym (with-kept (λ o. not (is_among o more)) s (strays_of signals settled) (ap not e) (rises-strays_of signals settled))
        ∙ ap (λ u. filter (is_unlisted more) (if u then strays_of signals settled else with_stray s (strays_of signals settled))) (sym f)

-- signals that are settled are fails strays
none-stray : (signals : List Stray) (settled : List Origin) → ((o : Origin) → is_among o (origins_of signals) ≡ true → is_among o settled ≡ true) → strays_of signals settled ≡ []
none-stray [] settled all = refl
none-stray (s ∷ signals) settled all =
    ap (λ u. if u then strays_of signals settled else with_stray s (strays_of signals settled)) (all s.origin (rw (same_origin-self s.origin) refl))
    ∙ none-stray signals settled (λ o h. all o (or_right (same_origin o s.origin) h))
  where
    or_right : {t : Bool} (a : Bool) → t ≡ true → (a || t) ≡ true
    or_right true h = refl
    or_right false h = h

pub settled-behind : (signals more : List Stray) (settled : List Origin) → ((o : Origin) → is_among o (origins_of more) ≡ true → is_among o settled ≡ true)
    → strays_of (signals ++ more) settled ≡ strays_of signals settled
settled-behind [] more settled all = none-stray more settled all
settled-behind (s ∷ signals) more settled all = ap (λ l. if is_among s.origin settled then l else with_stray s l) (settled-behind signals more settled all)
