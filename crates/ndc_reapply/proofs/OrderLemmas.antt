-- The order of origins.
use Rattle.std.proofs.Common.{refl, ◌≡◌, ℕ, Bool, true, false, ◌&&◌, ◌||◌, ◌==◌, nat_lt, ap, ◌∙◌, arith, if◌then◌else◌}
use Rattle.std.proofs.lemmas.Bool.{eqb-true, eq-eqb, and_parts, and_from}
use Rattle.std.proofs.lemmas.Bool.Decides.{nat_tests}
use Rattle.std.specs.Ordering.{nat_cmp, ordering_then}
use Rattle.std.specs.declared.cmp.Ordering.{Ordering}
use Rattle.std.specs.declared.cmp.Ordering.TheVariants.{Less, Equal, Greater}
use Rattle.ndc_event.specs.declared.key.Origin.{Origin}
use Rattle.ndc_event.specs.declared.key.RunId.{RunId}
use Rattle.ndc_reapply.specs.Strays.{origin_lt}
use Rattle.ndc_state.specs.Origins.{same_origin}

-- three numbers by which an origin is ordered
lex_lt : ℕ → ℕ → ℕ → ℕ → ℕ → ℕ → Bool
lex_lt a b c x y z = nat_lt a x || (a == x) && (nat_lt b y || (b == y) && nat_lt c z)

lex-apart : (a b c x y z : ℕ) → lex_lt a b c x y z ≡ false → lex_lt x y z a b c ≡ false → (a ≡ x) × (b ≡ y) × (c ≡ z)
unfolding lex_lt
lex-apart a b c x y z h k = grind (arith, nat_tests)

lex-trans : (a b c x y z u v w : ℕ) → lex_lt a b c x y z ≡ true → lex_lt x y z u v w ≡ true → lex_lt a b c u v w ≡ true
unfolding lex_lt
lex-trans a b c x y z u v w h k = grind (arith, nat_tests)

lex-irrefl : (a b c : ℕ) → lex_lt a b c a b c ≡ false
unfolding lex_lt
lex-irrefl a b c = grind (arith, nat_tests)

abbrev run_with : ℕ → RunId
run_with n = record { value = n }

abbrev origin_with : RunId → ℕ → ℕ → Origin
origin_with run event version = record { run = run; event = event; version = version }

origin-is : (one two : Origin) → one.version ≡ two.version → one.event ≡ two.event → one.run.value ≡ two.run.value → one ≡ two
origin-is one two v e r =
    let same : one.run ≡ two.run = ap run_with r in
    ap (λ n. origin_with one.run n one.version) e ∙ ap (λ n. origin_with one.run two.event n) v ∙ ap (λ run. origin_with run two.event two.version) same

-- of two origins one comes before the other, or they are one
pub origin_lt-neither : (one two : Origin) → origin_lt one two ≡ false → origin_lt two one ≡ false → one ≡ two
unfolding lex_lt
origin_lt-neither one two h k =
    let same = lex-apart one.version one.event one.run.value two.version two.event two.run.value h k in
    origin-is one two same.0 same.1 same.2

pub origin_lt-trans : (one two three : Origin) → origin_lt one two ≡ true → origin_lt two three ≡ true → origin_lt one three ≡ true
unfolding lex_lt
origin_lt-trans one two three h k =
    lex-trans one.version one.event one.run.value two.version two.event two.run.value three.version three.event three.run.value h k

pub origin_lt-self : (one : Origin) → origin_lt one one ≡ false
unfolding lex_lt
origin_lt-self one = lex-irrefl one.version one.event one.run.value

-- how two origins compare
abbrev pub origin_cmp : Origin → Origin → Ordering
origin_cmp one two = if origin_lt one two then Less else if origin_lt two one then Greater else Equal

lex-cmp : (a b c x y z : ℕ) → ordering_then (nat_cmp a x) (ordering_then (nat_cmp b y) (nat_cmp c z))
    ≡ (if lex_lt a b c x y z then Less else if lex_lt x y z a b c then Greater else Equal)
unfolding lex_lt
lex-cmp a b c x y z = grind (arith, nat_tests)

-- by version, then by event, then by run
pub origin_cmp-by : (one two : Origin) → ordering_then (nat_cmp one.version two.version) (ordering_then (nat_cmp one.event two.event) (nat_cmp one.run.value two.run.value)) ≡ origin_cmp one two
unfolding lex_lt
origin_cmp-by one two = lex-cmp one.version one.event one.run.value two.version two.event two.run.value

-- origins that compare as one are one
pub same_origin-is : (one two : Origin) → same_origin one two ≡ true → one ≡ two
same_origin-is one two h =
    let outer = and_parts ((one.run.value == two.run.value) && (one.event == two.event)) (one.version == two.version) h in
    let inner = and_parts (one.run.value == two.run.value) (one.event == two.event) outer.0 in
    origin-is one two (eqb-true one.version two.version outer.1) (eqb-true one.event two.event inner.1) (eqb-true one.run.value two.run.value inner.0)

pub same_origin-self : (o : Origin) → same_origin o o ≡ true
same_origin-self o =
    and_from ((o.run.value == o.run.value) && (o.event == o.event)) (o.version == o.version)
    (and_from (o.run.value == o.run.value) (o.event == o.event) (eq-eqb o.run.value o.run.value refl) (eq-eqb o.event o.event refl))
    (eq-eqb o.version o.version refl)

-- origins that differ do not compare as one
pub same_origin-not : (one two : Origin) → (one ≡ two → ⊥) → same_origin one two ≡ false
same_origin-not one two apart = by (same_origin one two) refl
  where
    by : (b : Bool) → same_origin one two ≡ b → b ≡ false
    by true e = absurd (apart (same_origin-is one two e))
    by false e = refl
