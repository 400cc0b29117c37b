-- What is written is in the ranges of batch texts.
use Rattle.std.proofs.Common.{◌<◌, ◌≤◌, ◌+◌, ◌^◌, ◌/◌, ◌%◌, ℕ, nat_le, List, [], ◌∷◌, length, inl, inr, Option, sym, ◌∙◌, subst, ap, arith, IsTrue}
use Rattle.std.specs.List.{AllByRecursion}
use Rattle.std.proofs.lemmas.Bool.{and_from}
use Rattle.std.proofs.lemmas.Bool.Decides.{nat_tests}
use Rattle.std.proofs.lemmas.Nat.{div-mul-add, mod-mul-add}
use Rattle.ndc_model_cells.specs.Writing.{batch_below, first_batch}
use Rattle.ndc_event.specs.Key.{run_of}
use Rattle.ndc_event.specs.declared.batch.Batch.{Batch}
use Rattle.ndc_event.specs.declared.batch.Event.{Event}
use Rattle.ndc_event.specs.declared.key.BatchKey.{BatchKey}
use Rattle.ndc_event.specs.declared.kind.EventKind.{EventKind}
use Rattle.ndc_event.specs.declared.name.Name.{Name}
use Rattle.ndc_model_sets.proofs.Lists.{Among}
use Rattle.ndc_state.specs.Value.{StateValue}
use Rattle.ndc_state.specs.Written.{events_from}
use Rattle.ndc_text.specs.Ranges.{EventFits, EventsFit, InRange, IsName, KeyFits, KindFits, OptionKeyFits, is_id, is_run, is_version}

pub id-fits : (n : ℕ) → 1 ≤ n → n ≤ 10 ^ 12 → IsTrue (is_id n)
id-fits n least most = and_from (nat_le 1 n) (nat_le n (10 ^ 12)) (grind (arith, nat_tests)) (grind (arith, nat_tests))

pub version-fits : (n : ℕ) → n ≤ 10 ^ 13 → IsTrue (is_version n)
version-fits n most = grind (arith, nat_tests)

-- a key with numbers in range
pub record IsKeySmall (key : BatchKey) : Type 0 where
  pub version_most : key.version ≤ 10 ^ 13
  pub task_least : 1 ≤ key.task
  pub task_most : key.task ≤ 10 ^ 12

pub key-fits : (key : BatchKey) → IsKeySmall key → KeyFits key
key-fits key k = (id-fits key.task k.task_least k.task_most, version-fits key.version k.version_most)

pub run-fits : (key : BatchKey) → IsKeySmall key → IsTrue (is_run (run_of key).value)
run-fits key k =
    let small : key.task < 2 ^ 64 = let m = k.task_most in omega (arith, m) in
    and_from (is_version ((run_of key).value / 2 ^ 64)) (is_id ((run_of key).value % 2 ^ 64))
    (ap is_version (div-mul-add key.version (2 ^ 64) key.task small) ∙ version-fits key.version k.version_most)
    (ap is_id (mod-mul-add key.version (2 ^ 64) key.task small) ∙ id-fits key.task k.task_least k.task_most)

-- kinds in range
abbrev pub KindsFit : List EventKind → Type 0
KindsFit kinds = AllByRecursion KindFits kinds

pub events-fit : (id version : ℕ) (kinds : List EventKind) → 1 ≤ id → id + length kinds ≤ 10 ^ 12 → version ≤ 10 ^ 13 → KindsFit kinds → EventsFit (events_from id version kinds)
events-fit id version [] least most small fit = tt
events-fit id version (k ∷ ks) least most small fit =
    ((id-fits id least (omega (arith, most)), version-fits version small, fit.0), events-fit (id + 1) version ks (omega (arith, least)) (omega (arith, most)) small fit.1)

-- an event of a batch in range
pub event-in : (events : List Event) (e : Event) → EventsFit events → Among e events → EventFits e
event-in [] e fit h = absurd h
event-in (x ∷ xs) e fit (inl same) = subst EventFits (sym same) fit.0
event-in (x ∷ xs) e fit (inr h) = event-in xs e fit.1 h

pub below-ranges : (domain workflow : Name) (key : BatchKey) (tip : Batch) (s : StateValue) (kinds : List EventKind) → InRange tip → IsName domain → IsName workflow → IsKeySmall key
    → 1 ≤ s.next → s.next + length kinds ≤ 10 ^ 12 → KindsFit kinds → InRange (batch_below domain workflow key tip s kinds)
below-ranges domain workflow key tip s kinds range d w k least most fit = record {
  domain = d;
  run = range.run;
  key = key-fits key k;
  workflow = w;
  carrier = tt;
  parent = range.key;
  events = events-fit s.next key.version kinds least most k.version_most fit;
}

pub first-ranges : (domain workflow : Name) (key : BatchKey) (carrier : Option BatchKey) (kinds : List EventKind) → OptionKeyFits carrier → IsName domain → IsName workflow → IsKeySmall key
    → 1 + length kinds ≤ 10 ^ 12 → KindsFit kinds → InRange (first_batch domain workflow key carrier kinds)
first-ranges domain workflow key carrier kinds carried d w k most fit = record {
  domain = d;
  run = run-fits key k;
  key = key-fits key k;
  workflow = w;
  carrier = carried;
  parent = tt;
  events = events-fit 1 key.version kinds (omega arith) most k.version_most fit;
}
