-- Tables that grow: each record is there still, with no lower version and no fewer members.
use Rattle.std.proofs.Common.{◌≡◌, ℕ, Bool, true, false, not, ◌&&◌, cond, if◌then◌else◌, List, [], ◌∷◌, Option, Some, None, refl, sym, ◌∙◌, subst, ap, arith, true≢false}
use Rattle.std.specs.List.{AllByRecursion, list_any}
use Rattle.std.specs.Str.{bytes_eq}
use Rattle.std.proofs.lemmas.Bool.{or_left, or_right}
use Rattle.std.proofs.lemmas.Slice.Eq.{bytes_eq-Decides}
use Rattle.ndc_domain.specs.Records.{record_of}
use Rattle.ndc_domain.specs.declared.clusters.ClusterNo.{ClusterNo}
use Rattle.ndc_domain.specs.declared.record.DomainRecord.{DomainRecord}
use Rattle.ndc_event.specs.declared.name.Name.{Name}
use Rattle.ndc_laws_reached.specs.Tables.{TableGrows}
use Rattle.ndc_model.specs.Fair.{HasRecordFrom}
use Rattle.ndc_model.specs.Queues.{names_cluster}
use Rattle.ndc_model.specs.World.{newly_naming}

pub grows-none : (table : List DomainRecord) → TableGrows table table
grows-none table domain old e = (old, e, record { version = omega arith; members = λ number h. h })

pub names-grow : (before after : List DomainRecord) → TableGrows before after → (cluster : ClusterNo) (domain : Name) → names_cluster cluster (record_of before domain) ≡ true
    → names_cluster cluster (record_of after domain) ≡ true
names-grow before after grows cluster domain h = by (record_of before domain) refl h
  where
    by : (o : Option DomainRecord) → record_of before domain ≡ o → names_cluster cluster o ≡ true → names_cluster cluster (record_of after domain) ≡ true
    by None e h = absurd (true≢false (sym h))
    by (Some old) e h = let g = grows domain old e in ap (names_cluster cluster) g.1 ∙ g.2.members cluster.number h

pub record-grows : (before after : List DomainRecord) → TableGrows before after → (version : ℕ) (domain : Name) → HasRecordFrom version domain before → HasRecordFrom version domain after
record-grows before after grows version domain has =
    let g = grows domain has.found has.has in record { found = g.0; has = g.1; least = omega (arith, has.least, g.2.version) }

-- a domain that a table has, and that comes to name a reader, is one of those that newly do
pub newly-there : (reader : ClusterNo) (before after : List DomainRecord) (domain : Name) (one : DomainRecord) → record_of before domain ≡ Some one
    → names_cluster reader (record_of before domain) ≡ false → names_cluster reader (record_of after domain) ≡ true → list_any (λ late. bytes_eq late domain) (newly_naming reader before after) ≡ true
newly-there reader [] after domain one e without named = absurd (cc)
newly-there reader (first ∷ rest) after domain one e without named = by (bytes_eq first.name domain) refl e without (newly-there reader rest after domain one)
  where
    more : Bool
    more = not (names_cluster reader (Some first)) && names_cluster reader (record_of after first.name)

    kept : (t : Bool) → list_any (λ late. bytes_eq late domain) (newly_naming reader rest after) ≡ true
        → list_any (λ late. bytes_eq late domain) (if t then first.name ∷ newly_naming reader rest after else newly_naming reader rest after) ≡ true
    kept true h = or_right (bytes_eq first.name domain) (list_any (λ late. bytes_eq late domain) (newly_naming reader rest after)) h
    kept false h = h

    by : (t : Bool) → bytes_eq first.name domain ≡ t → cond t (Some first) (record_of rest domain) ≡ Some one → names_cluster reader (cond t (Some first) (record_of rest domain)) ≡ false
        → (record_of rest domain ≡ Some one → names_cluster reader (record_of rest domain) ≡ false → names_cluster reader (record_of after domain) ≡ true → list_any (λ late. bytes_eq late domain) (newly_naming reader rest after) ≡ true)
        → list_any (λ late. bytes_eq late domain) (if not (names_cluster reader (Some first)) && names_cluster reader (record_of after first.name) then first.name ∷ newly_naming reader rest after else newly_naming reader rest after) ≡ true
    by true at e without rest_there =
        let same : first.name ≡ domain = (bytes_eq-Decides first.name domain).0 at in
        let there : names_cluster reader (record_of after first.name) ≡ true = subst (λ (d : Name). names_cluster reader (record_of after d) ≡ true) (sym same) named in
        ap (λ (t : Bool). list_any (λ late. bytes_eq late domain) (if not t && names_cluster reader (record_of after first.name) then first.name ∷ newly_naming reader rest after else newly_naming reader rest after)) without
        ∙ ap (λ (t : Bool). list_any (λ late. bytes_eq late domain) (if t then first.name ∷ newly_naming reader rest after else newly_naming reader rest after)) there
        ∙ or_left (bytes_eq first.name domain) (list_any (λ late. bytes_eq late domain) (newly_naming reader rest after)) at
    by false at e without rest_there = kept (not (names_cluster reader (Some first)) && names_cluster reader (record_of after first.name)) (rest_there e without named)

-- each domain that newly names a reader names it
pub newly-named : (reader : ClusterNo) (before after : List DomainRecord) → AllByRecursion (λ domain. names_cluster reader (record_of after domain) ≡ true) (newly_naming reader before after)
newly-named reader [] after = tt
newly-named reader (first ∷ rest) after = by (not (names_cluster reader (Some first))) (names_cluster reader (record_of after first.name)) refl (newly-named reader rest after)
  where
    by : (s t : Bool) → names_cluster reader (record_of after first.name) ≡ t → AllByRecursion (λ domain. names_cluster reader (record_of after domain) ≡ true) (newly_naming reader rest after)
        → AllByRecursion (λ domain. names_cluster reader (record_of after domain) ≡ true) (if s && t then first.name ∷ newly_naming reader rest after else newly_naming reader rest after)
    by true true e all = (e, all)
    by true false e all = all
    by false true e all = all
    by false false e all = all
