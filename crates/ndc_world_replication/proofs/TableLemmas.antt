-- Records that stay where they are: nobody comes to be named.
use Rattle.std.proofs.Common.{◌≡◌, Bool, true, false, [], ◌∷◌, List, ◌++◌, Option, Some, not, ◌&&◌, map, refl, ap, sym, ◌∙◌, if◌then◌else◌}
use Rattle.std.specs.List.{AllByRecursion}
use Rattle.std.specs.declared.cmp.Ordering.TheVariants.{Less}
use Rattle.std.proofs.lemmas.List.{append-nil}
use Rattle.std.proofs.lemmas.Slice.Eq.{bytes_eq-Decides}
use Rattle.ndc_domain.proofs.Order.{eq_by_cmp}
use Rattle.ndc_domain.proofs.Tables.{find_cases}
use Rattle.ndc_domain.specs.Records.{AllLater, Rise, record_of}
use Rattle.ndc_domain.specs.declared.clusters.ClusterNo.{ClusterNo}
use Rattle.ndc_domain.specs.declared.record.DomainRecord.{DomainRecord}
use Rattle.ndc_event.specs.declared.name.Name.{Name}
use Rattle.ndc_model_cells.specs.Writing.{same_cluster}
use Rattle.ndc_model.specs.Queues.{names_cluster}
use Rattle.ndc_model.specs.World.{Link, newly_naming, with_late}

-- each record of a table is found by its name
pub found_each : (records : List DomainRecord) → Rise records → AllByRecursion (λ (one : DomainRecord). record_of records one.name ≡ Some one) records
found_each [] rise = tt
found_each (first ∷ records) rise = (
  find_cases (λ (o : Option DomainRecord). o ≡ Some first) first records first.name (λ same. refl)
      (λ apart. let clash : false ≡ true = sym apart ∙ (bytes_eq-Decides first.name first.name).1 refl in absurd (cc)),
  behind records rise.0 (found_each records rise.1),
)
  where
    behind : (rest : List DomainRecord) → AllLater first.name rest → AllByRecursion (λ (one : DomainRecord). record_of records one.name ≡ Some one) rest
        → AllByRecursion (λ (one : DomainRecord). record_of (first ∷ records) one.name ≡ Some one) rest
    behind [] later all = tt
    behind (one ∷ rest) later all = (
      find_cases (λ (o : Option DomainRecord). o ≡ Some one) first records one.name
          (λ same. let clash : true ≡ false = sym ((bytes_eq-Decides first.name one.name).1 same) ∙ eq_by_cmp first.name one.name Less later.0 in absurd (cc))
          (λ apart. all.0),
      behind rest later.1 all.1,
    )

-- one record more that stays comes to name nobody
none-more : (reader : ClusterNo) (one : DomainRecord) (before after : List DomainRecord) → record_of after one.name ≡ Some one → newly_naming reader before after ≡ [] → newly_naming reader (one ∷ before) after ≡ []
none-more reader one before after found rest =
    ap (λ (o : Option DomainRecord). if not (names_cluster reader (Some one)) && names_cluster reader o then one.name ∷ newly_naming reader before after else newly_naming reader before after) found
    ∙ by (names_cluster reader (Some one))
  where
    by : (t : Bool) → (if not t && t then one.name ∷ newly_naming reader before after else newly_naming reader before after) ≡ []
    by true = rest
    by false = rest

-- records that stay come to name nobody
none-new : (reader : ClusterNo) (before after : List DomainRecord) → AllByRecursion (λ (one : DomainRecord). record_of after one.name ≡ Some one) before → newly_naming reader before after ≡ []
none-new reader [] after all = refl
none-new reader (one ∷ before) after all = none-more reader one before after all.0 (none-new reader before after all.1)

-- so a link stays where its source's table takes its own place
late-same : (source : ClusterNo) (table : List DomainRecord) (link : Link) → Rise table → with_late source table table link ≡ link
late-same source table link rise = by (same_cluster link.source source) refl
  where
    none : newly_naming link.reader table table ≡ []
    none = none-new link.reader table table (found_each table rise)

    by : (t : Bool) → same_cluster link.source source ≡ t → with_late source table table link ≡ link
    by true own = rw own (ap (λ (names : List Name). record link { late = names }) (ap (λ (names : List Name). link.late ++ names) none ∙ append-nil link.late))
    by false other = rw other refl

pub links-same : (source : ClusterNo) (table : List DomainRecord) (links : List Link) → Rise table → map (with_late source table table) links ≡ links
links-same source table [] rise = refl
links-same source table (link ∷ links) rise =
    ap (λ (l : Link). l ∷ map (with_late source table table) links) (late-same source table link rise) ∙ ap (λ (ls : List Link). link ∷ ls) (links-same source table links rise)
