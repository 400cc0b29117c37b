-- Links of a world that is as it should be, and links that take their place.
use Rattle.std.proofs.Common.{◌≡◌, ℕ, ◌<◌, true, List, [], ◌∷◌, length, map, refl, sym, ◌∙◌, subst, ap}
use Rattle.std.specs.List.{AllByRecursion}
use Rattle.ndc_script_types.specs.WellFormed.{AreTwoClusters}
use Rattle.ndc_script_types.specs.declared.script.Header.{Header}
use Rattle.ndc_domain.specs.Records.{record_of}
use Rattle.ndc_domain.specs.declared.clusters.ClusterNo.{ClusterNo}
use Rattle.ndc_model.specs.Facts.{IsReached}
use Rattle.ndc_model.specs.Fair.{IsLaneTrue, ends_of, is_named}
use Rattle.ndc_model.specs.Queues.{Lane, names_cluster}
use Rattle.ndc_model.specs.World.{Link, World, changed_first, cluster_at, is_link, lane_in, link_at, link_found, with_link}
use Rattle.ndc_laws_reached.proofs.FrameLemmas.{WroteAlike, arrivals-alike, copies-alike, handovers-alike, letters-alike, messages-alike, numbers-alike, records-alike, reports-alike, writing-alike}
use Rattle.ndc_model.proofs.ListLemmas.{all-changed, map-alike, map-changed}

-- a lane as it should be
pub record IsLaneFit (header : Header) (w : World) (link : Link) (shard : ℕ) (lane : Lane) : Type 0 where
  pub is_true : IsLaneTrue w link shard lane
  pub named : AllByRecursion (λ sent. is_named header link.reader w sent.batch.domain ≡ true) lane.flight

-- a link as it should be
pub record IsLinkFit (header : Header) (w : World) (link : Link) : Type 0 where
  pub ends : AreTwoClusters header link.reader link.source
  pub many : length link.lanes ≡ header.shards
  pub lanes : (shard : ℕ) → shard < header.shards → IsLaneFit header w link shard (lane_in link shard)
  pub late : AllByRecursion (λ domain. names_cluster link.reader (record_of (cluster_at link.source w).table domain) ≡ true) link.late

-- the five lists of facts on links as one
together : (header : Header) (w : World) (links : List Link) → AllByRecursion (λ link. AreTwoClusters header link.reader link.source) links
    → AllByRecursion (λ link. length link.lanes ≡ header.shards) links
    → AllByRecursion (λ link. (shard : ℕ) → shard < header.shards → IsLaneTrue w link shard (lane_in link shard)) links
    → AllByRecursion (λ link. (shard : ℕ) → shard < header.shards → AllByRecursion (λ sent. is_named header link.reader w sent.batch.domain ≡ true) (lane_in link shard).flight) links
    → AllByRecursion (λ link. AllByRecursion (λ domain. names_cluster link.reader (record_of (cluster_at link.source w).table domain) ≡ true) link.late) links
    → AllByRecursion (IsLinkFit header w) links
together header w [] ends many lanes named late = tt
together header w (link ∷ links) ends many lanes named late = (
  record { ends = ends.0; many = many.0; lanes = λ shard below. record { is_true = lanes.0 shard below; named = named.0 shard below }; late = late.0 },
  together header w links ends.1 many.1 lanes.1 named.1 late.1,
)

-- each link of a world that is as it should be
pub links-fit : (header : Header) (lines : ℕ) (w : World) → IsReached header lines w → AllByRecursion (IsLinkFit header w) w.links
links-fit header lines w is = together header w w.links is.shaped.ends is.shaped.lanes is.fair.lanes is.fair.members.flight is.fair.members.late

-- a part of what holds of all links
part : {P : Link → Type 0} (Q : Link → Type 0) → ((link : Link) → P link → Q link) → (links : List Link) → AllByRecursion P links → AllByRecursion Q links
part Q weaker [] all = tt
part Q weaker (link ∷ links) all = (weaker link all.0, part Q weaker links all.1)

-- links that are as they should be may take the place of a world's
pub links-put : (header : Header) (lines : ℕ) (w : World) (links : List Link) → map ends_of links ≡ map ends_of w.links → AllByRecursion (IsLinkFit header w) links
    → IsReached header lines w → IsReached header lines (record w { links = links })
links-put header lines w links same fit is = record {
  shaped = record {
    clusters = is.shaped.clusters;
    cells = is.shaped.cells;
    links = same ∙ is.shaped.links;
    ends = part _ (λ link f. f.ends) links fit;
    lanes = part _ (λ link f. f.many) links fit;
    sources = is.shaped.sources;
    trimmed = is.shaped.trimmed;
  };
  fair = record {
    writing = writing-alike header v w wrote is.fair.writing;
    copies = copies-alike header v w refl is.fair.copies;
    writers = is.fair.writers;
    arrivals = arrivals-alike header v w refl refl is.fair.arrivals;
    messages = messages-alike header v w refl refl is.fair.messages;
    lanes = part _ (λ link f shard below. let t = (f.lanes shard below).is_true in record { trimmed_most = t.trimmed_most; levels = t.levels; done = t.done; flight = t.flight }) links fit;
    records = records-alike header v w lines refl is.fair.records;
    numbers = numbers-alike header v w lines refl is.fair.numbers;
    members = record {
      members = is.fair.members.members;
      arrived = is.fair.members.arrived;
      flight = part _ (λ link f shard below. (f.lanes shard below).named) links fit;
      late = part _ (λ link f. f.late) links fit;
    };
  };
  ranges = is.ranges;
  handovers = handovers-alike header v w refl refl refl is.handovers;
  letters = letters-alike header v w refl refl refl is.letters;
  beats = is.beats;
  reports = reports-alike header v w refl is.reports;
}
  where
    v : World
    v = record w { links = links }

    wrote : WroteAlike header v w
    wrote = record { places = refl; batches = refl }

-- a change of a link keeps whose it is, and keeps it as it should be
pub record KeepsLinks (header : Header) (w : World) (change : Link → Link) : Type 0 where
  pub ends : (link : Link) → ends_of (change link) ≡ ends_of link
  pub fit : (link : Link) → IsLinkFit header w link → IsLinkFit header w (change link)

-- all links are changed
pub all-links : (header : Header) (lines : ℕ) (w : World) (change : Link → Link) → KeepsLinks header w change → IsReached header lines w
    → IsReached header lines (record w { links = map change w.links })
all-links header lines w change keeps is =
    links-put header lines w (map change w.links) (map-alike ends_of change w.links keeps.ends) (each w.links (links-fit header lines w is)) is
  where
    each : (links : List Link) → AllByRecursion (IsLinkFit header w) links → AllByRecursion (IsLinkFit header w) (map change links)
    each [] all = tt
    each (link ∷ links) all = (keeps.fit link all.0, each links all.1)

-- the link of a reader and a source is changed, where it is found
pub one-link : (header : Header) (lines : ℕ) (reader source : ClusterNo) (change : Link → Link) (w : World) → ((link : Link) → ends_of (change link) ≡ ends_of link)
    → (IsLinkFit header w (link_at reader source w) → IsLinkFit header w (change (link_at reader source w))) → IsReached header lines w
    → IsReached header lines (with_link reader source change w)
one-link header lines reader source change w ends keeps is =
    links-put header lines w (changed_first (is_link reader source) change w.links) (map-changed ends_of (is_link reader source) change w.links ends)
    (all-changed (IsLinkFit header w) (is_link reader source) change w.links
    (λ link found fit. let same : link_at reader source w ≡ link = ap (link_found reader source) found in
    subst (λ (l : Link). IsLinkFit header w (change l)) same (keeps (subst (IsLinkFit header w) (sym same) fit)))
    (links-fit header lines w is)) is

-- a change of all lanes of a link
pub lanes-keep : (header : Header) (w : World) (link : Link) (lanes : List Lane) → IsLinkFit header w link → length lanes ≡ length link.lanes
    → ((shard : ℕ) → shard < header.shards → IsLaneFit header w link shard (lane_in (record link { lanes = lanes }) shard))
    → IsLinkFit header w (record link { lanes = lanes })
lanes-keep header w link lanes fit same each = record {
  ends = fit.ends;
  many = same ∙ fit.many;
  lanes = λ shard below. let f = each shard below in record { is_true = record { trimmed_most = f.is_true.trimmed_most; levels = f.is_true.levels; done = f.is_true.done; flight = f.is_true.flight }; named = f.named };
  late = fit.late;
}
