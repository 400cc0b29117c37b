-- An entry that is written keeps worlds as they should be.
use Rattle.std.proofs.Common.{◌≡◌, ◌<◌, ◌≤◌, ◌+◌, ◌*◌, ◌&&◌, ◌||◌, ◌==◌, not, take, drop, ℕ, Bool, true, false, List, [], ◌++◌, length, Option, Some, None, refl, sym, ◌∙◌, subst, ap, arith, IfSome, IsSomeAnd, IsTrue}
use Rattle.std.specs.List.{AllByRecursion, IsAmong, list_any}
use Rattle.std.specs.Str.{bytes_eq}
use Rattle.std.proofs.lemmas.Bool.{and_from, and_parts, eqb-true, or_left, or_right}
use Rattle.std.proofs.lemmas.Slice.Eq.{bytes_eq-Decides}
use Rattle.std.proofs.lemmas.List.{append-nil, drop-append-le, length-append, take-append-le}
use Rattle.std.proofs.lemmas.List.Folds.{list_any-append}
use Rattle.ndc_model_cells.specs.declared.message.Message.{Message}
use Rattle.ndc_model_cells.specs.Cells.{Cell, is_learned_in, is_message_learned, is_second_learned, learned_of}
use Rattle.ndc_model_cells.specs.Places.{is_at}
use Rattle.ndc_model_cells.specs.Shards.{shard_of}
use Rattle.ndc_model_cells.specs.Writing.{with_written}
use Rattle.ndc_domain.specs.Clusters.{cluster_no, writer_of}
use Rattle.ndc_domain.specs.Members.{has_member}
use Rattle.ndc_domain.specs.Records.{record_of}
use Rattle.ndc_domain.specs.declared.clusters.ClusterNo.{ClusterNo}
use Rattle.ndc_domain.specs.declared.record.DomainRecord.{DomainRecord}
use Rattle.ndc_event.specs.declared.batch.Batch.{Batch}
use Rattle.ndc_graceful.specs.declared.handover.Handover.{Handover}
use Rattle.ndc_letters.specs.declared.letter.Letter.{Letter}
use Rattle.ndc_letters.specs.Letters.{place_of_letter}
use Rattle.ndc_model.specs.Facts.{HandoversFit, IsHandoverFit, IsLetterFit, IsReached, LettersFit, is_old, place_in}
use Rattle.ndc_model.specs.Fair.{AreMembersKnown, HasRecordFrom, IsLaneTrue, is_named, written_of}
use Rattle.ndc_model.specs.Queues.{is_addressed, names_cluster, needs_nothing}
use Rattle.ndc_model.specs.World.{Link, World, cell_at, cluster_at, is_late_in, lane_in, queue_at}
use Rattle.ndc_model.proofs.ListLemmas.{all-append, all-weaker}
use Rattle.ndc_laws_cells.proofs.Lists.{among-is, is-among}
use Rattle.ndc_model_sets.proofs.ForkLemmas.{among-left}
use Rattle.ndc_model_sets.proofs.Lists.{all-among, find-among}
use Rattle.ndc_laws_reached.proofs.FrameLemmas.{beats-alike, letters_in, named_by, records-alike, reports-alike, reports_in, tables_in}
use Rattle.ndc_laws_reached.proofs.LaneLemmas.{named-there}
use Rattle.ndc_laws_reached.proofs.ArrivalLemmas.{key-more}
use Rattle.ndc_laws_reached.proofs.FitLemmas.{arrivals-kept}
use Rattle.ndc_laws_reached.proofs.HeldLemmas.{learned-more, table-same, writers-kept}
use Rattle.ndc_laws_reached.proofs.LandLemmas.{Write, behind, by-cell, by-part, still-shaped}
use Rattle.ndc_laws_cells.proofs.PairLemmas.{entry_with, more-all, news}
use Rattle.ndc_laws_reached.proofs.SentLemmas.{messages-kept}
use Rattle.ndc_laws_reached.proofs.WroteLemmas.{copies-kept, numbers-kept, ranges-kept, writing-kept}
use Rattle.ndc_laws_cells.specs.Entries.{IsSecond, originals_in}
use Rattle.ndc_laws_reached.proofs.Lists.{each-link}

module _ (it : Write) where
  open it use {header, lines, w, is, cluster, known, b, second, originals, below, may}

  abbrev at : ℕ
  at = shard_of b.domain b.workflow header.shards

  abbrev v : World
  v = behind it

  abbrev cell : Cell
  cell = cell_at cluster at w

  abbrev new : Cell
  new = with_written (entry_with b second) cell

  tables : tables_in v ≡ tables_in w
  tables = λ i other. table-same it other i

  letters : letters_in v ≡ letters_in w
  letters = λ i other. by-part header w is.shaped cluster known at below new (λ c. c.letters) (λ c cells. refl) other i

  reports : reports_in v ≡ reports_in w
  reports = λ i other. by-part header w is.shaped cluster known at below new (λ c. c.reports) (λ c cells. refl) other i

  -- how a queue grows: by the entry's message, in the writer's
  record Grows (other : ClusterNo) (shard : ℕ) (queue : List Message) : Type 0 where
    extra : List Message
    grown : queue ≡ queue_at other shard w ++ extra
    are : AllByRecursion (λ sent. (sent.batch ≡ b) × (other.number ≡ cluster.number)) extra

  grows : (other : ClusterNo) (shard : ℕ) → Grows other shard (queue_at other shard v)
  grows other shard =
      by-cell header w is.shaped cluster known at below new (λ o p c. Grows o p c.written)
      (record { extra = _; grown = refl; are = ((refl, refl), tt) }) other shard
      (record { extra = []; grown = sym (append-nil (queue_at other shard w)); are = tt })

  longer : (other : ClusterNo) (shard n : ℕ) → n ≤ length (queue_at other shard w) → n ≤ length (queue_at other shard v)
  longer other shard n l =
      let g = grows other shard in
      let e = ap length g.grown ∙ length-append (queue_at other shard w) g.extra in
      omega (arith, e, l)

  among-longer : (other : ClusterNo) (shard : ℕ) (sent : Message) → IsAmong (queue_at other shard w) sent → IsAmong (queue_at other shard v) sent
  among-longer other shard sent h =
      let g = grows other shard in
      subst (λ (q : List Message). IsAmong q sent) (sym g.grown)
      (among-is (queue_at other shard w ++ g.extra) sent (among-left sent (queue_at other shard w) g.extra (is-among (queue_at other shard w) sent h)))

  -- what was learned is learned
  learned-there : (other : ClusterNo) (shard : ℕ) (x : Batch) → is_learned_in (cell_at other shard w) x ≡ true → is_learned_in (cell_at other shard v) x ≡ true
  learned-there other shard x =
      by-cell header w is.shaped cluster known at below new (λ o p c. is_learned_in (cell_at o p w) x ≡ true → is_learned_in c x ≡ true)
      (key-more (learned_of x.domain x.workflow cell) (learned_of x.domain x.workflow new) x.key (learned-more it x.domain x.workflow)) other shard (λ e. e)

  message-there : (other : ClusterNo) (shard : ℕ) (sent : Message) → is_message_learned (cell_at other shard w) sent ≡ true → is_message_learned (cell_at other shard v) sent ≡ true
  message-there other shard sent h =
      let p = and_parts (is_learned_in (cell_at other shard w) sent.batch) (is_second_learned (cell_at other shard w) sent.second) h in
      and_from (is_learned_in (cell_at other shard v) sent.batch) (is_second_learned (cell_at other shard v) sent.second) (learned-there other shard sent.batch p.0) (its sent.second p.1)
    where
      its : (o : Option Batch) → is_second_learned (cell_at other shard w) o ≡ true → is_second_learned (cell_at other shard v) o ≡ true
      its None h = refl
      its (Some x) h = learned-there other shard x h

  -- what needed nothing needs nothing
  nothing-there : (link : Link) (shard : ℕ) (sent : Message)
      → (needs_nothing link.reader (cluster_at link.source w).table (cell_at link.reader shard w) sent || is_late_in sent.batch.domain link) ≡ true
      → (needs_nothing link.reader (cluster_at link.source v).table (cell_at link.reader shard v) sent || is_late_in sent.batch.domain link) ≡ true
  nothing-there link shard sent h =
      subst (λ (t : ClusterNo → List DomainRecord). ((is_message_learned (cell_at link.reader shard v) sent || not (is_addressed link.reader (t link.source) sent)) || is_late_in sent.batch.domain link) ≡ true) (sym tables)
      (by (is_message_learned (cell_at link.reader shard w) sent) refl (not (is_addressed link.reader (cluster_at link.source w).table sent)) (is_late_in sent.batch.domain link) h)
    where
      by : (t : Bool) → is_message_learned (cell_at link.reader shard w) sent ≡ t → (u z : Bool) → ((t || u) || z) ≡ true → ((is_message_learned (cell_at link.reader shard v) sent || u) || z) ≡ true
      by true e u z h = or_left (is_message_learned (cell_at link.reader shard v) sent || u) z (or_left (is_message_learned (cell_at link.reader shard v) sent) u (message-there link.reader shard sent e))
      by false e true z h = or_left (is_message_learned (cell_at link.reader shard v) sent || true) z (or_right (is_message_learned (cell_at link.reader shard v) sent) true refl)
      by false e false true h = or_right (is_message_learned (cell_at link.reader shard v) sent || false) true refl
      by false e false false h = absurd (cc)

  lane-there : (link : Link) (shard : ℕ) → IsLaneTrue w link shard (lane_in link shard) → IsLaneTrue v link shard (lane_in link shard)
  lane-there link shard t = record {
    trimmed_most = t.trimmed_most;
    levels = record { done_most = t.levels.done_most; read_most = longer link.source shard (lane_in link shard).levels.read t.levels.read_most };
    done =
        subst (AllByRecursion (λ sent. (needs_nothing link.reader (cluster_at link.source v).table (cell_at link.reader shard v) sent || is_late_in sent.batch.domain link) ≡ true))
        (sym (ap (take (lane_in link shard).levels.done) (grows link.source shard).grown
        ∙ take-append-le (lane_in link shard).levels.done (queue_at link.source shard w) (grows link.source shard).extra (let d = t.levels.done_most in let r = t.levels.read_most in omega (arith, d, r))))
        (all-weaker _ _ (nothing-there link shard) (take (lane_in link shard).levels.done (queue_at link.source shard w)) t.done);
    flight = all-weaker (IsAmong (queue_at link.source shard w)) (IsAmong (queue_at link.source shard v)) (among-longer link.source shard) (lane_in link shard).flight t.flight;
  }

  -- the writer's record names it
  named : is_named header cluster w b.domain ≡ true
  named =
      named-there header w cluster cluster b.domain known
      (ap (names_cluster cluster) may.has ∙ active (writer_of header.clusters may.found.version) (ap (writer_of header.clusters) may.version_is ∙ may.writer)
      (all-among (AreMembersKnown header) (cluster_at cluster w).table may.found (is.fair.members.members cluster known) (find-among _ (cluster_at cluster w).table may.found may.has)).active)
    where
      active : (o : Option ClusterNo) → o ≡ Some cluster → IsSomeAnd o (λ writer. IsTrue (has_member may.found.members writer.number)) → has_member may.found.members cluster.number ≡ true
      active None e h = absurd (cc)
      active (Some writer) e h = let same : writer ≡ cluster = cc in subst (λ (c : ClusterNo). has_member may.found.members c.number ≡ true) same h

  news-named : (o : Option Batch) → IfSome o (λ (s : Batch). s.domain ≡ b.domain) → IfSome o (λ s. is_named header cluster w s.domain ≡ true)
  news-named None e = tt
  news-named (Some s) e = subst (λ d. is_named header cluster w d ≡ true) (sym e) named

  second-domain : (o : Option Batch) → IfSome o (IsSecond (written_of header b.domain b.workflow w) b) → IfSome o (λ (s : Batch). s.domain ≡ b.domain)
  second-domain None e = tt
  second-domain (Some s) e = e.domain_is

  -- the new entry is not of a version that was handed over
  not-old : (handover : Handover) → IsHandoverFit header w handover → (sent : Message) → (sent.batch ≡ b) × (handover.from.number ≡ cluster.number) → not (is_old handover sent) ≡ true
  not-old handover fit sent (same, from) =
      subst (λ (x : Batch). not (bytes_eq x.domain handover.domain && (x.key.version == handover.old)) ≡ true) (sym same)
      (by (bytes_eq b.domain handover.domain) (b.key.version == handover.old) (bytes_eq-Decides b.domain handover.domain).0 (eqb-true b.key.version handover.old))
    where
      clash : b.domain ≡ handover.domain → b.key.version ≡ handover.old → ⊥
      clash domain version =
          let one : handover.from ≡ cluster = ap cluster_no from in
          let given = fit.given in
          let there : record_of (cluster_at cluster w).table b.domain ≡ Some given.found =
          subst (λ (c : ClusterNo). record_of (cluster_at c w).table b.domain ≡ Some given.found) one (ap (record_of (cluster_at handover.from w).table) domain ∙ given.has) in
          let both : Some may.found ≡ Some given.found = sym may.has ∙ there in
          let record_is : may.found ≡ given.found = cc in
          let v : may.found.version ≡ given.found.version = ap (λ (r : DomainRecord). r.version) record_is in
          let l = given.least in let m = fit.later in let n = may.version_is in
          omega (arith, v, l, m, n, version)

      by : (s t : Bool) → (s ≡ true → b.domain ≡ handover.domain) → (t ≡ true → b.key.version ≡ handover.old) → not (s && t) ≡ true
      by true true d n = absurd (clash (d refl) (n refl))
      by true false d n = refl
      by false t d n = refl

  handover-there : (handover : Handover) → IsHandoverFit header w handover → IsHandoverFit header v handover
  handover-there handover fit = record {
    clusters = fit.clusters;
    writer = fit.writer;
    later = fit.later;
    given = subst (λ (t : ClusterNo → List DomainRecord). HasRecordFrom handover.new handover.domain (t handover.from)) (sym tables) fit.given;
    names = subst (λ (t : ClusterNo → List DomainRecord). names_cluster handover.to (record_of (t handover.from) handover.domain) ≡ true) (sym tables) fit.names;
    places = fit.places;
    place_most = λ shard less. longer handover.from shard (place_in handover shard) (fit.place_most shard less);
    behind = λ shard less.
        subst (AllByRecursion (λ sent. not (is_old handover sent) ≡ true))
        (sym (ap (drop (place_in handover shard)) (grows handover.from shard).grown ∙ drop-append-le (place_in handover shard) (queue_at handover.from shard w) (grows handover.from shard).extra (fit.place_most shard less)))
        (all-append (λ sent. not (is_old handover sent) ≡ true) (drop (place_in handover shard) (queue_at handover.from shard w)) (grows handover.from shard).extra (fit.behind shard less)
        (all-weaker (λ sent. (sent.batch ≡ b) × (handover.from.number ≡ cluster.number)) (λ sent. not (is_old handover sent) ≡ true) (not-old handover fit) (grows handover.from shard).extra (grows handover.from shard).are));
  }

  handovers : HandoversFit header v
  handovers = record { one_each = is.handovers.one_each; each = all-weaker (IsHandoverFit header w) (IsHandoverFit header v) handover-there w.handovers is.handovers.each }

  letter-there : (other : ClusterNo) (letter : Letter) → IsLetterFit header w other letter → IsLetterFit header v other letter
  letter-there other letter fit = record {
    clusters = fit.clusters;
    sent =
        let g = grows letter.source (shard_of letter.domain letter.workflow header.shards) in
        ap (list_any (λ sent. is_at (place_of_letter letter) sent.batch)) g.grown
        ∙ list_any-append (λ sent. is_at (place_of_letter letter) sent.batch) (queue_at letter.source (shard_of letter.domain letter.workflow header.shards) w) g.extra
        ∙ or_left _ _ fit.sent;
    named = subst (λ (t : ClusterNo → List DomainRecord). named_by header t other letter.domain ≡ true) (sym tables) fit.named;
  }

  letters-fit : LettersFit header v
  letters-fit other there =
      subst (λ (f : ClusterNo → List Letter). AllByRecursion (IsLetterFit header v other) (f other)) (sym letters)
      (all-weaker (IsLetterFit header w other) (IsLetterFit header v other) (letter-there other) (cluster_at other w).letters (is.letters other there))

  -- an entry keeps a world as it should be, where there is room for its batches and signals
  pub entry-kept : length (written_of header b.domain b.workflow w) + length (news b second) ≤ 2 * lines → originals_in (written_of header b.domain b.workflow w) + originals ≤ lines → IsReached header lines v
  entry-kept room signals = record {
    shaped = still-shaped header w is.shaped cluster known at below new;
    fair = record {
      writing = writing-kept it;
      copies = copies-kept it;
      writers = writers-kept it;
      arrivals = arrivals-kept it;
      messages = messages-kept it;
      lanes = each-link (λ link t shard less. lane-there link shard (t shard less)) w.links is.fair.lanes;
      records = records-alike header v w lines tables is.fair.records;
      numbers = numbers-kept it room signals;
      members = record {
        members = λ o there. subst (λ (t : ClusterNo → List DomainRecord). AllByRecursion (AreMembersKnown header) (t o)) (sym tables) (is.fair.members.members o there);
        arrived = λ o place there less. subst (λ (t : ClusterNo → List DomainRecord). AllByRecursion (λ x. named_by header t o x.domain ≡ true) (cell_at o place v).arrived) (sym tables)
            (by-cell header w is.shaped cluster known at below new (λ o p c. AllByRecursion (λ x. is_named header o w x.domain ≡ true) c.arrived)
            (more-all (λ x. is_named header cluster w x.domain ≡ true) b second cell.arrived named (news-named second (second-domain second may.write.second)) (is.fair.members.arrived cluster at known below)) o place (is.fair.members.arrived o place there less));
        flight = subst (λ (t : ClusterNo → List DomainRecord). AllByRecursion (λ link. (place : ℕ) → place < header.shards → AllByRecursion (λ sent. named_by header t link.reader sent.batch.domain ≡ true) (lane_in link place).flight) w.links) (sym tables) is.fair.members.flight;
        late = subst (λ (t : ClusterNo → List DomainRecord). AllByRecursion (λ link. AllByRecursion (λ domain. names_cluster link.reader (record_of (t link.source) domain) ≡ true) link.late) w.links) (sym tables) is.fair.members.late;
      };
    };
    ranges = ranges-kept it;
    handovers = handovers;
    letters = letters-fit;
    beats = beats-alike header v w lines reports is.beats;
    reports = reports-alike header v w reports is.reports;
  }
