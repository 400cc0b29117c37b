-- The lines of what is put off, as cells tell the gaps.
use Rattle.std.proofs.Common.{◌≡◌, ℕ, ◌<◌, ◌+◌, true, true≢false, not, List, [], ◌∷◌, ◌++◌, append-nil, append_assoc, length, map, sum, codes, decimal, Option, Some, None, inl, inr, refl, sym, ◌∙◌, ap, arith}
use Rattle.std.specs.Prelude.{is_some, unwrap_or}
use Rattle.std.specs.List.{AllByRecursion, flat_map, range_with_len, sum_by}
use Rattle.std.proofs.lemmas.Grind.{flat_map-append}
use Rattle.std.proofs.lemmas.List.Concat.{length-flat_map}
use Rattle.std.proofs.lemmas.List.{length-map, map-id}
use Rattle.std.proofs.lemmas.List.FromFn.{map-range_with_len_more}
use Rattle.std.proofs.lemmas.List.Sums.{sum-map}
use Rattle.ndc_script_types.specs.WellFormed.{IsCluster}
use Rattle.ndc_script_types.specs.declared.script.Header.{Header}
use Rattle.ndc_laws_jobs.proofs.AgainLemmas.{gap-of-model}
use Rattle.ndc_model_cells.specs.Cells.{arrived_of, is_learned_in, missing_of, put_off_in}
use Rattle.ndc_model_cells.specs.Places.{is_of}
use Rattle.ndc_model_cells.specs.Workflow.{workflow_of}
use Rattle.ndc_model_cells.proofs.PlaceLemmas.{set_of_workflow}
use Rattle.ndc_domain.specs.declared.clusters.ClusterNo.{ClusterNo}
use Rattle.ndc_event.specs.declared.batch.Batch.{Batch}
use Rattle.ndc_event.specs.declared.key.BatchKey.{BatchKey}
use Rattle.ndc_laws_reached.proofs.ManyLemmas.{range-below}
use Rattle.ndc_laws_reached.proofs.MissingLemmas.{none-missing}
use Rattle.ndc_laws_reached.proofs.WrittenLemmas.{cell-is, own-names}
use Rattle.ndc_model.specs.Sometime.{IsReachedSometime}
use Rattle.ndc_model.specs.Sending.{gap_after, gap_line, gap_lines, gaps_answer, missing_text}
use Rattle.ndc_model.specs.Texts.{ok}
use Rattle.ndc_model.specs.World.{World, cell_at, shards_of}
use Rattle.ndc_model_sets.specs.Paths.{first_id}
use Rattle.ndc_model_sets.specs.Sets.{Has, IsSet}
use Rattle.ndc_model_sets.proofs.BranchLemmas.{among-has}
use Rattle.ndc_model_sets.proofs.LearnedLemmas.{reaches-learned}
use Rattle.ndc_model_sets.proofs.Lists.{Among, all-from, among-filter, filter-among}
use Rattle.ndc_resend.specs.declared.asking.GapOf.{GapOf}
use Rattle.ndc_resend.specs.declared.serving.Gap.{Gap}
use Rattle.ndc_resend.specs.PutOff.{gap_in}
use Rattle.ndc_text.specs.Views.{item_text, key_text}
use Rattle.ndc_world_answers.specs.Gaps.{gap_text}
use Rattle.ndc_world_queries.specs.Gaps.{gaps_at}

-- shards, one more
pub shards_more : {X : Type 0} (f : ℕ → List X) (shard : ℕ) → flat_map f (range_with_len 0 shard) ++ f shard ≡ flat_map f (range_with_len 0 (shard + 1))
shards_more f shard =
    let at : 0 + shard ≡ shard = omega arith in
    let next : range_with_len 0 (shard + 1) ≡ range_with_len 0 shard ++ shard ∷ [] =
    sym (map-id (range_with_len 0 (shard + 1))) ∙ map-range_with_len_more (λ (k : ℕ). k) 0 shard shard at ∙ ap (λ (ks : List ℕ). ks ++ shard ∷ []) (map-id (range_with_len 0 shard)) in
    sym (ap (flat_map f) next ∙ flat_map-append f (range_with_len 0 shard) (shard ∷ []) ∙ ap (λ l. flat_map f (range_with_len 0 shard) ++ l) (append-nil (f shard)))

-- eight texts after each other, and seven after one
behind-one : (h x y n : List ℕ) → x ≡ h ++ y → x ++ n ≡ h ++ (y ++ n)
behind-one h x y n e = ap (λ (l : List ℕ). l ++ n) e ∙ append_assoc h y n

eight : (h a i b j c m n : List ℕ) → h ++ a ++ i ++ b ++ j ++ c ++ m ++ n ≡ h ++ (a ++ i ++ b ++ j ++ c ++ m ++ n)
eight h a i b j c m n =
    behind-one h (h ++ a ++ i ++ b ++ j ++ c ++ m) (a ++ i ++ b ++ j ++ c ++ m) n
    (behind-one h (h ++ a ++ i ++ b ++ j ++ c) (a ++ i ++ b ++ j ++ c) m
    (behind-one h (h ++ a ++ i ++ b ++ j) (a ++ i ++ b ++ j) c
    (behind-one h (h ++ a ++ i ++ b) (a ++ i ++ b) j
    (behind-one h (h ++ a ++ i) (a ++ i) b
    (behind-one h (h ++ a) a i refl)))))

module _ (header : Header) (w : World) (it : IsReachedSometime header w) (cluster : ClusterNo) (known : IsCluster header cluster) where
  module _ (shard : ℕ) (below : shard < header.shards) where
    abbrev off : List Batch
    off = put_off_in (cell_at cluster shard w)

    -- the gap before a batch
    abbrev gap_of : Batch → GapOf
    gap_of b = gap_in (workflow_of b.domain b.workflow (cell_at cluster shard w)) b

    -- each that is put off lacks an ancestor
    lacks : (b : Batch) → Among b off → (k : BatchKey) × (missing_of b (arrived_of b.domain b.workflow (cell_at cluster shard w)) ≡ Some k)
    lacks b among = by (missing_of b held) refl
      where
        held : List Batch
        held = arrived_of b.domain b.workflow (cell_at cluster shard w)

        inside : (not (is_learned_in (cell_at cluster shard w) b) ≡ true) × Among b (cell_at cluster shard w).arrived
        inside = let f = filter-among (λ c. not (is_learned_in (cell_at cluster shard w) c)) (cell_at cluster shard w).arrived b among in (f.0, f.1)

        held-set : IsSet held
        held-set = set_of_workflow b.domain b.workflow (cell_at cluster shard w) (cell-is header it.lines w it.reached shard below cluster known)

        held-has : Has held b
        held-has = among-has held b held-set.ordered (among-filter (is_of b.domain b.workflow) (cell_at cluster shard w).arrived b (own-names b) inside.1)

        by : (o : Option BatchKey) → missing_of b held ≡ o → (k : BatchKey) × (missing_of b held ≡ Some k)
        by (Some k) e = (k, e)
        by None e =
            let there = reaches-learned held b held-set (none-missing held b held-set held-has e) in
            absurd (true≢false (sym (sym (ap (λ o. not (is_some o)) there) ∙ inside.0)))

    -- its line
    line-is : (b : Batch) → Among b off → gap_text (gap_of b) ≡ gap_line header shard w (cell_at cluster shard w) b
    line-is b among =
        let l = lacks b among in
        ap (λ (g : Gap). gap_text (record (gap_of b) { gap = g })) (gap-of-model header it.lines w it.reached shard below cluster known b among)
        ∙ ap (λ (o : Option BatchKey). gap_text (record (gap_of b) { gap = between; missing = unwrap_or o b.key })) l.1
        ∙ sym (joined l.0)
        ∙ ap (λ (o : Option BatchKey). line (missing_text o)) (sym l.1)
      where
        between : Gap
        between = record { after = gap_after header shard w (cell_at cluster shard w) b; before = record { id = first_id b.events; version = b.key.version } }

        head : List ℕ
        head = codes "gap " ++ b.domain ++ codes " " ++ b.workflow ++ codes " " ++ key_text b.key

        line : List ℕ → List ℕ
        line missing =
            head ++ codes " after " ++ item_text (gap_after header shard w (cell_at cluster shard w) b)
            ++ codes " before " ++ item_text (record { id = first_id b.events; version = b.key.version }) ++ codes " missing " ++ missing ++ codes "\n"

        joined : (k : BatchKey) → line (key_text k) ≡ head ++ (codes " after " ++ item_text (gap_after header shard w (cell_at cluster shard w) b)
            ++ codes " before " ++ item_text (record { id = first_id b.events; version = b.key.version }) ++ codes " missing " ++ key_text k ++ codes "\n")
        joined k =
            eight head (codes " after ") (item_text (gap_after header shard w (cell_at cluster shard w) b)) (codes " before ") (item_text (record { id = first_id b.events; version = b.key.version })) (codes " missing ") (key_text k) (codes "\n")

    lines-are : (bs : List Batch) → ((b : Batch) → Among b bs → Among b off) → flat_map gap_text (map gap_of bs) ≡ flat_map (gap_line header shard w (cell_at cluster shard w)) bs
    lines-are [] each = refl
    lines-are (b ∷ bs) each = λ i. line-is b (each b (inl refl)) i ++ lines-are bs (λ x among. each x (inr among)) i

  all-lines : (shards : List ℕ) → AllByRecursion (λ shard. shard < header.shards) shards
      → flat_map gap_text (flat_map (gaps_at cluster w) shards) ≡ flat_map (gap_lines header cluster w) shards
  all-lines [] all = refl
  all-lines (shard ∷ shards) all =
      flat_map-append gap_text (gaps_at cluster w shard) (flat_map (gaps_at cluster w) shards)
      ∙ (λ i. lines-are shard all.0 (put_off_in (cell_at cluster shard w)) (λ b among. among) i ++ all-lines shards all.1 i)

  -- the answer
  pub gaps_are : (gaps : List GapOf) (text : List ℕ) → gaps ≡ flat_map (gaps_at cluster w) (shards_of header) → text ≡ ok (decimal (length gaps) ∷ []) ++ flat_map gap_text gaps → text ≡ gaps_answer header cluster w
  gaps_are gaps text is told =
      told
      ∙ ap (λ (l : List GapOf). ok (decimal (length l) ∷ []) ++ flat_map gap_text l) is
      ∙ (λ i. ok (decimal (count i) ∷ []) ++ lines i)
    where
      count : length (flat_map (gaps_at cluster w) (shards_of header)) ≡ sum (map (λ shard. length (put_off_in (cell_at cluster shard w))) (shards_of header))
      count =
          length-flat_map (gaps_at cluster w) (shards_of header)
          ∙ (λ i. sum_by (λ shard. length-map (put_off_in (cell_at cluster shard w)) (λ b. gap_in (workflow_of b.domain b.workflow (cell_at cluster shard w)) b) i) (shards_of header))
          ∙ sym (sum-map (λ shard. length (put_off_in (cell_at cluster shard w))) (shards_of header))

      lines : flat_map gap_text (flat_map (gaps_at cluster w) (shards_of header)) ≡ flat_map (gap_lines header cluster w) (shards_of header)
      lines = all-lines (shards_of header) (all-from (λ (shard : ℕ). shard < header.shards) (shards_of header) (λ shard among. omega (arith, range-below 0 header.shards shard among)))
