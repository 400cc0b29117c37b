-- What a world comes to, in numbers.
use Rattle.std.specs.Prelude.{ℕ}
use Rattle.ndc_world_queries.specs.Summaries.{totals_of}
use Rattle.ndc_world_queries.specs.declared.parts.Totals.{Totals}
use Rattle.ndc_world.specs.Standing.{WorldValue}
use Rattle.ndc_world.specs.declared.summary.Summary.{Summary}

-- so many answers, so many refusals among them, and what clusters come to
abbrev pub summary_with : ℕ → ℕ → Totals → Summary
summary_with answers refused clusters = record {
  answers = answers;
  refused = refused;
  batches = clusters.batches;
  workflows = clusters.workflows;
  branches = clusters.branches;
  same = clusters.same;
}

-- what a world comes to
abbrev pub summary_of : WorldValue → Summary
summary_of value = summary_with value.answers value.refused (totals_of value.header value.world)
