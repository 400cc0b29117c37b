-- What is told of members that came late.
use Rattle.std.specs.Prelude.{ℕ, List, [], ◌∷◌, ◌++◌, codes, decimal, length}
use Rattle.std.specs.List.{concat, flat_map}
use Rattle.ndc_event.specs.declared.name.Name.{Name}

-- `READER is late in DOMAIN: bootstrap READER SOURCE`
unfoldable pub late_line : List ℕ → List ℕ → Name → List ℕ
late_line reader source domain = concat (reader ∷ codes " is late in " ∷ domain ∷ codes ": bootstrap " ∷ reader ∷ codes " " ∷ source ∷ codes "\n" ∷ [])

-- a line for each of these domains
abbrev pub late_lines : List ℕ → List ℕ → List Name → List ℕ
late_lines reader source domains = flat_map (late_line reader source) domains

-- the domains in which a reader is late at a source
abbrev pub late_text : List ℕ → List ℕ → List Name → List ℕ
late_text reader source domains = decimal (length domains) ++ codes " late\n" ++ late_lines reader source domains
