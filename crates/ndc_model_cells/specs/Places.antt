-- The order of places: by domain, then workflow, then key.
use Rattle.std.specs.Prelude.{◌≡◌, Bool, true, false, ◌&&◌, find, List, [], ◌∷◌, Option, if◌then◌else◌}
use Rattle.std.specs.List.{AllByRecursion, fold}
use Rattle.std.specs.Str.{bytes_eq}
use Rattle.std.specs.declared.cmp.Ordering.{Ordering}
use Rattle.std.specs.declared.cmp.Ordering.TheVariants.{Less, Equal, Greater}
use Rattle.ndc_model_cells.specs.declared.place.Place.{Place}
use Rattle.ndc_domain.specs.Records.{names_cmp}
use Rattle.ndc_event.specs.Key.{key_eq, key_lt}
use Rattle.ndc_event.specs.declared.batch.Batch.{Batch}
use Rattle.ndc_event.specs.declared.name.Name.{Name}

-- the place of a batch
abbrev pub place_of : Batch → Place
place_of b = record { domain = b.domain; workflow = b.workflow; key = b.key }

-- the later comparison decides where the first finds no difference
abbrev pub less_or : Ordering → Bool → Bool
less_or Less further = true
less_or Equal further = further
less_or Greater further = false

-- the first place comes before the second: by domain, then workflow, then key
abbrev pub place_lt : Place → Place → Bool
place_lt one two = less_or (names_cmp one.domain two.domain) (less_or (names_cmp one.workflow two.workflow) (key_lt one.key two.key))

-- whether the batch is of this workflow
abbrev pub is_of : Name → Name → Batch → Bool
is_of domain workflow b = bytes_eq b.domain domain && bytes_eq b.workflow workflow

-- whether the batch is that of this place
abbrev pub is_at : Place → Batch → Bool
is_at place b = is_of place.domain place.workflow b && key_eq b.key place.key

-- the batch of a place, where one is there
abbrev pub batch_there : List Batch → Place → Option Batch
batch_there batches place = find (is_at place) batches

-- a batch goes to its place, where none is there
abbrev pub placed : Batch → List Batch → List Batch
placed new [] = new ∷ []
placed new (b ∷ batches) =
    if place_lt (place_of new) (place_of b) then new ∷ b ∷ batches
    else if is_at (place_of new) b then b ∷ batches
    else b ∷ placed new batches

-- batches in order of place, each once
abbrev pub in_order : List Batch → List Batch
in_order batches = fold (λ ordered b. placed b ordered) [] batches

-- all of the batches come after this place
abbrev pub AreBehind : Place → List Batch → Type 0
AreBehind place batches = AllByRecursion (λ b. place_lt place (place_of b) ≡ true) batches

-- the batches stand in order of place
abbrev pub AreInOrder : List Batch → Type 0
AreInOrder [] = Unit {0}
AreInOrder (b ∷ batches) = AreBehind (place_of b) batches × AreInOrder batches
