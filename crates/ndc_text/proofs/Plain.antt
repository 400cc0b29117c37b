-- Plain JSON data is read back from its own compact text. Plain: whole numbers below 2^64, texts in UTF-8, ASCII keys that ascend.
use Rattle.std.proofs.Common.{◌≡◌, ℕ, ◌^◌, ◌<◌, ◌≤◌, Ordering, Bool, true, false, ◌&&◌, List, [], ◌∷◌, ◌++◌, Some, option_and_then, decimal, IsUtf8, refl, sym, ap, ◌∙◌, append-nil}
use Rattle.std.specs.Prelude.{⊤}
use Rattle.std.specs.declared.cmp.Ordering.TheVariants.{Less, Equal, Greater}
use Rattle.std.specs.Ordering.{nat_cmp, is_gt}
use Rattle.std.specs.Cmp.Lexicographic.{slice_cmp}
use Rattle.std.proofs.lemmas.Bool.{and_parts, and_from}
use Rattle.std.proofs.lemmas.Fmt.{IsAscii-decimal}
use Rattle.std.proofs.lemmas.Str.{IsUtf8-append, IsUtf8-nil, IsUtf8-from_ascii}
use Rattle.json.specs.Json as json
use Rattle.json.specs.Lex.{tokens}
use Rattle.json.specs.Print.{quoted}
use Rattle.json.specs.Tree as tree
use Rattle.json.proofs.Printed.Decimals.{IsNumber-decimal}
use Rattle.json.proofs.Printed.Tokens.{tokens-print}
use Rattle.json.proofs.Printed.Trees.{ArePrintable-json_tokens, value-json_tokens}
use Rattle.json.proofs.Printed.Utf8.{are_ascii, IsUtf8-are_ascii, IsUtf8-quoted, IsUtf8-boolean}
use Rattle.serde_json.specs.Data.{Num, unsigned, negative, float, Data, null, boolean, number, string, array, object, Items, no_items, item, Members, no_members, member, put}
use Rattle.serde_json.specs.Read.{of_json, of_items, of_members, read}
use Rattle.serde_json.specs.Written.{outline, items_outline, members_outline, comma_if, compact_text, items_text, members_text}
use Rattle.serde_json.proofs.Numbers.{number_of-decimal}
use Rattle.serde_json.proofs.Texts.{print-outline}

-- ---- plain data

-- the first key comes after the second
abbrev pub is_after : List ℕ → List ℕ → Bool
is_after k l = is_gt (slice_cmp nat_cmp k l)

-- each key of the members comes after k
abbrev pub are_after : List ℕ → Members → Bool
are_after k no_members = true
are_after k (member l d ms) = is_after l k && are_after k ms

-- an ASCII key, before those that follow
abbrev pub is_key : List ℕ → Members → Bool
is_key k ms = are_ascii k && are_after k ms

abbrev pub IsPlainNumber : Num → Type 0
IsPlainNumber (unsigned n) = n < 2 ^ 64
IsPlainNumber (negative z) = ⊥
IsPlainNumber (float x) = ⊥

abbrev mutual
  pub IsPlain : Data → Type 0
  IsPlain null = ⊤
  IsPlain (boolean b) = ⊤
  IsPlain (number n) = IsPlainNumber n
  IsPlain (string s) = IsUtf8 s
  IsPlain (array ds) = ItemsArePlain ds
  IsPlain (object ms) = MembersArePlain ms

  pub ItemsArePlain : Items → Type 0
  ItemsArePlain no_items = ⊤
  ItemsArePlain (item d ds) = IsPlain d × ItemsArePlain ds

  pub MembersArePlain : Members → Type 0
  MembersArePlain no_members = ⊤
  MembersArePlain (member k d ms) = (is_key k ms ≡ true) × (IsPlain d × MembersArePlain ms)

-- ---- members that are put in order stay in order

greater : (o : Ordering) → is_gt o ≡ true → o ≡ Greater
greater Less h = absurd (cc)
greater Equal h = absurd (cc)
greater Greater h = refl

-- the members, and then others
abbrev joined : Members → Members → Members
joined no_members ms = ms
joined (member k d found) ms = member k d (joined found ms)

-- k comes after each key that was found
abbrev is_last : List ℕ → Members → Bool
is_last k no_members = true
is_last k (member l d found) = is_after k l && is_last k found

-- each key of the members comes after each that was found
abbrev follow : Members → Members → Bool
follow found no_members = true
follow found (member k d ms) = is_last k found && follow found ms

put_last : (k : List ℕ) (d : Data) (found : Members) → is_last k found ≡ true → put k d found ≡ joined found (member k d no_members)
put_last k d no_members h = refl
put_last k d (member l e found) h =
    let p = and_parts _ _ h in
    rw (greater (slice_cmp nat_cmp k l) p.0) (ap (member l e) (put_last k d found p.1))

is_last-joined : (l k : List ℕ) (d : Data) (found : Members) → is_last l found ≡ true → is_after l k ≡ true → is_last l (joined found (member k d no_members)) ≡ true
is_last-joined l k d no_members h a = and_from _ _ a refl
is_last-joined l k d (member m e found) h a = let p = and_parts _ _ h in and_from _ _ p.0 (is_last-joined l k d found p.1 a)

follow-joined : (k : List ℕ) (d : Data) (found ms : Members) → follow found ms ≡ true → are_after k ms ≡ true → follow (joined found (member k d no_members)) ms ≡ true
follow-joined k d found no_members h a = refl
follow-joined k d found (member l e ms) h a =
    let p = and_parts _ _ h in
    let q = and_parts _ _ a in
    and_from _ _ (is_last-joined l k d found p.0 q.0) (follow-joined k d found ms p.1 q.1)

joined-joined : (found : Members) (k : List ℕ) (d : Data) (ms : Members) → joined (joined found (member k d no_members)) ms ≡ joined found (member k d ms)
joined-joined no_members k d ms = refl
joined-joined (member l e found) k d ms = ap (member l e) (joined-joined found k d ms)

joined_none : (found : Members) → joined found no_members ≡ found
joined_none no_members = refl
joined_none (member k d ms) = ap (member k d) (joined_none ms)

follow_none : (ms : Members) → follow no_members ms ≡ true
follow_none no_members = refl
follow_none (member k d ms) = follow_none ms

-- ---- the data of an outline

mutual
  of_json-outline : (d : Data) → IsPlain d → of_json (outline d) ≡ Some d
  of_json-outline null h = refl
  of_json-outline (boolean b) h = refl
  of_json-outline (number (unsigned n)) h = rw (number_of-decimal n h) refl
  of_json-outline (number (negative z)) h = absurd h
  of_json-outline (number (float x)) h = absurd h
  of_json-outline (string s) h = refl
  of_json-outline (array ds) h = rw (of_items-outline ds h) refl
  of_json-outline (object ms) h = rw (of_members-outline ms no_members h (follow_none ms)) refl

  of_items-outline : (ds : Items) → ItemsArePlain ds → of_items (items_outline ds) ≡ Some ds
  of_items-outline no_items h = refl
  of_items-outline (item d ds) h = rw (of_json-outline d h.0, of_items-outline ds h.1) refl

  of_members-outline : (ms found : Members) → MembersArePlain ms → follow found ms ≡ true → of_members (members_outline ms) found ≡ Some (joined found ms)
  of_members-outline no_members found h f = ap Some (sym (joined_none found))
  of_members-outline (member k d ms) found h f =
      let key = and_parts _ _ h.0 in
      let last = and_parts _ _ f in
      rw (of_json-outline d h.1.0, put_last k d found last.0)
      (of_members-outline ms (joined found (member k d no_members)) h.1.1 (follow-joined k d found ms last.1 key.1) ∙ ap Some (joined-joined found k d ms))

-- ---- the text of plain data

mutual
  HasNumbers-outline : (d : Data) → IsPlain d → tree.HasNumbers (outline d)
  HasNumbers-outline null h = tt
  HasNumbers-outline (boolean b) h = tt
  HasNumbers-outline (number (unsigned n)) h = IsNumber-decimal n h
  HasNumbers-outline (number (negative z)) h = absurd h
  HasNumbers-outline (number (float x)) h = absurd h
  HasNumbers-outline (string s) h = tt
  HasNumbers-outline (array ds) h = ItemsHaveNumbers-outline ds h
  HasNumbers-outline (object ms) h = MembersHaveNumbers-outline ms h

  ItemsHaveNumbers-outline : (ds : Items) → ItemsArePlain ds → tree.ItemsHaveNumbers (items_outline ds)
  ItemsHaveNumbers-outline no_items h = tt
  ItemsHaveNumbers-outline (item d ds) h = (HasNumbers-outline d h.0, ItemsHaveNumbers-outline ds h.1)

  MembersHaveNumbers-outline : (ms : Members) → MembersArePlain ms → tree.MembersHaveNumbers (members_outline ms)
  MembersHaveNumbers-outline no_members h = tt
  MembersHaveNumbers-outline (member k d ms) h = (HasNumbers-outline d h.1.0, MembersHaveNumbers-outline ms h.1.1)

tokens-compact_text : (d : Data) → IsPlain d → tokens (compact_text d) ≡ tree.json_tokens (outline d)
tokens-compact_text d h = ap tokens (sym (print-outline d)) ∙ tokens-print (tree.json_tokens (outline d)) (ArePrintable-json_tokens (outline d) (HasNumbers-outline d h))

-- plain data that is nested at most 127 deep is read back
pub read-compact_text : (d : Data) → IsPlain d → tree.depth (outline d) ≤ 127 → read (compact_text d) ≡ Some d
read-compact_text d h shallow =
    ap (λ ts. option_and_then of_json (option_and_then (λ p. json.if_last p.0 p.1) (json.value 127 ts))) (tokens-compact_text d h ∙ sym (append-nil (tree.json_tokens (outline d))))
    ∙ ap (λ o. option_and_then of_json (option_and_then (λ p. json.if_last p.0 p.1) o)) (value-json_tokens (outline d) 127 [] shallow)
    ∙ of_json-outline d h

-- ---- it is UTF-8

one_byte : (b : ℕ) (xs : List ℕ) → are_ascii (b ∷ []) ≡ true → IsUtf8 xs → IsUtf8 (b ∷ xs)
one_byte b xs e u = IsUtf8-append (b ∷ []) xs (IsUtf8-are_ascii (b ∷ []) e) u

comma : (later : Bool) (xs : List ℕ) → IsUtf8 xs → IsUtf8 (comma_if later ++ xs)
comma true xs u = one_byte 44 xs refl u
comma false xs u = u

mutual
  pub IsUtf8-compact_text : (d : Data) → IsPlain d → IsUtf8 (compact_text d)
  IsUtf8-compact_text null h = IsUtf8-are_ascii _ refl
  IsUtf8-compact_text (boolean b) h = IsUtf8-boolean b
  IsUtf8-compact_text (number (unsigned n)) h = IsUtf8-from_ascii (decimal n) (IsAscii-decimal n h)
  IsUtf8-compact_text (number (negative z)) h = absurd h
  IsUtf8-compact_text (number (float x)) h = absurd h
  IsUtf8-compact_text (string s) h = IsUtf8-quoted s h
  IsUtf8-compact_text (array ds) h = one_byte 91 (items_text false ds) refl (IsUtf8-items_text false ds h)
  IsUtf8-compact_text (object ms) h = one_byte 123 (members_text false ms) refl (IsUtf8-members_text false ms h)

  IsUtf8-items_text : (later : Bool) (ds : Items) → ItemsArePlain ds → IsUtf8 (items_text later ds)
  IsUtf8-items_text later no_items h = one_byte 93 [] refl IsUtf8-nil
  IsUtf8-items_text later (item d ds) h = comma later _ (IsUtf8-append (compact_text d) (items_text true ds) (IsUtf8-compact_text d h.0) (IsUtf8-items_text true ds h.1))

  IsUtf8-members_text : (later : Bool) (ms : Members) → MembersArePlain ms → IsUtf8 (members_text later ms)
  IsUtf8-members_text later no_members h = one_byte 125 [] refl IsUtf8-nil
  IsUtf8-members_text later (member k d ms) h =
      let key = and_parts _ _ h.0 in
      let rest = IsUtf8-append (compact_text d) (members_text true ms) (IsUtf8-compact_text d h.1.0) (IsUtf8-members_text true ms h.1.1) in
      comma later _ (IsUtf8-append (quoted k) (58 ∷ (compact_text d ++ members_text true ms)) (IsUtf8-quoted k (IsUtf8-are_ascii k key.0)) (one_byte 58 _ refl rest))
