-- Pieces of printed text, joined.
use Rattle.std.proofs.Common.{◌≡◌, ℕ, zero, suc, ◌+◌, ◌<◌, Bool, true, false, List, [], ◌∷◌, ◌++◌, length, map, filter, drop, get_or, cond, append_assoc, if◌then◌else◌, refl, sym, ap, ◌∙◌, arith}
use Rattle.std.proofs.lemmas.List.{append-nil, at_drop_more}
use Rattle.ndc_domain.specs.Members.{AreMembers, has_member, numbers, numbers_where}
use Rattle.ndc_script_types.specs.declared.script.Header.{Header}
use Rattle.ndc_script_types.specs.Print.{behind_spaces, line_text, member_name}

-- more words after spaces
pub behind_spaces-append : (one two : List (List ℕ)) → behind_spaces (one ++ two) ≡ behind_spaces one ++ behind_spaces two
behind_spaces-append [] two = refl
behind_spaces-append (word ∷ one) two =
    ap (λ (rest : List ℕ). 32 ∷ word ++ rest) (behind_spaces-append one two)
    ∙ ap (λ (rest : List ℕ). 32 ∷ rest) (sym (append_assoc word (behind_spaces one) (behind_spaces two)))

-- a first word, words and more words, and the newline are a line
pub line-joined : (text word : List ℕ) (one two : List (List ℕ)) → (((text ++ word) ++ behind_spaces one) ++ behind_spaces two) ++ 10 ∷ [] ≡ text ++ line_text (word ∷ one ++ two)
line-joined text word one two =
    rw (behind_spaces-append one two) (simp append_assoc)

-- a number that is a member, or is none
kept : (header : Header) (p : ℕ → Bool) (text : List ℕ) (n : ℕ) (rest : List ℕ) (b : Bool) → (text ++ behind_spaces (if b then member_name header n ∷ [] else [])) ++ behind_spaces (map (member_name header) rest) ≡ text ++ behind_spaces (map (member_name header) (cond b (n ∷ rest) rest))
kept header p text n rest true =
    append_assoc text (behind_spaces (member_name header n ∷ [])) (behind_spaces (map (member_name header) rest))
    ∙ ap (λ (word : List ℕ). text ++ (32 ∷ word ++ behind_spaces (map (member_name header) rest))) (append-nil (member_name header n))
kept header p text n rest false = ap (λ (front : List ℕ). front ++ behind_spaces (map (member_name header) rest)) (append-nil text)

-- the numbers of clusters stand in order
number_at : (n : ℕ) → n < 8 → n ≡ get_or numbers n n
unfolding numbers
number_at zero l = refl
number_at (suc zero) l = refl
number_at (suc (suc zero)) l = refl
number_at (suc (suc (suc zero))) l = refl
number_at (suc (suc (suc (suc zero)))) l = refl
number_at (suc (suc (suc (suc (suc zero))))) l = refl
number_at (suc (suc (suc (suc (suc (suc zero)))))) l = refl
number_at (suc (suc (suc (suc (suc (suc (suc zero))))))) l = refl
number_at (suc (suc (suc (suc (suc (suc (suc (suc n)))))))) l = absurd (omega arith)

eight : length numbers ≡ 8
unfolding numbers
eight = refl

-- the next number is printed where it is a member
pub member_step : (header : Header) (members text : List ℕ) (n : ℕ) → n < 8 → (text ++ behind_spaces (if has_member members n then member_name header n ∷ [] else [])) ++ behind_spaces (map (member_name header) (filter (has_member members) (drop (n + 1) numbers))) ≡ text ++ behind_spaces (map (member_name header) (filter (has_member members) (drop n numbers)))
member_step header members text n below =
    let within : n < length numbers = rw eight below in
    kept header (has_member members) text n (filter (has_member members) (drop (n + 1) numbers)) (has_member members n)
    ∙ ap (λ (m : ℕ). text ++ behind_spaces (map (member_name header) (filter (has_member members) (m ∷ drop (n + 1) numbers)))) (number_at n below)
    ∙ sym (at_drop_more (λ (ns : List ℕ). text ++ behind_spaces (map (member_name header) (filter (has_member members) ns))) numbers n n within)

-- after the last number all members are printed
pub members_printed : (header : Header) (members text before : List ℕ) → AreMembers members → text ++ behind_spaces (map (member_name header) (filter (has_member members) (drop 8 numbers))) ≡ before ++ behind_spaces (map (member_name header) (filter (has_member members) numbers)) → text ≡ before ++ behind_spaces (map (member_name header) members)
unfolding numbers_where numbers
members_printed header members text before are h =
    sym (append-nil text) ∙ h ∙ ap (λ (ms : List ℕ). before ++ behind_spaces (map (member_name header) ms)) (sym are)
