-- Entries of definitions: the one at a place, and what names stand for.
use Rattle.std.proofs.Common.{◌≡◌, ℕ, ◌<◌, ◌≤◌, zero, suc, Bool, true, false, cond, List, [], ◌∷◌, ◌++◌, Option, Some, None, option_map, length, map, take, get_or, ap, append-nil, append_assoc, refl, sym, ◌∙◌, arith}
use Rattle.std.proofs.Math.Seq.{take-length}
use Rattle.std.proofs.lemmas.List.{length-map}
use Rattle.std.specs.Str.{bytes_eq}
use Rattle.omega_hoa_label_text.specs.Expanding.{Defined, Entry, Meaning, both, entries_of, extent_of, in_parentheses, negated, place_among, replaced, stands_for}
use Rattle.omega_hoa_label_text.specs.private.Emitting.{IsBodyAt}
use Rattle.omega_hoa_label.specs.Label.{LabelTree, label_depth}
use Rattle.omega_hoa_label.specs.Label as label
use Rattle.omega_hoa_label.specs.Raw.{RawLabelTree, alias, conjunction, constant, disjunction, group, negation, proposition}
use Rattle.omega_hoa_label_text.specs.private.Extents.{extent_named}
use Rattle.omega_hoa_label_text.specs.declared.extents.Extent.{Extent}

-- the entry of a definition after earlier entries
abbrev pub entry_of : List Entry → Defined → Entry
entry_of before next = record { name = next.name; meaning = replaced before next.body }

-- there is an entry for each definition
pub length-entries_of : (before : List Entry) (definitions : List Defined) → length (entries_of before definitions) ≡ length definitions
length-entries_of before [] = refl
length-entries_of before (next ∷ rest) = ap suc (length-entries_of (before ++ entry_of before next ∷ []) rest)

-- the entries with one more definition
pub entries_of-push : (before : List Entry) (definitions : List Defined) (last : Defined)
    → entries_of before (definitions ++ last ∷ []) ≡ entries_of before definitions ++ entry_of (before ++ entries_of before definitions) last ∷ []
entries_of-push before [] last = ap (λ entries. entry_of entries last ∷ []) (sym (append-nil before))
entries_of-push before (next ∷ rest) last =
    ap (λ entries. entry_of before next ∷ entries)
    (entries_of-push (before ++ entry_of before next ∷ []) rest last
    ∙ ap (λ entries. entries_of (before ++ entry_of before next ∷ []) rest ++ entry_of entries last ∷ [])
    (append_assoc before (entry_of before next ∷ []) (entries_of (before ++ entry_of before next ∷ []) rest)))

-- ---- what a name stands for

extent-here : (b : Bool) (here : Option Meaning) (others : List (Option Extent)) (place : ℕ) (d : Option Extent) (there : Option Meaning)
    → cond b 0 (suc place) < suc (length others) → (place < length others → get_or others place d ≡ option_map extent_of there)
    → get_or (option_map extent_of here ∷ others) (cond b 0 (suc place)) d ≡ option_map extent_of (cond b here there)
extent-here true here others place d there within rest = refl
extent-here false here others place d there within rest = rest (omega arith)

-- the extent at the place of a name is that of what it stands for
pub extent-at : (name : List ℕ) (before : List Entry) (definitions : List Defined) (d : Option Extent) → place_among definitions name < length definitions
    → get_or (map (λ entry. option_map extent_of entry.meaning) (entries_of before definitions)) (place_among definitions name) d
    ≡ extent_named (entries_of before definitions) name
extent-at name before [] d within = absurd (omega arith)
extent-at name before (next ∷ rest) d within =
    let entries = entries_of (before ++ entry_of before next ∷ []) rest in
    let others = map (λ (entry : Entry). option_map extent_of entry.meaning) entries in
    let count : length others ≡ length rest = length-map entries (λ (entry : Entry). option_map extent_of entry.meaning) ∙ length-entries_of (before ++ entry_of before next ∷ []) rest in
    extent-here (bytes_eq name next.name) (replaced before next.body) others (place_among rest name) d (stands_for entries name)
    (omega (arith, within, count)) (λ lt. extent-at name (before ++ entry_of before next ∷ []) rest d (omega arith))

none-here : (b : Bool) (here there : Option Meaning) (count place : ℕ) → suc count ≤ cond b 0 (suc place) → (count ≤ place → there ≡ None) → cond b here there ≡ None
none-here true here there count place past rest = absurd (omega arith)
none-here false here there count place past rest = rest (omega arith)

-- a name that is not there stands for nothing
pub stands_for-none : (name : List ℕ) (before : List Entry) (definitions : List Defined) → length definitions ≤ place_among definitions name
    → stands_for (entries_of before definitions) name ≡ None
stands_for-none name before [] past = refl
stands_for-none name before (next ∷ rest) past =
    none-here (bytes_eq name next.name) (replaced before next.body) (stands_for (entries_of (before ++ entry_of before next ∷ []) rest) name)
    (length rest) (place_among rest name) past (λ le. stands_for-none name (before ++ entry_of before next ∷ []) rest le)

past-here : (b : Bool) (here there : Option Meaning) (limit place : ℕ) → suc limit ≤ cond b 0 (suc place) → (limit ≤ place → there ≡ None) → cond b here there ≡ None
past-here true here there limit place past rest = absurd (omega arith)
past-here false here there limit place past rest = rest (omega arith)

-- a name whose place is not before the limit stands for nothing there
pub stands_for-past : (name : List ℕ) (before : List Entry) (definitions : List Defined) (limit : ℕ) → limit ≤ place_among definitions name
    → stands_for (take limit (entries_of before definitions)) name ≡ None
stands_for-past name before [] zero past = refl
stands_for-past name before [] (suc limit) past = refl
stands_for-past name before (next ∷ rest) zero past = refl
stands_for-past name before (next ∷ rest) (suc limit) past =
    past-here (bytes_eq name next.name) (replaced before next.body) (stands_for (take limit (entries_of (before ++ entry_of before next ∷ []) rest)) name)
    limit (place_among rest name) past (λ le. stands_for-past name (before ++ entry_of before next ∷ []) rest limit le)

meaning-here : (b : Bool) (before : List Entry) (next : Defined) (entries : List Entry) (rest : List Defined) (place limit : ℕ) (there : Option Meaning) (body : RawLabelTree)
    → IsBodyAt (next ∷ rest) (cond b 0 (suc place)) body → cond b 0 (suc place) < suc limit
    → (IsBodyAt rest place body → place < limit → there ≡ replaced ((before ++ entry_of before next ∷ []) ++ take place entries) body)
    → cond b (replaced before next.body) there ≡ replaced (before ++ take (cond b 0 (suc place)) (entry_of before next ∷ entries)) body
meaning-here true before next entries rest place limit there body is lt others =
    ap (λ entries. replaced entries next.body) (sym (append-nil before)) ∙ ap (replaced (before ++ [])) (same-some is)
  where
    same-some : {one other : RawLabelTree} → Some one ≡ Some other → one ≡ other
    same-some e = cc
meaning-here false before next entries rest place limit there body is lt others =
    others is (omega arith) ∙ ap (λ entries. replaced entries body) (append_assoc before (entry_of before next ∷ []) (take place entries))

-- a name before the limit stands for what its definition means after the entries before it
pub stands_for-at : (name : List ℕ) (before : List Entry) (definitions : List Defined) (limit : ℕ) (body : RawLabelTree)
    → IsBodyAt definitions (place_among definitions name) body → place_among definitions name < limit
    → stands_for (take limit (entries_of before definitions)) name ≡ replaced (before ++ take (place_among definitions name) (entries_of before definitions)) body
stands_for-at name before [] limit body is lt = absurd (none-some is)
  where
    none-some : {one : RawLabelTree} → None ≡ Some one → ⊥
    none-some e = cc
stands_for-at name before (next ∷ rest) zero body is lt = absurd (omega arith)
stands_for-at name before (next ∷ rest) (suc limit) body is lt =
    meaning-here (bytes_eq name next.name) before next (entries_of (before ++ entry_of before next ∷ []) rest) rest (place_among rest name) limit
    (stands_for (take limit (entries_of (before ++ entry_of before next ∷ []) rest)) name) body is lt
    (λ at within. stands_for-at name (before ++ entry_of before next ∷ []) rest limit body at within)

-- ---- depths

-- no meaning is deeper than it is written
abbrev pub IsShallow : Option Meaning → Type 0
IsShallow None = Unit {0}
IsShallow (Some meaning) = label_depth meaning.tree ≤ meaning.depth

shallow-parentheses : (meaning : Option Meaning) → IsShallow meaning → IsShallow (option_map in_parentheses meaning)
shallow-parentheses None is = tt
shallow-parentheses (Some meaning) is = omega arith

shallow-negated : (meaning : Option Meaning) → IsShallow meaning → IsShallow (option_map negated meaning)
shallow-negated None is = tt
shallow-negated (Some meaning) is = omega arith

shallow-conjunction : (left right : Option Meaning) → IsShallow left → IsShallow right → IsShallow (both label.conjunction left right)
shallow-conjunction None right one other = tt
shallow-conjunction (Some left) None one other = tt
shallow-conjunction (Some left) (Some right) one other = omega arith

shallow-disjunction : (left right : Option Meaning) → IsShallow left → IsShallow right → IsShallow (both label.disjunction left right)
shallow-disjunction None right one other = tt
shallow-disjunction (Some left) None one other = tt
shallow-disjunction (Some left) (Some right) one other = omega arith

-- no entry means anything deeper than it is written
abbrev pub AllShallow : List Entry → Type 0
AllShallow [] = Unit {0}
AllShallow (entry ∷ entries) = IsShallow entry.meaning × AllShallow entries

shallow-cond : (b : Bool) (here there : Option Meaning) → IsShallow here → IsShallow there → IsShallow (cond b here there)
shallow-cond true here there one other = one
shallow-cond false here there one other = other

shallow-named : (entries : List Entry) (name : List ℕ) → AllShallow entries → IsShallow (stands_for entries name)
shallow-named [] name all = tt
shallow-named (entry ∷ entries) name all =
    shallow-cond (bytes_eq name entry.name) entry.meaning (stands_for entries name) all.0 (shallow-named entries name all.1)

-- under such entries no label means anything deeper than it is written
pub shallow-replaced : (entries : List Entry) → AllShallow entries → (tree : RawLabelTree) → IsShallow (replaced entries tree)
shallow-replaced entries all (constant value) = omega arith
shallow-replaced entries all (proposition number) = omega arith
shallow-replaced entries all (alias name) = shallow-parentheses (stands_for entries name) (shallow-named entries name all)
shallow-replaced entries all (negation part) = shallow-negated (replaced entries part) (shallow-replaced entries all part)
shallow-replaced entries all (conjunction left right) =
    shallow-conjunction (replaced entries left) (replaced entries right) (shallow-replaced entries all left) (shallow-replaced entries all right)
shallow-replaced entries all (disjunction left right) =
    shallow-disjunction (replaced entries left) (replaced entries right) (shallow-replaced entries all left) (shallow-replaced entries all right)
shallow-replaced entries all (group part) = shallow-parentheses (replaced entries part) (shallow-replaced entries all part)

shallow-push : (entries : List Entry) (last : Entry) → AllShallow entries → IsShallow last.meaning → AllShallow (entries ++ last ∷ [])
shallow-push [] last all is = (is, tt)
shallow-push (next ∷ entries) last all is = (all.0, shallow-push entries last all.1 is)

-- the entries of definitions are such
pub shallow-entries : (before : List Entry) (definitions : List Defined) → AllShallow before → AllShallow (entries_of before definitions)
shallow-entries before [] all = tt
shallow-entries before (next ∷ rest) all =
    let is = shallow-replaced before all next.body in
    (is, shallow-entries (before ++ entry_of before next ∷ []) rest (shallow-push before (entry_of before next) all is))

-- all entries are those up to the count of definitions
pub take-entries_of : (definitions : List Defined) (count : ℕ) → count ≡ length definitions → take count (entries_of [] definitions) ≡ entries_of [] definitions
take-entries_of definitions count is =
    ap (λ n. take n (entries_of [] definitions)) (is ∙ sym (length-entries_of [] definitions)) ∙ take-length (entries_of [] definitions)
