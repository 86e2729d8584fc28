-- States numbered as they are first met: each keeps its number.
use Rattle.std.proofs.Common.{◌≡◌, ℕ, ◌+◌, ◌<◌, ◌≤◌, Bool, true, false, cond, inl, inr, List, [], ◌∷◌, ◌++◌, length, get_or, map, take, All, refl, sym, ap, subst, ◌∙◌, arith, append_assoc, eq-eqb, length-append, nat_eq}
use Rattle.std.specs.List.{IsDistinct, list_any}
use Rattle.std.proofs.lemmas.Bool.{cases_order, false≢true}
use Rattle.std.proofs.lemmas.List.{append-nil, get_or_append_left, map_push, take_more}
use Rattle.std.proofs.lemmas.List.Elements.{All-head, All-push, All-tail, All-weaker}
use Rattle.std.proofs.lemmas.Map.Keys.{apart_from_distinct}
use Rattle.indexmap.specs.IndexSet.{insert_key}
use Rattle.omega_graph.specs.declared.edge.Edge.{Edge}
use Rattle.omega_lang_lasso_search.specs.private.Numbering.{AreDistinctNames, Grows, IsNamed, ends_in, first_of, name_in}

-- nothing more
pub grows_not : (names : List ℕ) → Grows 0 names names
grows_not names = record { more = []; is = sym (append-nil names); few = omega arith }

-- more and more
pub grows_on : (m n : ℕ) (first second third : List ℕ) → Grows m first second → Grows n second third → Grows (m + n) first third
grows_on m n first second third one two = record {
  more = one.more ++ two.more;
  is = two.is ∙ ap (λ names. names ++ two.more) one.is ∙ append_assoc first one.more two.more;
  few = let f = one.few in let s = two.few in omega (arith, length-append one.more two.more);
}

-- a greater bound
pub grows_within : (m n : ℕ) (first second : List ℕ) → m ≤ n → Grows m first second → Grows n first second
grows_within m n first second less grows = record { more = grows.more; is = grows.is; few = let f = grows.few in omega arith }

-- a key that is inserted is the last one, or was there already
pub grows_insert : (eq : ℕ → ℕ → Bool) (keys : List ℕ) (key : ℕ) (after : List ℕ) → after ≡ insert_key eq keys key → Grows 1 keys after
grows_insert eq keys key after is = subst (Grows 1 keys) (sym is) (cases (list_any (eq key) keys))
  where
    cases : (b : Bool) → Grows 1 keys (cond b keys (keys ++ key ∷ []))
    cases true = grows_within 0 1 keys keys (omega arith) (grows_not keys)
    cases false = record { more = key ∷ []; is = refl; few = omega arith }

-- there are no fewer names, and at most `count` more
pub length_grows : (n : ℕ) (before after : List ℕ) → Grows n before after → length before ≤ length after
length_grows n before after grows = omega (arith, ap length grows.is, length-append before grows.more)

pub length_grown : (n : ℕ) (before after : List ℕ) → Grows n before after → length after ≤ length before + n
length_grown n before after grows = let f = grows.few in omega (arith, ap length grows.is, length-append before grows.more)

-- a number keeps its name
pub name_kept : (n : ℕ) (before after : List ℕ) (number : ℕ) → Grows n before after → number < length before → name_in after number ≡ name_in before number
name_kept n before after number grows below =
    ap (λ names. name_in names number) grows.is ∙ get_or_append_left before grows.more 0 number below

-- so do the numbers of a list
pub names_kept : (n : ℕ) (before after : List ℕ) (numbers : List ℕ) → Grows n before after → All (λ number. number < length before) numbers
    → map (name_in after) numbers ≡ map (name_in before) numbers
names_kept n before after [] grows all = refl
names_kept n before after (x ∷ xs) grows all =
    let here = name_kept n before after x grows (All-head (λ number. number < length before) x xs all) in
    let rest = names_kept n before after xs grows (All-tail (λ number. number < length before) x xs all) in
    cc

pub all_below : (n : ℕ) (before after numbers : List ℕ) → Grows n before after → All (λ number. number < length before) numbers
    → All (λ number. number < length after) numbers
all_below n before after numbers grows all =
    let more = length_grows n before after grows in
    All-weaker (λ number. number < length before) (λ number. number < length after) (λ number low. omega arith) numbers all

-- and the ends of edges
pub named_kept : (n : ℕ) (before after : List ℕ) (edge : Edge) → Grows n before after → IsNamed before edge → IsNamed after edge
named_kept n before after edge grows named =
    let more = length_grows n before after grows in
    let f : edge.from < length before = named.0 in
    let t : edge.to < length before = named.1 in
    (omega arith, omega arith)

pub ends_kept : (n : ℕ) (before after : List ℕ) (edges : List Edge) → Grows n before after → All (IsNamed before) edges
    → map (ends_in after) edges ≡ map (ends_in before) edges
ends_kept n before after [] grows all = refl
ends_kept n before after (x ∷ xs) grows all =
    let named = All-head (IsNamed before) x xs all in
    let from = name_kept n before after x.from grows named.0 in
    let to = name_kept n before after x.to grows named.1 in
    let here : ends_in after x ≡ ends_in before x = cc in
    let rest = ends_kept n before after xs grows (All-tail (IsNamed before) x xs all) in
    cc

-- names that are distinct are apart
pub apart : (names : List ℕ) → IsDistinct nat_eq names → AreDistinctNames names
apart names distinct p q low high same = elim (cases_order p q) [
  | inl is ↦ is
  | inr (inl less) ↦ absurd (false≢true (sym (apart_from_distinct nat_eq names p q 0 distinct less high) ∙ eq-eqb (name_in names p) (name_in names q) same))
  | inr (inr more) ↦ absurd (false≢true (sym (apart_from_distinct nat_eq names q p 0 distinct more low) ∙ eq-eqb (name_in names q) (name_in names p) (sym same)))
]

-- the first of a list, read by its index
pub first_is : (states : List ℕ) → get_or states 0 0 ≡ first_of states
first_is [] = refl
first_is (state ∷ states) = refl

-- one start more
pub sources_more : (keys keys' sources starts : List ℕ) (index source start : ℕ) → Grows 1 keys keys'
    → All (λ number. number < length keys) sources → map (name_in keys) sources ≡ take index starts
    → index < length starts → start ≡ get_or starts index start → name_in keys' source ≡ start
    → map (name_in keys') (sources ++ source ∷ []) ≡ take (index + 1) starts
sources_more keys keys' sources starts index source start grows within so_far below here name =
    map_push (name_in keys') sources source
    ∙ ap (λ xs. xs ++ name_in keys' source ∷ []) (names_kept 1 keys keys' sources grows within ∙ so_far)
    ∙ ap (λ (n : ℕ). take index starts ++ n ∷ []) (name ∙ here)
    ∙ sym (take_more starts index start below)

-- an edge of its ends
abbrev made : ℕ → ℕ → Edge
made from to = record { from = from; to = to }

-- one edge more
pub ends_more : (keys keys' keys'' : List ℕ) (edges ends : List Edge) (index from to : ℕ) (end : Edge) → Grows 1 keys keys' → Grows 1 keys' keys''
    → All (IsNamed keys) edges → map (ends_in keys) edges ≡ take index ends → index < length ends → end ≡ get_or ends index end
    → from < length keys' → name_in keys' from ≡ end.from → name_in keys'' to ≡ end.to
    → map (ends_in keys'') (edges ++ record { from = from; to = to } ∷ []) ≡ take (index + 1) ends
ends_more keys keys' keys'' edges ends index from to end one two named so_far below here low is_from is_to =
    let edge : Edge = record { from = from; to = to } in
    let kept : name_in keys'' from ≡ end.from = name_kept 1 keys' keys'' from two low ∙ is_from in
    let same : ends_in keys'' edge ≡ end = ap (λ (n : ℕ). made n (name_in keys'' to)) kept ∙ ap (made end.from) is_to in
    map_push (ends_in keys'') edges edge
    ∙ ap (λ (xs : List Edge). xs ++ ends_in keys'' edge ∷ []) (ends_kept 2 keys keys'' edges (grows_on 1 1 keys keys' keys'' one two) named ∙ so_far)
    ∙ ap (λ (e : Edge). take index ends ++ e ∷ []) (same ∙ here)
    ∙ sym (take_more ends index end below)

pub all_named_more : (keys keys' keys'' : List ℕ) (edges : List Edge) (from to : ℕ) → Grows 1 keys keys' → Grows 1 keys' keys''
    → All (IsNamed keys) edges → from < length keys' → to < length keys'' → All (IsNamed keys'') (edges ++ record { from = from; to = to } ∷ [])
all_named_more keys keys' keys'' edges from to one two named low high =
    let more = length_grows 1 keys' keys'' two in
    All-push (IsNamed keys'') edges (record { from = from; to = to })
    (All-weaker (IsNamed keys) (IsNamed keys'') (λ edge is. named_kept 2 keys keys'' edge (grows_on 1 1 keys keys' keys'' one two) is) edges named)
    (omega arith, high)
