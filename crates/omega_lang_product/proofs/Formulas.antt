-- Formulas and judgements of the parts of a product.
use Rattle.std.proofs.Common.{◌≡◌, ℕ, zero, suc, ◌+◌, ◌<◌, ◌≤◌, ◌⊎◌, inl, inr, Bool, true, false, not, cond, nat_lt, List, [], ◌∷◌, ◌++◌, length, map, take, get_or, Option, Some, None, position, refl, sym, ap, ap₂, ◌∙◌, arith, true≢false}
use Rattle.std.specs.List.{flat_map, position_or_len}
use Rattle.std.proofs.lemmas.Bool.{cases_lt, lt-ltb}
use Rattle.std.proofs.lemmas.List.{map-append}
use Rattle.omega_hoa_acceptance.specs.Acceptance.{AccTree, conjunction, constant, disjunction, fin, inf}
use Rattle.omega_hoa_automaton.specs.Automaton.{Description}
use Rattle.omega_lang_product.specs.Acceptance.{moved_after}
use Rattle.omega_lang_product.specs.Joining.{joined_names, places_among}
use Rattle.omega_hoa_acceptance.specs.declared.name.AccName.{AccName}
use Rattle.omega_hoa_acceptance.specs.Raw.{RawAccTree}
use Rattle.omega_lang_product.specs.Pairs.{Pair, first_view, second_view, start_pairs, starts_between}
use Rattle.omega_lang_product.specs.Written.{raw_items}
use Rattle.omega_lang_product.specs.PlainEdges.{View}
use Rattle.omega_lang_product.specs.private.Tables.{view_at}
use Rattle.omega_lang_product.proofs.Steps.{flat_one}

-- after no set a formula is itself
pub moved_nowhere : (f : AccTree) → moved_after 0 f ≡ f
moved_nowhere (constant value) = refl
moved_nowhere (inf negated set) = let e : 0 + set ≡ set = omega arith in ap (inf negated) e
moved_nowhere (fin negated set) = let e : 0 + set ≡ set = omega arith in ap (fin negated) e
moved_nowhere (conjunction left right) = ap (λ l. conjunction l (moved_after 0 right)) (moved_nowhere left) ∙ ap (conjunction left) (moved_nowhere right)
moved_nowhere (disjunction left right) = ap (λ l. disjunction l (moved_after 0 right)) (moved_nowhere left) ∙ ap (disjunction left) (moved_nowhere right)

-- a place that is not found is after the last
pub place_within : {X : Type 0} (p : X → Bool) (xs : List X) → position_or_len p xs ≤ length xs
place_within p [] = omega arith
place_within p (x ∷ xs) = go (p x) (place_within p xs)
  where
    go : (b : Bool) → position_or_len p xs ≤ length xs → cond (not b) (1 + position_or_len p xs) 0 ≤ length (x ∷ xs)
    go true rest = omega arith
    go false rest = omega arith

pub none_is_len : {X : Type 0} (p : X → Bool) (xs : List X) → position p xs ≡ None → length xs ≡ position_or_len p xs
none_is_len p xs none = go (cases_lt (position_or_len p xs) (length xs))
  where
    never : (b : Bool) → b ≡ true → cond b (Some (position_or_len p xs)) None ≡ None → ⊥
    never true e is = some is
      where
        some : Some (position_or_len p xs) ≡ None → ⊥
        some is = cc
    never false e is = true≢false (sym e)

    go : (position_or_len p xs < length xs) ⊎ (length xs ≤ position_or_len p xs) → length xs ≡ position_or_len p xs
    go (inl below) = absurd (never (nat_lt (position_or_len p xs) (length xs)) (lt-ltb (position_or_len p xs) (length xs) below) none)
    go (inr past) = omega (arith, past, place_within p xs)

-- an element does not depend on the default
pub same_default : {X : Type 0} (xs : List X) (i : ℕ) (d e : X) → i < length xs → get_or xs i d ≡ get_or xs i e
same_default [] i d e below = absurd (omega arith)
same_default (x ∷ xs) zero d e below = refl
same_default (x ∷ xs) (suc i) d e below = same_default xs i d e (omega arith)

-- how the product sees both automata
at_places : (names joined : List (List ℕ)) (places : List ℕ) (before : ℕ) → places ≡ places_among joined names
    → view_at places before ≡ record { count = length names; places = places_among joined names; before = before }
at_places names joined places before e =
    ap (λ (p : List ℕ). view_at p before) e
    ∙ view_count (places_among joined names) before (length names) (places_long names)
  where
    view_count : (p : List ℕ) (before n : ℕ) → length p ≡ n → view_at p before ≡ record { count = n; places = p; before = before }
    view_count p before n e = ap {B = View} (λ (m : ℕ). record { count = m; places = p; before = before }) e

    places_long : (ns : List (List ℕ)) → length (places_among joined ns) ≡ length ns
    places_long [] = refl
    places_long (n ∷ ns) = ap suc (places_long ns)

pub view_first : (one other : Description) (places : List ℕ) → places ≡ places_among (joined_names one.propositions other.propositions) one.propositions
    → view_at places 0 ≡ first_view one other
view_first one other places e = at_places one.propositions (joined_names one.propositions other.propositions) places 0 e

pub view_second : (one other : Description) (places : List ℕ) (before : ℕ) → places ≡ places_among (joined_names one.propositions other.propositions) other.propositions
    → before ≡ one.sets → view_at places before ≡ second_view one other
view_second one other places before e same =
    at_places other.propositions (joined_names one.propositions other.propositions) places before e
    ∙ ap {B = View} (λ (b : ℕ). record { count = length other.propositions; places = places_among (joined_names one.propositions other.propositions) other.propositions; before = b }) same

-- one more of what is joined is put last
pub pushed_flat : {X Y Z : Type 0} (xs : List X) (i : ℕ) (x : X) → i < length xs → x ≡ get_or xs i x → (f : X → List Y) (g : Y → Z) (front items : List Z)
    → items ≡ front ++ map g (flat_map f (take i xs)) → items ++ map g (f x) ≡ front ++ map g (flat_map f (take (i + 1) xs))
pushed_flat {Z = Z} xs i x below here f g front items so_far =
    ap (λ (s : List Z). s ++ map g (f x)) so_far
    ∙ assoc front (map g (flat_map f (take i xs))) (map g (f x))
    ∙ ap (λ (s : List Z). front ++ s) (sym (map-append g (flat_map f (take i xs)) (f x)))
    ∙ ap (λ s. front ++ map g s) (sym (flat_one xs i x below here f))
  where
    assoc : (us vs ws : List Z) → (us ++ vs) ++ ws ≡ us ++ (vs ++ ws)
    assoc [] vs ws = refl
    assoc (u ∷ us) vs ws = ap (λ (rest : List Z). u ∷ rest) (assoc us vs ws)

-- the header by its parts
pub items_are : (one other : Description) (pairs : List Pair) (name : Option AccName) (formula : RawAccTree) (names : List (List ℕ)) (sets : ℕ) (starts others : List (List ℕ))
    → names ≡ joined_names one.propositions other.propositions → sets ≡ one.sets + other.sets → starts ≡ one.starts → others ≡ other.starts
    → raw_items names sets name formula (starts_between starts others) pairs
    ≡ raw_items (joined_names one.propositions other.propositions) (one.sets + other.sets) name formula (start_pairs one other) pairs
items_are one other pairs name formula names sets starts others names_are sets_are starts_are others_are =
    ap₂ (λ (ns : List (List ℕ)) (n : ℕ). raw_items ns n name formula (starts_between starts others) pairs)
    names_are sets_are
    ∙ ap₂ (λ (ss os : List (List ℕ)).
    raw_items (joined_names one.propositions other.propositions) (one.sets + other.sets) name formula
    (starts_between ss os) pairs) starts_are others_are
