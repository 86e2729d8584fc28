-- Names of the propositions of the first automaton among those of both, and the propositions of labels.
use Rattle.std.proofs.Common.{◌≡◌, ◌⊎◌, ℕ, zero, suc, ◌<◌, ◌≤◌, inl, inr, Bool, true, false, not, if◌then◌else◌, List, [], ◌∷◌, length, filter, get_or, Contains, Option, Some, None, sym, ap, ◌∙◌, arith}
use Rattle.std.specs.Prelude.{IfSome}
use Rattle.std.specs.List.{list_any, position_or_len}
use Rattle.std.specs.Option.{option_or, unwrap_or}
use Rattle.std.specs.Str.{bytes_eq}
use Rattle.std.proofs.lemmas.Bool.{cases_lt, false≢true}
use Rattle.std.proofs.lemmas.List.{get_or-map}
use Rattle.std.proofs.lemmas.List.Elements.{All-contains, Contains-append_cases, Contains-append_left}
use Rattle.std.proofs.lemmas.List.Sums.{fails_before_first, passes_at_first}
use Rattle.std.proofs.lemmas.Slice.Eq.{bytes_eq-Decides}
use Rattle.omega_hoa_label.specs.Label.{LabelTree, negation, proposition, propositions}
use Rattle.omega_hoa_automaton.specs.Automaton.{Description, IsLabel}
use Rattle.omega_hoa_edges.specs.Labels.{literal, valuation_label}
use Rattle.omega_lang_product.specs.Joining.{joined_names, number_among, places_among}
use Rattle.omega_lang_product.proofs.Membership.{Contains-nothing}
use Rattle.omega_lang_word_laws.proofs.naming.Named.{contained_at}

-- the first place of a name among others has this name
pub name_there : (joined : List (List ℕ)) (name : List ℕ) → Contains joined name → get_or joined (position_or_len (bytes_eq name) joined) [] ≡ name
name_there joined name within = sym ((bytes_eq-Decides name (get_or joined at [])).0 (passes_at_first (bytes_eq name) joined [] (go (cases_lt at (length joined)))))
  where
    at : ℕ
    at = position_or_len (bytes_eq name) joined

    go : (at < length joined) ⊎ (length joined ≤ at) → at < length joined
    go (inl below) = below
    go (inr past) =
        let fails : bytes_eq name (get_or joined within.0 name) ≡ false = fails_before_first (bytes_eq name) joined within.0 name (omega (arith, within.1)) in
        absurd (false≢true (sym fails ∙ (bytes_eq-Decides name (get_or joined within.0 name)).1 (sym within.2)))

-- the propositions of the first automaton have their names at their places among the joined ones
pub named_first : (names others : List (List ℕ)) (p : ℕ) → p < length names
    → get_or (joined_names names others) (number_among (places_among (joined_names names others) names) p) [] ≡ get_or names p []
named_first names others p below =
    let joined : List (List ℕ) = joined_names names others in
    let place : List ℕ → ℕ = λ name. position_or_len (bytes_eq name) joined in
    let within : Contains joined (get_or names p []) =
    Contains-append_left names (filter (λ (name : List ℕ). not (list_any (bytes_eq name) names)) others) (get_or names p []) (contained_at names p [] below) in
    ap (λ (at : ℕ). get_or joined at []) (get_or-map place names p [] 0 below) ∙ name_there joined (get_or names p []) within

-- the label of a valuation has the propositions that there are
single_has : (p q : ℕ) → Contains (p ∷ []) q → p ≡ q
single_has p q (zero, below, is) = is
single_has p q (suc k, below, is) = absurd (omega arith)

literal_has : (b : Bool) (p q : ℕ) → Contains (propositions (if b then proposition p else negation (proposition p))) q → p ≡ q
literal_has true p q within = single_has p q within
literal_has false p q within = single_has p q within

valuation_below : (index count p : ℕ) → Contains (propositions (valuation_label index count)) p → p < count
valuation_below index zero p within = absurd (Contains-nothing p within)
valuation_below index (suc zero) p within = let e : 0 ≡ p = literal_has _ 0 p within in omega arith
valuation_below index (suc (suc k)) p within =
    go (Contains-append_cases (propositions (valuation_label index (suc k))) (propositions (literal index (suc k))) p within)
    (λ h. valuation_below index (suc k) p h)
  where
    go : Contains (propositions (valuation_label index (suc k))) p ⊎ Contains (propositions (literal index (suc k))) p
        → (Contains (propositions (valuation_label index (suc k))) p → p < suc k) → p < suc (suc k)
    go (inl before) rest = let lower : p < suc k = rest before in omega arith
    go (inr last) rest = let e : suc k ≡ p = literal_has _ (suc k) p last in omega arith

-- so has the label of an edge, whatever it is
pub label_below : (a : Description) (index : ℕ) (own its : Option LabelTree) → IfSome own (IsLabel a) → IfSome its (IsLabel a) → (p : ℕ)
    → Contains (propositions (unwrap_or (option_or own its) (valuation_label index (length a.propositions)))) p → p < length a.propositions
label_below a index (Some label) its is is' p within = All-contains (λ (m : ℕ). m < length a.propositions) (propositions label) p is.below within
label_below a index None (Some label) is is' p within = All-contains (λ (m : ℕ). m < length a.propositions) (propositions label) p is'.below within
label_below a index None None is is' p within = valuation_below index (length a.propositions) p within
