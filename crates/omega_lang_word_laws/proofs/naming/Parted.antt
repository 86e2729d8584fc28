-- The part of a word that an automaton sees in a product is its part by names.
use Rattle.std.proofs.Common.{◌≡◌, ◌⊎◌, ◌↔◌, ℕ, ◌<◌, ◌≤◌, inl, inr, Bool, true, false, not, List, [], ◌∷◌, length, filter, Contains, refl, sym, ap, subst, ◌∙◌, arith, true≢false}
use Rattle.std.specs.Prelude.{slice_index_or}
use Rattle.std.specs.List.{list_any, position_or_len}
use Rattle.std.specs.Str.{bytes_eq}
use Rattle.std.proofs.lemmas.Bool.{cases_lt, false≢true}
use Rattle.std.proofs.lemmas.List.{get_or-map}
use Rattle.std.proofs.lemmas.List.Elements.{Contains-append_left, Contains-append_right}
use Rattle.std.proofs.lemmas.List.Sums.{fails_before_first, passes_at_first}
use Rattle.std.proofs.lemmas.Slice.Eq.{bytes_eq-Decides}
use Rattle.omega_hoa_automaton.specs.Automaton.{Description, IsAutomaton}
use Rattle.omega_hoa_automaton.specs.Branching.{has_universal_branching}
use Rattle.omega_lang_runs.specs.Words.{IsAccepted}
use Rattle.omega_lang_product.specs.Joining.{joined_names, part_of_word, places_among}
use Rattle.omega_lang_product.specs.Pairs.{first_view, second_view}
use Rattle.omega_lang_product.specs.Product.{IsProduct}
use Rattle.omega_lang_product.proofs.Membership.{Contains-here, Contains-there}
use Rattle.omega_text.specs.NamedWords.{NamedWord}
use Rattle.omega_lang_word_laws.specs.NamedWords.{AcceptsNamed, part_of}
use Rattle.omega_lang_word_laws.specs.Products.{ProductsMeet}
use Rattle.omega_lang_product.proofs.Holding.{or_either}
use Rattle.omega_lang_word_laws.proofs.meeting.Lists.{contains_filter}
use Rattle.omega_lang_word_laws.proofs.naming.Named.{AgreeBelow, contained_at, seen_alike_one}

-- the first place of a name among others has this name
name_there : (joined : List (List ℕ)) (name : List ℕ) → Contains joined name → slice_index_or joined (position_or_len (bytes_eq name) joined) [] ≡ name
name_there joined name within = sym ((bytes_eq-Decides name (slice_index_or joined at [])).0 (passes_at_first (bytes_eq name) joined [] (go (cases_lt at (length joined)))))
  where
    at : ℕ
    at = position_or_len (bytes_eq name) joined

    go : (at < length joined) ⊎ (length joined ≤ at) → at < length joined
    go (inl below) = below
    go (inr past) =
        let fails : bytes_eq name (slice_index_or joined within.0 name) ≡ false = fails_before_first (bytes_eq name) joined within.0 name (omega (arith, within.1)) in
        absurd (false≢true (sym fails ∙ (bytes_eq-Decides name (slice_index_or joined within.0 name)).1 (sym within.2)))

-- what an automaton sees of a word over joined names is what it sees of it by its own
part_agrees : (joined names : List (List ℕ)) → ((name : List ℕ) → Contains names name → Contains joined name) → (word : NamedWord)
    → AgreeBelow (length names) (part_of_word (places_among joined names) (part_of joined word)) (part_of names word)
part_agrees joined names among word i number below =
    let place : (List ℕ) → ℕ = λ name. position_or_len (bytes_eq name) joined in
    ap (λ (at : ℕ). word i (slice_index_or joined at [])) (get_or-map place names number [] 0 below)
    ∙ ap (word i) (name_there joined (slice_index_or names number []) (among (slice_index_or names number []) (contained_at names number [] below)))

-- the names of both automata are among the joined ones
abbrev is_new : List (List ℕ) → List ℕ → Bool
is_new names name = not (list_any (bytes_eq name) names)

first_among : (names others : List (List ℕ)) (name : List ℕ) → Contains names name → Contains (joined_names names others) name
first_among names others name within = Contains-append_left names (filter (is_new names) others) name within

named_among : (name : List ℕ) (names : List (List ℕ)) → list_any (bytes_eq name) names ≡ true → Contains names name
named_among name [] any = absurd (true≢false (sym any))
named_among name (x ∷ xs) any = go (or_either (bytes_eq name x) (list_any (bytes_eq name) xs) any) (λ later. named_among name xs later)
  where
    go : (bytes_eq name x ≡ true) ⊎ (list_any (bytes_eq name) xs ≡ true) → (list_any (bytes_eq name) xs ≡ true → Contains xs name) → Contains (x ∷ xs) name
    go (inl here) rest = subst (λ (y : List ℕ). Contains (y ∷ xs) name) ((bytes_eq-Decides name x).0 here) (Contains-here name xs)
    go (inr later) rest = Contains-there x name xs (rest later)

second_among : (names others : List (List ℕ)) (name : List ℕ) → Contains others name → Contains (joined_names names others) name
second_among names others name within = go (list_any (bytes_eq name) names) refl
  where
    go : (b : Bool) → list_any (bytes_eq name) names ≡ b → Contains (joined_names names others) name
    go true any = first_among names others name (named_among name names any)
    go false none =
        Contains-append_right names (filter (is_new names) others) name (contains_filter (is_new names) others name within (ap not none))

-- an automaton accepts its part of a word over joined names exactly if it accepts the word by names
module _ (one other : Description) (word : NamedWord) where
  abbrev joined : List (List ℕ)
  joined = joined_names one.propositions other.propositions

  pub first_named : IsAutomaton one → IsAccepted one (part_of_word (first_view one other).places (part_of joined word)) ↔ AcceptsNamed one word
  first_named automaton =
      seen_alike_one one (part_of_word (first_view one other).places (part_of joined word)) (part_of one.propositions word) automaton
      (part_agrees joined one.propositions (first_among one.propositions other.propositions) word)

  pub second_named : IsAutomaton other → IsAccepted other (part_of_word (second_view one other).places (part_of joined word)) ↔ AcceptsNamed other word
  second_named automaton =
      seen_alike_one other (part_of_word (second_view one other).places (part_of joined word)) (part_of other.propositions word) automaton
      (part_agrees joined other.propositions (second_among one.propositions other.propositions) word)

-- the law of products, by names
pub products_meet_named : ProductsMeet → (one other a : Description) → IsAutomaton one → IsAutomaton other → has_universal_branching one ≡ false → has_universal_branching other ≡ false
    → IsProduct one other a → (word : NamedWord) → AcceptsNamed a word ↔ (AcceptsNamed one word × AcceptsNamed other word)
products_meet_named law one other a automaton automaton' plain plain' is word =
    let P : List (List ℕ) → Type 0 = λ names. IsAccepted a (part_of names word) in
    let all : List (List ℕ) = joined_names one.propositions other.propositions in
    let meets = law one other a (part_of all word) automaton automaton' plain plain' is in
    let first = first_named one other word automaton in
    let second = second_named one other word automaton' in (
      λ accepted. (let both = meets.0 (subst P is.propositions accepted) in (first.0 both.0, second.0 both.1)),
      λ both. subst P (sym is.propositions) (meets.1 (first.1 both.0, second.1 both.1)),
    )
