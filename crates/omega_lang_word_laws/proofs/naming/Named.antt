-- Words over names: an automaton's part of one depends on its own propositions alone, and each word is the part of one.
use Rattle.std.proofs.Common.{◌≡◌, ◌↔◌, ℕ, zero, suc, ◌<◌, Bool, false, List, [], ◌∷◌, length, Contains, Option, Some, None, refl, sym, ap, ◌∙◌, arith}
use Rattle.std.specs.Prelude.{IfSome, slice_index_or}
use Rattle.std.specs.List.{position_or_len}
use Rattle.std.specs.Option.{option_or}
use Rattle.std.specs.Str.{bytes_eq}
use Rattle.std.proofs.lemmas.List.{get_or_default}
use Rattle.std.proofs.lemmas.List.Elements.{All-contains}
use Rattle.std.proofs.lemmas.List.Sums.{position_or_len_is}
use Rattle.std.proofs.lemmas.Slice.Eq.{bytes_eq-Decides}
use Rattle.omega_hoa_label.specs.Label.{LabelTree, propositions}
use Rattle.omega_hoa_automaton.specs.Automaton.{BodyEdge, Description, IsAutomaton, IsEdge, IsLabel, IsState, edge_at, has_repeat}
use Rattle.omega_lang_runs.specs.Lasso.{label_of}
use Rattle.omega_lang_runs.specs.Words.{Allows, IsAccepted}
use Rattle.omega_lang_runs.proofs.Kept.{edge_kept}
use Rattle.omega_text.specs.NamedWords.{NamedWord}
use Rattle.omega_lang_word_laws.specs.NamedWords.{AcceptsNamed, WordsAreNamed, WordsSeenAlikeAreOne, part_of}
use Rattle.omega_lang_product.proofs.Holding.{truth_same}
use Rattle.omega_lang_word_laws.proofs.meeting.Lists.{passes_nowhere}
use Rattle.omega_lang_word_laws.proofs.parting.Plain.{or_parts}

-- words that agree on the propositions of an automaton
abbrev pub AgreeBelow : ℕ → (ℕ → ℕ → Bool) → (ℕ → ℕ → Bool) → Type 0
AgreeBelow count word other = (i p : ℕ) → p < count → word i p ≡ other i p

module _ (a : Description) (automaton : IsAutomaton a) (word other : ℕ → ℕ → Bool) (agree : AgreeBelow (length a.propositions) word other) where
  pub allowed_same : (number i : ℕ) (edge : BodyEdge) → edge_at a number ≡ Some edge → Allows a number (label_of edge) (word i) → Allows a number (label_of edge) (other i)
  allowed_same number i edge at = go edge.source.label edge.edge.label kept.0.label kept.1.label
    where
      kept : IsState a edge.source × IsEdge a edge.edge
      kept = edge_kept a automaton number edge at

      labelled : (label : LabelTree) → IsLabel a label → Allows a number (Some label) (word i) → Allows a number (Some label) (other i)
      labelled label is holds =
          sym (truth_same (word i) (other i) label (λ p h. agree i p (All-contains (λ (m : ℕ). m < length a.propositions) (propositions label) p is.below h))) ∙ holds

      go : (own its : Option LabelTree) → IfSome own (IsLabel a) → IfSome its (IsLabel a)
          → Allows a number (option_or own its) (word i) → Allows a number (option_or own its) (other i)
      go (Some label) its is is' holds = labelled label is holds
      go None (Some label) is is' holds = labelled label is' holds
      go None None is is' values = λ p below. sym (agree i p below) ∙ values p below

  -- an automaton sees its own propositions alone
  pub accepted_same : IsAccepted a word → IsAccepted a other
  accepted_same accepted = record {
    states = accepted.states;
    edges = accepted.edges;
    accepting = accepted.accepting;
    taken = λ i. (record {
      edge = (accepted.taken i).edge;
      numbered = (accepted.taken i).numbered;
      allowed = allowed_same (accepted.edges i) i (accepted.taken i).edge (accepted.taken i).numbered (accepted.taken i).allowed;
    });
  }

-- an element is contained
pub contained_at : {X : Type 0} (xs : List X) (i : ℕ) (d : X) → i < length xs → Contains xs (slice_index_or xs i d)
contained_at xs i d below = (i, below, get_or_default xs i (slice_index_or xs i d) d below)

-- names of which none comes again are apart
pub apart_at : (names : List (List ℕ)) → has_repeat bytes_eq names ≡ false → (k i : ℕ) → k < i → i < length names
    → bytes_eq (slice_index_or names i []) (slice_index_or names k []) ≡ false
apart_at [] unlike k i before below = absurd (omega arith)
apart_at (x ∷ xs) unlike k zero before below = absurd (omega arith)
apart_at (x ∷ xs) unlike zero (suc i) before below =
    passes_nowhere (λ (later : List ℕ). bytes_eq later x) xs (slice_index_or xs i []) (or_parts _ _ unlike).0 (contained_at xs i [] (omega arith))
apart_at (x ∷ xs) unlike (suc k) (suc i) before below = apart_at xs (or_parts _ _ unlike).1 k i (omega arith) (omega arith)

-- so each is first found at its own place
pub own_place : (names : List (List ℕ)) → has_repeat bytes_eq names ≡ false → (number : ℕ) → number < length names
    → position_or_len (bytes_eq (slice_index_or names number [])) names ≡ number
own_place names unlike number below =
    position_or_len_is (bytes_eq (slice_index_or names number [])) names number [] (omega arith)
    (λ k before. apart_at names unlike k number before below)
    (λ within. (bytes_eq-Decides (slice_index_or names number []) (slice_index_or names number [])).1 refl)

-- the word over names of which a word is the part
abbrev pub named_by : List (List ℕ) → (ℕ → ℕ → Bool) → NamedWord
named_by names word i name = word i (position_or_len (bytes_eq name) names)

pub part_named : (names : List (List ℕ)) → has_repeat bytes_eq names ≡ false → (word : ℕ → ℕ → Bool) → AgreeBelow (length names) word (part_of names (named_by names word))
part_named names unlike word i number below = sym (ap (word i) (own_place names unlike number below))

pub words_named : WordsAreNamed
words_named a word automaton =
    (named_by a.propositions word, λ i number below. sym (part_named a.propositions automaton.unlike word i number below))

pub seen_alike_one : WordsSeenAlikeAreOne
seen_alike_one a word other automaton agree =
    (accepted_same a automaton word other agree, accepted_same a automaton other word (λ i number below. sym (agree i number below)))

-- so a word is accepted exactly if the part of some word over names is
pub accepted_named : (a : Description) (word : ℕ → ℕ → Bool) → IsAutomaton a → (named : NamedWord) × (IsAccepted a word ↔ AcceptsNamed a named)
accepted_named a word automaton =
    let named = words_named a word automaton in
    (named.0, seen_alike_one a word (part_of a.propositions named.0) automaton (λ i number below. sym (named.1 i number below)))
