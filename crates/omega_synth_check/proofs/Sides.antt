-- The two sides of a product: where an automaton goes at a letter over names, and its edges as the product sees them.
use Rattle.std.proofs.Common.{◌≡◌, ℕ, ◌<◌, Bool, true, false, List, [], ◌∷◌, length, get_or, Contains, Some, sym, ap, subst, ◌∙◌}
use Rattle.std.specs.List.{position_or_len}
use Rattle.std.specs.Str.{bytes_eq}
use Rattle.std.proofs.lemmas.List.{get_or-map}
use Rattle.omega_hoa_label.specs.Label.{truth}
use Rattle.omega_hoa_automaton.specs.Automaton.{BodyEdge, Description, IsAutomaton, edge_at}
use Rattle.omega_hoa_automaton.specs.Branching.{has_universal_branching}
use Rattle.omega_lang_runs.specs.Lasso.{IsStep, label_of}
use Rattle.omega_lang_runs.specs.Words.{Allows, CanBeTaken}
use Rattle.omega_lang_product.specs.Joining.{joined_names, number_among, places_among}
use Rattle.omega_lang_product.specs.PlainEdges.{View, plain_edges_at}
use Rattle.omega_lang_product.specs.declared.plain_edge.PlainEdge.{PlainEdge}
use Rattle.omega_lang_word_laws.proofs.meeting.Lists.{same_some}
use Rattle.omega_lang_word_laws.proofs.meeting.Meeting.{usable_of}
use Rattle.omega_lang_word_laws.proofs.meeting.PlainEdges.{IsPlainEdge, found_plain_edge, listed_plain_edge}
use Rattle.omega_lang_word_laws.proofs.naming.Named.{allowed_same, contained_at}
use Rattle.omega_lang_intersection.proofs.Formulas.{name_there}
use Rattle.omega_lang_intersection.proofs.Naming.{second_within}
use Rattle.omega_synth_check.specs.CounterJudging.{GoesAt, NamedLetter}

-- what an automaton with propositions of these names sees of a letter
abbrev pub seen : List (List ℕ) → NamedLetter → ℕ → Bool
seen names letter p = letter (get_or names p [])

-- an edge that can be taken at a letter, and where it leads
pub goes_by : (a : Description) (letter : NamedLetter) (s to number : ℕ) (edge : BodyEdge) → edge_at a number ≡ Some edge → edge.source.number ≡ s
    → edge.edge.targets ≡ to ∷ [] → Allows a number (label_of edge) (seen a.propositions letter) → GoesAt a letter s to
goes_by a letter s to number edge at leaves enters allowed = record {
  number = number;
  step = record {
    edge = edge;
    numbered = at;
    usable = usable_of a number (label_of edge) (seen a.propositions letter) allowed;
    leaves = leaves;
    enters = enters;
  };
  taken = record { edge = edge; numbered = at; allowed = allowed };
}

-- the propositions of an automaton have their names among these
abbrev pub AreNamedAmong : Description → View → List (List ℕ) → Type 0
AreNamedAmong a view names =
    (p : ℕ) → p < length a.propositions → get_or names (number_among view.places p) [] ≡ get_or a.propositions p []

module _ (a : Description) (view : View) (counted : length a.propositions ≡ view.count) (automaton : IsAutomaton a)
    (plain : has_universal_branching a ≡ false) (names : List (List ℕ)) (named : AreNamedAmong a view names) (letter : NamedLetter) where
  -- where the label of an edge is true, the automaton goes
  pub side_goes : (s : ℕ) (t : PlainEdge) → Contains (plain_edges_at view a.defined s) t → truth (seen names letter) t.label ≡ true → GoesAt a letter s t.target
  side_goes s t within holds =
      let found = found_plain_edge a view counted automaton plain s t within in
      let is : IsPlainEdge a view found.0 found.1 t = found.2 in
      goes_by a letter s t.target found.0 found.1 is.numbered found.3 is.target
      (allowed_same a automaton (λ i p. seen names letter (number_among view.places p)) (λ i. seen a.propositions letter)
      (λ i p below. ap letter (named p below)) found.0 0 found.1 is.numbered ((is.label (seen names letter)).0 holds))

  -- an edge by which it goes, as the product sees it
  pub record IsSeenEdge (s to : ℕ) : Type 0 where
    pub plain_edge : PlainEdge
    pub within : Contains (plain_edges_at view a.defined s) plain_edge
    pub target : plain_edge.target ≡ to
    pub holds : truth (seen names letter) plain_edge.label ≡ true

  pub seen_edge : (s to : ℕ) → GoesAt a letter s to → IsSeenEdge s to
  seen_edge s to goes =
      let step : IsStep a s goes.number to = goes.step in
      let taken : CanBeTaken a goes.number (seen a.propositions letter) = goes.taken in
      let listed = listed_plain_edge a view counted automaton plain goes.number step.edge step.numbered in
      let same : taken.edge ≡ step.edge = same_some taken.edge step.edge (sym taken.numbered ∙ step.numbered) in
      let allowed : Allows a goes.number (label_of step.edge) (seen a.propositions letter) =
      subst (λ (edge : BodyEdge). Allows a goes.number (label_of edge) (seen a.propositions letter)) same taken.allowed in
      record {
        plain_edge = listed.0;
        within = subst (λ (n : ℕ). Contains (plain_edges_at view a.defined n) listed.0) step.leaves listed.1;
        target = single listed.0.target to (sym listed.2.target ∙ step.enters);
        holds = (listed.2.label (seen names letter)).1
            (allowed_same a automaton (λ i. seen a.propositions letter) (λ i p. seen names letter (number_among view.places p))
            (λ i p below. ap letter (sym (named p below))) goes.number 0 step.edge step.numbered allowed);
      }
    where
      single : (x y : ℕ) → x ∷ [] ≡ y ∷ [] → x ≡ y
      single x y e = cc

-- ---- the names of both among the joined ones

-- the propositions of the second automaton have their names at their places among the joined ones
pub named_second : (names others : List (List ℕ)) (p : ℕ) → p < length others
    → get_or (joined_names names others) (number_among (places_among (joined_names names others) others) p) [] ≡ get_or others p []
named_second names others p below =
    let joined : List (List ℕ) = joined_names names others in
    let place : List ℕ → ℕ = λ name. position_or_len (bytes_eq name) joined in
    let within : Contains joined (get_or others p []) = second_within names others (get_or others p []) (contained_at others p [] below) in
    ap (λ (at : ℕ). get_or joined at []) (get_or-map place others p [] 0 below) ∙ name_there joined (get_or others p []) within
