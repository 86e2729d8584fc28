-- The word that is written by the labels of two automata is that of their product, which is not made.
use Rattle.std.proofs.Common.{◌≡◌, ℕ, ◌+◌, List, ◌++◌, length, Contains, Some, sym, ap, ap₂, subst, ◌∙◌, arith}
use Rattle.std.proofs.lemmas.List.{length-map}
use Rattle.std.specs.List.{position_or_len}
use Rattle.std.specs.Str.{bytes_eq}
use Rattle.omega_hoa_label.specs.Label.{LabelTree}
use Rattle.omega_hoa_edges.specs.Conjuncts.{conjuncts, each_once, joined}
use Rattle.omega_hoa_automaton.specs.Automaton.{BodyEdge, Description, edge_at}
use Rattle.omega_hoa_edges.specs.Labels.{label_at}
use Rattle.omega_lang_runs.specs.Lasso.{IsAcceptingLasso}
use Rattle.omega_lang_runs.specs.Words.{index_in}
use Rattle.omega_lang_lasso_word.specs.Letters.{conjunction_words, letter_at, letter_text, text_of_letter}
use Rattle.omega_lang_lasso_word.specs.LassoWordText.{lasso_word_text}
use Rattle.omega_lang_lasso_word.specs.WordText.{word_text}
use Rattle.omega_lang_product.specs.Joining.{joined_names, places_among, relabelled}
use Rattle.omega_lang_product.specs.JointEdges.{numbered_from}
use Rattle.omega_lang_product.specs.PairGraph.{IsPairGraph}
use Rattle.omega_hoa_automaton.specs.Automaton.{edges_before}
use Rattle.omega_lang_product.specs.Pairs.{first_view, second_view}
use Rattle.omega_lang_product.specs.PlainEdges.{plain_edge_of, plain_edges_at}
use Rattle.omega_lang_product.specs.declared.graph.PairGraph.{PairGraph}
use Rattle.omega_lang_product.specs.declared.plain_edge.PlainEdge.{PlainEdge}
use Rattle.omega_lang_word_laws.specs.Graphs.{IsGraphOf}
use Rattle.omega_lang_word_laws.proofs.meeting.PlainEdges.{numbered_found}
use Rattle.omega_lang_intersection.specs.private.Letters.{joint_conjuncts, joint_word, label_in, moved_label}
use Rattle.omega_lang_intersection.proofs.Conjuncts.{joined_conjuncts}
use Rattle.omega_lang_intersection.proofs.Standing.{Row, first_is, label_is, row, second_is}
use Rattle.omega_lang_intersection.proofs.Texts.{words_alike}

-- the label of an edge of an automaton within a product
part_label : (a : Description) (names joined : List (List ℕ)) (before : ℕ) → names ≡ joined → (k : ℕ) (edge : BodyEdge) (t : PlainEdge) → edge_at a k ≡ Some edge
    → t ≡ plain_edge_of (record { count = length a.propositions; places = places_among joined a.propositions; before = before }) edge.source (index_in a.defined k) edge.edge
    → label_in (places_among names a.propositions) a k ≡ t.label
part_label a names joined before same k edge t at is =
    let index : ℕ = index_in a.defined k in
    ap (moved_label (places_among names a.propositions) index) at
    ∙ ap (λ (ns : List (List ℕ)). relabelled (places_among ns a.propositions) (label_at (length (places_among ns a.propositions)) edge.source index edge.edge)) same
    ∙ ap (λ n. relabelled (places_among joined a.propositions) (label_at n edge.source index edge.edge)) (length-map a.propositions (λ (name : List ℕ). position_or_len (bytes_eq name) joined))
    ∙ sym (ap (λ (u : PlainEdge). u.label) is)

module _ (one other : Description) (graph : PairGraph) (is : IsPairGraph one other graph) (a : Description) (of : IsGraphOf one other graph is a) where
  abbrev R : ℕ → BodyEdge → Type 0
  R number edge = Row one other graph is a of number edge

  first_label : (number : ℕ) (edge : BodyEdge) (r : R number edge)
      → label_in (places_among graph.propositions.items one.propositions) one r.joint.first.number ≡ r.joint.first.plain_edge.label
  first_label number edge r =
      let none : 0 + edges_before one.defined r.takes.pair.0 ≡ edges_before one.defined r.takes.pair.0 = omega arith in
      let P : ℕ → Type 0 = λ n. Contains (numbered_from n (plain_edges_at (first_view one other) one.defined r.takes.pair.0)) r.joint.first in
      let found = numbered_found (first_view one other) one.defined r.takes.pair.0 0 r.joint.first (subst P (sym none) r.takes.first_in) in
      let zero_more : 0 + found.0 ≡ found.0 = omega arith in
      ap (label_in (places_among graph.propositions.items one.propositions) one) (found.4 ∙ zero_more)
      ∙ part_label one graph.propositions.items (joined_names one.propositions other.propositions) 0 is.propositions found.0 found.1 r.joint.first.plain_edge found.2.at found.2.is

  second_label : (number : ℕ) (edge : BodyEdge) (r : R number edge)
      → label_in (places_among graph.propositions.items other.propositions) other r.joint.second.number ≡ r.joint.second.plain_edge.label
  second_label number edge r =
      let none : 0 + edges_before other.defined r.takes.pair.1 ≡ edges_before other.defined r.takes.pair.1 = omega arith in
      let P : ℕ → Type 0 = λ n. Contains (numbered_from n (plain_edges_at (second_view one other) other.defined r.takes.pair.1)) r.joint.second in
      let found = numbered_found (second_view one other) other.defined r.takes.pair.1 0 r.joint.second (subst P (sym none) r.takes.second_in) in
      let zero_more : 0 + found.0 ≡ found.0 = omega arith in
      ap (label_in (places_among graph.propositions.items other.propositions) other) (found.4 ∙ zero_more)
      ∙ part_label other graph.propositions.items (joined_names one.propositions other.propositions) one.sets is.propositions found.0 found.1 r.joint.second.plain_edge found.2.at found.2.is

  -- the conjuncts of the label of an edge of the product, which are those of the labels of the two edges
  conjuncts_alike : (number : ℕ) (edge : BodyEdge) (r : R number edge)
      → joint_conjuncts one other graph number ≡ each_once (conjuncts (joined r.joint.first.plain_edge.label r.joint.second.plain_edge.label))
  conjuncts_alike number edge r =
      let names : List (List ℕ) = graph.propositions.items in
      ap₂ (λ (l m : LabelTree). each_once (conjuncts l ++ conjuncts m))
      (ap (label_in (places_among names one.propositions) one) (first_is one other graph is a of number edge r) ∙ first_label number edge r)
      (ap (label_in (places_among names other.propositions) other) (second_is one other graph is a of number edge r) ∙ second_label number edge r)
      ∙ sym (joined_conjuncts r.joint.first.plain_edge.label r.joint.second.plain_edge.label)

  -- its letter
  abbrev joint_letter : ℕ → List ℕ
  joint_letter number = conjunction_words graph.propositions.items (joint_conjuncts one other graph number)

  letter_alike : (number : ℕ) (edge : BodyEdge) → edge_at a number ≡ Some edge → joint_letter number ≡ letter_text a number
  letter_alike number edge at =
      let r = row one other graph is a of number edge at in
      let index : ℕ = index_in a.defined number in
      let label : LabelTree = joined r.joint.first.plain_edge.label r.joint.second.plain_edge.label in
      sym (ap (letter_at a number) at
      ∙ ap (text_of_letter a.propositions index) (label_is one other graph is a of r.joint edge r.takes)
      ∙ ap (λ (names : List (List ℕ)). conjunction_words names (each_once (conjuncts label))) (of.product.propositions ∙ sym is.propositions)
      ∙ ap (conjunction_words graph.propositions.items) (sym (conjuncts_alike number edge r)))

  -- the word of a lasso
  pub word_alike : (stem cycle : List ℕ) → IsAcceptingLasso a stem cycle → lasso_word_text (joint_word one other graph stem cycle) ≡ word_text a stem cycle
  word_alike = words_alike a graph.propositions.items (joint_conjuncts one other graph) letter_alike
