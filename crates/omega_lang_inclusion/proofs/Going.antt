-- Some word goes along each accepting lasso of an automaton.
use Rattle.std.proofs.Common.{◌≡◌, ℕ, ◌<◌, List, ◌∷◌, length, Contains, Option, None, Some, subst}
use Rattle.std.specs.Prelude.{IfSome}
use Rattle.std.specs.Option.{option_or}
use Rattle.std.proofs.lemmas.List.Elements.{All-contains}
use Rattle.omega_hoa_automaton.specs.Automaton.{BodyEdge, Description, IsAutomaton, IsEdge, IsLabel, IsState, edge_at}
use Rattle.omega_lang_intersection.specs.Intersection.{GoesAlong}
use Rattle.omega_lang_intersection.specs.private.Named.{IsNamed}
use Rattle.omega_lang_intersection.proofs.Along.{word_along}
use Rattle.omega_hoa_label.specs.Label.{LabelTree, propositions}
use Rattle.omega_lang_runs.specs.Lasso.{IsAcceptingLasso, label_of}
use Rattle.omega_lang_runs.proofs.Kept.{edge_kept}
use Rattle.omega_text.specs.NamedWords.{NamedWord}
use Rattle.omega_lang_word_laws.proofs.meeting.Lists.{same_some}

-- the labels of an automaton have only propositions that it names
module _ (a : Description) (automaton : IsAutomaton a) (number : ℕ) (edge : BodyEdge) (at : edge_at a number ≡ Some edge) (label : LabelTree) where
  kept : IsState a edge.source × IsEdge a edge.edge
  kept = edge_kept a automaton number edge at

  labelled : (own its : Option LabelTree) → IfSome own (IsLabel a) → IfSome its (IsLabel a) → option_or own its ≡ Some label → IsLabel a label
  labelled (Some tree) its is is' same = subst (IsLabel a) (same_some tree label same) is
  labelled None (Some tree) is is' same = subst (IsLabel a) (same_some tree label same) is'
  labelled None None is is' same = absurd (let no : ◌≡◌ {A = Option LabelTree} None (Some label) = same in cc)

  below : label_of edge ≡ Some label → (p : ℕ) → Contains (propositions label) p → p < length a.propositions
  below same p within =
      All-contains (λ (m : ℕ). m < length a.propositions) (propositions label) p
      (labelled edge.source.label edge.edge.label kept.0.label kept.1.label same).below within

automaton_named : (a : Description) → IsAutomaton a → IsNamed a
automaton_named a automaton = record { apart = automaton.unlike; below = λ number edge label at. below a automaton number edge at label }

pub goes_along : (a : Description) → IsAutomaton a → (stem : List ℕ) (first : ℕ) (others : List ℕ) → IsAcceptingLasso a stem (first ∷ others)
    → (named : NamedWord) × GoesAlong a stem (first ∷ others) named
goes_along a automaton stem first others lasso =
    word_along a (automaton_named a automaton) lasso.lasso.loop_state first others lasso.lasso.cycle_leads lasso.lasso.start stem lasso.lasso.stem_leads
