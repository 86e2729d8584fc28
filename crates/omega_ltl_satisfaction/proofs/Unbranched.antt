-- A product has no universal branching.
use Rattle.std.proofs.Common.{◌≡◌, ℕ, Bool, false, ◌||◌, List, [], ◌∷◌, length, map, nat_lt, refl, ap, ap₂}
use Rattle.std.proofs.Common.{◌∙◌}
use Rattle.std.specs.List.{AllZip, list_any}
use Rattle.omega_hoa_automaton.specs.Automaton.{Description}
use Rattle.omega_hoa_automaton.specs.Branching.{has_universal_branching, state_branches}
use Rattle.omega_hoa_automaton.specs.declared.edge.Edge.{Edge}
use Rattle.omega_hoa_automaton.specs.declared.state.State.{State}
use Rattle.omega_lang_product.specs.Pairs.{Pair, pair_number, start_pairs}
use Rattle.omega_lang_product.specs.Product.{IsJointEdge, IsPairState, IsProduct, joint_edges_of}
use Rattle.omega_lang_product.specs.declared.plain_edge.PlainEdge.{PlainEdge}

abbrev lists_two : List ℕ → Bool
lists_two states = nat_lt 1 (length states)

starts_plain : (number : Pair → ℕ) (pairs : List Pair) → list_any lists_two (map (λ (pair : Pair). number pair ∷ []) pairs) ≡ false
starts_plain number [] = refl
starts_plain number (pair ∷ pairs) = starts_plain number pairs

edges_plain : (plain_edges : List PlainEdge) (edges : List Edge) → AllZip IsJointEdge plain_edges edges
    → list_any (λ (edge : Edge). lists_two edge.targets) edges ≡ false
edges_plain [] [] all = refl
edges_plain [] (edge ∷ edges) all = absurd all
edges_plain (plain_edge ∷ plain_edges) [] all = absurd all
edges_plain (plain_edge ∷ plain_edges) (edge ∷ edges) all =
    ap₂ ◌||◌ (ap lists_two all.0.targets) (edges_plain plain_edges edges all.1)

module _ (one other : Description) (pairs : List Pair) where
  states_plain : (some : List Pair) (states : List State) → AllZip (IsPairState one other pairs) some states → list_any state_branches states ≡ false
  states_plain [] [] all = refl
  states_plain [] (state ∷ states) all = absurd all
  states_plain (pair ∷ some) [] all = absurd all
  states_plain (pair ∷ some) (state ∷ states) all =
      ap₂ ◌||◌ (edges_plain (joint_edges_of one other pairs pair) state.edges all.0.edges) (states_plain some states all.1)

pub product_plain : (one other both : Description) → IsProduct one other both → has_universal_branching both ≡ false
product_plain one other both is =
    ap₂ ◌||◌ (ap (list_any lists_two) is.starts ∙ starts_plain (pair_number is.pairs) (start_pairs one other))
    (states_plain one other is.pairs is.pairs both.defined is.defined)
