-- The product of a specification with the complement of a counter-strategy: its ways out, and what a search of it
-- shows.
use Rattle.std.specs.Prelude.{◌≡◌, ℕ, Bool, false, List, get_or, map, Option, None, Some}
use Rattle.omega_hoa_automaton.specs.Automaton.{BodyEdge, Description, IsAutomaton, edge_at}
use Rattle.omega_hoa_automaton.specs.Branching.{has_universal_branching}
use Rattle.omega_lang_complement.specs.Complement.{HasComplement, IsComplement}
use Rattle.omega_lang_product.specs.declared.graph.PairGraph.{PairGraph}
use Rattle.omega_synth_check.specs.CounterJudging.{FollowsAll, IsLetterless}
use Rattle.omega_synth_check.specs.WaysOut.{is_way_out}
use Rattle.omega_synth_check.specs.declared.counter_judgement.LetterlessPair.{LetterlessPair}

-- the state that an edge leaves, 0 without an edge
abbrev pub source_in : Option BodyEdge → ℕ
source_in None = 0
source_in (Some edge) = edge.source.number

-- the state that the edge with a number leaves
abbrev pub source_of : Description → ℕ → ℕ
source_of a number = source_in (edge_at a number)

-- the flags say of each edge of the graph whether it takes an edge of the complement that is a way out
abbrev pub AreWaysOut : (complement : Description) → (sink : ℕ) → PairGraph → List Bool → Type 0
AreWaysOut complement sink graph flags =
    flags ≡ map (is_way_out complement sink) graph.edges.seconds.items

-- a specification without branches, a strategy, and its complement
pub record IsBeside (specification strategy complement : Description) : Type 0 where
  pub is_specification : IsAutomaton specification
  pub specified : has_universal_branching specification ≡ false
  pub is_strategy : IsAutomaton strategy
  pub given : HasComplement strategy
  pub complemented : IsComplement strategy complement
  pub is_complement : IsAutomaton complement

-- a pair without a letter was found, or the strategy goes on at all answers
abbrev pub IsLetterlessFound : (specification strategy : Description)
    → (controlled : List (List ℕ)) → Option LetterlessPair → Type 0
IsLetterlessFound specification strategy controlled None =
    FollowsAll specification strategy controlled
IsLetterlessFound specification strategy controlled (Some pair) =
    IsLetterless specification strategy controlled pair

-- the pair in which an edge of the product leaves, with the edges of the specification that the stem takes
abbrev pub pair_of : (specification complement : Description) → PairGraph → (number : ℕ)
    → (stem : List ℕ) → LetterlessPair
pair_of specification complement graph number stem = record {
  state = source_of complement (get_or graph.edges.seconds.items number 0);
  against = source_of specification (get_or graph.edges.firsts.items number 0);
  stem = map (λ edge. get_or graph.edges.firsts.items edge 0) stem;
}
