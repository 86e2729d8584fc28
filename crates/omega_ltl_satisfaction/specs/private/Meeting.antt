-- An automaton that is met with those of conjuncts.
use Rattle.std.specs.Prelude.{◌≡◌, ℕ, List, Contains, get_or, map}
use Rattle.omega_hoa_automaton.specs.Automaton.{Description}
use Rattle.omega_lang_intersection.specs.Intersection.{IsExample}
use Rattle.omega_lang_intersection.specs.declared.answer.Example.{Example}
use Rattle.omega_lang_intersection.specs.declared.answer.Intersection.{Intersection}
use Rattle.omega_lang_intersection.specs.declared.answer.Intersection.TheVariants.{Common, Empty}
use Rattle.omega_lang_lasso_word.specs.Laws.{HasStrings}
use Rattle.omega_lang_product.specs.PairGraph.{IsPairGraph}
use Rattle.omega_lang_product.specs.declared.graph.PairGraph.{PairGraph}
use Rattle.omega_lang_word_laws.specs.NamedWords.{AcceptsNamed}
use Rattle.omega_ltl_formula.specs.Table.{FormulaTable, NumberedFormula, tree_at}
use Rattle.omega_ltl_translation.specs.Translation.{IsGeneralizedBuchi, IsTranslation}
use Rattle.omega_text.specs.NamedWords.{NamedWord}
use Rattle.omega_text.specs.Omniscience.{LimitedPrincipleOfOmniscience}
use Rattle.omega_ltl_satisfaction.specs.Satisfaction.{IsOverStrings}
use Rattle.omega_ltl_satisfaction.specs.declared.conjunct.Conjunct.{Conjunct}
use Rattle.omega_ltl_satisfaction.specs.private.Conjuncts.{AreMet, conjunct_over}

-- an automaton is that of a conjunct, over names of its table
pub record IsAutomatonOf (table : FormulaTable) (conjunct : Conjunct) (a : Description) : Type 0 where
  pub translates : IsTranslation (conjunct_over (tree_at table) conjunct) a
  pub buchi : IsGeneralizedBuchi a
  pub names : (name : List ℕ) → Contains a.propositions name → Contains table.names name

-- an automaton accepts a word over names, which satisfies each of some conjuncts
pub record IsMet (one : Description) (table : FormulaTable) (conjuncts : List Conjunct) (word : NamedWord)
    : Type 0 where
  pub accepted : AcceptsNamed one word
  pub met : AreMet (tree_at table) conjuncts word

-- an answer is right: `Empty` only if, by the limited principle of omniscience, an automaton accepts no word that
-- satisfies each of some conjuncts; any other answer is an example of such words
abbrev pub IsMeeting : Description → NumberedFormula → List Conjunct → Intersection → Type 0
IsMeeting one formula conjuncts Empty =
    LimitedPrincipleOfOmniscience → (word : NamedWord) → ¬ IsMet one formula.table conjuncts word
IsMeeting one formula conjuncts (Common example) =
    IsExample one (HasStrings one × IsOverStrings formula) (IsMet one formula.table conjuncts) example

-- the numbers at these places, 0 past the last
abbrev pub firsts_along : List ℕ → List ℕ → List ℕ
firsts_along firsts numbers = map (λ number. get_or firsts number 0) numbers

-- an example with these numbers in place of those of its lasso
abbrev pub example_of_firsts : List ℕ → Example → Example
example_of_firsts firsts example = record {
  word = example.word;
  stem = firsts_along firsts example.stem;
  cycle = firsts_along firsts example.cycle;
}

-- an example of a product has become one with the lasso of the first automaton
pub record IsFirstExample (one other : Description) (example first : Example) : Type 0 where
  pub graph : PairGraph
  pub graph_is : IsPairGraph one other graph
  pub is : first ≡ example_of_firsts graph.edges.firsts.items example

-- so has an answer, if it has an example
abbrev pub IsFirstAnswer : (one other : Description) → (answer first : Intersection) → Type 0
IsFirstAnswer one other Empty Empty = Unit {0}
IsFirstAnswer one other Empty (Common first) = ⊥
IsFirstAnswer one other (Common example) Empty = ⊥
IsFirstAnswer one other (Common example) (Common first) = IsFirstExample one other example first
