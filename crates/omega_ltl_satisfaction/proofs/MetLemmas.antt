-- What an automaton that is met with that of a conjunct accepts, and a lasso of the product as one of the first
-- automaton.
use Rattle.std.proofs.Common.{◌≡◌, ◌↔◌, ℕ, false, ◌||◌, List, [], ◌∷◌, get_or, sym, ap₂, subst}
use Rattle.std.specs.List.{AllByRecursion}
use Rattle.std.proofs.lemmas.List.Elements.{All-contains, All-from_recursion, Contains-get_or}
use Rattle.std.proofs.lemmas.List.Elements.{recursion_from_All}
use Rattle.omega_text.specs.NamedWords.{NamedWord}
use Rattle.omega_text.specs.hoa.Forms.{IsQuotable}
use Rattle.omega_hoa_automaton.specs.Automaton.{Description, IsAutomaton}
use Rattle.omega_hoa_automaton.specs.Branching.{has_universal_branching}
use Rattle.omega_lang_runs.specs.Lasso.{IsAcceptingLasso}
use Rattle.omega_lang_lasso_word.specs.Fitting.{Fits}
use Rattle.omega_lang_lasso_word.specs.Laws.{HasStrings}
use Rattle.omega_lang_lasso_word.specs.LassoWordText.{lasso_word_text}
use Rattle.omega_lang_lasso_word.specs.WordText.{word_text}
use Rattle.omega_lang_lasso_word.specs.declared.lasso_word.LassoWord.{LassoWord}
use Rattle.omega_lang_lasso_word.proofs.Fitted.{words_fit_where_edges_can_be_taken}
use Rattle.omega_lang_product.specs.PairGraph.{IsPairGraph}
use Rattle.omega_lang_product.specs.Product.{IsProduct}
use Rattle.omega_lang_product.specs.declared.graph.PairGraph.{PairGraph}
use Rattle.omega_lang_word_laws.specs.Graphs.{IsGraphOf}
use Rattle.omega_lang_word_laws.specs.NamedWords.{AcceptsNamed}
use Rattle.omega_lang_word_laws.proofs.meeting.Graphs.{graphs_of_products}
use Rattle.omega_lang_word_laws.proofs.meeting.Meeting.{products_meet}
use Rattle.omega_lang_word_laws.proofs.meeting.One.{products_one}
use Rattle.omega_lang_word_laws.proofs.naming.Parted.{products_meet_named}
use Rattle.omega_lang_intersection.specs.Intersection.{AcceptBoth, GoesAlong, HaveStrings, IsExample}
use Rattle.omega_lang_intersection.specs.Intersection.{IsIntersection}
use Rattle.omega_lang_intersection.specs.declared.answer.Example.{Example}
use Rattle.omega_lang_intersection.specs.declared.answer.Intersection.{Intersection}
use Rattle.omega_lang_intersection.specs.declared.answer.Intersection.TheVariants.{Common, Empty}
use Rattle.omega_lang_intersection.specs.private.Letters.{joint_word}
use Rattle.omega_lang_intersection.specs.private.Meeting.{HavePairGraph}
use Rattle.omega_lang_intersection.proofs.Answering.{example_right}
use Rattle.omega_lang_intersection.proofs.Lettering.{word_alike}
use Rattle.omega_lang_intersection.proofs.Strings.{all_both, all_filtered}
use Rattle.omega_ltl_formula.specs.Table.{NumberedFormula}
use Rattle.omega_ltl_satisfaction.specs.Satisfaction.{IsOverStrings}
use Rattle.omega_ltl_satisfaction.specs.declared.conjunct.Conjunct.{Conjunct}
use Rattle.omega_ltl_satisfaction.specs.private.Meeting.{IsAutomatonOf, IsFirstAnswer, IsFirstExample}
use Rattle.omega_ltl_satisfaction.specs.private.Meeting.{IsMeeting, IsMet, example_of_firsts, firsts_along}

-- the names of the automaton of a conjunct are strings where those of its formula are
part_strings : (formula : NumberedFormula) (c : Conjunct) (part : Description) → IsAutomatonOf formula.table c part → IsOverStrings formula → HasStrings part
part_strings formula c part is strings =
    recursion_from_All IsQuotable part.propositions (λ k d below.
    All-contains IsQuotable formula.table.names (get_or part.propositions k d) (All-from_recursion IsQuotable formula.table.names strings)
    (is.names (get_or part.propositions k d) (Contains-get_or part.propositions k d below)))

module _ (formula : NumberedFormula) (one part : Description) (c : Conjunct) (is : IsAutomatonOf formula.table c part) where
  -- the one conjunct
  one_met : (word : NamedWord) → AcceptBoth one part word → IsMet one formula.table (c ∷ []) word
  one_met word common = record { accepted = common.first; met = (is.translates.sound word common.second, tt) }

  pub last_met : (answer : Intersection) → IsIntersection one part answer → IsMeeting one formula (c ∷ []) answer
  last_met Empty none = λ omniscience word met.
      none word (record { first = met.accepted; second = is.translates.complete omniscience word met.met.0 })
  last_met (Common example) common = record {
    word = common.word;
    wanted = one_met common.word common.wanted;
    fits = λ names. common.fits (names.0, part_strings formula c part is names.1);
    all_wanted = λ names word fits. one_met word (common.all_wanted (names.0, part_strings formula c part is names.1) word fits);
    lasso = common.lasso;
    goes_along = λ names word fits. common.goes_along (names.0, part_strings formula c part is names.1) word fits;
  }

  -- the product, and others
  module _ (is_one : IsAutomaton one) (is_part : IsAutomaton part) (plain : has_universal_branching one ≡ false) (rest : List Conjunct) where
    meets : (both : Description) → IsProduct one part both → (word : NamedWord) → AcceptsNamed both word ↔ (AcceptsNamed one word × AcceptsNamed part word)
    meets both product word = products_meet_named products_meet one part both is_one is_part plain is.buchi.plain product word

    more_met : (both : Description) → IsProduct one part both → (word : NamedWord) → IsMet both formula.table rest word → IsMet one formula.table (c ∷ rest) word
    more_met both product word met =
        let parts = (meets both product word).0 met.accepted in
        record { accepted = parts.0; met = (is.translates.sound word parts.1, met.met) }

    none_met : (both : Description) → IsProduct one part both → IsMeeting both formula rest Empty → IsMeeting one formula (c ∷ rest) Empty
    none_met both product none = λ omniscience word met.
        none omniscience word (record {
          accepted = (meets both product word).1 (met.accepted, is.translates.complete omniscience word met.met.0);
          met = met.met.1;
        })

    -- by the graph of the product
    module _ (graph : PairGraph) (graph_is : IsPairGraph one part graph) (both : Description) (of : IsGraphOf one part graph graph_is both) where
      abbrev k : HavePairGraph one part graph
      k = record { is_one = is_one; is_other = is_part; unbranched = ap₂ ◌||◌ plain is.buchi.plain; graph_is = graph_is }

      strings : HasStrings one × IsOverStrings formula → HasStrings both × IsOverStrings formula
      strings names =
          let P : List (List ℕ) → Type 0 = λ names. AllByRecursion IsQuotable names in (
            subst P (sym of.product.propositions)
                (all_both IsQuotable one.propositions _ names.0 (all_filtered IsQuotable _ part.propositions (part_strings formula c part is names.1))),
            names.1,
          )

      abbrev firsts : List ℕ → List ℕ
      firsts numbers = firsts_along graph.edges.firsts.items numbers

      abbrev words : List ℕ → List ℕ → LassoWord
      words stem cycle = joint_word one part graph stem cycle

      written : (stem cycle : List ℕ) → IsAcceptingLasso both stem cycle → lasso_word_text (words stem cycle) ≡ word_text both stem cycle
      written stem cycle lasso = word_alike one part graph graph_is both of stem cycle lasso

      -- a lasso of the product takes one of the first automaton
      taken : (stem cycle : List ℕ) → IsAcceptingLasso both stem cycle
          → IsExample one (HaveStrings one part) (AcceptBoth one part) (record { word = words stem cycle; stem = firsts stem; cycle = firsts cycle })
      taken stem cycle lasso = example_right one part graph k both of stem cycle lasso (words stem cycle) (written stem cycle lasso)

      fitting : HasStrings both → (stem cycle : List ℕ) (word : NamedWord) → IsAcceptingLasso both stem cycle → GoesAlong both stem cycle word
          → Fits (word_text both stem cycle) word
      fitting strings stem [] word lasso goes = absurd goes
      fitting strings stem (first ∷ others) word lasso goes = (words_fit_where_edges_can_be_taken both stem first others word strings lasso).1 goes

      first_goes : HasStrings one × IsOverStrings formula → (stem cycle : List ℕ) (word : NamedWord) → IsAcceptingLasso both stem cycle → GoesAlong both stem cycle word
          → GoesAlong one (firsts stem) (firsts cycle) word
      first_goes names stem cycle word lasso goes =
          (taken stem cycle lasso).goes_along (names.0, part_strings formula c part is names.1) word
          (subst (λ (text : List ℕ). Fits text word) (sym (written stem cycle lasso)) (fitting (strings names).0 stem cycle word lasso goes))

      first_met : (example : Example) → IsMeeting both formula rest (Common example)
          → IsMeeting one formula (c ∷ rest) (Common (example_of_firsts graph.edges.firsts.items example))
      first_met example met = record {
        word = met.word;
        wanted = more_met both of.product met.word met.wanted;
        fits = λ names. met.fits (strings names);
        all_wanted = λ names word fits. more_met both of.product word (met.all_wanted (strings names) word fits);
        lasso = (taken example.stem example.cycle met.lasso).lasso;
        goes_along = λ names word fits. first_goes names example.stem example.cycle word met.lasso (met.goes_along (strings names) word fits);
      }

    -- the graph is that of the product
    some_met : (both : Description) → IsProduct one part both → (example first : Example) → IsFirstExample one part example first
        → IsMeeting both formula rest (Common example) → IsMeeting one formula (c ∷ rest) (Common first)
    some_met both product example first step met =
        let made = graphs_of_products one part step.graph step.graph_is in
        let same : both ≡ made.0 = products_one one part both made.0 product made.1.product in
        subst (λ (e : Example). IsMeeting one formula (c ∷ rest) (Common e)) (sym step.is)
        (first_met step.graph step.graph_is made.0 made.1 example (subst (λ (d : Description). IsMeeting d formula rest (Common example)) same met))

    pub next_met : (both : Description) → IsProduct one part both → (answer first : Intersection) → IsFirstAnswer one part answer first
        → IsMeeting both formula rest answer → IsMeeting one formula (c ∷ rest) first
    next_met both product Empty Empty step met = none_met both product met
    next_met both product Empty (Common first) step met = absurd step
    next_met both product (Common example) Empty step met = absurd step
    next_met both product (Common example) (Common first) step met = some_met both product example first step met
