-- What a search of the product for a state without a letter shows of the specification and the strategy.
use Rattle.std.proofs.Common.{◌≡◌, ℕ, ◌<◌, inl, inr, Bool, false, List, length, get_or, map, Option, None, Some, sym, ap, subst, ◌∙◌, arith}
use Rattle.std.proofs.lemmas.List.{get_or-map, length-map}
use Rattle.std.proofs.lemmas.Option.{slice_get_within}
use Rattle.omega_hoa_automaton.specs.Automaton.{BodyEdge, Description, IsAutomaton, edge_at}
use Rattle.omega_hoa_automaton.specs.Branching.{has_universal_branching}
use Rattle.omega_lang_product.specs.JointEdges.{Joint}
use Rattle.omega_lang_product.specs.PairGraph.{IsPairGraph, joints_of}
use Rattle.omega_lang_product.specs.Pairs.{Pair}
use Rattle.omega_lang_product.specs.Product.{IsProduct}
use Rattle.omega_lang_product.specs.Refusing.{HaveNoBranch}
use Rattle.omega_lang_product.specs.declared.graph.PairGraph.{PairGraph}
use Rattle.omega_lang_runs.specs.Lasso.{IsStep, Leads}
use Rattle.omega_lang_runs.proofs.SingleTargets.{EntersOne, enters_one}
use Rattle.omega_lang_word_laws.specs.Graphs.{IsGraphOf}
use Rattle.omega_lang_word_laws.proofs.meeting.Graphs.{graphs_of_products}
use Rattle.omega_lang_word_laws.proofs.meeting.One.{products_one}
use Rattle.omega_lang_word_laws.proofs.parting.Plain.{or_parts}
use Rattle.omega_lang_intersection.proofs.Made.{IsMade, left_by, made}
use Rattle.omega_lang_intersection.proofs.Paths.{firsts_lead, starts_lead, state}
use Rattle.omega_lang_intersection.proofs.Standing.{Row, all_usable, product_named, row, searchable}
use Rattle.omega_lang_intersection.specs.private.Named.{IsNamed}
use Rattle.omega_synth_check.specs.CounterJudging.{ComeTo, FollowsAll, HasLetter, IsLetterless}
use Rattle.omega_synth_check.specs.CounterRefusing.{system_numbers}
use Rattle.omega_synth_check.specs.Judging.{IsReached}
use Rattle.omega_synth_check.specs.declared.counter_judgement.LetterlessPair.{LetterlessPair}
use Rattle.omega_synth_check.specs.declared.without_letter.StateWithoutLetter.{StateWithoutLetter}
use Rattle.omega_synth_check.specs.private.Letterless.{AreWaysOut, IsBeside, pair_of, source_in, source_of}
use Rattle.omega_synth_check.specs.WaysOut.{HasLetterIn, HasWayOut, IsStateFound, flag, is_way_out}
use Rattle.omega_synth_check.proofs.Coming.{IsKnown, IsMetPair, come_met, reached_known}
use Rattle.omega_synth_check.proofs.Joint.{IsSplit, split, tells}
use Rattle.omega_synth_check.proofs.PairLetters.{has_letter, no_letter, out_way}

module _ (one own rest both : Description) (graph : PairGraph) (beside : IsBeside one own rest) (unbranched : HaveNoBranch one rest)
    (product : IsProduct one rest both) (is_both : IsAutomaton both) (is : IsPairGraph one rest graph) where
  -- the graph is that of the product
  made_of : (a : Description) × IsGraphOf one rest graph is a
  made_of = graphs_of_products one rest graph is

  of : IsGraphOf one rest graph is both
  of = subst (IsGraphOf one rest graph is) (products_one one rest made_of.0 both made_of.1.product product) made_of.1

  plain' : has_universal_branching rest ≡ false
  plain' = (or_parts (has_universal_branching one) (has_universal_branching rest) unbranched).1

  pub plain_both : has_universal_branching both ≡ false
  plain_both = searchable one rest graph is both of

  named : IsNamed both
  named = product_named one rest graph is both of beside.is_specification beside.is_complement

  module _ (controlled : List (List ℕ)) (flags : List Bool) (are : AreWaysOut rest own.states graph flags) where
    abbrev system : List ℕ
    system = system_numbers both.propositions controlled

    abbrev out : ℕ → Bool
    out = flag flags

    out_is : (number : ℕ) (edge : BodyEdge) → edge_at both number ≡ Some edge → out number ≡ is_way_out rest own.states (get_or graph.edges.seconds.items number 0)
    out_is number edge at =
        let r : Row one rest graph is both of number edge = row one rest graph is both of number edge at in
        let joints : List Joint = joints_of one rest is.pairs in
        let low : number < length joints = slice_get_within joints number r.joint r.at in
        let long : length graph.edges.seconds.items ≡ length joints = ap length is.edges.seconds ∙ length-map joints (λ (j : Joint). j.second.number) in
        ap (λ (fs : List Bool). flag fs number) are
        ∙ get_or-map (is_way_out rest own.states) graph.edges.seconds.items number 0 false (omega (arith, low, long))

    -- a letter in each state that is reached
    pub follows_all : ((p : ℕ) → IsReached both p → HasLetterIn both system out p) → FollowsAll one own controlled
    follows_all each s t come =
        let met : IsMetPair one own rest both graph beside.is_specification beside.specified beside.is_strategy beside.given.deterministic
        beside.complemented beside.is_complement plain' is_both is of s t =
        come_met one own rest both graph beside.is_specification beside.specified beside.is_strategy beside.given.deterministic
        beside.complemented beside.is_complement plain' is_both is of s t come in
        has_letter one own rest both graph beside.is_specification beside.specified beside.is_strategy beside.given.deterministic
        beside.complemented beside.is_complement plain' is_both is of plain_both controlled out out_is s t met.within met.below
        (each _ met.reached)

    -- or a state without one
    module _ (found : StateWithoutLetter) (is_found : IsStateFound both both system out (Some found)) where
      abbrev number : ℕ
      number = found.number

      abbrev edge : BodyEdge
      edge = is_found.0.way.leaves.edge

      at : edge_at both number ≡ Some edge
      at = is_found.0.way.leaves.numbered

      known : IsKnown one own rest both graph beside.is_specification beside.specified beside.is_strategy beside.given.deterministic
          beside.complemented beside.is_complement plain' is_both is of found.state
      known = reached_known one own rest both graph beside.is_specification beside.specified beside.is_strategy beside.given.deterministic
          beside.complemented beside.is_complement plain' is_both is of found.state
          (record { start = is_found.1.0; begins = is_found.1.1; numbers = found.stem; leads = is_found.1.2 })

      cut : IsSplit one rest both graph beside.is_specification beside.is_complement beside.specified plain' is of number edge
      cut = split one rest both graph beside.is_specification beside.is_complement beside.specified plain' is of number edge at

      same : known.pair ≡ cut.pair
      same = tells one rest both graph beside.is_specification beside.is_complement beside.specified plain' is of known.pair cut.pair known.within
          (sym known.here ∙ sym is_found.0.way.leaves.leaves ∙ cut.here)

      apart : known.pair.1 ≡ own.states → ⊥
      apart e =
          (out_way one own rest both graph beside.is_specification beside.specified beside.is_strategy beside.given.deterministic
          beside.complemented beside.is_complement plain' is_both is of plain_both controlled out out_is number edge at cut is_found.0.way.is_out).1
          (sym (ap (λ (q : Pair). q.1) same) ∙ e)

      comes : ComeTo one own known.pair.0 known.pair.1 × (known.pair.1 < own.states)
      comes = elim known.comes [
        | inl come ↦ come
        | inr sink ↦ absurd (apart sink)
      ]

      against_is : source_of one (get_or graph.edges.firsts.items number 0) ≡ known.pair.0
      against_is = cut.first_left ∙ sym (ap (λ (q : Pair). q.0) same)

      state_is : source_of rest (get_or graph.edges.seconds.items number 0) ≡ known.pair.1
      state_is = cut.second_left ∙ sym (ap (λ (q : Pair). q.1) same)

      target : EntersOne both.states edge
      target = enters_one both is_both plain_both number edge at

      step : IsStep both found.state number target.target
      step = record {
        edge = edge;
        numbered = at;
        usable = all_usable one rest graph is both of number edge at;
        leaves = is_found.0.way.leaves.leaves;
        enters = target.enters;
      }

      r : Row one rest graph is both of number edge
      r = row one rest graph is both of number edge at

      abbrev Made : Type 0
      Made = IsMade one rest beside.is_specification beside.is_complement beside.specified plain' graph is both of named number edge r

      m : Made
      m = made one rest beside.is_specification beside.is_complement beside.specified plain' graph is both of named number edge r

      abbrev state_in : ℕ → ℕ
      state_in = state one rest beside.is_specification beside.is_complement beside.specified plain' graph is both of named

      left_is : state_in number ≡ source_of one (get_or graph.edges.firsts.items number 0)
      left_is = ap (left_by one rest beside.is_specification beside.is_complement beside.specified plain' graph is both of named) m.listed.at ∙ sym (ap source_in m.listed.at)

      pub letterless_is : IsLetterless one own controlled (pair_of one rest graph number found.stem)
      letterless_is = record {
        come = subst (ComeTo one own (source_of one (get_or graph.edges.firsts.items number 0))) (sym state_is)
            (subst (λ (s : ℕ). ComeTo one own s known.pair.1) (sym against_is) comes.0);
        start = state_in (get_or found.stem 0 number);
        begins = starts_lead one rest beside.is_specification beside.is_complement beside.specified plain' graph is both of named
            is_found.1.0 found.stem found.state number target.target is_found.1.1 is_found.1.2 step;
        leads = subst (λ (to : ℕ). Leads one (state_in (get_or found.stem 0 number)) (map (λ k. get_or graph.edges.firsts.items k 0) found.stem) to) left_is
            (firsts_lead one rest beside.is_specification beside.is_complement beside.specified plain' graph is both of named
            is_found.1.0 found.stem found.state number target.target is_found.1.2 step);
        none = λ has.
            no_letter one own rest both graph beside.is_specification beside.specified beside.is_strategy beside.given.deterministic
            beside.complemented beside.is_complement plain' is_both is of plain_both controlled out out_is known.pair.0 known.pair.1 known.within comes.1
            (λ given. subst (λ (p : ℕ). HasWayOut both system out p given) known.here (is_found.0.each given))
            (subst (HasLetter one own controlled known.pair.0) state_is
            (subst (λ (s : ℕ). HasLetter one own controlled s (source_of rest (get_or graph.edges.seconds.items number 0))) against_is has));
      }

  -- so a search of the product shows, whatever stands for its numbers of propositions and its flags
  module _ (controlled : List (List ℕ)) (flags : List Bool) (are : AreWaysOut rest own.states graph flags) (numbers : List ℕ) (marked : List Bool)
      (numbers_are : numbers ≡ system_numbers both.propositions controlled) (marked_are : marked ≡ flags) (found : Option StateWithoutLetter)
      (is_found : IsStateFound both both numbers (flag marked) found) where
    shown : IsStateFound both both (system_numbers both.propositions controlled) (flag flags) found
    shown = subst (λ (fs : List Bool). IsStateFound both both (system_numbers both.propositions controlled) (flag fs) found) marked_are
        (subst (λ (ns : List ℕ). IsStateFound both both ns (flag marked) found) numbers_are is_found)

    pub none_shown : found ≡ None → FollowsAll one own controlled
    none_shown none =
        follows_all controlled flags are (subst (IsStateFound both both (system_numbers both.propositions controlled) (flag flags)) none shown)

    pub pair_shown : (state : StateWithoutLetter) → found ≡ Some state → (pair : LetterlessPair) → pair ≡ pair_of one rest graph state.number state.stem
        → IsLetterless one own controlled pair
    pair_shown state some pair is_pair =
        subst (IsLetterless one own controlled) (sym is_pair)
        (letterless_is controlled flags are state (subst (IsStateFound both both (system_numbers both.propositions controlled) (flag flags)) some shown))
