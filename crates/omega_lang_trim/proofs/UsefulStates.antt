-- The states with both flags are the useful ones.
use Rattle.std.proofs.Common.{◌≡◌, ℕ, Bool, false, IsTrue, List, [], ◌∷◌, ◌++◌, map, Contains, refl, sym, ap, subst, ◌∙◌, arith}
use Rattle.omega_hoa_acceptance.specs.Acceptance.{accepts}
use Rattle.omega_hoa_automaton.specs.Automaton.{Description, IsAutomaton}
use Rattle.omega_hoa_automaton.specs.Branching.{has_universal_branching}
use Rattle.omega_graph.specs.Graph.{listed, marked}
use Rattle.omega_graph.specs.Reaching.{TellReached}
use Rattle.omega_graph.specs.Walks.{IsEdgeWalk, MarkedGraph, marks_on}
use Rattle.omega_graph.proofs.ClosedWalking.{joined}
use Rattle.omega_graph_accepting_walk.specs.Rows.{row_at}
use Rattle.omega_lang_runs.specs.Lasso.{Leads, marks_at}
use Rattle.omega_lang_lasso_search.specs.Tabled.{AreUsableEdges}
use Rattle.omega_lang_lasso_search.proofs.Walks.{same_marks}
use Rattle.omega_lang_trim.specs.Useful.{AreUsefulStates, IsReached, StartsLasso}
use Rattle.omega_hoa_edges.specs.AutomatonLabels.{defined_numbers}
use Rattle.omega_lang_trim.specs.private.Placed.{HasBoth, HaveBoth, LeadsToLoop, LeadsToOne, LoopsAt, TellLive, flag_at, graph_of, place_of, reversed, rows_of, shape_of, sources_of}
use Rattle.omega_lang_trim.proofs.Among.{place_one}
use Rattle.omega_lang_trim.proofs.Traced.{LeadsOn, StartAt, begin_defined, source_of, start_of, walk_from, walk_to}
use Rattle.omega_lang_trim.proofs.Turned.{reversed_are, turned_back, walk_back}

module _ (a : Description) (automaton : IsAutomaton a) (plain : has_universal_branching a ≡ false) (numbers : List ℕ) (usable : AreUsableEdges a numbers) where
  abbrev marks : ℕ → List ℕ
  marks = row_at (rows_of a)

  abbrev back : MarkedGraph
  back = marked (reversed (shape_of a)) marks

  same_accepted : (cycle : List ℕ) → accepts (marks_on (graph_of a) cycle) a.acceptance ≡ accepts (map (marks_at a) cycle) a.acceptance
  same_accepted cycle = ap (λ (list : List (List ℕ)). accepts list a.acceptance) (same_marks a (shape_of a) (rows_of a) refl cycle)

  -- a state with the first flag is reached
  reached_from : (flags : List Bool) → TellReached (shape_of a) numbers (sources_of a) flags → (state : ℕ) → Contains (defined_numbers a) state
      → IsTrue (flag_at flags (place_of a state)) → IsReached a state
  reached_from flags tell state defined flag =
      let way = (tell marks (place_of a state)).0 flag in
      let start : StartAt a way.1.source = start_of a automaton plain way.1.source way.1.begins in
      let leads : IsEdgeWalk (graph_of a) (listed numbers) (place_of a start.state) way.0 (place_of a state) =
      subst (λ place. IsEdgeWalk (graph_of a) (listed numbers) place way.0 (place_of a state)) (sym start.at) way.1.leads in
      let path : LeadsOn a automaton plain numbers usable marks start.state way.0 (place_of a state) =
      walk_from a automaton plain numbers usable marks start.state way.0 (place_of a state) leads in
      let same : path.to ≡ state = place_one (defined_numbers a) state path.to defined path.at in
      record {
        start = start.state;
        begins = start.begins;
        path = way.0;
        leads = subst (λ to. Leads a start.state way.0 to) same path.leads;
      }

  reached_to : (flags : List Bool) → TellReached (shape_of a) numbers (sources_of a) flags → (state : ℕ) → IsReached a state
      → IsTrue (flag_at flags (place_of a state))
  reached_to flags tell state reached =
      (tell marks (place_of a state)).1 (
        reached.path,
        record {
          source = place_of a reached.start;
          begins = source_of a reached.start reached.begins;
          leads = walk_to a automaton plain numbers usable marks reached.start reached.path state reached.leads;
        },
      )

  -- an accepting lasso starts in one with the second
  live_from : (flags : List Bool) → TellLive a numbers flags → (state : ℕ) → IsTrue (flag_at flags (place_of a state)) → StartsLasso a state
  live_from flags live state flag =
      let way = (live.tell marks (place_of a state)).0 flag in
      let goal : ℕ = way.1.source in
      let ahead = walk_back back (graph_of a) (listed numbers) (turned_back (graph_of a) back (reversed_are (shape_of a) marks)) goal way.0 (place_of a state) way.1.leads in
      let on : LeadsToLoop (graph_of a) (listed numbers) a.acceptance goal = live.are.sound goal way.1.begins in
      let loops : LoopsAt (graph_of a) (listed numbers) a.acceptance on.loop_state = on.loops in
      let there : IsEdgeWalk (graph_of a) (listed numbers) (place_of a state) (ahead.0 ++ on.walk) on.loop_state =
      joined (graph_of a) (listed numbers) (place_of a state) ahead.0 goal on.walk on.loop_state ahead.1 on.leads in
      let stem : LeadsOn a automaton plain numbers usable marks state (ahead.0 ++ on.walk) on.loop_state =
      walk_from a automaton plain numbers usable marks state (ahead.0 ++ on.walk) on.loop_state there in
      let cycle : LeadsOn a automaton plain numbers usable marks stem.to loops.cycle on.loop_state =
      walk_from a automaton plain numbers usable marks stem.to loops.cycle on.loop_state
      (subst (λ place. IsEdgeWalk (graph_of a) (listed numbers) place loops.cycle on.loop_state) (sym stem.at) loops.leads) in
      let defined : Contains (defined_numbers a) stem.to = begin_defined a stem.to loops.cycle cycle.to loops.longer cycle.leads in
      let same : cycle.to ≡ stem.to = place_one (defined_numbers a) stem.to cycle.to defined (cycle.at ∙ sym stem.at) in
      record {
        stem = ahead.0 ++ on.walk;
        cycle = loops.cycle;
        loop_state = stem.to;
        stem_leads = stem.leads;
        cycle_leads = subst (λ to. Leads a stem.to loops.cycle to) same cycle.leads;
        longer = loops.longer;
        accepted = sym (same_accepted loops.cycle) ∙ loops.accepted;
      }

  live_to : (flags : List Bool) → TellLive a numbers flags → (state : ℕ) → StartsLasso a state → IsTrue (flag_at flags (place_of a state))
  live_to flags live state lasso =
      let around : LoopsAt (graph_of a) (listed numbers) a.acceptance (place_of a lasso.loop_state) = record {
        cycle = lasso.cycle;
        leads = walk_to a automaton plain numbers usable marks lasso.loop_state lasso.cycle lasso.loop_state lasso.cycle_leads;
        longer = lasso.longer;
        accepted = same_accepted lasso.cycle ∙ lasso.accepted;
      } in
      let goal : LeadsToOne (graph_of a) (listed numbers) (place_of a lasso.loop_state) live.goals = live.are.complete (place_of a lasso.loop_state) around in
      let ahead : IsEdgeWalk (graph_of a) (listed numbers) (place_of a state) (lasso.stem ++ goal.2.0) goal.0 =
      joined (graph_of a) (listed numbers) (place_of a state) lasso.stem (place_of a lasso.loop_state) goal.2.0 goal.0
      (walk_to a automaton plain numbers usable marks state lasso.stem lasso.loop_state lasso.stem_leads) goal.2.1 in
      let way = walk_back (graph_of a) back (listed numbers) (reversed_are (shape_of a) marks) (place_of a state) (lasso.stem ++ goal.2.0) goal.0 ahead in
      (live.tell marks (place_of a state)).1 (way.0, record { source = goal.0; begins = goal.1; leads = way.1 })

  -- a state in which a lasso starts is defined
  lasso_defined : (state : ℕ) → StartsLasso a state → Contains (defined_numbers a) state
  lasso_defined state lasso = go lasso.stem lasso.stem_leads
    where
      go : (stem : List ℕ) → Leads a state stem lasso.loop_state → Contains (defined_numbers a) state
      go [] leads = subst (Contains (defined_numbers a)) (sym leads) (begin_defined a lasso.loop_state lasso.cycle lasso.loop_state lasso.longer lasso.cycle_leads)
      go (number ∷ stem) leads = begin_defined a state (number ∷ stem) lasso.loop_state (omega arith) leads

  pub both_useful : (reached live : List Bool) (states : List ℕ) → TellReached (shape_of a) numbers (sources_of a) reached → TellLive a numbers live
      → HaveBoth a reached live states → AreUsefulStates a states
  both_useful reached live states tell lives have = record {
    rising = have.rising;
    useful = λ state. (
      λ has.
          let both : HasBoth a reached live state = (have.flags state).0 has in
          record {
            reached = reached_from reached tell state both.defined both.is_reached;
            lasso = live_from live lives state both.is_live;
          },
      λ useful. (have.flags state).1 (record {
        defined = lasso_defined state useful.lasso;
        is_reached = reached_to reached tell state useful.reached;
        is_live = live_to live lives state useful.lasso;
      }),
    );
  }
