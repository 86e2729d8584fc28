-- The refusals of a product and of its graph: `UniversalBranch`, or `TooManyPropositions` if it is undecided whether
-- two labels can hold together, or `TooLarge` if a limit would be passed, or want of memory. A graph has no labels, and
-- no text is made of it: limits of these refuse the product alone.
use Rattle.std.specs.Prelude.{◌≡◌, ◌<◌, ◌⊎◌, ◌+◌, ◌||◌, true, false, List}
use Rattle.std.specs.Prelude.{length, Contains, Some, sum_by}
use Rattle.omega_text.specs.Cases.{never, or_memory, or_task}
use Rattle.omega_text.specs.Limits.{most_number}
use Rattle.omega_text.specs.declared.refusal.Refusal.{Refusal}
use Rattle.omega_text.specs.declared.refusal.automaton.AutomatonFault.{AutomatonFault}
use Rattle.omega_text.specs.declared.refusal.task.TaskFault.{TaskFault}
use Rattle.omega_text.specs.declared.refusal.task.TaskFault.TheVariants.{TooLarge, TooManyPropositions}
use Rattle.omega_text.specs.declared.refusal.task.TaskFault.TheVariants.{UniversalBranch}
use Rattle.omega_hoa_expression.specs.Limits.{most_depth}
use Rattle.omega_hoa_acceptance.specs.Acceptance.{acc_depth}
use Rattle.omega_hoa_acceptance.specs.Writing.{acc_written}
use Rattle.omega_hoa_acceptance.specs.Raw.{raw_acc_depth}
use Rattle.omega_hoa_label.specs.Label.{conjunction}
use Rattle.omega_hoa_label.specs.Raw.{raw_depth}
use Rattle.omega_hoa_label.specs.Writing.{label_written}
use Rattle.omega_hoa_edges.specs.Conjuncts.{joined}
use Rattle.omega_hoa_satisfiable.specs.Undecided.{IsHardLabel}
use Rattle.omega_hoa_label.specs.Shape.{FitsALabel}
use Rattle.omega_hoa_automaton.specs.Automaton.{Description, has_repeat}
use Rattle.omega_hoa_automaton.specs.Branching.{has_universal_branching}
use Rattle.omega_hoa_automaton.specs.Faults.{automaton_fault_of}
use Rattle.omega_hoa_automaton.specs.Limits.{most_propositions}
use Rattle.omega_lang_product.specs.Acceptance.{conjoined_acceptance}
use Rattle.omega_lang_product.specs.Joining.{joined_names}
use Rattle.omega_lang_product.specs.Limits.{most_joint_sets}
use Rattle.omega_lang_product.specs.Pairs.{Pair, can_meet, first_leaving, same_pair}
use Rattle.omega_lang_product.specs.Pairs.{second_leaving, start_pairs, targets_of}
use Rattle.omega_lang_product.specs.Written.{IsWrittenProduct}
use Rattle.omega_lang_product.specs.declared.plain_edge.PlainEdge.{PlainEdge}
use Rattle.omega_hoa_syntax.specs.declared.raw_automaton.RawAutomaton.{RawAutomaton}
use Rattle.omega_hoa_edges.specs.Limits.{most_edges, most_states}

-- there is no universal branching: each start and each edge of both lists one state
abbrev pub HaveNoBranch : Description → Description → Type 0
HaveNoBranch one other = (has_universal_branching one || has_universal_branching other) ≡ false

-- a reachable pair: a pair of starts, or one that two edges lead to from a reachable pair, which can be taken together
pub data IsReachable (one other : Description) : Pair → Type 0 where
  start : (pair : Pair) → Contains (start_pairs one other) pair → IsReachable one other pair
  step : (from to : Pair) → IsReachable one other from → Contains (targets_of one other from) to
      → IsReachable one other to

-- different pairs, each reachable
pub record AreReachable (one other : Description) (pairs : List Pair) : Type 0 where
  pub apart : has_repeat same_pair pairs ≡ false
  pub each : (pair : Pair) → Contains pairs pair → IsReachable one other pair

-- an edge of the first and one of the second, which leave the two states of a reachable pair
pub record AreMet (one other : Description) (plain_edge partner : PlainEdge) : Type 0 where
  pub pair : Pair
  pub reachable : IsReachable one other pair
  pub first : Contains (first_leaving one other pair) plain_edge
  pub second : Contains (second_leaving one other pair) partner

-- it may be left undecided whether two such edges can be taken together
pub record HasUndecidedMeeting (one other : Description) : Type 0 where
  pub plain_edge : PlainEdge
  pub partner : PlainEdge
  pub met : AreMet one other plain_edge partner
  pub hard : IsHardLabel (conjunction plain_edge.label partner.label)

-- the labels of two such edges are together too deep or too large to be judged
pub record HasUnfitMeeting (one other : Description) : Type 0 where
  pub plain_edge : PlainEdge
  pub partner : PlainEdge
  pub met : AreMet one other plain_edge partner
  pub unfit : FitsALabel (conjunction plain_edge.label partner.label) → ⊥

-- two edges can be taken together, and their joint label, as it is written, is too deep
pub record AreDeepTogether (plain_edge partner : PlainEdge) : Type 0 where
  pub meet : can_meet plain_edge partner ≡ true
  pub deep : most_depth < raw_depth (label_written (joined plain_edge.label partner.label))

-- two such edges can be taken together, and their joint label is too deep
pub record HasDeepMeeting (one other : Description) : Type 0 where
  pub plain_edge : PlainEdge
  pub partner : PlainEdge
  pub met : AreMet one other plain_edge partner
  pub deep : AreDeepTogether plain_edge partner

-- some edge, as a product sees it, has a label that is too deep or too large
pub record HasUnfitEdge (plain_edges : List PlainEdge) : Type 0 where
  pub plain_edge : PlainEdge
  pub listed : Contains plain_edges plain_edge
  pub unfit : FitsALabel plain_edge.label → ⊥

-- an edge that leaves a state of a pair has such a label
abbrev pub HasUnfitAt : Description → Description → Pair → Type 0
HasUnfitAt one other pair =
    HasUnfitEdge (first_leaving one other pair) ⊎ HasUnfitEdge (second_leaving one other pair)

-- an edge that leaves a state of a reachable pair has such a label
pub record HasUnfitLabel (one other : Description) : Type 0 where
  pub pair : Pair
  pub reachable : IsReachable one other pair
  pub edge : HasUnfitAt one other pair

-- more pairs are reachable than a product may have states
pub record HasManyPairs (one other : Description) : Type 0 where
  pub pairs : List Pair
  pub reachable : AreReachable one other pairs
  pub many : most_states < length pairs

-- more edges leave reachable pairs than a product may have
pub record HasManyEdges (one other : Description) : Type 0 where
  pub pairs : List Pair
  pub reachable : AreReachable one other pairs
  pub many : most_edges < sum_by (λ pair. length (targets_of one other pair)) pairs

-- the product, as it is written, breaks a limit of automata
pub record ProductBreaksLimit (one other : Description) : Type 0 where
  pub written : RawAutomaton
  pub product : IsWrittenProduct one other written
  pub fault : AutomatonFault
  pub broken : automaton_fault_of written ≡ Some fault

-- why the graph of a product would be too large
pub data IsGraphTooLarge (one other : Description) : Type 0 where
  many_joint_sets : most_joint_sets < one.sets + other.sets → IsGraphTooLarge one other
  many_names : most_propositions < length (joined_names one.propositions other.propositions)
      → IsGraphTooLarge one other
  deep_formula : most_depth < acc_depth (conjoined_acceptance one other) → IsGraphTooLarge one other
  unfit_label : HasUnfitLabel one other → IsGraphTooLarge one other
  unfit_meeting : HasUnfitMeeting one other → IsGraphTooLarge one other
  many_pairs : HasManyPairs one other → IsGraphTooLarge one other
  many_edges : HasManyEdges one other → IsGraphTooLarge one other

-- why a product would be too large: its graph would be, or its text would pass a limit
pub data IsProductTooLarge (one other : Description) : Type 0 where
  large_graph : IsGraphTooLarge one other → IsProductTooLarge one other
  many_sets : most_number < one.sets + other.sets → IsProductTooLarge one other
  deep_acceptance : most_depth < raw_acc_depth (acc_written (conjoined_acceptance one other))
      → IsProductTooLarge one other
  deep_meeting : HasDeepMeeting one other → IsProductTooLarge one other
  broken_limit : ProductBreaksLimit one other → IsProductTooLarge one other

-- `UniversalBranch` if there is universal branching, otherwise `TooManyPropositions`, or `TooLarge` for a reason
abbrev pub IsPairsFault : Type 0 → Description → Description → TaskFault → Type 0
IsPairsFault large one other UniversalBranch =
    (has_universal_branching one || has_universal_branching other) ≡ true
IsPairsFault large one other TooManyPropositions = HaveNoBranch one other × HasUndecidedMeeting one other
IsPairsFault large one other TooLarge = HaveNoBranch one other × large
IsPairsFault large one other fault = ⊥

-- the refusal of the graph of a product
abbrev pub IsGraphRefusal : Description → Description → Refusal → Type 0
IsGraphRefusal one other =
    or_task (IsPairsFault (IsGraphTooLarge one other) one other) (or_memory never)

-- the refusal of a product
abbrev pub IsProductRefusal : Description → Description → Refusal → Type 0
IsProductRefusal one other =
    or_task (IsPairsFault (IsProductTooLarge one other) one other) (or_memory never)
