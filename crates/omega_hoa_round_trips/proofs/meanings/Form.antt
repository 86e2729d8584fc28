-- The form that a text gives an automaton: which headers, labels and edges it can write.
use Rattle.std.proofs.Common.{◌≡◌, ℕ, suc, ◌^◌, Bool, true, false, not, ◌&&◌, ◌||◌, ◌==◌, nat_lt, Option, Some, None, option_map, List, [], ◌∷◌, length, map, ap, refl, sym, ◌∙◌}
use Rattle.std.specs.Prelude.{is_some, slice_get, unwrap_or}
use Rattle.std.specs.List.{AllZip, filter_map, list_any}
use Rattle.std.proofs.lemmas.Bool.{eqb-true}
use Rattle.omega_text.specs.declared.refusal.automaton.AutomatonFault.{AutomatonFault}
use Rattle.omega_text.specs.declared.refusal.automaton.AutomatonFault.TheVariants.{ImplicitCount, MixedLabels, Proposition, UnknownHeader}
use Rattle.omega_hoa_label_text.specs.Expanding.{Defined}
use Rattle.omega_hoa_label.specs.Label.{LabelTree}
use Rattle.omega_hoa_label.specs.Raw.{RawLabelTree}
use Rattle.omega_hoa_label.specs.Writing.{label_written}
use Rattle.omega_hoa_syntax.specs.declared.raw_automaton.RawAutomaton.{RawAutomaton}
use Rattle.omega_hoa_syntax.specs.declared.raw_edge.RawEdge.{RawEdge}
use Rattle.omega_hoa_syntax.specs.declared.raw_state.RawState.{RawState}
use Rattle.omega_hoa_automaton.specs.Automaton.{Description}
use Rattle.omega_hoa_automaton.specs.Faults.{applies, begins_capital, definitions_of, has_label, has_mixed_labels, has_unknown_capital, has_wrong_edge_count, has_wrong_proposition, is_miscounted, is_misnamed, is_mixed, proposition_count}
use Rattle.omega_hoa_automaton.specs.Items.{Named, propositions_in, unknown_in}
use Rattle.omega_hoa_automaton.specs.Meaning.{IsEdgeOf, IsLabelOf, IsStateOf, Means}
use Rattle.omega_hoa_automaton.specs.declared.edge.Edge.{Edge}
use Rattle.omega_hoa_automaton.specs.declared.state.State.{State}
use Rattle.omega_hoa_round_trips.specs.Written.{edge_written, state_written}
use Rattle.omega_hoa_round_trips.proofs.meanings.Tests.{any-passes, same-any}
use Rattle.omega_hoa_round_trips.proofs.texts.Spelled.{or-left}

-- no header that the format leaves open begins with a capital, no state mixes labels, and a state without labels has no
-- edges, or one for each valuation
pub record HasForm (a : Description) : Type 0 where
  pub small : list_any (λ header. begins_capital header.name) a.unknown ≡ false
  pub unmixed : list_any is_mixed (map state_written a.defined) ≡ false
  pub counted : list_any (is_miscounted (length a.propositions)) (map state_written a.defined) ≡ false

label-there : (definitions : List Defined) (raw : Option RawLabelTree) (label : Option LabelTree) → IsLabelOf definitions raw label → is_some raw ≡ is_some (option_map label_written label)
label-there definitions None None is = refl
label-there definitions None (Some tree) is = absurd is
label-there definitions (Some raw) None is = absurd is
label-there definitions (Some raw) (Some tree) is = refl

not-not : (is : Bool) → not is ≡ false → is ≡ true
not-not true fails = refl
not-not false fails = sym fails

-- names of propositions that are not misnamed are as many as is stated
count-stated : (said : List Named) → list_any is_misnamed said ≡ false
    → unwrap_or (option_map (λ named. named.count) (slice_get said 0)) 0 ≡ length (unwrap_or (option_map (λ named. named.names) (slice_get said 0)) [])
count-stated [] fails = refl
count-stated (named ∷ others) fails =
    eqb-true named.count (length named.names) (not-not _ (or-left _ _ (or-left _ _ (or-left _ _ fails))))

-- what was read has it
module _ (raw : RawAutomaton) (a : Description) (means : Means raw a) (fails : (fault : AutomatonFault) → applies raw fault ≡ false) where
  abbrev definitions : List Defined
  definitions = definitions_of raw

  header-small : list_any (λ header. begins_capital header.name) a.unknown ≡ false
  unfolding has_unknown_capital
  header-small =
      ap (list_any (λ header. begins_capital header.name)) means.unknown
      ∙ (sym (any-passes unknown_in (λ header. begins_capital header.name) raw.items) ∙ fails UnknownHeader)

  edges-labelled : (read : RawState) (state : State) → IsStateOf definitions read state → list_any has_label read.edges ≡ list_any has_label (map edge_written state.edges)
  edges-labelled read state of =
      same-any has_label edge_written (IsEdgeOf definitions) (λ one edge here. label-there definitions one.label edge.label here.label) read.edges state.edges of.edges

  edges-unlabelled : (read : RawState) (state : State) → IsStateOf definitions read state
      → list_any (λ edge. not (has_label edge)) read.edges ≡ list_any (λ edge. not (has_label edge)) (map edge_written state.edges)
  edges-unlabelled read state of =
      same-any (λ (edge : RawEdge). not (has_label edge)) edge_written (IsEdgeOf definitions) (λ one edge here. ap not (label-there definitions one.label edge.label here.label)) read.edges state.edges of.edges

  mixed-same : (read : RawState) (state : State) → IsStateOf definitions read state → is_mixed read ≡ is_mixed (state_written state)
  mixed-same read state of =
      let labelled = edges-labelled read state of in
      let unlabelled = edges-unlabelled read state of in
      let there = label-there definitions read.label state.label of.label in
      ap (λ one. one && (is_some read.label || list_any (λ edge. not (has_label edge)) read.edges)) labelled
      ∙ (ap (λ one. list_any has_label (map edge_written state.edges) && (one || list_any (λ edge. not (has_label edge)) read.edges)) there
      ∙ ap (λ one. list_any has_label (map edge_written state.edges) && (is_some (option_map label_written state.label) || one)) unlabelled)

  labels-unmixed : list_any is_mixed (map state_written a.defined) ≡ false
  unfolding has_mixed_labels
  labels-unmixed = sym (same-any is_mixed state_written (IsStateOf definitions) mixed-same raw.states a.defined means.defined) ∙ fails MixedLabels

  unstated : list_any is_misnamed (filter_map propositions_in raw.items) ≡ false
  unfolding has_wrong_proposition
  unstated = sym (any-passes propositions_in is_misnamed raw.items) ∙ or-left _ _ (or-left _ _ (fails Proposition))

  count-same : proposition_count raw ≡ length a.propositions
  count-same = count-stated (filter_map propositions_in raw.items) unstated ∙ ap length (sym means.propositions)

  miscounted-same : (count : ℕ) (read : RawState) (state : State) → IsStateOf definitions read state → is_miscounted count read ≡ is_miscounted count (state_written state)
  miscounted-same count read state of =
      let labelled = edges-labelled read state of in
      let there = label-there definitions read.label state.label of.label in
      let long : length read.edges ≡ length (map edge_written state.edges) = length_all_zip-made read.edges state.edges of.edges in
      ap (λ one. not one && not (list_any has_label read.edges) && nat_lt 0 (length read.edges) && not (length read.edges == 2 ^ count)) there
      ∙ (ap (λ one. not (is_some (option_map label_written state.label)) && not one && nat_lt 0 (length read.edges) && not (length read.edges == 2 ^ count)) labelled
      ∙ ap (λ one. not (is_some (option_map label_written state.label)) && not (list_any has_label (map edge_written state.edges)) && nat_lt 0 one && not (one == 2 ^ count)) long)
    where
      length_all_zip-made : (reads : List RawEdge) (edges : List Edge) → AllZip (IsEdgeOf definitions) reads edges → length reads ≡ length (map edge_written edges)
      length_all_zip-made [] [] zip = refl
      length_all_zip-made [] (edge ∷ edges) zip = absurd zip
      length_all_zip-made (one ∷ reads) [] zip = absurd zip
      length_all_zip-made (one ∷ reads) (edge ∷ edges) zip = ap suc (length_all_zip-made reads edges zip.1)

  edges-counted : list_any (is_miscounted (length a.propositions)) (map state_written a.defined) ≡ false
  unfolding has_wrong_edge_count
  edges-counted =
      ap (λ count. list_any (is_miscounted count) (map state_written a.defined)) (sym count-same)
      ∙ (sym (same-any (is_miscounted (proposition_count raw)) state_written (IsStateOf definitions) (miscounted-same (proposition_count raw)) raw.states a.defined means.defined)
      ∙ fails ImplicitCount)

  pub form-kept : HasForm a
  form-kept = record { small = header-small; unmixed = labels-unmixed; counted = edges-counted }
