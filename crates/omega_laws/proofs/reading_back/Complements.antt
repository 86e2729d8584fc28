-- A complement as it is written has the form of what is read: so its canonical text is read back.
use Rattle.std.proofs.Common.{◌==◌, ℕ, ◌+◌, ◌<◌, ◌≤◌, Bool, true, false, if◌then◌else◌, List, [], ◌∷◌, length, Option, Some, None, sym, subst, arith}
use Rattle.std.specs.Prelude.{IfSome, slice_index_or}
use Rattle.std.specs.List.{AllByRecursion, AllZip, range_with_len}
use Rattle.omega_text.specs.Limits.{most_number, most_text}
use Rattle.omega_text.specs.hoa.Forms.{IsQuotable}
use Rattle.omega_acc.specs.WritingLaws.{WrittenFormulasMean, WrittenLabelsMean}
use Rattle.omega_hoa_label.specs.Label.{LabelTree, constant}
use Rattle.omega_hoa_label.specs.Raw.{RawLabelTree}
use Rattle.omega_hoa_syntax.specs.Grammar.{IsRawItem}
use Rattle.omega_hoa_syntax.specs.declared.raw_state.RawState.{RawState}
use Rattle.omega_hoa_automaton.specs.Automaton.{Description}
use Rattle.omega_hoa_automaton.specs.Laws.{MeaningsAreAutomata}
use Rattle.omega_hoa_automaton.specs.declared.edge.Edge.{Edge}
use Rattle.omega_hoa_automaton.specs.declared.state.State.{State}
use Rattle.omega_canon.specs.Canonical.{canonical_automaton}
use Rattle.omega_lang_complement.specs.Complement.{HasComplement, IsComplement}
use Rattle.omega_hoa_edges.specs.AutomatonLabels.{each_by_index, labels_of, state_among, state_at}
use Rattle.omega_lang_complement.specs.Written.{IsMissing, IsTurned, complement_acceptance, further_edges, header, one_if, sinks, turned_edge, turned_edges}
use Rattle.omega_lang_complement.proofs.LimitTests.{fits}
use Rattle.omega_hoa_edges.specs.Labels.{label_at}
use Rattle.omega_hoa.specs.Alone.{IsAutomatonText}
use Rattle.omega_hoa.specs.Laws.{AutomataFillSegments}
use Rattle.omega_hoa_round_trips.specs.Laws.{ReadAutomataAreWritable, WasRead}
use Rattle.omega_hoa_round_trips.specs.Writable.{AreJoined, IsWritableAutomaton, IsWritableNumber, IsWritableState}
use Rattle.omega_hoa_round_trips.proofs.meanings.Meant.{Meanings}
use Rattle.omega_hoa_round_trips.proofs.meanings.ReadBack.{meant-read}
use Rattle.omega_hoa_round_trips.proofs.texts.Lists.{all-append}
use Rattle.omega_hoa_round_trips.proofs.texts.Spelled.{Known}
use Rattle.omega_hoa_round_trips.proofs.values.Rows.{IsReadAutomaton, IsReadEdge, IsReadItem, IsReadLabel, IsReadState}

-- the name of the state of a number can be written
name_quotable : (states : List State) (number : ℕ) → AllByRecursion IsWritableState states → IfSome (state_among states number).name IsQuotable
name_quotable [] number all = tt
name_quotable (state ∷ states) number all = go (state.number == number) (name_quotable states number all.1)
  where
    go : (b : Bool) → IfSome (state_among states number).name IsQuotable → IfSome (if b then state else state_among states number).name IsQuotable
    go true rest = all.0.name
    go false rest = rest

module _ (mean : WrittenLabelsMean) where
  -- edges of a state
  edges_read : (count : ℕ) (state : State) (first : ℕ) (edges : List Edge) → AllByRecursion IsReadEdge (each_by_index (turned_edge count state) first edges)
  edges_read count state first [] = tt
  edges_read count state first (edge ∷ edges) = (record { label = (mean [] (label_at count state first edge)).is }, edges_read count state (first + 1) edges)

  further_read : (labels : List LabelTree) (sink : ℕ) (missing : Option RawLabelTree) → IsMissing labels missing → AllByRecursion IsReadEdge (further_edges sink missing)
  further_read labels sink None is = tt
  further_read labels sink (Some written) is = (record { label = subst IsReadLabel (sym is.1.2) (mean [] is.1.0).is }, tt)

  -- a state
  state_read : (count sink : ℕ) (state : State) (raw : RawState) → IfSome state.name IsQuotable → IsTurned count sink state raw → IsReadState raw
  state_read count sink state raw named turned = record {
    label = subst (λ (o : Option RawLabelTree). IfSome o IsReadLabel) (sym turned.label) tt;
    name = subst (λ (o : Option (List ℕ)). IfSome o IsQuotable) (sym turned.name) named;
    edges = subst (AllByRecursion IsReadEdge) (sym turned.edges)
        (all-append IsReadEdge (turned_edges count state) (further_edges sink turned.missing) (edges_read count state 0 state.edges)
        (further_read (labels_of count state) sink turned.missing turned.is_missing));
  }

  sinks_read : (a : Description) (sink : Bool) → AllByRecursion IsReadState (sinks a sink)
  sinks_read a false = tt
  sinks_read a true = (record { label = tt; name = tt; edges = (record { label = (mean [] (constant true)).is }, tt) }, tt)

  module _ (a : Description) (writable : IsWritableAutomaton a) where
    states_read : (numbers : List ℕ) (raws : List RawState) → AllZip (λ number. IsTurned (length a.propositions) a.states (state_at a number)) numbers raws
        → AllByRecursion IsReadState raws
    states_read [] [] all = tt
    states_read [] (raw ∷ raws) all = absurd all
    states_read (number ∷ numbers) [] all = absurd all
    states_read (number ∷ numbers) (raw ∷ raws) all = (
      state_read (length a.propositions) a.states (state_at a number) raw (name_quotable a.defined number writable.defined) all.0,
      states_read numbers raws all.1,
    )

-- the start
start_joined : (starts : List (List ℕ)) (other : ℕ) → IsWritableNumber other → AllByRecursion AreJoined starts → AreJoined (slice_index_or starts 0 (other ∷ []))
start_joined [] other small all = record { listed = omega arith; fit = (small, tt) }
start_joined (start ∷ starts) other small all = all.0

-- the counts
one_more : (sink : Bool) (count : ℕ) → count < most_number → count + one_if sink ≤ most_number
one_more true count small = omega (arith, small)
one_more false count small = omega (arith, small)

-- the header
module _ (formulas : WrittenFormulasMean) (a : Description) (writable : IsWritableAutomaton a) (given : HasComplement a) (sink : Bool) where
  start : AreJoined (slice_index_or a.starts 0 (a.states ∷ []))
  start = start_joined a.starts a.states writable.states writable.starts

  few_states : a.states < most_number
  few_states = omega (arith, (fits a given.limits).states)

  items_read : AllByRecursion IsReadItem (header a sink)
  items_read = (
    one_more sink a.states few_states,
    (
      start.fit,
      (writable.propositions, ((one_more sink a.sets (fits a given.limits).sets, (formulas (complement_acceptance a sink)).is), tt)),
    ),
  )

  items_raw : AllByRecursion IsRawItem (header a sink)
  items_raw = (tt, (start.listed, (tt, (tt, tt))))

pub complement-read : Known → Meanings → MeaningsAreAutomata → AutomataFillSegments → ReadAutomataAreWritable → (a complement : Description) → WasRead a → HasComplement a
    → IsComplement a complement → length (canonical_automaton complement) ≤ most_text → IsAutomatonText (canonical_automaton complement) complement
complement-read known meanings automata fill writable a complement was given (raw, written, means) short =
    let can : IsWritableAutomaton a = writable a was in
    let read : IsReadAutomaton raw =
    record {
      items = subst (AllByRecursion IsReadItem) (sym written.items) (items_read known.formula_means a can given written.sink);
      states = subst (AllByRecursion IsReadState) (sym written.body)
          (all-append IsReadState written.turned (sinks a written.sink) (states_read known.label_means a can (range_with_len 0 a.states) written.turned written.states)
          (sinks_read known.label_means a written.sink));
    } in
    let items : AllByRecursion IsRawItem raw.items = subst (AllByRecursion IsRawItem) (sym written.items) (items_raw known.formula_means a can given written.sink) in
    meant-read known meanings automata fill raw complement read items means short
