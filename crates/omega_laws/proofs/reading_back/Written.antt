-- An automaton whose names a text can have is, as it is written, of the form of what is read: so its canonical text is
-- read back.
use Rattle.std.proofs.Common.{ℕ, ◌<◌, ◌≤◌, List, [], ◌∷◌, ◌++◌, length, map, Option, Some, None, arith}
use Rattle.std.specs.Prelude.{IfSome, option_map}
use Rattle.std.specs.List.{AllByRecursion}
use Rattle.std.proofs.lemmas.List.Elements.{recursion_from_All}
use Rattle.omega_text.specs.Limits.{most_number, most_text}
use Rattle.omega_text.specs.hoa.Forms.{IsQuotable}
use Rattle.omega_acc.specs.WritingLaws.{WrittenFormulasMean, WrittenLabelsMean}
use Rattle.omega_hoa_acceptance.specs.declared.name.AccName.{AccName}
use Rattle.omega_hoa_label.specs.Label.{LabelTree}
use Rattle.omega_hoa_label.specs.Writing.{label_written}
use Rattle.omega_hoa_syntax.specs.Grammar.{IsRawItem}
use Rattle.omega_hoa_automaton.specs.Automaton.{AreTargets, Description}
use Rattle.omega_hoa_automaton.specs.Laws.{MeaningsAreAutomata}
use Rattle.omega_hoa_automaton.specs.Meaning.{Means}
use Rattle.omega_hoa_automaton.specs.declared.edge.Edge.{Edge}
use Rattle.omega_hoa_automaton.specs.declared.state.State.{State}
use Rattle.omega_canon.specs.Canonical.{canonical_automaton}
use Rattle.omega_hoa.specs.Alone.{IsAutomatonText}
use Rattle.omega_hoa.specs.Laws.{AutomataFillSegments}
use Rattle.omega_hoa_round_trips.specs.Writable.{IsWritableName, IsWritableNumber}
use Rattle.omega_hoa_round_trips.proofs.meanings.Meant.{Meanings}
use Rattle.omega_hoa_round_trips.proofs.meanings.ReadBack.{meant-read}
use Rattle.omega_hoa_round_trips.proofs.texts.Lists.{all-append}
use Rattle.omega_hoa_round_trips.proofs.texts.Spelled.{Known}
use Rattle.omega_hoa_round_trips.proofs.values.Rows.{IsReadAutomaton, IsReadEdge, IsReadItem, IsReadLabel, IsReadState}
use Rattle.omega_lang_trim.specs.Written.{acc_name_items, edge_written, header, name_items, start_item, state_written, written}
use Rattle.omega_laws.specs.WrittenTexts.{FitsTexts}
use Rattle.omega_laws.proofs.reading_back.Quotable.{all_made}

module _ (mean : WrittenLabelsMean) where
  label_read : (label : Option LabelTree) → IfSome (option_map label_written label) IsReadLabel
  label_read None = tt
  label_read (Some label) = (mean [] label).is

  edge_read : (edge : Edge) → IsReadEdge (edge_written edge)
  edge_read edge = record { label = label_read edge.label }

  state_read : (state : State) → IfSome state.name IsQuotable → IsReadState (state_written state)
  state_read state named = record {
    label = label_read state.label;
    name = named;
    edges = all_made IsReadEdge edge_written state.edges edge_read;
  }

  states_read : (states : List State) → AllByRecursion (λ (state : State). IfSome state.name IsQuotable) states → AllByRecursion IsReadState (map state_written states)
  states_read [] all = tt
  states_read (state ∷ states) all = (state_read state all.0, states_read states all.1)

name_read : (name : Option (List ℕ)) → IfSome name IsQuotable → AllByRecursion IsReadItem (name_items name)
name_read None is = tt
name_read (Some bytes) is = (is, tt)

name_raw : (name : Option (List ℕ)) → AllByRecursion IsRawItem (name_items name)
name_raw None = tt
name_raw (Some bytes) = (tt, tt)

acc_name_read : (name : Option AccName) → IfSome name IsWritableName → AllByRecursion IsReadItem (acc_name_items name)
acc_name_read None is = tt
acc_name_read (Some name) is = (is, tt)

acc_name_raw : (name : Option AccName) → AllByRecursion IsRawItem (acc_name_items name)
acc_name_raw None = tt
acc_name_raw (Some name) = (tt, tt)

module _ (a : Description) (few : a.states ≤ most_number) where
  numbers_small : (numbers : List ℕ) → AllByRecursion (λ (n : ℕ). n < a.states) numbers → AllByRecursion IsWritableNumber numbers
  numbers_small [] all = tt
  numbers_small (number ∷ numbers) all = (omega (arith, all.0, few), numbers_small numbers all.1)

  starts_read : (starts : List (List ℕ)) → AllByRecursion (AreTargets a) starts → AllByRecursion IsReadItem (map start_item starts)
  starts_read [] all = tt
  starts_read (start ∷ starts) all =
      (numbers_small start (recursion_from_All (λ (n : ℕ). n < a.states) start all.0.below), starts_read starts all.1)

  starts_raw : (starts : List (List ℕ)) → AllByRecursion (AreTargets a) starts → AllByRecursion IsRawItem (map start_item starts)
  starts_raw [] all = tt
  starts_raw (start ∷ starts) all = (all.0.listed, starts_raw starts all.1)

module _ (formulas : WrittenFormulasMean) (a : Description) (can : FitsTexts a) (starts : AllByRecursion (AreTargets a) a.starts) where
  items_read : AllByRecursion IsReadItem (header a)
  items_read = (
    can.states,
    (
      can.propositions,
      (
        (can.sets, (formulas a.acceptance).is),
        all-append IsReadItem (name_items a.name) (acc_name_items a.acc_name ++ map start_item a.starts) (name_read a.name can.name)
            (all-append IsReadItem (acc_name_items a.acc_name) (map start_item a.starts) (acc_name_read a.acc_name can.acc_name) (starts_read a can.states a.starts starts)),
      ),
    ),
  )

  items_raw : AllByRecursion IsRawItem (header a)
  items_raw = (
    tt,
    (
      tt,
      (
        tt,
        all-append IsRawItem (name_items a.name) (acc_name_items a.acc_name ++ map start_item a.starts) (name_raw a.name)
            (all-append IsRawItem (acc_name_items a.acc_name) (map start_item a.starts) (acc_name_raw a.acc_name) (starts_raw a can.states a.starts starts)),
      ),
    ),
  )

pub written_back : Known → Meanings → MeaningsAreAutomata → AutomataFillSegments → (a : Description) → FitsTexts a → Means (written a) a
    → length (canonical_automaton a) ≤ most_text → IsAutomatonText (canonical_automaton a) a
written_back known meanings automata fill a can means short =
    let starts : AllByRecursion (AreTargets a) a.starts = recursion_from_All (AreTargets a) a.starts (automata (written a) a means).starts in
    let read : IsReadAutomaton (written a) =
    record { items = items_read known.formula_means a can starts; states = states_read known.label_means a.defined can.named } in
    meant-read known meanings automata fill (written a) a read (items_raw known.formula_means a can starts) means short
