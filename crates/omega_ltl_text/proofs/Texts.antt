-- Texts of formulas as they are read: one formula or one refusal, and never both.
use Rattle.std.proofs.Common.{◌≡◌, ℕ, ◌<◌, ◌≤◌, ◌⊎◌, inl, inr, Some, Result, Ok, Err, IfErr, IfOk, List}
use Rattle.std.proofs.Common.{length, refl, ap, sym, ◌∙◌, subst, arith}
use Rattle.std.specs.Prelude.{IsSome}
use Rattle.std.proofs.lemmas.Bool.{cases_lt}
use Rattle.omega_text.specs.Cases.{never, or_memory, or_text}
use Rattle.omega_text.specs.Cut.{CutsAreOne}
use Rattle.omega_text.specs.Reading.{IsReadText}
use Rattle.omega_text.specs.Syntax.{IsDecidable, IsTextFault, IsTextOf, TextFaultsAreOne}
use Rattle.omega_text.specs.Syntax.{TextsAreReadOrFaulty, TextsHaveNoFault, TokensComplete}
use Rattle.omega_text.specs.declared.refusal.Refusal.{Refusal}
use Rattle.omega_text.specs.declared.refusal.Refusal.TheVariants.{Automaton, Circuit, Game, Io, Memory, Task, Text}
use Rattle.omega_text.specs.declared.refusal.automaton.AutomatonFault.TheVariants.{TooDeep}
use Rattle.omega_text.specs.declared.refusal.task.TaskFault.TheVariants.{TooLarge}
use Rattle.omega_ltl_formula.specs.Building.{names_of}
use Rattle.omega_ltl_formula.specs.Formula.{FormulaTree, formula_depth, formula_size}
use Rattle.omega_ltl_formula.specs.Limits.{most_formula_depth, most_formula_names, most_formula_nodes}
use Rattle.omega_ltl_formula.specs.Table.{IsFormula, NumberedFormula, tree_of}
use Rattle.omega_ltl_text.specs.Cut.{formula_format}
use Rattle.omega_ltl_text.specs.Grammar.{formula_syntax}
use Rattle.omega_ltl_text.specs.Laws.{FormulaRefusalsAreOne, FormulaTextsAreReadOrRefused}
use Rattle.omega_ltl_text.specs.Laws.{FormulasAreNotRefused, FormulasOfTextsAreOne}
use Rattle.omega_ltl_text.specs.Text.{IsFormulaText, IsFormulaTextRefusal, IsReadFormulaRefusal, SaysFormula}
use Rattle.omega_ltl_text.specs.Text.{SaysTooDeep, SaysTooLarge}
use Rattle.omega_ltl_text.specs.declared.measurer.FormulaMeasurer.{FormulaMeasurer}
use Rattle.omega_ltl_text.specs.private.Measuring.{HasMeasured, Measures}
use Rattle.omega_ltl_text.specs.private.Reader.{HasBecome, HasFewNodes, IsRefusedFormula, ReaderState}
use Rattle.omega_ltl_text.specs.private.Reader.{state_of}
use Rattle.omega_ltl_text.specs.private.Reading.{ReadState, ended}
use Rattle.omega_ltl_text.proofs.Deciding.{decided, spelled_names, symbols_of, text_ends, texts_one}

-- a formula that a text says is refused
refused_as : (source : List ℕ) (tree : FormulaTree) → SaysFormula source tree → (names : ℕ) → names ≡ length (names_of tree)
    → (refusal : Refusal) → IsRefusedFormula tree names refusal → IsReadFormulaRefusal source refusal
refused_as source tree says names named (Automaton fault) why = (why.0, record { tree = tree; says = says; deep = why.1 })
refused_as source tree says names named (Task fault) why = (
  why.0,
  record {
    tree = tree;
    says = says;
    shallow = why.1;
    large = go why.2;
  },
)
  where
    go : (most_formula_nodes < formula_size tree) ⊎ (most_formula_names < names)
        → (most_formula_nodes < formula_size tree) ⊎ (most_formula_names < length (names_of tree))
    go (inl large) = inl large
    go (inr many) = inr (omega (arith, named, many))
refused_as source tree says names named (Text fault) why = absurd why
refused_as source tree says names named (Game fault) why = absurd why
refused_as source tree says names named (Circuit fault) why = absurd why
refused_as source tree says names named Memory why = why
refused_as source tree says names named Io why = absurd why

-- what a new reader became
module _ (source : List ℕ) (start reader : ReaderState)
    (read : IsReadText formula_format (λ lexemes. HasBecome start lexemes reader) (TokensComplete formula_syntax) source) where
  own_end : ended (state_of reader) ≡ Some read.complete.0
  own_end = text_ends (symbols_of read.lexemes) (state_of reader) read.complete.0 read.all_taken.runs read.complete.1

  pub read_whole : IsSome (ended (state_of reader))
  read_whole = subst IsSome (sym own_end) refl

  pub read_few : HasFewNodes reader
  read_few = read.all_taken.few

  pub read_says : (tree : FormulaTree) → ended (state_of reader) ≡ Some tree → SaysFormula source tree
  read_says tree ends =
      let same : read.complete.0 ≡ tree = let both : Some read.complete.0 ≡ Some tree = sym own_end ∙ ends in cc in
      record {
        short = read.short;
        writes = subst (IsTextOf formula_syntax source) same (record { lexemes = read.lexemes; cut = read.cut; text = read.complete.1 });
      }

  pub read_names : (tree : FormulaTree) → ended (state_of reader) ≡ Some tree → reader.table.names ≡ names_of tree
  read_names tree ends =
      let same : read.complete.0 ≡ tree = let both : Some read.complete.0 ≡ Some tree = sym own_end ∙ ends in cc in
      read.all_taken.names ∙ (spelled_names (symbols_of read.lexemes) read.complete.0 read.complete.1 ∙ ap names_of same)

  -- and what was made of it
  pub formula_read : (formula : NumberedFormula) → ended (state_of reader) ≡ Some (tree_of formula) → formula.table.names ≡ reader.table.names → IsFormula formula
      → IsFormulaText source (tree_of formula)
  formula_read formula ends named is = record {
    says = read_says (tree_of formula) ends;
    within = record {
      shallow = is.shallow;
      small = is.small;
      few_names = let long = ap length (sym (named ∙ read_names (tree_of formula) ends)) in omega (arith, long, is.few_names);
    };
  }

  pub names_read : (formula : NumberedFormula) → ended (state_of reader) ≡ Some (tree_of formula) → formula.table.names ≡ reader.table.names
      → formula.table.names ≡ names_of (tree_of formula)
  names_read formula ends named = named ∙ read_names (tree_of formula) ends

  -- or why none was made
  refused : (tree : FormulaTree) → ended (state_of reader) ≡ Some tree → (refusal : Refusal) → IsRefusedFormula tree (length reader.table.names) refusal
      → IsReadFormulaRefusal source refusal
  refused tree ends refusal why =
      refused_as source tree (read_says tree ends) (length reader.table.names) (ap length (read_names tree ends)) refusal why

  pub formula_refused : (refusal : Refusal) → ((tree : FormulaTree) → ended (state_of reader) ≡ Some tree → IsRefusedFormula tree (length reader.table.names) refusal)
      → IsReadFormulaRefusal source refusal
  formula_refused refusal why = refused read.complete.0 own_end refusal (why read.complete.0 own_end)

  -- the same of a call
  pub formula_read_if : (result : Result NumberedFormula Refusal) → IfOk result (λ formula. ended (state_of reader) ≡ Some (tree_of formula))
      → IfOk result (λ formula. formula.table.names ≡ reader.table.names) → IfOk result IsFormula → IfOk result (λ formula. IsFormulaText source (tree_of formula))
  formula_read_if (Ok formula) ends named is = formula_read formula ends named is
  formula_read_if (Err refusal) ends named is = tt

  pub names_read_if : (result : Result NumberedFormula Refusal) → IfOk result (λ formula. ended (state_of reader) ≡ Some (tree_of formula))
      → IfOk result (λ formula. formula.table.names ≡ reader.table.names) → IfOk result (λ formula. formula.table.names ≡ names_of (tree_of formula))
  names_read_if (Ok formula) ends named = names_read formula ends named
  names_read_if (Err refusal) ends named = tt

  pub formula_refused_if : (result : Result NumberedFormula Refusal)
      → IfErr result (λ refusal. (tree : FormulaTree) → ended (state_of reader) ≡ Some tree → IsRefusedFormula tree (length reader.table.names) refusal)
      → IfErr result (IsReadFormulaRefusal source)
  formula_refused_if (Ok formula) why = tt
  formula_refused_if (Err refusal) why = formula_refused refusal why

-- a formula that was measured and is past a limit
pub measure_refused_if : {X : Type 0} (source : List ℕ) (start measurer : FormulaMeasurer) (result : Result X Refusal)
    → IsReadText formula_format (λ lexemes. HasMeasured start lexemes measurer) (TokensComplete formula_syntax) source
    → IfErr result (λ refusal. (state : ReadState) (tree : FormulaTree) (names : ℕ) → Measures measurer state → ended state ≡ Some tree
    → IsRefusedFormula tree names refusal) → IfErr result (IsReadFormulaRefusal source)
measure_refused_if source start measurer (Ok done) read why = tt
measure_refused_if source start measurer (Err refusal) read why =
    let has = read.all_taken in
    let tree = read.complete.0 in
    refused_as source tree
    (record { short = read.short; writes = record { lexemes = read.lexemes; cut = read.cut; text = read.complete.1 } })
    (length (names_of tree)) refl refusal
    (why has.state tree (length (names_of tree)) has.measures
    (text_ends (symbols_of read.lexemes) has.state tree has.runs read.complete.1))

-- the refusal of a text that was not read
pub formula_unread : (source : List ℕ) (refusal : Refusal) → or_text (IsTextFault formula_syntax source) (or_memory never) refusal → IsReadFormulaRefusal source refusal
formula_unread source (Text fault) why = why
formula_unread source (Game fault) why = why
formula_unread source (Circuit fault) why = why
formula_unread source (Automaton fault) why = absurd why
formula_unread source (Task fault) why = absurd why
formula_unread source Memory why = why
formula_unread source Io why = why

pub formulas_one : CutsAreOne formula_format → FormulasOfTextsAreOne
formulas_one cuts source one other a b = texts_one cuts source one other a.writes b.writes

pub formulas_apart : CutsAreOne formula_format → TextsHaveNoFault formula_syntax → FormulasAreNotRefused
formulas_apart cuts none source tree (Text fault) text why = none source tree fault text.says.short text.says.writes why
formulas_apart cuts none source tree (Game fault) text why = why
formulas_apart cuts none source tree (Circuit fault) text why = why
formulas_apart cuts none source tree (Automaton fault) text why =
    let same = ap formula_depth (formulas_one cuts source tree why.1.tree text.says why.1.says) in
    omega (arith, same, why.1.deep, text.within.shallow)
formulas_apart cuts none source tree (Task fault) text why = go why.1.large
  where
    go : (most_formula_nodes < formula_size why.1.tree) ⊎ (most_formula_names < length (names_of why.1.tree)) → ⊥
    go (inl large) =
        let same = ap formula_size (formulas_one cuts source tree why.1.tree text.says why.1.says) in
        omega (arith, same, large, text.within.small)
    go (inr many) =
        let same = ap (λ (t : FormulaTree). length (names_of t)) (formulas_one cuts source tree why.1.tree text.says why.1.says) in
        omega (arith, same, many, text.within.few_names)
formulas_apart cuts none source tree Memory text why = why
formulas_apart cuts none source tree Io text why = why

-- a formula is not too deep and only too large
deep_or_large : CutsAreOne formula_format → (source : List ℕ) → SaysTooDeep source → SaysTooLarge source → ⊥
deep_or_large cuts source deep large =
    let same = ap formula_depth (formulas_one cuts source deep.tree large.tree deep.says large.says) in
    omega (arith, same, deep.deep, large.shallow)

pub refusals_one : CutsAreOne formula_format → TextsHaveNoFault formula_syntax → TextFaultsAreOne formula_syntax → FormulaRefusalsAreOne
refusals_one cuts none faults source (Text fault) (Text other) one two = ap Text (faults source fault other one two)
refusals_one cuts none faults source (Text fault) (Automaton other) one two = absurd (none source two.1.tree fault two.1.says.short two.1.says.writes one)
refusals_one cuts none faults source (Text fault) (Task other) one two = absurd (none source two.1.tree fault two.1.says.short two.1.says.writes one)
refusals_one cuts none faults source (Text fault) (Game other) one two = absurd two
refusals_one cuts none faults source (Text fault) (Circuit other) one two = absurd two
refusals_one cuts none faults source (Text fault) Memory one two = absurd two
refusals_one cuts none faults source (Text fault) Io one two = absurd two
refusals_one cuts none faults source (Automaton fault) (Text other) one two = absurd (none source one.1.tree other one.1.says.short one.1.says.writes two)
refusals_one cuts none faults source (Automaton fault) (Automaton other) one two = ap Automaton (one.0 ∙ sym two.0)
refusals_one cuts none faults source (Automaton fault) (Task other) one two = absurd (deep_or_large cuts source one.1 two.1)
refusals_one cuts none faults source (Automaton fault) (Game other) one two = absurd two
refusals_one cuts none faults source (Automaton fault) (Circuit other) one two = absurd two
refusals_one cuts none faults source (Automaton fault) Memory one two = absurd two
refusals_one cuts none faults source (Automaton fault) Io one two = absurd two
refusals_one cuts none faults source (Task fault) (Text other) one two = absurd (none source one.1.tree other one.1.says.short one.1.says.writes two)
refusals_one cuts none faults source (Task fault) (Automaton other) one two = absurd (deep_or_large cuts source two.1 one.1)
refusals_one cuts none faults source (Task fault) (Task other) one two = ap Task (one.0 ∙ sym two.0)
refusals_one cuts none faults source (Task fault) (Game other) one two = absurd two
refusals_one cuts none faults source (Task fault) (Circuit other) one two = absurd two
refusals_one cuts none faults source (Task fault) Memory one two = absurd two
refusals_one cuts none faults source (Task fault) Io one two = absurd two
refusals_one cuts none faults source (Game fault) other one two = absurd one
refusals_one cuts none faults source (Circuit fault) other one two = absurd one
refusals_one cuts none faults source Memory other one two = absurd one
refusals_one cuts none faults source Io other one two = absurd one

-- a formula that a text says is within the limits or refused
judged : (source : List ℕ) (tree : FormulaTree) → SaysFormula source tree → (most_formula_depth < formula_depth tree) ⊎ (formula_depth tree ≤ most_formula_depth)
    → (most_formula_nodes < formula_size tree) ⊎ (formula_size tree ≤ most_formula_nodes)
    → (most_formula_names < length (names_of tree)) ⊎ (length (names_of tree) ≤ most_formula_names)
    → ((one : FormulaTree) × IsFormulaText source one) ⊎ ((refusal : Refusal) × IsFormulaTextRefusal source refusal)
judged source tree says (inl deep) size names = inr (Automaton TooDeep, (refl, record { tree = tree; says = says; deep = deep }))
judged source tree says (inr shallow) (inl large) names =
    inr (Task TooLarge, (refl, record { tree = tree; says = says; shallow = shallow; large = inl large }))
judged source tree says (inr shallow) (inr small) (inl many) =
    inr (Task TooLarge, (refl, record { tree = tree; says = says; shallow = shallow; large = inr many }))
judged source tree says (inr shallow) (inr small) (inr few) =
    inl (tree, record { says = says; within = record { shallow = shallow; small = small; few_names = few } })

pub texts_decided : (IsDecidable formula_syntax → TextsAreReadOrFaulty formula_syntax) → FormulaTextsAreReadOrRefused
texts_decided read_or source =
    elim (read_or decided source)
    as (λ _. ((tree : FormulaTree) × IsFormulaText source tree) ⊎ ((refusal : Refusal) × IsFormulaTextRefusal source refusal)) [
      | inl text ↦ judged source text.1.0 (record { short = text.0; writes = text.1.1 })
          (cases_lt most_formula_depth (formula_depth text.1.0))
          (cases_lt most_formula_nodes (formula_size text.1.0))
          (cases_lt most_formula_names (length (names_of text.1.0)))
      | inr faulty ↦ inr (Text faulty.0, faulty.1)
    ]
