-- How written expressions are read back (docs/formats.md, labels and acceptance formulas):
-- the canonical text of a tree is the tokens of one expression as it is written, which means that tree.
use Rattle.std.specs.Prelude.{◌≡◌, ◌≢◌, ℕ, ◌+◌, ◌≤◌, false, List, [], ◌∷◌}
use Rattle.std.specs.Prelude.{◌++◌, Some, drop, length, map, slice_index}
use Rattle.omega_hoa_acceptance.specs.Meaning.{acc_meant}
use Rattle.omega_hoa_acceptance.specs.Reading.{IsAccOf, formula_symbols}
use Rattle.omega_hoa_acceptance.specs.Acceptance.{AccTree}
use Rattle.omega_hoa_label_text.specs.Expanding.{Defined, Entry, Meaning, expansion, replaced}
use Rattle.omega_hoa_label.specs.Label.{LabelTree}
use Rattle.omega_hoa_acceptance.specs.Raw.{RawAccTree, raw_acc_depth}
use Rattle.omega_hoa_label.specs.Raw.{RawLabelTree, raw_depth}
use Rattle.omega_hoa_label_text.specs.Reading.{IsOf, label_symbols}
use Rattle.omega_hoa_expression.specs.Symbols.{ExpressionSymbol, disjunctive, expression_symbol_of}
use Rattle.omega_hoa_label.specs.Writing.{NumbersFit, label_text, label_written}
use Rattle.omega_hoa_acceptance.specs.Writing.{SetsFit, acc_text, acc_written}
use Rattle.omega_text.specs.Cut.{Cuts}
use Rattle.omega_text.specs.Lexeme.{Lexeme}
use Rattle.omega_text.specs.declared.hoa.kind.HoaKind.{HoaKind}
use Rattle.omega_text.specs.hoa.Format.{hoa_format}
use Rattle.omega_text.specs.Bytes.{is_word_byte}

-- a text begins with nothing that goes on in a word, nor with a colon
pub record StandsApart (text : List ℕ) : Type 0 where
  pub ends : is_word_byte (slice_index text 0) ≡ false
  pub closes : slice_index text 0 ≢ 58

-- from one place of a text to another there are tokens, and they are these symbols
pub record AreThere (source : List ℕ) (from to : ℕ) (symbols : List ExpressionSymbol) : Type 0 where
  pub lexemes : List (Lexeme HoaKind)
  pub cuts : Cuts hoa_format source from lexemes to
  pub spells : map expression_symbol_of lexemes ≡ symbols

-- the canonical text of a label, if it does not run into what follows, is cut into the tokens of the label as it is
-- written
abbrev pub LabelTextsAreLabels : Type 0
LabelTextsAreLabels = (tree : LabelTree) (source following : List ℕ) (from : ℕ) → NumbersFit tree
    → StandsApart following
    → drop from source ≡ (label_text tree).bytes ++ following → AreThere source from
    (from + length (label_text tree).bytes) (label_symbols (label_written tree))

-- the canonical text of a formula, if it does not run into what follows, is cut into the tokens of the formula as it is
-- written
abbrev pub AccTextsAreFormulas : Type 0
AccTextsAreFormulas = (tree : AccTree) (source following : List ℕ) (from : ℕ) → SetsFit tree
    → StandsApart following → drop from source ≡ (acc_text tree).bytes ++ following
    → AreThere source from (from + length (acc_text tree).bytes) (formula_symbols (acc_written tree))

-- a label as it is written is an or-expression that means the label, whatever aliases there are
pub record MeansItself (entries : List Entry) (tree : LabelTree) : Type 0 where
  pub is : IsOf disjunctive (label_written tree)
  pub means : replaced entries (label_written tree)
      ≡ Some (record { tree = tree; depth = raw_depth (label_written tree) })

-- each label as it is written means itself
abbrev pub WrittenLabelsMean : Type 0
WrittenLabelsMean = (entries : List Entry) (tree : LabelTree) → MeansItself entries tree

-- a formula as it is written is an or-expression that means the formula
pub record AccMeansItself (tree : AccTree) : Type 0 where
  pub is : IsAccOf disjunctive (acc_written tree)
  pub means : acc_meant (acc_written tree) ≡ Some tree

-- each formula as it is written means itself
abbrev pub WrittenFormulasMean : Type 0
WrittenFormulasMean = (tree : AccTree) → AccMeansItself tree

-- each definition is an or-expression
abbrev pub AreExpressions : List Defined → Type 0
AreExpressions [] = Unit {0}
AreExpressions (definition ∷ definitions) =
    IsOf disjunctive definition.body × AreExpressions definitions

-- no expression that means a label is less deep than the label as it is written
abbrev pub WrittenLabelsAreShallowest : Type 0
WrittenLabelsAreShallowest = (definitions : List Defined) (label : RawLabelTree) (meaning : Meaning)
    → AreExpressions definitions → IsOf disjunctive label → expansion definitions label ≡ Some meaning
    → raw_depth (label_written meaning.tree) ≤ meaning.depth

-- no expression that means a formula is less deep than the formula as it is written
abbrev pub WrittenFormulasAreShallowest : Type 0
WrittenFormulasAreShallowest = (formula : RawAccTree) (tree : AccTree) → IsAccOf disjunctive formula
    → acc_meant formula ≡ Some tree → raw_acc_depth (acc_written tree) ≤ raw_acc_depth formula
