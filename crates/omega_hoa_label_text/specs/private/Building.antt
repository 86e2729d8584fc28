-- How a label is built from its tokens: what is still open before the last part.
use Rattle.std.specs.Prelude.{◌≡◌, ℕ, Bool, true, false, List, [], ◌∷◌, ◌++◌}
use Rattle.omega_hoa_expression.specs.Depth.{counted}
use Rattle.omega_hoa_label.specs.Raw.{RawLabelTree, raw_depth}
use Rattle.omega_hoa_label_text.specs.Reading.{IsOf, Reads, label_symbols}
use Rattle.omega_hoa_expression.specs.Symbols.{Rank, ExpressionSymbol, conjunctive, disjunctive, sign}
use Rattle.omega_hoa_expression.specs.declared.pending.Pending.{Pending}
use Rattle.omega_hoa_expression.specs.declared.pending.Pending.TheVariants.{And, Not, Open, Or}
use Rattle.omega_hoa_label.specs.declared.label.LabelNode.{LabelNode}
use Rattle.omega_hoa_label.specs.declared.label.LabelNode.TheVariants.{Proposition}
use Rattle.omega_hoa_label.specs.declared.label.LabelNode.TheVariants as node
use Rattle.omega_hoa_expression.specs.Passing.{FitsOr, FitsTight, Passed}
use Rattle.omega_hoa_label.specs.Postfix.{alias_names, raw_postfix}
use Rattle.omega_hoa_label_text.specs.declared.unfinished.Unfinished.{Unfinished}
use Rattle.omega_text.specs.Lexeme.{Lexeme}
use Rattle.omega_text.specs.declared.hoa.kind.HoaKind.{HoaKind}
use Rattle.omega_text.specs.declared.hoa.kind.HoaKind.TheVariants as kind

-- what is pending before a part: open parentheses, `!`, and left parts with their operators
pub data Before : Type 0 where
  start : Before
  opened : Before → Before
  denied : Before → Before
  anded : Before → RawLabelTree → Before
  ored : Before → RawLabelTree → Before

-- its depth as it is counted
abbrev pub capped : RawLabelTree → ℕ
capped tree = counted (raw_depth tree)

-- its symbols
abbrev pub before_symbols : Before → List ExpressionSymbol
before_symbols start = []
before_symbols (opened before) = before_symbols before ++ sign kind.OpenParenthesis ∷ []
before_symbols (denied before) = before_symbols before ++ sign kind.Not ∷ []
before_symbols (anded before left) =
    before_symbols before ++ (label_symbols left ++ sign kind.And ∷ [])
before_symbols (ored before left) =
    before_symbols before ++ (label_symbols left ++ sign kind.Or ∷ [])

-- the nodes of its left parts
abbrev pub before_nodes : Before → List LabelNode
before_nodes start = []
before_nodes (opened before) = before_nodes before
before_nodes (denied before) = before_nodes before
before_nodes (anded before left) = before_nodes before ++ raw_postfix left
before_nodes (ored before left) = before_nodes before ++ raw_postfix left

-- the alias names of its left parts
abbrev pub before_names : Before → List ℕ
before_names start = []
before_names (opened before) = before_names before
before_names (denied before) = before_names before
before_names (anded before left) = before_names before ++ alias_names left
before_names (ored before left) = before_names before ++ alias_names left

-- what is pending, the last first
abbrev pub before_pending : Before → List Pending
before_pending start = []
before_pending (opened before) = Open ∷ before_pending before
before_pending (denied before) = Not ∷ before_pending before
before_pending (anded before left) = And (capped left) ∷ before_pending before
before_pending (ored before left) = Or (capped left) ∷ before_pending before

-- a part of this case may follow it
abbrev pub FitsAfter : Rank → Before → Type 0
FitsAfter rank start = Unit {0}
FitsAfter rank (opened before) = Unit {0}
FitsAfter rank (denied before) = FitsTight rank
FitsAfter rank (anded before left) = FitsTight rank
FitsAfter rank (ored before left) = FitsOr rank

-- its left parts are of the cases that their operators take
abbrev pub IsOpenBefore : Before → Type 0
IsOpenBefore start = Unit {0}
IsOpenBefore (opened before) = IsOpenBefore before
IsOpenBefore (denied before) = IsOpenBefore before
IsOpenBefore (anded before left) =
    IsOf conjunctive left × (FitsAfter conjunctive before × IsOpenBefore before)
IsOpenBefore (ored before left) =
    IsOf disjunctive left × (FitsAfter disjunctive before × IsOpenBefore before)

-- a part is wanted, after what these hold
pub record Wants (whole left : List (Lexeme HoaKind)) (nodes : List LabelNode) (names : List ℕ)
    (pending : List Pending) : Type 0 where
  pub before : Before
  pub sound : IsOpenBefore before
  pub flat : nodes ≡ before_nodes before
  pub named : names ≡ before_names before
  pub pends : pending ≡ before_pending before
  pub passed : Passed whole (before_symbols before) left

-- the last part of what these hold is of this case and depth
pub record Has (rank : Rank) (whole left : List (Lexeme HoaKind)) (depth : ℕ)
    (nodes : List LabelNode) (names : List ℕ) (pending : List Pending) : Type 0 where
  pub before : Before
  pub part : RawLabelTree
  pub is : IsOf rank part
  pub fits : FitsAfter rank before
  pub sound : IsOpenBefore before
  pub deep : depth ≡ capped part
  pub flat : nodes ≡ before_nodes before ++ raw_postfix part
  pub named : names ≡ before_names before ++ alias_names part
  pub pends : pending ≡ before_pending before
  pub passed : Passed whole (before_symbols before ++ label_symbols part) left

-- a part is wanted, after what an unfinished label holds
abbrev pub WantsIn : (whole left : List (Lexeme HoaKind)) → Unfinished → Type 0
WantsIn whole left unfinished =
    Wants whole left unfinished.nodes unfinished.names.items unfinished.pending

-- a part of this case is last in an unfinished label
abbrev pub HasIn : Rank → (whole left : List (Lexeme HoaKind)) → Unfinished → Type 0
HasIn rank whole left unfinished = Has rank whole left unfinished.depth unfinished.nodes
    unfinished.names.items unfinished.pending

-- the nodes of a proposition, after `!` or not
abbrev pub literal : Bool → ℕ → List LabelNode
literal true value = Proposition value ∷ node.Not ∷ []
literal false value = Proposition value ∷ []

-- and its depth
abbrev pub literal_depth : Bool → ℕ
literal_depth true = 2
literal_depth false = 1

-- an unfinished label is whole, and no operator follows
pub record IsWhole (whole left : List (Lexeme HoaKind)) (unfinished : Unfinished) : Type 0 where
  pub tree : RawLabelTree
  pub reads : Reads whole tree left
  pub flat : unfinished.nodes ≡ raw_postfix tree
  pub named : unfinished.names.items ≡ alias_names tree
  pub deep : unfinished.depth ≡ capped tree
