-- How an acceptance formula is built from its tokens: what is still open before the last part.
use Rattle.std.specs.Prelude.{◌≡◌, ℕ, List, [], ◌∷◌, ◌++◌}
use Rattle.omega_hoa_expression.specs.Depth.{counted}
use Rattle.omega_hoa_acceptance.specs.Raw.{RawAccTree, raw_acc_depth}
use Rattle.omega_hoa_acceptance.specs.Reading.{IsAccOf, ReadsAcc, formula_symbols}
use Rattle.omega_hoa_expression.specs.Symbols.{Rank, ExpressionSymbol, conjunctive, disjunctive, sign}
use Rattle.omega_hoa_expression.specs.declared.pending.Pending.{Pending}
use Rattle.omega_hoa_expression.specs.declared.pending.Pending.TheVariants.{And, Open, Or}
use Rattle.omega_hoa_acceptance.specs.declared.raw.RawAccNode.{RawAccNode}
use Rattle.omega_hoa_expression.specs.Passing.{FitsOr, FitsTight, Passed}
use Rattle.omega_hoa_acceptance.specs.private.layout.Raw.{atom_names, raw_acc_postfix}
use Rattle.omega_hoa_acceptance.specs.declared.unfinished.UnfinishedAcc.{UnfinishedAcc}
use Rattle.omega_text.specs.Lexeme.{Lexeme}
use Rattle.omega_text.specs.declared.hoa.kind.HoaKind.{HoaKind}
use Rattle.omega_text.specs.declared.hoa.kind.HoaKind.TheVariants as kind

-- what is pending before a part: open parentheses, and left parts with their operators
pub data Before : Type 0 where
  start : Before
  opened : Before → Before
  anded : Before → RawAccTree → Before
  ored : Before → RawAccTree → Before

-- its depth as it is counted
abbrev pub capped : RawAccTree → ℕ
capped tree = counted (raw_acc_depth tree)

-- its symbols
abbrev pub before_symbols : Before → List ExpressionSymbol
before_symbols start = []
before_symbols (opened before) = before_symbols before ++ sign kind.OpenParenthesis ∷ []
before_symbols (anded before left) =
    before_symbols before ++ (formula_symbols left ++ sign kind.And ∷ [])
before_symbols (ored before left) =
    before_symbols before ++ (formula_symbols left ++ sign kind.Or ∷ [])

-- the nodes of its left parts
abbrev pub before_nodes : Before → List RawAccNode
before_nodes start = []
before_nodes (opened before) = before_nodes before
before_nodes (anded before left) = before_nodes before ++ raw_acc_postfix left
before_nodes (ored before left) = before_nodes before ++ raw_acc_postfix left

-- the atoms' names of its left parts
abbrev pub before_names : Before → List ℕ
before_names start = []
before_names (opened before) = before_names before
before_names (anded before left) = before_names before ++ atom_names left
before_names (ored before left) = before_names before ++ atom_names left

-- what is pending, the last first
abbrev pub before_pending : Before → List Pending
before_pending start = []
before_pending (opened before) = Open ∷ before_pending before
before_pending (anded before left) = And (capped left) ∷ before_pending before
before_pending (ored before left) = Or (capped left) ∷ before_pending before

-- a part of this case may follow it
abbrev pub FitsAfter : Rank → Before → Type 0
FitsAfter rank start = Unit {0}
FitsAfter rank (opened before) = Unit {0}
FitsAfter rank (anded before left) = FitsTight rank
FitsAfter rank (ored before left) = FitsOr rank

-- its left parts are of the cases that their operators take
abbrev pub IsOpenBefore : Before → Type 0
IsOpenBefore start = Unit {0}
IsOpenBefore (opened before) = IsOpenBefore before
IsOpenBefore (anded before left) =
    IsAccOf conjunctive left × (FitsAfter conjunctive before × IsOpenBefore before)
IsOpenBefore (ored before left) =
    IsAccOf disjunctive left × (FitsAfter disjunctive before × IsOpenBefore before)

-- a part is wanted, after what these hold
pub record Wants (whole left : List (Lexeme HoaKind)) (nodes : List RawAccNode) (names : List ℕ)
    (pending : List Pending) : Type 0 where
  pub before : Before
  pub sound : IsOpenBefore before
  pub flat : nodes ≡ before_nodes before
  pub named : names ≡ before_names before
  pub pends : pending ≡ before_pending before
  pub passed : Passed whole (before_symbols before) left

-- the last part of what these hold is of this case and depth
pub record Has (rank : Rank) (whole left : List (Lexeme HoaKind)) (depth : ℕ)
    (nodes : List RawAccNode) (names : List ℕ) (pending : List Pending) : Type 0 where
  pub before : Before
  pub part : RawAccTree
  pub is : IsAccOf rank part
  pub fits : FitsAfter rank before
  pub sound : IsOpenBefore before
  pub deep : depth ≡ capped part
  pub flat : nodes ≡ before_nodes before ++ raw_acc_postfix part
  pub named : names ≡ before_names before ++ atom_names part
  pub pends : pending ≡ before_pending before
  pub passed : Passed whole (before_symbols before ++ formula_symbols part) left

-- a part is wanted, after what an unfinished formula holds
abbrev pub WantsIn : (whole left : List (Lexeme HoaKind)) → UnfinishedAcc → Type 0
WantsIn whole left unfinished =
    Wants whole left unfinished.nodes.items unfinished.names.items unfinished.pending

-- a part of this case is last in an unfinished formula
abbrev pub HasIn : Rank → (whole left : List (Lexeme HoaKind)) → UnfinishedAcc → Type 0
HasIn rank whole left unfinished = Has rank whole left unfinished.depth unfinished.nodes.items
    unfinished.names.items unfinished.pending

-- an unfinished formula is whole, and no operator follows
pub record IsWhole (whole left : List (Lexeme HoaKind)) (unfinished : UnfinishedAcc) : Type 0 where
  pub tree : RawAccTree
  pub reads : ReadsAcc whole tree left
  pub flat : unfinished.nodes.items ≡ raw_acc_postfix tree
  pub named : unfinished.names.items ≡ atom_names tree
  pub deep : unfinished.depth ≡ capped tree
