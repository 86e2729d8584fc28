-- The grammar of labels as they are written: `!` binds tightest, then `&`, then `|`, and equal operators group to the
-- left (HOA v1).
use Rattle.std.specs.Prelude.{◌≡◌, ℕ, ◌<◌, List, [], ◌∷◌, ◌++◌, map}
use Rattle.omega_hoa_label.specs.Raw.{RawLabelTree, alias, conjunction, constant}
use Rattle.omega_hoa_label.specs.Raw.{disjunction, group, negation, proposition, raw_depth}
use Rattle.omega_hoa_expression.specs.Limits.{most_depth}
use Rattle.omega_hoa_expression.specs.Symbols.{EndsThere, Rank, ExpressionSymbol, TakesAnd}
use Rattle.omega_hoa_expression.specs.Symbols.{TakesOr, conjunctive, disjunctive, name, number}
use Rattle.omega_hoa_expression.specs.Symbols.{sign, expression_symbol_of, truth_kind, unary}
use Rattle.omega_hoa_expression.specs.Unread.{IsSyntax}
use Rattle.omega_text.specs.Cases.{never, or_automaton, or_memory, or_text}
use Rattle.omega_text.specs.Lexeme.{Lexeme}
use Rattle.omega_text.specs.declared.hoa.kind.HoaKind.{HoaKind}
use Rattle.omega_text.specs.declared.hoa.kind.HoaKind.TheVariants as kind
use Rattle.omega_text.specs.declared.refusal.Refusal.{Refusal}
use Rattle.omega_text.specs.declared.refusal.automaton.AutomatonFault.TheVariants.{TooDeep}

-- the symbols of a label
abbrev pub label_symbols : RawLabelTree → List ExpressionSymbol
label_symbols (constant value) = sign (truth_kind value) ∷ []
label_symbols (proposition value) = number value ∷ []
label_symbols (alias text) = name text ∷ []
label_symbols (negation part) = sign kind.Not ∷ label_symbols part
label_symbols (conjunction left right) = label_symbols left ++ sign kind.And ∷ label_symbols right
label_symbols (disjunction left right) = label_symbols left ++ sign kind.Or ∷ label_symbols right
label_symbols (group part) =
    sign kind.OpenParenthesis ∷ (label_symbols part ++ sign kind.CloseParenthesis ∷ [])

-- The label is of this case. An or-expression is an and-expression, or an or-expression, `|` and an and-expression. An
-- and-expression is a unary one, or an and-expression, `&` and a unary one. A unary one is an atom, `!` and a unary
-- one, or an or-expression in parentheses.
abbrev pub IsOf : Rank → RawLabelTree → Type 0
IsOf rank (constant value) = Unit {0}
IsOf rank (proposition value) = Unit {0}
IsOf rank (alias text) = Unit {0}
IsOf rank (negation part) = IsOf unary part
IsOf rank (conjunction left right) = TakesAnd rank × (IsOf conjunctive left × IsOf unary right)
IsOf rank (disjunction left right) = TakesOr rank × (IsOf disjunctive left × IsOf conjunctive right)
IsOf rank (group part) = IsOf disjunctive part

-- the tokens are a label's, and then the rest, which does not go on with an operator
pub record Reads (tokens : List (Lexeme HoaKind)) (tree : RawLabelTree)
    (rest : List (Lexeme HoaKind)) : Type 0 where
  pub front : List (Lexeme HoaKind)
  pub split : tokens ≡ front ++ rest
  pub spells : map expression_symbol_of front ≡ label_symbols tree
  pub is : IsOf disjunctive tree
  pub ends : EndsThere rest

-- no front of the tokens is a label with no operator after it
abbrev pub ReadsNoLabel : List (Lexeme HoaKind) → Type 0
ReadsNoLabel tokens = (tree : RawLabelTree) (rest : List (Lexeme HoaKind))
    → Reads tokens tree rest → ⊥

-- a label begins with the tokens: they and some more are one
abbrev pub BeginsLabel : List (Lexeme HoaKind) → Type 0
BeginsLabel tokens = (more : List (Lexeme HoaKind)) × (tree : RawLabelTree)
    × Reads (tokens ++ more) tree []

-- a label is read that is too deep
pub record ReadsDeep (tokens rest : List (Lexeme HoaKind)) : Type 0 where
  pub tree : RawLabelTree
  pub reads : Reads tokens tree rest
  pub deep : most_depth < raw_depth tree

-- the refusals of reading a label of tokens, after which the rest is left: there is none, or one that is too deep
abbrev pub IsUnreadLabel : (tokens rest : List (Lexeme HoaKind)) → ℕ → Refusal → Type 0
IsUnreadLabel tokens rest length = or_text (IsSyntax ReadsNoLabel BeginsLabel tokens length)
    (or_automaton (λ fault. (fault ≡ TooDeep) × ReadsDeep tokens rest) (or_memory never))

-- of all tokens at most one label is read, and at most one rest is left
abbrev pub LabelsAreOne : Type 0
LabelsAreOne =
    (tokens : List (Lexeme HoaKind)) (one other : RawLabelTree) (rest left : List (Lexeme HoaKind))
    → Reads tokens one rest → Reads tokens other left → (one ≡ other) × (rest ≡ left)
