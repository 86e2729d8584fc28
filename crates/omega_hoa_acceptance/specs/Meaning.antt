-- What an acceptance formula as it is written means: its atoms are `Fin` and `Inf`,
-- and parentheses only group (HOA v1, acceptance).
use Rattle.std.specs.Prelude.{◌≡◌, ℕ, Bool, nat_lt, if◌then◌else◌, List}
use Rattle.std.specs.Prelude.{[], ◌∷◌, ◌++◌, Option, Some, None, codes}
use Rattle.std.specs.Str.{bytes_eq}
use Rattle.omega_hoa_acceptance.specs.Acceptance.{AccTree}
use Rattle.omega_hoa_acceptance.specs.Acceptance as acc
use Rattle.omega_hoa_acceptance.specs.Reading.{BeginsAcc, ReadsAcc, ReadsNoAcc}
use Rattle.omega_hoa_expression.specs.Limits.{most_depth}
use Rattle.omega_hoa_acceptance.specs.Raw.{RawAccTree, atom, conjunction, constant}
use Rattle.omega_hoa_acceptance.specs.Raw.{disjunction, group, raw_acc_depth}
use Rattle.omega_hoa_expression.specs.Unread.{IsSyntax}
use Rattle.omega_text.specs.Cases.{never, or_automaton, or_memory, or_text}
use Rattle.omega_text.specs.Lexeme.{Lexeme}
use Rattle.omega_text.specs.declared.hoa.kind.HoaKind.{HoaKind}
use Rattle.omega_text.specs.declared.refusal.Refusal.{Refusal}
use Rattle.omega_text.specs.declared.refusal.automaton.AutomatonFault.{AutomatonFault}
use Rattle.omega_text.specs.declared.refusal.automaton.AutomatonFault.TheVariants.{AcceptanceAtom, TooDeep}

-- the sets of a formula from left to right, each as often as it occurs
abbrev pub acc_sets : RawAccTree → List ℕ
acc_sets (constant value) = []
acc_sets (atom name negated set) = set ∷ []
acc_sets (conjunction left right) = acc_sets left ++ acc_sets right
acc_sets (disjunction left right) = acc_sets left ++ acc_sets right
acc_sets (group part) = acc_sets part

-- what an atom with this identifier means; none if it is neither `Inf` nor `Fin`
abbrev pub atom_meant : List ℕ → Bool → ℕ → Option AccTree
atom_meant name negated set =
    if bytes_eq name (codes "Inf") then Some (acc.inf negated set)
    else (if bytes_eq name (codes "Fin") then Some (acc.fin negated set) else None)

-- two formulas and their operator, if there are both
abbrev pub both_meant : (AccTree → AccTree → AccTree) → Option AccTree
    → Option AccTree → Option AccTree
both_meant operator None right = None
both_meant operator (Some left) None = None
both_meant operator (Some left) (Some right) = Some (operator left right)

-- what a formula as it is written means; none if an atom means nothing
abbrev pub acc_meant : RawAccTree → Option AccTree
acc_meant (constant value) = Some (acc.constant value)
acc_meant (atom name negated set) = atom_meant name negated set
acc_meant (conjunction left right) = both_meant acc.conjunction (acc_meant left) (acc_meant right)
acc_meant (disjunction left right) = both_meant acc.disjunction (acc_meant left) (acc_meant right)
acc_meant (group part) = acc_meant part

-- the fault of a meaning and the depth that it was written with: an atom that means nothing, or else the depth
abbrev pub fault_of_meant : Option AccTree → ℕ → Option AutomatonFault
fault_of_meant None depth = Some AcceptanceAtom
fault_of_meant (Some tree) depth = if nat_lt most_depth depth then Some TooDeep else None

-- the fault of a formula as it is written
abbrev pub fault_of_acc : RawAccTree → Option AutomatonFault
fault_of_acc raw = fault_of_meant (acc_meant raw) (raw_acc_depth raw)

-- the formula is what another one as it is written means, and that has no fault
pub record IsMeant (raw : RawAccTree) (tree : AccTree) : Type 0 where
  pub sound : fault_of_acc raw ≡ None
  pub means : acc_meant raw ≡ Some tree

-- a refusal by the fault of a formula as it is written, or want of memory
abbrev pub IsUnmeant : RawAccTree → Refusal → Type 0
IsUnmeant raw = or_automaton (λ fault. fault_of_acc raw ≡ Some fault) (or_memory never)

-- the tokens are a formula's that means this one without a fault, and then the rest,
-- which does not go on with an operator
pub record ReadsMeant (tokens : List (Lexeme HoaKind)) (tree : AccTree)
    (rest : List (Lexeme HoaKind)) : Type 0 where
  pub raw : RawAccTree
  pub reads : ReadsAcc tokens raw rest
  pub is : IsMeant raw tree

-- the tokens are a formula's that has this fault, and then the rest, which does not go on with an operator
pub record ReadsFaulty (tokens : List (Lexeme HoaKind)) (fault : AutomatonFault)
    (rest : List (Lexeme HoaKind)) : Type 0 where
  pub raw : RawAccTree
  pub reads : ReadsAcc tokens raw rest
  pub faulty : fault_of_acc raw ≡ Some fault

-- the refusals of reading a formula of tokens, after which the rest is left: there is none, or one with a fault
abbrev pub IsUnreadAcc : (tokens rest : List (Lexeme HoaKind)) → ℕ → Refusal → Type 0
IsUnreadAcc tokens rest length = or_text (IsSyntax ReadsNoAcc BeginsAcc tokens length)
    (or_automaton (λ fault. ReadsFaulty tokens fault rest) (or_memory never))
