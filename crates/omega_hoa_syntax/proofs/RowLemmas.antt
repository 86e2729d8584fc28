-- Rows of several parts.
use Rattle.std.proofs.Common.{◌≡◌, ℕ, List, [], ◌∷◌, Option, sym, ap, ◌∙◌, subst, arith, Result, Ok, Err}
use Rattle.omega_hoa_label.specs.Raw.{RawLabelTree}
use Rattle.std.specs.Prelude.{IfErr, IsErrAnd}
use Rattle.omega_hoa_expression.proofs.UnreadLemmas.{agree_same, first_same}
use Rattle.omega_hoa_expression.specs.Unread.{IsUnread}
use Rattle.omega_hoa_syntax.proofs.StepLemmas.{unread_then}
use Rattle.omega_hoa_syntax.specs.Grammar.{BeginsAutomaton, IsConj, ReadsAutomaton, ReadsNoAutomaton, ReadsNoOther, conj_row}
use Rattle.omega_hoa_syntax.specs.private.steps.Parts.{EndsConj}
use Rattle.omega_hoa_syntax.specs.private.steps.Reading.{Given, Passes}
use Rattle.omega_hoa_syntax.specs.Symbols.{ReadsSymbols, AutomatonSymbol, Tokens}
use Rattle.omega_hoa_syntax.specs.First.{FirstIs}
use Rattle.omega_hoa_syntax.specs.declared.raw_automaton.RawAutomaton.{RawAutomaton}
use Rattle.omega_hoa_syntax.specs.declared.raw_edge.RawEdge.{RawEdge}
use Rattle.omega_hoa_syntax.specs.declared.raw_item.RawItem.{RawItem}
use Rattle.omega_hoa_syntax.specs.declared.raw_state.RawState.{RawState}
use Rattle.omega_text.specs.declared.refusal.Refusal.{Refusal}

pub edge_same : (label : Option RawLabelTree) (targets : List ℕ) (marks : Option (List ℕ)) (it : RawEdge) → label ≡ it.label → targets ≡ it.targets → marks ≡ it.marks
    → (let edge : RawEdge = record { label = label; targets = targets; marks = marks } in edge ≡ it)
edge_same label targets marks it a b c =
    let make : Option RawLabelTree → List ℕ → Option (List ℕ) → RawEdge = λ x y z. record { label = x; targets = y; marks = z } in
    ap (λ x. make x targets marks) a ∙ (ap (λ y. make it.label y marks) b ∙ ap (λ z. make it.label it.targets z) c)

pub state_same : (label : Option RawLabelTree) (id : ℕ) (name marks : Option (List ℕ)) (edges : List RawEdge) (it : RawState)
    → label ≡ it.label → id ≡ it.number → name ≡ it.name → marks ≡ it.marks → edges ≡ it.edges
    → (let state : RawState = record { label = label; number = id; name = name; marks = marks; edges = edges } in state ≡ it)
state_same label id name marks edges it a b c d e =
    let make : Option RawLabelTree → ℕ → Option (List ℕ) → Option (List ℕ) → List RawEdge → RawState = λ v w x y z. record { label = v; number = w; name = x; marks = y; edges = z } in
    ap (λ v. make v id name marks edges) a ∙ (ap (λ w. make it.label w name marks edges) b ∙ (ap (λ x. make it.label it.number x marks edges) c
    ∙ (ap (λ y. make it.label it.number it.name y edges) d ∙ ap (λ z. make it.label it.number it.name it.marks z) e)))

pub raw_same : (version : List ℕ) (items : List RawItem) (states : List RawState) (it : RawAutomaton) → version ≡ it.version → items ≡ it.items → states ≡ it.states
    → (let raw : RawAutomaton = record { version = version; items = items; states = states } in raw ≡ it)
raw_same version items states it a b c =
    let make : List ℕ → List RawItem → List RawState → RawAutomaton = λ x y z. record { version = x; items = y; states = z } in
    ap (λ x. make x items states) a ∙ (ap (λ y. make it.version y states) b ∙ ap (λ z. make it.version it.items z) c)

-- a conj has a first number
of_conj : (P : List ℕ → Type 0) → ((first : ℕ) (more : List ℕ) → P (first ∷ more)) → (it : List ℕ) → IsConj it → P it
of_conj P holds [] valid = absurd (omega arith)
of_conj P holds (first ∷ more) valid = holds first more

-- what holds of each conj with a first number holds of a conj that can be written
pub conj_known : (tokens : Tokens) (Wanted : List ℕ → List AutomatonSymbol → Tokens → Type 0)
    → ((first : ℕ) (more : List ℕ) (others : List AutomatonSymbol) (rest : Tokens) → FirstIs EndsConj others → ReadsSymbols tokens (conj_row (first ∷ more) others) rest → Wanted (first ∷ more) others rest)
    → (it : List ℕ) (others : List AutomatonSymbol) (rest : Tokens) → IsConj it → FirstIs EndsConj others → ReadsSymbols tokens (conj_row it others) rest → Wanted it others rest
conj_known tokens Wanted direct it others rest valid follow spells =
    let P : List ℕ → Type 0 = λ it. ReadsSymbols tokens (conj_row it others) rest → Wanted it others rest in
    of_conj P (λ first more spells. direct first more others rest follow spells) it valid spells

pub conj_given : (old new : Tokens) (states : List ℕ) (first : ℕ) (more : List ℕ) → states ≡ first ∷ more
    → ((others : List AutomatonSymbol) (rest : Tokens) → ReadsSymbols new others rest → ReadsSymbols old (conj_row (first ∷ more) others) rest) → Given IsConj conj_row old new states
conj_given old new states first more is spells =
    let given : Given IsConj conj_row old new (first ∷ more) = record { is = omega arith; spells = spells } in
    subst (Given IsConj conj_row old new) (sym is) given

-- what is said of an error says more of it
pub error_is : {X : Type 0} (result : Result X Refusal) (said Wanted : Refusal → Type 0) → IsErrAnd result said → ((refusal : Refusal) → said refusal → Wanted refusal) → IfErr result Wanted
error_is (Ok value) said Wanted is follows = tt
error_is (Err refusal) said Wanted is follows = follows refusal is

-- no automaton is read where a step is not
pub automaton_unread : {X : Type 0} {IsMoreBegun : Tokens → Type 0} (result : Result X Refusal) (tokens : Tokens) (length long : ℕ) (refusal : Refusal) (IsMore : Tokens → Type 0) → IsErrAnd result (λ error. error ≡ refusal) → long ≡ length
    → IsUnread IsMore IsMoreBegun tokens long refusal → ((others : Tokens) → IsMore others → (raw : RawAutomaton) (rest : Tokens) → ReadsAutomaton others raw rest → ⊥)
    → ((before : Tokens) → IsMoreBegun before → BeginsAutomaton before) → IfErr result (IsUnread ReadsNoAutomaton BeginsAutomaton tokens length)
automaton_unread {X} {IsMoreBegun} result tokens length long refusal IsMore is same unread follows begins =
    error_is result _ (IsUnread ReadsNoAutomaton BeginsAutomaton tokens length) is
    (λ error e. first_same ReadsNoAutomaton BeginsAutomaton tokens length long refusal error e same (unread_then IsMore ReadsNoAutomaton IsMoreBegun BeginsAutomaton tokens long refusal unread follows begins))

-- what was found in steps is the one automaton that was written
pub only_found : (raw : RawAutomaton) (old new : Tokens) {Held : Tokens → Tokens → Type 0} → Passes Held old new
    → ((tokens left : Tokens) → Held tokens left → (other : RawAutomaton) (rest : Tokens) → ReadsAutomaton tokens other rest → (raw ≡ other) × ReadsSymbols left [] rest) → ReadsNoOther old raw new
only_found raw old new {Held} passes follows other rest reads =
    let held = subst (λ tokens. Held tokens new) (sym passes.split) (passes.holds new (agree_same new)) in
    follows old new held other rest reads
