-- That rows begin by the kinds by which they are known: the laws of `Part`, which its impls take from `specs` alone.
use Rattle.std.specs.Prelude.{◌≡◌, ℕ, true, false, List, [], ◌∷◌, Option, Some, None, refl}
use Rattle.omega_hoa_acceptance.specs.declared.name.Parameter.{Parameter}
use Rattle.omega_hoa_acceptance.specs.declared.name.Parameter.TheVariants as parameter
use Rattle.omega_hoa_syntax.specs.Grammar.{IsConj, IsRawEdge, IsRawItem, IsRawState, conj_row}
use Rattle.omega_hoa_syntax.specs.Grammar.{edge_row, item_row, label_row, optional_row}
use Rattle.omega_hoa_syntax.specs.Grammar.{parameter_row, sig_row, state_row, value_row}
use Rattle.omega_hoa_syntax.specs.private.steps.Parts.{EndsEdge, EndsItem, EndsState, is_edge}
use Rattle.omega_hoa_syntax.specs.private.steps.Parts.{is_header, is_parameter, is_value}
use Rattle.omega_hoa_syntax.specs.private.steps.Reading.{IsAny}
use Rattle.omega_hoa_syntax.specs.Symbols.{AutomatonSymbol}
use Rattle.omega_hoa_syntax.specs.First.{FirstIs}
use Rattle.omega_hoa_syntax.specs.declared.header_value.HeaderValue.{HeaderValue}
use Rattle.omega_hoa_syntax.specs.declared.raw_edge.RawEdge.{RawEdge}
use Rattle.omega_hoa_syntax.specs.declared.raw_item.RawItem.{RawItem}
use Rattle.omega_hoa_syntax.specs.declared.raw_state.RawState.{RawState}
use Rattle.omega_hoa_label.specs.Raw.{RawLabelTree}
use Rattle.omega_text.specs.declared.hoa.kind.HoaKind.{HoaKind}
use Rattle.omega_text.specs.declared.hoa.kind.HoaKind.TheVariants as kind
use Rattle.omega_hoa_syntax.specs.declared.header_value.HeaderValue.TheVariants as value

pub parameter_begun : (it : Parameter) (others : List AutomatonSymbol) → IsAny it
    → FirstIs (λ kind. is_parameter kind ≡ true) (parameter_row it others)
parameter_begun (parameter.Boolean true) others valid = refl
parameter_begun (parameter.Boolean false) others valid = refl
parameter_begun (parameter.Number n) others valid = refl
parameter_begun (parameter.Word bytes) others valid = refl

pub value_begun : (it : HeaderValue) (others : List AutomatonSymbol) → IsAny it
    → FirstIs (λ kind. is_value kind ≡ true) (value_row it others)
value_begun (value.Boolean true) others valid = refl
value_begun (value.Boolean false) others valid = refl
value_begun (value.Number n) others valid = refl
value_begun (value.Text bytes) others valid = refl
value_begun (value.Word bytes) others valid = refl

edge_begins : (label : Option RawLabelTree) (targets : List ℕ) (others : List AutomatonSymbol)
    → IsConj targets
    → FirstIs (λ kind. is_edge kind ≡ true) (optional_row label_row label (conj_row targets others))
edge_begins (Some tree) targets others valid = refl
edge_begins None [] others valid = elim valid [ ]
edge_begins None (first ∷ more) others valid = refl

pub edge_begun : (it : RawEdge) (others : List AutomatonSymbol) → IsRawEdge it
    → FirstIs (λ kind. is_edge kind ≡ true) (edge_row it others)
edge_begun it others valid =
    edge_begins it.label it.targets (optional_row sig_row it.marks others) valid

pub edge_follows : (kind : HoaKind) → is_edge kind ≡ true → EndsEdge kind
edge_follows kind.OpenBracket is = tt
edge_follows kind.Int is = tt
edge_follows kind.HeaderName is = tt
edge_follows kind.End is = tt
edge_follows other is = cc

pub state_begun : (it : RawState) (others : List AutomatonSymbol) → IsRawState it
    → FirstIs (λ kind. is_header kind ≡ true) (state_row it others)
state_begun it others valid = refl

pub state_follows : (kind : HoaKind) → is_header kind ≡ true → EndsState kind
state_follows kind.HeaderName is = tt
state_follows kind.End is = tt
state_follows other is = cc

pub item_begun : (it : RawItem) (others : List AutomatonSymbol) → IsRawItem it
    → FirstIs (λ kind. is_header kind ≡ true) (item_row it others)
item_begun it others valid = refl

pub item_follows : (kind : HoaKind) → is_header kind ≡ true → EndsItem kind
item_follows kind.HeaderName is = tt
item_follows kind.Body is = tt
item_follows other is = cc
