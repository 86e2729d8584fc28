-- What follows a part in a text does not go on with it.
use Rattle.std.proofs.Common.{◌≡◌, ℕ, true, List, [], ◌∷◌, Option, Some, None, refl, arith}
use Rattle.std.specs.Prelude.{IfSome}
use Rattle.std.specs.List.{AllByRecursion}
use Rattle.omega_hoa_syntax.proofs.SpellingLemmas.{first_then}
use Rattle.omega_hoa_syntax.specs.private.steps.Beginnings.{edge_begun}
use Rattle.omega_hoa_syntax.specs.Grammar.{IsConj, IsRawEdge, conj_row, each, edge_row, optional_row, sig_row}
use Rattle.omega_hoa_syntax.specs.private.steps.Parts.{EndsConj, EndsEdge, EndsItem, EndsState, is_and, is_brace, is_bracket, is_edge, is_identifier, is_parameter, is_string, is_value}
use Rattle.omega_hoa_syntax.specs.private.steps.Reading.{EndsList, IsAny, IsKind}
use Rattle.omega_hoa_syntax.specs.Symbols.{AutomatonSymbol}
use Rattle.omega_hoa_syntax.specs.First.{FirstIs}
use Rattle.omega_hoa_syntax.specs.declared.raw_edge.RawEdge.{RawEdge}
use Rattle.omega_text.specs.declared.hoa.kind.HoaKind.{HoaKind}
use Rattle.omega_text.specs.declared.hoa.kind.HoaKind.TheVariants as kind

-- the values of a list may be any
pub all_any : {X : Type 0} (values : List X) → AllByRecursion IsAny values
all_any [] = tt
all_any (first ∷ more) = (tt, all_any more)

-- a value that is there or not may be any
pub some_any : {X : Type 0} (it : Option X) → IfSome it IsAny
some_any None = tt
some_any (Some value) = tt

item_string : (kind : HoaKind) → EndsItem kind → EndsList is_string IsKind kind
item_string kind.HeaderName ends = (refl, tt)
item_string kind.Body ends = (refl, tt)
item_string other ends = absurd ends

item_identifier : (kind : HoaKind) → EndsItem kind → EndsList is_identifier IsKind kind
item_identifier kind.HeaderName ends = (refl, tt)
item_identifier kind.Body ends = (refl, tt)
item_identifier other ends = absurd ends

item_parameter : (kind : HoaKind) → EndsItem kind → EndsList is_parameter IsKind kind
item_parameter kind.HeaderName ends = (refl, tt)
item_parameter kind.Body ends = (refl, tt)
item_parameter other ends = absurd ends

item_value : (kind : HoaKind) → EndsItem kind → EndsList is_value IsKind kind
item_value kind.HeaderName ends = (refl, tt)
item_value kind.Body ends = (refl, tt)
item_value other ends = absurd ends

item_conj : (kind : HoaKind) → EndsItem kind → EndsConj kind
item_conj kind.HeaderName ends = tt
item_conj kind.Body ends = tt
item_conj other ends = absurd ends

conj_and : (kind : HoaKind) → EndsConj kind → EndsList is_and IsKind kind
conj_and kind.And ends = absurd ends
conj_and other ends = (refl, tt)

edge_conj : (kind : HoaKind) → EndsEdge kind → EndsConj kind
edge_conj kind.OpenBracket ends = tt
edge_conj kind.Int ends = tt
edge_conj kind.HeaderName ends = tt
edge_conj kind.End ends = tt
edge_conj other ends = absurd ends

edge_brace : (kind : HoaKind) → EndsEdge kind → EndsList is_brace IsKind kind
edge_brace kind.OpenBracket ends = (refl, tt)
edge_brace kind.Int ends = (refl, tt)
edge_brace kind.HeaderName ends = (refl, tt)
edge_brace kind.End ends = (refl, tt)
edge_brace other ends = absurd ends

edge_string : (kind : HoaKind) → EndsEdge kind → EndsList is_string IsKind kind
edge_string kind.OpenBracket ends = (refl, tt)
edge_string kind.Int ends = (refl, tt)
edge_string kind.HeaderName ends = (refl, tt)
edge_string kind.End ends = (refl, tt)
edge_string other ends = absurd ends

state_edge : (kind : HoaKind) → EndsState kind → EndsList is_edge EndsEdge kind
state_edge kind.HeaderName ends = (refl, tt)
state_edge kind.End ends = (refl, tt)
state_edge other ends = absurd ends

edge_ends : (kind : HoaKind) → is_edge kind ≡ true → EndsEdge kind
edge_ends kind.OpenBracket is = tt
edge_ends kind.Int is = tt
edge_ends kind.HeaderName is = tt
edge_ends kind.End is = tt
edge_ends other is = cc

pub strings_end : (others : List AutomatonSymbol) → FirstIs EndsItem others → FirstIs (EndsList is_string IsKind) others
strings_end others ends = first_then EndsItem (EndsList is_string IsKind) others item_string ends

pub words_end : (others : List AutomatonSymbol) → FirstIs EndsItem others → FirstIs (EndsList is_identifier IsKind) others
words_end others ends = first_then EndsItem (EndsList is_identifier IsKind) others item_identifier ends

pub parameters_end : (others : List AutomatonSymbol) → FirstIs EndsItem others → FirstIs (EndsList is_parameter IsKind) others
parameters_end others ends = first_then EndsItem (EndsList is_parameter IsKind) others item_parameter ends

pub values_end : (others : List AutomatonSymbol) → FirstIs EndsItem others → FirstIs (EndsList is_value IsKind) others
values_end others ends = first_then EndsItem (EndsList is_value IsKind) others item_value ends

pub start_ends : (others : List AutomatonSymbol) → FirstIs EndsItem others → FirstIs EndsConj others
start_ends others ends = first_then EndsItem EndsConj others item_conj ends

pub joined_end : (others : List AutomatonSymbol) → FirstIs EndsConj others → FirstIs (EndsList is_and IsKind) others
joined_end others ends = first_then EndsConj (EndsList is_and IsKind) others conj_and ends

-- no label follows the label of an edge
pub guard_ends : (targets : List ℕ) (others : List AutomatonSymbol) → IsConj targets → FirstIs (EndsList is_bracket IsKind) (conj_row targets others)
guard_ends [] others valid = absurd (omega arith)
guard_ends (first ∷ more) others valid = (refl, tt)

-- a sig or what follows an edge follows its targets
pub targets_end : (marks : Option (List ℕ)) (others : List AutomatonSymbol) → FirstIs EndsEdge others → FirstIs EndsConj (optional_row sig_row marks others)
targets_end (Some marks) others ends = tt
targets_end None others ends = first_then EndsEdge EndsConj others edge_conj ends

pub sig_ends : (others : List AutomatonSymbol) → FirstIs EndsEdge others → FirstIs (EndsList is_brace IsKind) others
sig_ends others ends = first_then EndsEdge (EndsList is_brace IsKind) others edge_brace ends

pub edges_end : (others : List AutomatonSymbol) → FirstIs EndsState others → FirstIs (EndsList is_edge EndsEdge) others
edges_end others ends = first_then EndsState (EndsList is_edge EndsEdge) others state_edge ends

-- an edge or what follows a state follows what is before the edges
pub edges_begin : (edges : List RawEdge) (others : List AutomatonSymbol) → AllByRecursion IsRawEdge edges → FirstIs EndsState others → FirstIs EndsEdge (each edge_row edges others)
edges_begin [] others are ends = first_then (EndsList is_edge EndsEdge) EndsEdge others (λ kind holds. holds.1) (edges_end others ends)
edges_begin (edge ∷ more) others are ends =
    first_then (λ kind. is_edge kind ≡ true) EndsEdge (edge_row edge (each edge_row more others)) edge_ends (edge_begun edge (each edge_row more others) are.0)

-- no further name follows the name of a state
pub name_ends : (marks : Option (List ℕ)) (others : List AutomatonSymbol) → FirstIs EndsEdge others → FirstIs (EndsList is_string IsKind) (optional_row sig_row marks others)
name_ends (Some marks) others ends = (refl, tt)
name_ends None others ends = first_then EndsEdge (EndsList is_string IsKind) others edge_string ends
