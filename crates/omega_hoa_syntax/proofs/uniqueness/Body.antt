-- Tokens begin with at most one conj, label, sig, edge and state.
use Rattle.std.proofs.Common.{◌≡◌, List, [], ◌∷◌, refl, ap, ◌∙◌, arith}
use Rattle.omega_hoa_label_text.specs.Reading.{LabelsAreOne, Reads}
use Rattle.omega_hoa_syntax.proofs.FollowLemmas.{all_any, edges_begin, edges_end, guard_ends, joined_end, name_ends, sig_ends, some_any, targets_end}
use Rattle.omega_hoa_syntax.proofs.PartLemmas.{IsPart}
use Rattle.omega_hoa_syntax.proofs.RowLemmas.{edge_same, state_same}
use Rattle.omega_hoa_syntax.proofs.uniqueness.Rows.{IsOne, each_one, int_one, optional_one, string_one}
use Rattle.omega_hoa_syntax.proofs.uniqueness.Tokens.{expression_one, sign_passed, token_one}
use Rattle.omega_hoa_syntax.specs.private.steps.Beginnings.{edge_begun, edge_follows, state_begun, state_follows}
use Rattle.omega_hoa_syntax.specs.private.steps.Joining.{edge_joins, sig_joins, state_joins}
use Rattle.omega_hoa_syntax.specs.Grammar.{IsConj, IsRawEdge, IsRawState, conj_row, each, edge_row, int_row, joined_row, label_row, optional_row, sig_row, state_row, string_row}
use Rattle.omega_hoa_syntax.specs.private.steps.Parts.{EndsConj, EndsEdge, EndsState, is_and, is_brace, is_bracket, is_edge, is_header, is_int, is_string}
use Rattle.omega_hoa_syntax.specs.private.steps.Reading.{IsAny, IsKind}
use Rattle.omega_hoa_syntax.specs.Symbols.{AutomatonSymbol, header, label, number, sign}
use Rattle.omega_hoa_syntax.specs.First.{FirstIs}
use Rattle.omega_hoa_syntax.specs.declared.raw_state.RawState.{RawState}
use Rattle.omega_text.specs.declared.hoa.kind.HoaKind.TheVariants as kind

pub int_part : IsPart IsAny int_row is_int IsKind
int_part = record { begun = λ it others is. refl; joins = λ it others. refl; follows = λ kind is. tt }

pub string_part : IsPart IsAny string_row is_string IsKind
string_part = record { begun = λ it others is. refl; joins = λ it others. refl; follows = λ kind is. tt }

joined_part : IsPart IsAny joined_row is_and IsKind
joined_part = record { begun = λ it others is. refl; joins = λ it others. refl; follows = λ kind is. tt }

label_part : IsPart IsAny label_row is_bracket IsKind
label_part = record { begun = λ it others is. refl; joins = λ it others. refl; follows = λ kind is. tt }

sig_part : IsPart IsAny sig_row is_brace IsKind
sig_part = record { begun = λ it others is. refl; joins = sig_joins; follows = λ kind is. tt }

edge_part : IsPart IsRawEdge edge_row is_edge EndsEdge
edge_part = record { begun = edge_begun; joins = edge_joins; follows = edge_follows }

pub state_part : IsPart IsRawState state_row is_header EndsState
state_part = record { begun = state_begun; joins = state_joins; follows = state_follows }

joined_one : IsOne IsAny joined_row (FirstIs IsKind)
joined_one tokens x y others more rest left _ _ ends last spells reads =
    let following = sign_passed kind.And tokens (number x ∷ others) (number y ∷ more) rest left (λ lexeme. refl) spells reads in
    int_one (FirstIs IsKind) following.middle x y others more rest left tt tt ends last following.one following.other

pub conj_one : IsOne IsConj conj_row (FirstIs EndsConj)
conj_one tokens [] y others more rest left is so ends last spells reads = absurd (omega arith)
conj_one tokens (x ∷ xs) [] others more rest left is so ends last spells reads = absurd (omega arith)
conj_one tokens (x ∷ xs) (y ∷ ys) others more rest left is so ends last spells reads =
    let first = token_one (number x) (number y) tokens (each joined_row xs others) (each joined_row ys more) rest left tt tt spells reads in
    let rests = each_one IsAny joined_row is_and IsKind joined_part joined_one first.1.middle xs ys others more rest left (all_any xs) (all_any ys) (joined_end others ends) (joined_end more last) first.1.one first.1.other in
    let same : x ≡ y = let e : number x ≡ number y = first.0 in cc in
    (ap (λ it. it ∷ xs) same ∙ ap (λ all. y ∷ all) rests.0, rests.1)

label_one : LabelsAreOne → IsOne IsAny label_row (FirstIs IsKind)
label_one labels tokens x y others more rest left _ _ ends last spells reads =
    let inside = sign_passed kind.OpenBracket tokens (label x ∷ sign kind.CloseBracket ∷ others) (label y ∷ sign kind.CloseBracket ∷ more) rest left (λ lexeme. refl) spells reads in
    let following = expression_one Reads labels x y inside.middle (sign kind.CloseBracket ∷ others) (sign kind.CloseBracket ∷ more) rest left inside.one inside.other in
    (following.0, sign_passed kind.CloseBracket following.1.middle others more rest left (λ lexeme. refl) following.1.one following.1.other)

sig_one : IsOne IsAny sig_row (FirstIs IsKind)
sig_one tokens x y others more rest left _ _ ends last spells reads =
    let inside = sign_passed kind.OpenBrace tokens (each int_row x (sign kind.CloseBrace ∷ others)) (each int_row y (sign kind.CloseBrace ∷ more)) rest left (λ lexeme. refl) spells reads in
    let following = each_one IsAny int_row is_int IsKind int_part (int_one (FirstIs IsKind)) inside.middle x y (sign kind.CloseBrace ∷ others) (sign kind.CloseBrace ∷ more) rest left
    (all_any x) (all_any y) (refl, tt) (refl, tt) inside.one inside.other in
    (following.0, sign_passed kind.CloseBrace following.1.middle others more rest left (λ lexeme. refl) following.1.one following.1.other)

edge_one : LabelsAreOne → IsOne IsRawEdge edge_row (FirstIs EndsEdge)
edge_one labels tokens x y others more rest left is so ends last spells reads =
    let a = optional_one IsAny label_row is_bracket IsKind label_part (label_one labels) tokens x.label y.label (conj_row x.targets (optional_row sig_row x.marks others)) (conj_row y.targets (optional_row sig_row y.marks more)) rest left
    (some_any x.label) (some_any y.label) (guard_ends x.targets _ is) (guard_ends y.targets _ so) spells reads in
    let b = conj_one a.1.middle x.targets y.targets (optional_row sig_row x.marks others) (optional_row sig_row y.marks more) rest left is so (targets_end x.marks others ends) (targets_end y.marks more last) a.1.one a.1.other in
    let c = optional_one IsAny sig_row is_brace IsKind sig_part sig_one b.1.middle x.marks y.marks others more rest left (some_any x.marks) (some_any y.marks) (sig_ends others ends) (sig_ends more last) b.1.one b.1.other in
    (edge_same x.label x.targets x.marks y a.0 b.0 c.0, c.1)

-- what follows the number of a state
abbrev after_number : RawState → List AutomatonSymbol → List AutomatonSymbol
after_number state others = optional_row string_row state.name (optional_row sig_row state.marks (each edge_row state.edges others))

pub state_one : LabelsAreOne → IsOne IsRawState state_row (FirstIs EndsState)
state_one labels tokens x y others more rest left is so ends last spells reads =
    let name = token_one (header _) (header _) tokens (optional_row label_row x.label (number x.number ∷ after_number x others)) (optional_row label_row y.label (number y.number ∷ after_number y more)) rest left tt tt spells reads in
    let a = optional_one IsAny label_row is_bracket IsKind label_part (label_one labels) name.1.middle x.label y.label (number x.number ∷ after_number x others) (number y.number ∷ after_number y more) rest left
    (some_any x.label) (some_any y.label) (refl, tt) (refl, tt) name.1.one name.1.other in
    let b = token_one (number x.number) (number y.number) a.1.middle (after_number x others) (after_number y more) rest left tt tt a.1.one a.1.other in
    let c = optional_one IsAny string_row is_string IsKind string_part (string_one (FirstIs IsKind)) b.1.middle x.name y.name (optional_row sig_row x.marks (each edge_row x.edges others)) (optional_row sig_row y.marks (each edge_row y.edges more)) rest left
    (some_any x.name) (some_any y.name) (name_ends x.marks _ (edges_begin x.edges others is ends)) (name_ends y.marks _ (edges_begin y.edges more so last)) b.1.one b.1.other in
    let d = optional_one IsAny sig_row is_brace IsKind sig_part sig_one c.1.middle x.marks y.marks (each edge_row x.edges others) (each edge_row y.edges more) rest left
    (some_any x.marks) (some_any y.marks) (sig_ends _ (edges_begin x.edges others is ends)) (sig_ends _ (edges_begin y.edges more so last)) c.1.one c.1.other in
    let e = each_one IsRawEdge edge_row is_edge EndsEdge edge_part (edge_one labels) d.1.middle x.edges y.edges others more rest left is so (edges_end others ends) (edges_end more last) d.1.one d.1.other in
    let id : x.number ≡ y.number = let same : number x.number ≡ number y.number = b.0 in cc in
    (state_same x.label x.number x.name x.marks x.edges y a.0 id c.0 d.0 e.0, e.1)
