-- the edges that are made are those of the state with the number
use Rattle.std.proofs.Common.{◌≡◌, ◌<◌, List, length, get_or, ap, sym, subst, ◌∙◌, arith}
use Rattle.std.proofs.lemmas.List.{length-map}
use Rattle.omega_hoa_automaton.specs.Automaton.{IsState}
use Rattle.omega_hoa_automaton.specs.declared.state.State.{State}
use Rattle.omega_hoa_edges.specs.Fitting.{IsLarge}
use Rattle.omega_hoa_edges.proofs.Refusals.{large_weaker, passed_on}
use Rattle.omega_text.specs.declared.refusal.Refusal.{Refusal}
use Rattle.omega_lang_product.specs.Refusing.{HasUnfitEdge}
use Rattle.omega_lang_product.specs.PlainEdges.{View, plain_edges_at}
use Rattle.omega_lang_product.specs.private.Tables.{IsTableOf, row_of, view_in}
use Rattle.omega_lang_product.proofs.Made.{row_here}
use Rattle.omega_lang_product.proofs.Room.{state_has_room}
use Rattle.omega_lang_product.proofs.table.Table.reach.Goals as goal

pub returns-in_err-row-clause-err : goal.returns-in_err-row-clause-err
returns-in_err-row-clause-err c =
    let states : List State = c.args.automaton.now.defined in
    let table = c.args.self.now in
    let state : State = c.index-defined-place.result in
    passed_on c.from_residual.result
    (λ (refusal : Refusal). (view : View) → IsTableOf view states table → IsLarge (HasUnfitEdge (plain_edges_at view states c.args.number)) refusal)
    _ c.from_residual.ensures.1
    (λ view are.
    (let below : c.in-Some.place < length states =
    omega (arith, c.in-Some.ensures.within, ap length are.numbered.numbers_are, length-map states (λ (s : State). s.number)) in
    let here : state ≡ get_or states c.in-Some.place state = c.index-defined-place.is ∙ ap (λ (s : List State). get_or s c.in-Some.place state) c.defined.ensures in
    large_weaker (HasUnfitEdge (row_of (view_in table) state)) (HasUnfitEdge (plain_edges_at view states c.args.number))
    (subst HasUnfitEdge
    (ap (λ (v : View). row_of v state) are.seen ∙ row_here view states table c.args.number c.in-Some.place state are (sym c.in-Some.ensures.index) below here))
    _ c.in_err-row.ensures.err))

pub edges_of_state-requires : goal.edges_of_state-requires
edges_of_state-requires c =
    let a = c.args.automaton.now in
    let state : State = c.index-defined-place.result in
    let are = c.requires.table.1 in
    let below : c.in-Some.place < length a.defined =
    omega (arith, c.in-Some.ensures.within, ap length are.numbered.numbers_are, length-map a.defined (λ (s : State). s.number)) in
    let here : state ≡ get_or a.defined c.in-Some.place state = c.index-defined-place.is ∙ ap (λ (s : List State). get_or s c.in-Some.place state) c.defined.ensures in
    state_has_room c.args.self.now.before a state c.requires.room (subst (IsState a) (sym here) (c.keeps_limits.ensures.states c.in-Some.place state below))
