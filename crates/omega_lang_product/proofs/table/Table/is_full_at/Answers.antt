-- a state that is full has the edges of its valuations
use Rattle.std.proofs.Common.{◌≡◌, ◌<◌, ℕ, List, length, get_or, ap, sym, subst, ◌∙◌, arith}
use Rattle.std.proofs.lemmas.List.{length-map}
use Rattle.omega_hoa_automaton.specs.declared.state.State.{State}
use Rattle.omega_hoa_edges.specs.Labels.{is_full}
use Rattle.omega_lang_product.specs.PlainEdges.{View}
use Rattle.omega_lang_product.specs.private.Meeting.{AreByValuation}
use Rattle.omega_lang_product.specs.private.Tables.{IsTableOf, view_in}
use Rattle.omega_lang_product.proofs.Made.{row_here}
use Rattle.omega_lang_product.proofs.Valuations.{full_row}
use Rattle.omega_lang_product.proofs.table.Table.is_full_at.Goals as goal

pub returns-in-Some : goal.returns-in-Some
returns-in-Some c =
    let states : List State = c.args.automaton.now.defined in
    let table = c.args.self.now in
    let state : State = c.index-defined-place.result in
    let are = c.requires.1 in
    let own : IsTableOf (view_in table) states table = subst (λ (v : View). IsTableOf v states table) (sym are.seen) are in
    let below : c.in-Some.place < length states =
    omega (arith, c.in-Some.ensures.within, ap length are.numbered.numbers_are, length-map states (λ (s : State). s.number)) in
    let here : state ≡ get_or states c.in-Some.place state = c.index-defined-place.is ∙ ap (λ (s : List State). get_or s c.in-Some.place state) c.defined.ensures in
    λ full. subst (AreByValuation table.places.items)
    (row_here (view_in table) states table c.args.number c.in-Some.place state own (sym c.in-Some.ensures.index) below here)
    (full_row table.places.items table.before state (ap (λ (ps : List ℕ). is_full (length ps) state) (sym c.as_slice-places.ensures.value) ∙ sym c.is_full.ensures ∙ full))
