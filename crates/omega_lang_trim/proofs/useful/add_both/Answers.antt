-- one state more, and all
use Rattle.std.proofs.Common.{◌≡◌, ◌+◌, ◌<◌, ◌&&◌, ◌++◌, ℕ, Bool, List, [], ◌∷◌, get_or, length, map, take, refl, ap, subst, ◌∙◌, arith}
use Rattle.std.proofs.lemmas.List.{length-map, take_all}
use Rattle.omega_hoa_automaton.specs.declared.state.State.{State}
use Rattle.omega_hoa_edges.specs.AutomatonLabels.{defined_numbers}
use Rattle.omega_lang_trim.specs.private.Placed.{flag_at}
use Rattle.omega_lang_trim.proofs.Among.{mapped_more, place_bound}
use Rattle.omega_lang_trim.proofs.Flags.{Have, have_both, have_next, no_both}
use Rattle.omega_lang_trim.proofs.useful.add_both.Goals as goal

pub are_both_set-requires-clause-reached : goal.are_both_set-requires-clause-reached
are_both_set-requires-clause-reached c =
    let bound = place_bound c.args.places.now.keys c.state-item.result.number in
    let long = length-map c.args.automaton.now.defined (λ (s : State). s.number) in
    omega (arith, bound, c.place_in-place.ensures, c.requires.reached, ap length c.requires.places, long)

pub are_both_set-requires-clause-live : goal.are_both_set-requires-clause-live
are_both_set-requires-clause-live c =
    let bound = place_bound c.args.places.now.keys c.state-item.result.number in
    let long = length-map c.args.automaton.now.defined (λ (s : State). s.number) in
    omega (arith, bound, c.place_in-place.ensures, c.requires.live, ap length c.requires.places, long)

pub loop-state-init : goal.loop-state-init
loop-state-init c = no_both c.args.places.now.keys c.args.flags.now.reached.now c.args.flags.now.live.now c.args.kept.now.keys c.requires.empty

pub loop-state-preserved : goal.loop-state-preserved
loop-state-preserved c =
    let places : List ℕ = c.args.places.now.keys in
    let states : List State = c.args.automaton.now.defined in
    let index : ℕ = c.loop-state.state-index in
    let state : State = c.state-item.result in
    let here : c.state-item.result ≡ get_or states index c.state-item.result = cc in
    let below : index < length states = omega (arith, ap length c.defined-state-items.ensures) in
    let grown : map (λ (s : State). s.number) (take index states) ++ state.number ∷ [] ≡ map (λ (s : State). s.number) (take (index + 1) states) =
    mapped_more (λ (s : State). s.number) states index state (map (λ (s : State). s.number) (take index states)) state.number below refl (ap (λ (s : State). s.number) here) in
    subst (λ (numbers : List ℕ). Have places c.args.flags.now.reached.now c.args.flags.now.live.now numbers c.add_if.new.numbers.keys) grown
    (have_next places c.args.flags.now.reached.now c.args.flags.now.live.now (map (λ (s : State). s.number) (take index states)) c.loop-state.kept.keys c.add_if.new.numbers.keys state.number c.are_both_set.result
    (c.are_both_set.ensures ∙ ap (λ (p : ℕ). flag_at c.args.flags.now.reached.now p && flag_at c.args.flags.now.live.now p) c.place_in-place.ensures)
    c.in_ok-add_if.ensures.numbers c.loop-state.invariant)

pub returns-clause-both : goal.returns-clause-both
returns-clause-both c =
    let reached : List Bool = c.args.flags.now.reached.now in
    let live : List Bool = c.args.flags.now.live.now in
    let states : List State = c.args.automaton.now.defined in
    let all : take c.loop-state.state-index states ≡ states = take_all c.loop-state.state-index states (omega (arith, ap length c.defined-state-items.ensures)) in
    have_both c.args.automaton.now reached live c.loop-state.kept.keys c.sort.new.numbers.keys
    (subst (λ (places : List ℕ). Have places reached live (defined_numbers c.args.automaton.now) c.loop-state.kept.keys) c.requires.places
    (subst (λ (list : List State). Have c.args.places.now.keys reached live (map (λ (s : State). s.number) list) c.loop-state.kept.keys) all c.loop-state.invariant))
    c.in_ok-sort.ensures.same c.in_ok-sort.ensures.rising
