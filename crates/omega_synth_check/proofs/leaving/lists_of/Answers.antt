-- one edge more
use Rattle.std.proofs.Common.{◌≡◌, ◌+◌, ◌<◌, ℕ, List, length, get_or, sym, refl, subst, arith}
use Rattle.omega_synth_game.proofs.Listing.{stands_at}
use Rattle.omega_synth_game.proofs.Whole.{state_within}
use Rattle.omega_lang_runs.specs.declared.place.EdgePlace.{EdgePlace}
use Rattle.omega_synth_check.specs.private.Leaving.{AreListed, no_place}
use Rattle.omega_synth_check.proofs.EdgeLists.{listed_more}
use Rattle.omega_synth_check.proofs.leaving.lists_of.Goals as goal

pub add_to-requires : goal.add_to-requires
add_to-requires c =
    let a = c.args.automaton.now in
    let places : List EdgePlace = c.args.places.now in
    let number : ℕ = c.loop-number.number in
    let below : number < length places = omega (arith, c.requires.all, c.edge_count-number-end.ensures, c.loop-number-test.true) in
    omega (arith, state_within a number (get_or places number no_place) (stands_at a places number no_place c.requires below), c.loop-number.invariant.entries)

pub loop-number-preserved : goal.loop-number-preserved
loop-number-preserved c =
    let a = c.args.automaton.now in
    let places : List EdgePlace = c.args.places.now in
    let number : ℕ = c.loop-number.number in
    let below : number < length places = omega (arith, c.requires.all, c.edge_count-number-end.ensures, c.loop-number-test.true) in
    subst (λ (lists : List (List ℕ)). AreListed places (length a.defined) (number + 1) lists) (sym c.in_ok-add_to.ensures.added)
    (listed_more places (length a.defined) number (get_or places number no_place).state c.loop-number.lists.items c.loop-number.invariant refl
    (state_within a number (get_or places number no_place) (stands_at a places number no_place c.requires below)))

pub returns-clause-lists : goal.returns-clause-lists
returns-clause-lists c =
    let all : c.loop-number.number ≡ length c.args.places.now = omega (arith, c.loop-number-test.false, c.loop-number.auto.number-end, c.requires.all) in
    subst (λ (end : ℕ). AreListed c.args.places.now (length c.args.automaton.now.defined) end c.loop-number.lists.items) all c.loop-number.invariant
