-- the edges of the state at the place of its number
use Rattle.std.proofs.Common.{◌<◌, ℕ, List, [], length, ap, sym, subst, ◌∙◌, arith, nat_eq}
use Rattle.std.proofs.lemmas.List.{get_or_read, length-map}
use Rattle.std.proofs.lemmas.List.Quantifiers.{position-Some}
use Rattle.omega_hoa_automaton.specs.declared.state.State.{State}
use Rattle.omega_synth_check.specs.private.Leaving.{AreLeavers}
use Rattle.omega_synth_check.proofs.Leavers.{leavers_found, leavers_missing}
use Rattle.omega_synth_check.proofs.leaving.Leaving.of_state.Goals as goal

pub index-requires : goal.index-requires
index-requires c =
    let at = position-Some (nat_eq c.args.state) c.args.self.now.numbers.keys c.in-Some.index 0 (sym c.in-Some.ensures.index) in
    omega (arith, at.0, ap length c.requires.numbers, length-map c.args._automaton.now.defined (λ (state : State). state.number), c.requires.listed.entries)

pub returns-in-Some : goal.returns-in-Some
returns-in-Some c =
    let lists : List (List ℕ) = c.args.self.now.lists.items in
    let list : List ℕ = c.index.result.now in
    let at = position-Some (nat_eq c.args.state) c.args.self.now.numbers.keys c.in-Some.index 0 (sym c.in-Some.ensures.index) in
    let below : c.in-Some.index < length lists =
    omega (arith, at.0, ap length c.requires.numbers, length-map c.args._automaton.now.defined (λ (state : State). state.number), c.requires.listed.entries) in
    subst (λ (numbers : List ℕ). AreLeavers c.args._automaton.now c.args.state numbers)
    (sym (c.as_slice.ensures ∙ get_or_read lists c.in-Some.index list below c.index.ensures []))
    (leavers_found c.args._automaton.now c.args.self.now c.requires c.args.state c.in-Some.index at.0 at.1)

pub returns-in-None : goal.returns-in-None
returns-in-None c =
    leavers_missing c.args._automaton.now c.args.self.now c.requires c.args.state (sym c.in-None.ensures.found)
