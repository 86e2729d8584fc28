-- the choices are followed, and once a place comes again the loop begins there
use Rattle.std.proofs.Common.{◌≡◌, ◌+◌, ◌%◌, ◌-◌, ℕ, Option, Some, length, refl, ◌∙◌, arith, rules}
use Rattle.std.specs.Option.{IsSome}
use Rattle.omega_game_values.specs.Game.{identifier_at}
use Rattle.omega_game_values.specs.Winning.{Chooses}
use Rattle.omega_empty.specs.EmptinessGame.{span}
use Rattle.omega_empty.specs.GameLaws.{within_counter}
use Rattle.omega_empty.proofs.walking.Choices.{begun, after_states, between_below, first_chosen, first_read, followed_next, looped_at, none_cloned, second_chosen, second_read}
use Rattle.omega_empty.proofs.following.follow_choices.Goals as goal

-- what is some number is something
is_something : (x : Option ℕ) (w : ℕ) → x ≡ Some w → IsSome x
is_something x w is = rw is (search rules)

-- a remainder that is written by other names
same_remainder : (id width states other width' states' : ℕ) → id ≡ other → width ≡ width' → states ≡ states' → id % width - states ≡ other % width' - states'
same_remainder id width states other width' states' first second third = rw (first, second, third) refl

pub loop-edges-init : goal.loop-edges-init
loop-edges-init c =
    begun c.args.automaton.now c.args.game.now c.args.found.now.won.items c.args.found.now.choice.items c.args.start c.keeps_limits.ensures c.requires.game c.requires.exact
    c.requires.start c.len.result c.new-edges.result.items c.in_ok-met.met.items c.len.ensures.count
    (c.in_ok-met.ensures.items_if_clones_equal (none_cloned _ (λ j f. f))) c.new-edges.ensures.items

pub unwrap-passed-requires : goal.unwrap-passed-requires
unwrap-passed-requires c =
    let found = first_read c.args.automaton.now c.args.game.now c.args.found.now.won.items c.args.found.now.choice.items c.args.start c.loop-edges.at c.loop-edges.edges.items
    c.loop-edges.met.items c.loop-edges.invariant c.index-in-loop-edges.result.now c.index-in-loop-edges.ensures in
    is_something c.index-in-loop-edges.result.now found.0 found.1

pub id-requires : goal.id-requires
id-requires c =
    between_below c.args.automaton.now c.args.game.now c.args.found.now.won.items c.args.found.now.choice.items c.args.start c.loop-edges.at c.loop-edges.edges.items
    c.loop-edges.met.items c.loop-edges.invariant c.unwrap-passed.result
    (first_chosen c.args.automaton.now c.args.game.now c.args.found.now.won.items c.args.found.now.choice.items c.args.start c.loop-edges.at c.loop-edges.edges.items
    c.loop-edges.met.items c.loop-edges.invariant c.unwrap-passed.result c.index-in-loop-edges.result.now c.index-in-loop-edges.ensures c.unwrap-passed.ensures)

pub overflow_sub-number : goal.overflow_sub-number
overflow_sub-number c =
    let following = after_states c.args.automaton.now c.args.game.now c.args.found.now.won.items c.args.found.now.choice.items c.args.start c.loop-edges.at c.loop-edges.edges.items
    c.loop-edges.met.items c.loop-edges.invariant c.unwrap-passed.result
    (first_chosen c.args.automaton.now c.args.game.now c.args.found.now.won.items c.args.found.now.choice.items c.args.start c.loop-edges.at c.loop-edges.edges.items
    c.loop-edges.met.items c.loop-edges.invariant c.unwrap-passed.result c.index-in-loop-edges.result.now c.index-in-loop-edges.ensures c.unwrap-passed.ensures) in
    let identified : c.from-in-loop-edges.result ≡ identifier_at c.args.game.now c.unwrap-passed.result = c.from-in-loop-edges.ensures ∙ c.id.ensures in
    rw (identified, c.from-states.ensures, c.from.ensures, c.state_count.ensures, c.edge_count.ensures) following

pub index-requires-in-loop-edges-2 : goal.index-requires-in-loop-edges-2
index-requires-in-loop-edges-2 c =
    omega (
      arith,
      c.requires.exact.strategy.entries,
      between_below c.args.automaton.now c.args.game.now c.args.found.now.won.items c.args.found.now.choice.items c.args.start c.loop-edges.at c.loop-edges.edges.items
          c.loop-edges.met.items c.loop-edges.invariant c.unwrap-passed.result
          (first_chosen c.args.automaton.now c.args.game.now c.args.found.now.won.items c.args.found.now.choice.items c.args.start c.loop-edges.at c.loop-edges.edges.items
          c.loop-edges.met.items c.loop-edges.invariant c.unwrap-passed.result c.index-in-loop-edges.result.now c.index-in-loop-edges.ensures c.unwrap-passed.ensures),
    )

pub unwrap-at-requires : goal.unwrap-at-requires
unwrap-at-requires c =
    let found = second_read c.args.automaton.now c.args.game.now c.args.found.now.won.items c.args.found.now.choice.items c.args.start c.loop-edges.at c.loop-edges.edges.items
    c.loop-edges.met.items c.loop-edges.invariant c.unwrap-passed.result
    (first_chosen c.args.automaton.now c.args.game.now c.args.found.now.won.items c.args.found.now.choice.items c.args.start c.loop-edges.at c.loop-edges.edges.items
    c.loop-edges.met.items c.loop-edges.invariant c.unwrap-passed.result c.index-in-loop-edges.result.now c.index-in-loop-edges.ensures c.unwrap-passed.ensures)
    c.index-in-loop-edges-2.result.now c.index-in-loop-edges-2.ensures in
    is_something c.index-in-loop-edges-2.result.now found.0 found.1

pub loop-edges-preserved : goal.loop-edges-preserved
loop-edges-preserved c =
    let choice : Chooses c.args.found.now.choice.items c.loop-edges.at c.unwrap-passed.result =
    (first_chosen c.args.automaton.now c.args.game.now c.args.found.now.won.items c.args.found.now.choice.items c.args.start c.loop-edges.at c.loop-edges.edges.items
    c.loop-edges.met.items c.loop-edges.invariant c.unwrap-passed.result c.index-in-loop-edges.result.now c.index-in-loop-edges.ensures c.unwrap-passed.ensures) in
    let again : Chooses c.args.found.now.choice.items c.unwrap-passed.result c.unwrap-at.result =
    second_chosen c.args.automaton.now c.args.game.now c.args.found.now.won.items c.args.found.now.choice.items c.args.start c.loop-edges.at c.loop-edges.edges.items
    c.loop-edges.met.items c.loop-edges.invariant c.unwrap-passed.result choice
    c.unwrap-at.result c.index-in-loop-edges-2.result.now c.index-in-loop-edges-2.ensures c.unwrap-at.ensures in
    let number : ℕ = c.from-in-loop-edges.result % (c.from-states.result + c.from.result) - c.from-states.result in
    let identified : c.from-in-loop-edges.result ≡ identifier_at c.args.game.now c.unwrap-passed.result = c.from-in-loop-edges.ensures ∙ c.id.ensures in
    let wide : c.from-states.result + c.from.result ≡ span c.args.automaton.now =
    omega (arith, c.from-states.ensures, c.from.ensures, c.state_count.ensures, c.edge_count.ensures) in
    let is_number : number ≡ within_counter c.args.automaton.now c.args.game.now c.unwrap-passed.result - c.args.automaton.now.states =
    same_remainder c.from-in-loop-edges.result (c.from-states.result + c.from.result) c.from-states.result (identifier_at c.args.game.now c.unwrap-passed.result)
    (span c.args.automaton.now) c.args.automaton.now.states identified wide (c.from-states.ensures ∙ c.state_count.ensures) in
    let counted : c.len-in-loop-edges.result ≡ length c.loop-edges.edges.items = omega (arith, c.len-in-loop-edges.ensures, c.loop-edges.edges.ok.0) in
    followed_next c.args.automaton.now c.args.game.now c.args.found.now.won.items c.args.found.now.choice.items c.args.start c.loop-edges.at c.loop-edges.edges.items
    c.loop-edges.met.items c.loop-edges.invariant c.unwrap-passed.result choice
    c.unwrap-at.result number c.len-in-loop-edges.result c.push.new.self.items again is_number counted c.in_ok-push.ensures.items

pub returns-clause-looped : goal.returns-clause-looped
returns-clause-looped c =
    looped_at c.args.automaton.now c.args.game.now c.args.found.now.won.items c.args.found.now.choice.items c.args.start c.loop-edges.at c.loop-edges.edges.items
    c.loop-edges.met.items c.loop-edges.invariant c.won_walks_accept.ensures c.requires.start
    c.unwrap-loop_start.result c.index-2.result.now c.index-2.ensures c.unwrap-loop_start.ensures
