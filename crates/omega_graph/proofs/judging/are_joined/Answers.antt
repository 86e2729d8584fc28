-- `are_joined`: whether edges that stay in a component lead to each other.
use Rattle.std.proofs.Common.{◌≡◌, ◌<◌, Bool, List, ℕ, length, subst}
use Rattle.omega_graph.specs.private.Judging.{AreEntered, IsTied}
use Rattle.omega_graph.proofs.Spanning.{tied_joined}
use Rattle.omega_graph.proofs.judging.are_joined.Goals as goal

-- what holds of slices holds of the lists that they show
entered_in : (numbers leaves enters numbers' leaves' enters' : List ℕ) (flags : List Bool) → numbers' ≡ numbers → leaves' ≡ leaves → enters' ≡ enters
    → AreEntered numbers' leaves' enters' flags → AreEntered numbers leaves enters flags
entered_in numbers leaves enters numbers' leaves' enters' flags same one two entered =
    subst (λ ns. AreEntered ns leaves enters flags) same
    (subst (λ xs. AreEntered numbers' xs enters flags) one (subst (λ xs. AreEntered numbers' leaves' xs flags) two entered))

tied_in : (components roots components' : List ℕ) (ahead behind ahead' behind' : List Bool) → components' ≡ components → ahead' ≡ ahead → behind' ≡ behind
    → ((state : ℕ) → state < length components' → IsTied components' roots ahead' behind' state)
    → (state : ℕ) → state < length components → IsTied components roots ahead behind state
tied_in components roots components' ahead behind ahead' behind' same one two tied =
    subst (λ cs. (state : ℕ) → state < length cs → IsTied cs roots ahead behind state) same
    (subst (λ fs. (state : ℕ) → state < length components' → IsTied components' roots fs behind state) one
    (subst (λ fs. (state : ℕ) → state < length components' → IsTied components' roots ahead' fs state) two tied))

pub returns : goal.returns
returns c =
    λ answer graph ends same.
    tied_joined graph c.args.suggestion.now.components.items c.args.kept.now.edges.items c.args.kept.now.leaves.items c.args.kept.now.enters.items
    c.args.suggestion.now.orders.items c.args.suggestion.now.ranks.items c.as_slice-3.result.now c.in_ok-ahead.ahead.items c.in_ok-behind.behind.items ends same c.requires.leave c.requires.enter
    (entered_in c.args.suggestion.now.orders.items c.args.kept.now.leaves.items c.args.kept.now.enters.items c.as_slice.result.now c.as_slice-leaves.result.now c.as_slice-enters.result.now
    c.in_ok-ahead.ahead.items c.as_slice.ensures.value c.as_slice-leaves.ensures.value c.as_slice-enters.ensures.value c.in_ok-ahead.ensures)
    (entered_in c.args.suggestion.now.ranks.items c.args.kept.now.enters.items c.args.kept.now.leaves.items c.as_slice-2.result.now c.as_slice-enters.result.now c.as_slice-leaves.result.now
    c.in_ok-behind.behind.items c.as_slice-2.ensures.value c.as_slice-enters.ensures.value c.as_slice-leaves.ensures.value c.in_ok-behind.ensures)
    (tied_in c.args.suggestion.now.components.items c.as_slice-3.result.now c.as_slice-components.result.now c.in_ok-ahead.ahead.items c.in_ok-behind.behind.items c.as_slice-ahead.result.now
    c.as_slice-behind.result.now c.as_slice-components.ensures.value c.as_slice-ahead.ensures.value c.as_slice-behind.ensures.value (c.are_tied.ensures answer))
