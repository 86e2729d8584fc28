-- the number is there, or it is pushed
use Rattle.std.proofs.Common.{ℕ, List, [], ◌∷◌, subst, sym}
use Rattle.std.specs.Prelude.{Contains}
use Rattle.omega_ltl_shapes.specs.Terms.{HasItemsOfBoth}
use Rattle.omega_ltl_shapes.proofs.ItemLemmas.{both_pushed, both_there}
use Rattle.omega_ltl_shapes.proofs.items.push_missing.Goals as goal

pub returns-then-has_item : goal.returns-then-has_item
returns-then-has_item c =
    both_there c.args.items.now c.args.item (subst (λ (xs : List ℕ). Contains xs c.args.item) c.as_slice.ensures (c.has_item.ensures.0 c.if-has_item.true))

pub returns : goal.returns
returns c = subst (HasItemsOfBoth c.args.items.now (c.args.item ∷ [])) (sym c.in_ok-push.ensures.ok) (both_pushed c.args.items.now c.args.item)
