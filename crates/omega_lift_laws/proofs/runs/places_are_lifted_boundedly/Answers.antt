-- Each place is lifted at most as often as the product.
use Rattle.omega_lift_laws.proofs.Lifting.{place_is_lifted_boundedly}
use Rattle.omega_lift_laws.proofs.runs.places_are_lifted_boundedly.Goals as goal

pub returns : goal.returns
returns c = place_is_lifted_boundedly
