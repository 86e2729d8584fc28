-- Who owns the place decides whether one successor is enough.
use Rattle.std.proofs.Common.{refl}
use Rattle.std.proofs.lemmas.Bool.{false≢true}
use Rattle.omega_solve.proofs.turns.keeping.rests.Goals as goal

pub returns-then-owns : goal.returns-then-owns
returns-then-owns g c one = record { own = λ own. c.rests_on_one.ensures one; other = λ other. absurd (other (c.if-owns.ensures.0 refl)) }

pub returns-else-owns : goal.returns-else-owns
returns-else-owns g c all = record { own = λ own. absurd (false≢true (c.if-owns.ensures.1 own)); other = λ other. c.rests_on_all.ensures all }
