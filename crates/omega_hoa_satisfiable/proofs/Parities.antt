-- What is wanted of a label and of its parts.
use Rattle.std.proofs.Common.{◌≡◌, Bool, true, false, not, ◌&&◌, ◌||◌, refl}
use Rattle.omega_hoa_satisfiable.specs.private.Leading.{is_as}

-- both of two, or one
abbrev pub joined : Bool → Bool → Bool → Bool
joined true left right = left && right
joined false left right = left || right

-- a conjunction that is wanted is both parts, and a disjunction one of them; what is not wanted, the other way round
pub conjunction-joined : (wanted left right : Bool) → is_as wanted (left && right) ≡ joined wanted (is_as wanted left) (is_as wanted right)
conjunction-joined true left right = refl
conjunction-joined false true right = refl
conjunction-joined false false right = refl

pub disjunction-joined : (wanted left right : Bool) → is_as wanted (left || right) ≡ joined (not wanted) (is_as wanted left) (is_as wanted right)
disjunction-joined true left right = refl
disjunction-joined false true right = refl
disjunction-joined false false right = refl

-- a part after `!` is wanted the other way round
pub negation-as : (wanted value : Bool) → is_as wanted (not value) ≡ is_as (not wanted) value
negation-as true value = refl
negation-as false true = refl
negation-as false false = refl
