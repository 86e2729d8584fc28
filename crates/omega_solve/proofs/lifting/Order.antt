-- Laws of total orders.
use Rattle.std.proofs.Common.{◌≡◌, ◌≢◌, sym, ap, refl, ◌∙◌}
use Rattle.std.specs.Cmp.{IsTotalOrder}
use Rattle.std.specs.Ordering.{ordering_reverse, ordering_index}
use Rattle.std.specs.declared.cmp.Ordering.{Ordering}
use Rattle.std.specs.declared.cmp.Ordering.TheVariants.{Equal, Greater, Less}
use Rattle.std.proofs.lemmas.Cmp.{alike_right}

-- comparisons with the same index are the same
pub same_from_index : (x y : Ordering) → ordering_index x ≡ ordering_index y → x ≡ y
same_from_index Less Less h = refl
same_from_index Less Equal h = cc
same_from_index Less Greater h = cc
same_from_index Equal Less h = cc
same_from_index Equal Equal h = refl
same_from_index Equal Greater h = cc
same_from_index Greater Less h = cc
same_from_index Greater Equal h = cc
same_from_index Greater Greater h = refl

-- below is not alike
pub less_is_not_equal : Less ≢ Equal
less_is_not_equal e = cc

-- what compares as r to a value, the value compares to it the other way
pub reversed : {K : Type 0} {R : K → K → Ordering} (o : IsTotalOrder R) (x y : K) (r : Ordering) → R x y ≡ r → R y x ≡ ordering_reverse r
reversed o x y r h = o.antisymm y x ∙ ap ordering_reverse h

-- above is transitive
pub above_trans : {K : Type 0} {R : K → K → Ordering} (o : IsTotalOrder R) (x y z : K) → R x y ≡ Greater → R y z ≡ Greater → R x z ≡ Greater
above_trans o x y z h k = reversed o z x Less (o.trans z y x (reversed o y z Greater k) (reversed o x y Greater h))

-- what is below or above a value that is so too is that itself
pub wanted_trans : {K : Type 0} {R : K → K → Ordering} (o : IsTotalOrder R) (wanted : Ordering) → wanted ≢ Equal
    → (x y z : K) → R x y ≡ wanted → R y z ≡ wanted → R x z ≡ wanted
wanted_trans o Less ne x y z h k = o.trans x y z h k
wanted_trans o Equal ne x y z h k = absurd (ne refl)
wanted_trans o Greater ne x y z h k = above_trans o x y z h k

ahead_by : {K : Type 0} {R : K → K → Ordering} (o : IsTotalOrder R) (wanted r : Ordering) → wanted ≢ Equal
    → (x y z : K) → R x y ≡ wanted → R z y ≡ r → r ≢ wanted → R x z ≡ wanted
ahead_by o Less Less ne x y z h k other = absurd (other refl)
ahead_by o Less Equal ne x y z h k other = alike_right o z y x k ∙ h
ahead_by o Less Greater ne x y z h k other = o.trans x y z h (reversed o z y Greater k)
ahead_by o Equal r ne x y z h k other = absurd (ne refl)
ahead_by o Greater Less ne x y z h k other = above_trans o x y z h (reversed o z y Less k)
ahead_by o Greater Equal ne x y z h k other = alike_right o z y x k ∙ h
ahead_by o Greater Greater ne x y z h k other = absurd (other refl)

-- what compares as wanted to a value compares so to each value that doesn't
pub ahead : {K : Type 0} {R : K → K → Ordering} (o : IsTotalOrder R) (wanted : Ordering) → wanted ≢ Equal
    → (x y z : K) → R x y ≡ wanted → R z y ≢ wanted → R x z ≡ wanted
ahead {R = R} o wanted ne x y z h other = ahead_by o wanted (R z y) ne x y z h refl other

still_above_by : {K : Type 0} {R : K → K → Ordering} (o : IsTotalOrder R) (r : Ordering) (x y z : K) → R x y ≡ r → r ≢ Greater → R x z ≡ Greater → R y z ≡ Greater
still_above_by o Less x y z h other k = above_trans o y x z (reversed o x y Less h) k
still_above_by o Equal x y z h other k = sym (o.congr x y z h) ∙ k
still_above_by o Greater x y z h other k = absurd (other refl)

-- what is at least a value that is above a third is above it too
pub still_above : {K : Type 0} {R : K → K → Ordering} (o : IsTotalOrder R) (x y z : K) → R x y ≢ Greater → R x z ≡ Greater → R y z ≡ Greater
still_above {R = R} o x y z other k = still_above_by o (R x y) x y z refl other k
