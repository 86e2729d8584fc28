-- A formula that is judged on some edges and on all.
use Rattle.std.proofs.Common.{◌≡◌, ℕ, not, List, refl}
use Rattle.omega_hoa_acceptance.specs.Acceptance.{AccTree, conjunction, constant, disjunction, fin, inf, occurs}
use Rattle.omega_hoa_acceptance.specs.Judging.{holds_by_atoms}
use Rattle.omega_graph.specs.Marks.{accepts_apart}

-- what holds by its atoms holds
pub apart_by_atoms : (some all : List (List ℕ)) (tree : AccTree)
    → holds_by_atoms (occurs some) (λ negated set. not (occurs all negated set)) tree ≡ accepts_apart some all tree
apart_by_atoms some all (constant value) = refl
apart_by_atoms some all (inf negated set) = refl
apart_by_atoms some all (fin negated set) = refl
apart_by_atoms some all (conjunction left right) =
    let one = apart_by_atoms some all left in let other = apart_by_atoms some all right in cc
apart_by_atoms some all (disjunction left right) =
    let one = apart_by_atoms some all left in let other = apart_by_atoms some all right in cc
