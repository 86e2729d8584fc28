-- A union is too deep if a part of its acceptance is.
use Rattle.std.proofs.Common.{◌≡◌, ◌<◌, false, cond, ap, arith, subst, sym}
use Rattle.omega_hoa_expression.specs.Limits.{most_depth}
use Rattle.omega_hoa_acceptance.specs.Acceptance.{acc_depth}
use Rattle.omega_hoa_acceptance.proofs.WrittenLemmas.{written-deep}
use Rattle.omega_hoa_automaton.specs.Automaton.{Description}
use Rattle.omega_lang_product.specs.Acceptance.{moved_after}
use Rattle.omega_lang_union.specs.Sharing.{guarded, union_acceptance}
use Rattle.omega_lang_union.specs.private.Operands.{IsDeepFormula, either_guarded}
use Rattle.omega_lang_union.specs.declared.sharing.Sharing.{Sharing}

-- the first part is too deep
pub deep_first : (sharing : Sharing) (one other : Description) → most_depth < acc_depth (guarded sharing.first one.acceptance)
    → most_depth < acc_depth (either_guarded sharing one other)
deep_first sharing one other deep = omega (arith, deep)

-- the second part is too deep
pub deep_second : (sharing : Sharing) (one other : Description) → most_depth < acc_depth (guarded sharing.second (moved_after sharing.before other.acceptance))
    → most_depth < acc_depth (either_guarded sharing one other)
deep_second sharing one other deep = omega (arith, deep)

-- both together are too deep, and then as they are written
pub deep_union : (sharing : Sharing) (one other : Description) → sharing.shared ≡ false → most_depth < acc_depth (either_guarded sharing one other)
    → IsDeepFormula (union_acceptance sharing one other)
deep_union sharing one other apart deep =
    let is : union_acceptance sharing one other ≡ either_guarded sharing one other = ap (λ shared. cond shared one.acceptance (either_guarded sharing one other)) apart in
    omega (arith, subst (λ tree. most_depth < acc_depth tree) (sym is) deep, written-deep (union_acceptance sharing one other))
