-- How labels become steps: the parts of a label, and the exits on from them.
use Rattle.std.proofs.Common.{◌≡◌, ℕ, Bool, true, false, not, ◌&&◌, ◌||◌, List, ap, refl, subst, sym, ◌∙◌, arith}
use Rattle.std.proofs.lemmas.Bool.Decides.{Decides-eqb}
use Rattle.omega_hoa_label.specs.Label.{LabelTree, negation, truth}
use Rattle.omega_hoa_satisfiable.specs.declared.steps.Step.{Step}
use Rattle.omega_hoa_satisfiable.specs.declared.exits.Exits.{Exits}
use Rattle.omega_hoa_satisfiable.specs.private.Leading.{ArePlanned, IsKept, is_as, leads}
use Rattle.omega_hoa_satisfiable.specs.Cubes.{cubes, cubes_of_parts}
use Rattle.omega_hoa_satisfiable.specs.private.Encoding.{AreExits, AreVisited, IsEncoded, leads_past, left_exits, right_exits}
use Rattle.omega_hoa_satisfiable.specs.private.Visits.{visits}
use Rattle.omega_hoa_satisfiable.proofs.Cubes.{cubes-positive, visited-parts}
use Rattle.omega_hoa_satisfiable.proofs.Parities.{joined, negation-as}

-- the exits stay where steps are kept
AreExits-kept : (old new : List Step) (exits : Exits) → AreExits old exits → IsKept old new → AreExits new exits
AreExits-kept old new exits are kept = record {
  after_there = omega (arith, are.after_there, kept.longer);
  otherwise_there = omega (arith, are.otherwise_there, kept.longer);
  whole_is = λ whole held elsewhere.
      kept.same held exits.after are.after_there ∙ are.whole_is whole held (sym (kept.same held exits.otherwise are.otherwise_there) ∙ elsewhere);
}

-- the exits of the right part are places
pub AreExits-right : (both : Bool) (steps : List Step) (exits : Exits) → ArePlanned steps → AreExits steps exits → AreExits steps (right_exits both exits)
AreExits-right true steps exits planned are = record {
  after_there = are.after_there;
  otherwise_there = planned.some;
  whole_is = λ whole held elsewhere. let nowhere : leads held steps 0 ≡ false = planned.stuck held in cc;
}
AreExits-right false steps exits planned are = are

-- where elsewhere leads on only if what comes after does, so does the part
past-after : (holds after otherwise : Bool) → (otherwise ≡ true → after ≡ true) → ((holds && after) || otherwise) ≡ true → after ≡ true
past-after true true otherwise whole e = refl
past-after true false true whole e = whole refl
past-after true false false whole e = e
past-after false after true whole e = whole refl
past-after false true false whole e = refl
past-after false false false whole e = e

-- the exits of the left part are places
pub AreExits-left : (both : Bool) (old new : List Step) (exits : Exits) (tree : LabelTree) (wanted : Bool) (place : ℕ)
    → ArePlanned new → AreExits old exits → IsKept old new → IsEncoded old new tree wanted (right_exits both exits) place → AreExits new (left_exits both exits place)
AreExits-left true old new exits tree wanted place planned are kept encoded = record {
  after_there = encoded.there;
  otherwise_there = omega (arith, are.otherwise_there, kept.longer);
  whole_is = λ whole held elsewhere.
      let at : exits.otherwise ≡ 0 = (Decides-eqb exits.otherwise 0).0 whole in
      let nowhere : leads held new exits.otherwise ≡ false = ap (leads held new) at ∙ planned.stuck held in
      cc;
}
AreExits-left false old new exits tree wanted place planned are kept encoded = record {
  after_there = omega (arith, are.after_there, kept.longer);
  otherwise_there = encoded.there;
  whole_is = λ whole held elsewhere.
      kept.same held exits.after are.after_there
      ∙ past-after (is_as wanted (truth held tree)) (leads held old exits.after) (leads held old exits.otherwise) (are.whole_is whole held)
      (sym (encoded.leading held) ∙ elsewhere);
}

both-past : (left right after nowhere otherwise : Bool) → nowhere ≡ false
    → ((left && ((right && after) || nowhere)) || otherwise) ≡ (((left && right) && after) || otherwise)
both-past true true true nowhere otherwise e = refl
both-past true true false nowhere otherwise e = ap (λ n. n || otherwise) e
both-past true false after nowhere otherwise e = ap (λ n. n || otherwise) e
both-past false right after nowhere otherwise e = refl

either-past : (left right after otherwise : Bool) → ((left && after) || ((right && after) || otherwise)) ≡ (((left || right) && after) || otherwise)
either-past true true true otherwise = refl
either-past true true false otherwise = refl
either-past true false true otherwise = refl
either-past true false false otherwise = refl
either-past false right after otherwise = refl

-- two parts, the right one taken in first, are the label
pub IsEncoded-joined : (both : Bool) (old mid new : List Step) (exits : Exits) (left right tree : LabelTree) (wanted : Bool) (at place : ℕ)
    → ((held : ℕ → Bool) → is_as wanted (truth held tree) ≡ joined both (is_as wanted (truth held left)) (is_as wanted (truth held right)))
    → cubes wanted tree ≡ cubes_of_parts both (cubes wanted left) (cubes wanted right)
    → ArePlanned old → AreExits old exits → IsKept old mid → IsEncoded old mid right wanted (right_exits both exits) at
    → IsEncoded mid new left wanted (left_exits both exits at) place → IsEncoded old new tree wanted exits place
IsEncoded-joined true old mid new exits left right tree wanted at place means parts planned are kept first second = record {
  there = second.there;
  leading = λ held.
      second.leading held
      ∙ ((λ i. (is_as wanted (truth held left) && first.leading held i) || kept.same held exits.otherwise are.otherwise_there i)
      ∙ (both-past (is_as wanted (truth held left)) (is_as wanted (truth held right)) (leads held old exits.after) (leads held old 0) (leads held old exits.otherwise) (planned.stuck held)
      ∙ ap (λ holds. leads_past (leads held old) exits holds) (sym (means held))));
  visited =
      subst (λ all. AreVisited all (visits old exits.after) (visits old exits.otherwise) (visits new place)) (sym parts)
      (visited-parts true (cubes wanted left) (cubes wanted right) (visits old exits.after) (visits old exits.otherwise) (visits mid at) (visits new place)
      (cubes-positive wanted right)
      (subst (λ n. AreVisited (cubes wanted right) (visits old exits.after) n (visits mid at)) planned.stuck_visited first.visited)
      (subst (λ n. AreVisited (cubes wanted left) (visits mid at) n (visits new place)) (kept.visited exits.otherwise are.otherwise_there) second.visited));
}
IsEncoded-joined false old mid new exits left right tree wanted at place means parts planned are kept first second = record {
  there = second.there;
  leading = λ held.
      second.leading held
      ∙ ((λ i. (is_as wanted (truth held left) && kept.same held exits.after are.after_there i) || first.leading held i)
      ∙ (either-past (is_as wanted (truth held left)) (is_as wanted (truth held right)) (leads held old exits.after) (leads held old exits.otherwise)
      ∙ ap (λ holds. leads_past (leads held old) exits holds) (sym (means held))));
  visited =
      subst (λ all. AreVisited all (visits old exits.after) (visits old exits.otherwise) (visits new place)) (sym parts)
      (visited-parts false (cubes wanted left) (cubes wanted right) (visits old exits.after) (visits old exits.otherwise) (visits mid at) (visits new place)
      (cubes-positive wanted right) first.visited
      (subst (λ n. AreVisited (cubes wanted left) n (visits mid at) (visits new place)) (kept.visited exits.after are.after_there) second.visited));
}

-- the part of a negation is wanted the other way round
pub IsEncoded-not : (old new : List Step) (exits : Exits) (part : LabelTree) (wanted : Bool) (place : ℕ)
    → IsEncoded old new part (not wanted) exits place → IsEncoded old new (negation part) wanted exits place
IsEncoded-not old new exits part wanted place encoded = record {
  there = encoded.there;
  leading = λ held. encoded.leading held ∙ ap (leads_past (leads held old) exits) (sym (negation-as wanted (truth held part)));
  visited = encoded.visited;
}
