-- The cubes of a label: how many they are, how many literals they have, and when they hold.
use Rattle.std.proofs.Common.{◌≡◌, ℕ, ◌+◌, ◌*◌, ◌<◌, ◌≤◌, Bool, true, false, not, ◌&&◌, ◌||◌, List, [], ◌∷◌, ◌++◌, length, map, ap, refl, sym, ◌∙◌, arith, length-append}
use Rattle.std.specs.List.{list_all}
use Rattle.std.proofs.Math.Nat.{add-mul, le-mul_of_pos_right, mul-add, mul-le-mul_left, mul_assoc, mul_comm, mul_left_comm, one-le-mul, suc-mul}
use Rattle.std.proofs.lemmas.List.Folds.{list_all-append, list_any-append}
use Rattle.std.proofs.lemmas.List.Sums.{sum_by-append, sum_by-cons}
use Rattle.omega_hoa_expression.specs.Limits.{most_size}
use Rattle.omega_hoa_label.specs.Label.{LabelTree, conjunction, constant, disjunction, label_size, negation, proposition, truth}
use Rattle.omega_hoa_satisfiable.specs.Cubes.{IsCube, IsNormal, cubes, cubes_hold, cubes_of_parts, distributed, literal_count, literal_of, literals_in}
use Rattle.omega_hoa_satisfiable.specs.Undecided.{IsHardLabel}
use Rattle.omega_hoa_satisfiable.specs.private.Encoding.{AreVisited}
use Rattle.omega_hoa_satisfiable.specs.private.Leading.{is_as}
use Rattle.omega_hoa_satisfiable.proofs.Parities.{conjunction-joined, disjunction-joined, joined, negation-as}

-- ---- numbers

-- one cube put before each of others
abbrev prefixed : List LabelTree → List (List LabelTree) → List (List LabelTree)
prefixed left rights = map (λ right. left ++ right) rights

length-prefixed : (left : List LabelTree) (rights : List (List LabelTree)) → length (prefixed left rights) ≡ length rights
length-prefixed left [] = refl
length-prefixed left (right ∷ rights) = omega (arith, length-prefixed left rights)

literals-prefixed : (left : List LabelTree) (rights : List (List LabelTree))
    → literals_in (prefixed left rights) ≡ length rights * length left + literals_in rights
literals-prefixed left [] = omega arith
literals-prefixed left (right ∷ rights) =
    let first : literals_in (prefixed left (right ∷ rights)) ≡ length (left ++ right) + literals_in (prefixed left rights) =
    sum_by-cons (λ cube. length cube) (left ++ right) (prefixed left rights) in
    let own : literals_in (right ∷ rights) ≡ length right + literals_in rights = sum_by-cons (λ cube. length cube) right rights in
    let rows : length (right ∷ rights) * length left ≡ length rights * length left + length left = suc-mul (length rights) (length left) in
    omega (arith, first, own, rows, length-append left right, literals-prefixed left rights)

pub length-distributed : (lefts rights : List (List LabelTree)) → length (distributed lefts rights) ≡ length lefts * length rights
length-distributed [] rights = omega arith
length-distributed (left ∷ lefts) rights =
    let grown : length (distributed (left ∷ lefts) rights) ≡ length (prefixed left rights) + length (distributed lefts rights) =
    length-append (prefixed left rights) (distributed lefts rights) in
    let rows : length (left ∷ lefts) * length rights ≡ length lefts * length rights + length rights = suc-mul (length lefts) (length rights) in
    omega (arith, grown, rows, length-prefixed left rights, length-distributed lefts rights)

pub literals-distributed : (lefts rights : List (List LabelTree))
    → literals_in (distributed lefts rights) ≡ literals_in lefts * length rights + length lefts * literals_in rights
literals-distributed [] rights = omega arith
literals-distributed (left ∷ lefts) rights =
    let grown : literals_in (distributed (left ∷ lefts) rights) ≡ literals_in (prefixed left rights) + literals_in (distributed lefts rights) =
    sum_by-append (λ cube. length cube) (prefixed left rights) (distributed lefts rights) in
    let first : literals_in (left ∷ lefts) * length rights ≡ length left * length rights + literals_in lefts * length rights =
    ap (λ n. n * length rights) (sum_by-cons (λ cube. length cube) left lefts) ∙ add-mul (length left) (literals_in lefts) (length rights) in
    let rows : length (left ∷ lefts) * literals_in rights ≡ length lefts * literals_in rights + literals_in rights =
    suc-mul (length lefts) (literals_in rights) in
    omega (arith, grown, first, rows, mul_comm (length rights) (length left), literals-prefixed left rights, literals-distributed lefts rights)

-- each label has a cube
parts-positive : (both : Bool) (lefts rights : List (List LabelTree)) → 1 ≤ length lefts → 1 ≤ length rights → 1 ≤ length (cubes_of_parts both lefts rights)
parts-positive true lefts rights left right = omega (arith, length-distributed lefts rights, one-le-mul left right)
parts-positive false lefts rights left right = omega (arith, length-append lefts rights, left)

pub cubes-positive : (wanted : Bool) (tree : LabelTree) → 1 ≤ length (cubes wanted tree)
cubes-positive wanted (constant value) = omega arith
cubes-positive wanted (proposition number) = omega arith
cubes-positive wanted (negation part) = cubes-positive (not wanted) part
cubes-positive wanted (conjunction left right) =
    parts-positive wanted (cubes wanted left) (cubes wanted right) (cubes-positive wanted left) (cubes-positive wanted right)
cubes-positive wanted (disjunction left right) =
    parts-positive (not wanted) (cubes wanted left) (cubes wanted right) (cubes-positive wanted left) (cubes-positive wanted right)

-- one literal
literals-single : (literal : LabelTree) → literals_in ((literal ∷ []) ∷ []) ≡ 1
literals-single literal = sum_by-cons (λ (cube : List LabelTree). length cube) (literal ∷ []) []

pub visited-single : (literal : LabelTree) (after otherwise count : ℕ) → count ≤ 1 + after + otherwise → AreVisited ((literal ∷ []) ∷ []) after otherwise count
visited-single literal after otherwise count few = omega (arith, literals-single literal, few)

-- both of two parts, the right one tried for each cube of the left one
both-bound : (ll lr cl cr after otherwise first count : ℕ) → 1 ≤ cr → first + cr ≤ 2 * lr + cr * after + 1 → count + cl ≤ 2 * ll + cl * first + otherwise
    → count + cl * cr ≤ 2 * (ll * cr + cl * lr) + cl * cr * after + otherwise
both-bound ll lr cl cr after otherwise first count some right left =
    let scaled : cl * (first + cr) ≤ cl * (2 * lr + cr * after + 1) = mul-le-mul_left cl right in
    let one : cl * (first + cr) ≡ cl * first + cl * cr = mul-add cl first cr in
    let other : cl * (2 * lr + cr * after + 1) ≡ cl * (2 * lr + cr * after) + cl * 1 = mul-add cl (2 * lr + cr * after) 1 in
    let further : cl * (2 * lr + cr * after) ≡ cl * (2 * lr) + cl * (cr * after) = mul-add cl (2 * lr) (cr * after) in
    let twice : cl * (2 * lr) ≡ 2 * (cl * lr) = mul_left_comm cl 2 lr in
    let onward : cl * cr * after ≡ cl * (cr * after) = mul_assoc cl cr after in
    let more : ll ≤ ll * cr = le-mul_of_pos_right ll some in
    omega (arith, scaled, one, other, further, twice, onward, more, left)

visited-both : (lefts rights : List (List LabelTree)) (after otherwise first count : ℕ) → 1 ≤ length rights → AreVisited rights after 1 first
    → AreVisited lefts first otherwise count → AreVisited (distributed lefts rights) after otherwise count
visited-both lefts rights after otherwise first count some right left =
    let number : length (distributed lefts rights) ≡ length lefts * length rights = length-distributed lefts rights in
    let onward : length (distributed lefts rights) * after ≡ length lefts * length rights * after = ap (λ n. n * after) number in
    omega (
      arith,
      number,
      onward,
      literals-distributed lefts rights,
      both-bound (literals_in lefts) (literals_in rights) (length lefts) (length rights) after otherwise first count some right left,
    )

-- one of two parts, the right one tried where the left one fails
visited-either : (lefts rights : List (List LabelTree)) (after otherwise first count : ℕ) → AreVisited rights after otherwise first
    → AreVisited lefts after first count → AreVisited (lefts ++ rights) after otherwise count
visited-either lefts rights after otherwise first count right left =
    let number : length (lefts ++ rights) ≡ length lefts + length rights = length-append lefts rights in
    let onward : length (lefts ++ rights) * after ≡ length lefts * after + length rights * after =
    ap (λ n. n * after) number ∙ add-mul (length lefts) (length rights) after in
    omega (arith, number, onward, sum_by-append (λ (cube : List LabelTree). length cube) lefts rights, right, left)

-- where the right one of two parts goes on if it fails
abbrev pub right_otherwise : Bool → ℕ → ℕ
right_otherwise true otherwise = 1
right_otherwise false otherwise = otherwise

-- where the left one goes on if it holds, and if it fails
abbrev pub left_after : Bool → (after first : ℕ) → ℕ
left_after true after first = first
left_after false after first = after

abbrev pub left_otherwise : Bool → (otherwise first : ℕ) → ℕ
left_otherwise true otherwise first = otherwise
left_otherwise false otherwise first = first

pub visited-parts : (both : Bool) (lefts rights : List (List LabelTree)) (after otherwise first count : ℕ) → 1 ≤ length rights
    → AreVisited rights after (right_otherwise both otherwise) first → AreVisited lefts (left_after both after first) (left_otherwise both otherwise first) count
    → AreVisited (cubes_of_parts both lefts rights) after otherwise count
visited-parts true lefts rights after otherwise first count some right left = visited-both lefts rights after otherwise first count some right left
visited-parts false lefts rights after otherwise first count some right left = visited-either lefts rights after otherwise first count right left

-- from the first step of a label, to the end or to nowhere
pub visited-label : (tree : LabelTree) (limit count : ℕ) → AreVisited (cubes true tree) 1 1 count → limit < count → limit ≤ 2 * literal_count tree
visited-label tree limit count visited over = omega (arith, visited, over)

-- ---- truth

single : (value : Bool) → ((value && true) || false) ≡ value
single true = refl
single false = refl

and-false : (value : Bool) → false ≡ (value && false)
and-false true = refl
and-false false = refl

and-either : (first one other : Bool) → ((first && one) || (first && other)) ≡ (first && (one || other))
and-either true one other = refl
and-either false one other = refl

either-and : (one other last : Bool) → ((one && last) || (other && last)) ≡ ((one || other) && last)
either-and true true true = refl
either-and true false true = refl
either-and true true false = refl
either-and true false false = refl
either-and false other last = refl

module _ (held : ℕ → Bool) where
  prefixed-hold : (left : List LabelTree) (rights : List (List LabelTree))
      → cubes_hold held (prefixed left rights) ≡ (list_all (truth held) left && cubes_hold held rights)
  prefixed-hold left [] = and-false (list_all (truth held) left)
  prefixed-hold left (right ∷ rights) =
      (λ i. list_all-append (truth held) left right i || prefixed-hold left rights i)
      ∙ and-either (list_all (truth held) left) (list_all (truth held) right) (cubes_hold held rights)

  distributed-hold : (lefts rights : List (List LabelTree)) → cubes_hold held (distributed lefts rights) ≡ (cubes_hold held lefts && cubes_hold held rights)
  distributed-hold [] rights = refl
  distributed-hold (left ∷ lefts) rights =
      list_any-append (λ cube. list_all (truth held) cube) (prefixed left rights) (distributed lefts rights)
      ∙ ((λ i. prefixed-hold left rights i || distributed-hold lefts rights i)
      ∙ either-and (list_all (truth held) left) (cubes_hold held lefts) (cubes_hold held rights))

  parts-hold : (both : Bool) (lefts rights : List (List LabelTree))
      → cubes_hold held (cubes_of_parts both lefts rights) ≡ joined both (cubes_hold held lefts) (cubes_hold held rights)
  parts-hold true lefts rights = distributed-hold lefts rights
  parts-hold false lefts rights = list_any-append (λ cube. list_all (truth held) cube) lefts rights

  literal-holds : (wanted : Bool) (atom : LabelTree) → cubes_hold held ((literal_of wanted atom ∷ []) ∷ []) ≡ is_as wanted (truth held atom)
  literal-holds true atom = single (truth held atom)
  literal-holds false atom = single (not (truth held atom))

  pub cubes_truth : (wanted : Bool) (tree : LabelTree) → cubes_hold held (cubes wanted tree) ≡ is_as wanted (truth held tree)
  cubes_truth wanted (constant value) = literal-holds wanted (constant value)
  cubes_truth wanted (proposition number) = literal-holds wanted (proposition number)
  cubes_truth wanted (negation part) = cubes_truth (not wanted) part ∙ sym (negation-as wanted (truth held part))
  cubes_truth wanted (conjunction left right) =
      parts-hold wanted (cubes wanted left) (cubes wanted right)
      ∙ ((λ i. joined wanted (cubes_truth wanted left i) (cubes_truth wanted right i)) ∙ sym (conjunction-joined wanted (truth held left) (truth held right)))
  cubes_truth wanted (disjunction left right) =
      parts-hold (not wanted) (cubes wanted left) (cubes wanted right)
      ∙ ((λ i. joined (not wanted) (cubes_truth wanted left i) (cubes_truth wanted right i)) ∙ sym (disjunction-joined wanted (truth held left) (truth held right)))

-- ---- normal forms

-- a cube has one cube, and no more literals than atoms
record IsSmallCube (tree : LabelTree) : Type 0 where
  one : length (cubes true tree) ≡ 1
  few : literal_count tree ≤ label_size tree

cube-small : (tree : LabelTree) → IsCube tree → IsSmallCube tree
cube-small (constant value) is = record { one = refl; few = omega (arith, literals-single (constant value)) }
cube-small (proposition number) is = record { one = refl; few = omega (arith, literals-single (proposition number)) }
cube-small (negation (constant value)) is = record { one = refl; few = omega (arith, literals-single (negation (constant value))) }
cube-small (negation (proposition number)) is = record { one = refl; few = omega (arith, literals-single (negation (proposition number))) }
cube-small (negation (negation part)) is = absurd is
cube-small (negation (conjunction left right)) is = absurd is
cube-small (negation (disjunction left right)) is = absurd is
cube-small (conjunction left right) is =
    let first : IsSmallCube left = cube-small left is.0 in
    let second : IsSmallCube right = cube-small right is.1 in
    let number : length (distributed (cubes true left) (cubes true right)) ≡ length (cubes true left) * length (cubes true right) =
    length-distributed (cubes true left) (cubes true right) in
    let once : length (cubes true left) * length (cubes true right) ≡ 1 = λ i. first.one i * second.one i in
    let lefts : literal_count left * length (cubes true right) ≡ literal_count left * 1 = ap (λ n. literal_count left * n) second.one in
    let rights : length (cubes true left) * literal_count right ≡ 1 * literal_count right = ap (λ n. n * literal_count right) first.one in
    record {
      one = number ∙ once;
      few = omega (arith, literals-distributed (cubes true left) (cubes true right), lefts, rights, first.few, second.few);
    }
cube-small (disjunction left right) is = absurd is

normal-small : (tree : LabelTree) → IsNormal tree → literal_count tree ≤ label_size tree
normal-small (constant value) is = (cube-small (constant value) is).few
normal-small (proposition number) is = (cube-small (proposition number) is).few
normal-small (negation part) is = (cube-small (negation part) is).few
normal-small (conjunction left right) is = (cube-small (conjunction left right) is).few
normal-small (disjunction left right) is =
    omega (
      arith,
      sum_by-append (λ (cube : List LabelTree). length cube) (cubes true left) (cubes true right),
      normal-small left is.0,
      normal-small right is.1,
    )

pub normal_decided : (tree : LabelTree) → IsNormal tree → label_size tree ≤ most_size → IsHardLabel tree → ⊥
normal_decided tree is small hard = absurd (omega (arith, normal-small tree is, small, hard.long))
