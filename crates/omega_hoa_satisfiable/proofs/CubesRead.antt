-- Cubes that are read from the last node of a label to the first: some cube is met exactly where the label is true.
use Rattle.std.proofs.Common.{◌≡◌, ◌↔◌, ℕ, ◌+◌, ◌-◌, ◌^◌, ◌<◌, ◌≤◌, ◌==◌, zero, suc, Bool, true, false, not, ltb, leb, Option, None, Some, List, [], ◌∷◌, ◌++◌, ◌⊎◌, inl, inr, ap, refl, sym, ◌∙◌, arith}
use Rattle.std.proofs.lemmas.Bool.{cases_Bool, cond-false, cond-true, eqb-true, leb-true, or_cases, or_left, or_right}
use Rattle.omega_hoa_label.specs.Label.{LabelTree, conjunction, constant, disjunction, negation, proposition, truth}
use Rattle.omega_hoa_label.specs.Postfix.{postfix}
use Rattle.omega_hoa_label.specs.declared.label.LabelNode.{LabelNode}
use Rattle.omega_hoa_label.specs.declared.label.LabelNode.TheVariants.{And, Not, Or, Proposition}
use Rattle.omega_hoa_satisfiable.specs.declared.cube_reader.ReadNode.TheVariants.{End}
use Rattle.omega_hoa_satisfiable.specs.declared.literals.Literals.{Literals}
use Rattle.omega_hoa_satisfiable.specs.private.ReadCubes.{AreMetAt, IsAnyMetAt, ReadCubes, most_wanted, no_cube, no_literals, read_back, wanting, with_before, with_literal, with_part, with_read}
use Rattle.omega_hoa_satisfiable.proofs.LiteralBits.{all-both, all-left, all-none, all-one, all-right, not-true, one-all, true-not}
use Rattle.omega_hoa_satisfiable.proofs.TruthTables.{both-true, true-both}

-- ---- nodes one after the other

read-append : (read : Option ReadCubes) (front back : List LabelNode) → read_back read (front ++ back) ≡ read_back (read_back read back) front
read-append read [] back = refl
read-append read (node ∷ front) back = ap (λ r. with_before r node) (read-append read front back)

nothing : (end : ReadCubes) → None ≡ Some end → ⊥
nothing end is = cc

none-read : (nodes : List LabelNode) → read_back None nodes ≡ None
none-read [] = refl
none-read (node ∷ nodes) = ap (λ r. with_before r node) (none-read nodes)

none-some : (nodes : List LabelNode) (end : ReadCubes) → read_back None nodes ≡ Some end → ⊥
none-some nodes end is = nothing end (sym (none-read nodes) ∙ is)

-- what is read with more nodes was read before them
read-before : (read : Option ReadCubes) (nodes : List LabelNode) (end : ReadCubes) → read_back read nodes ≡ Some end
    → (earlier : ReadCubes) × (read ≡ Some earlier)
read-before None nodes end is = absurd (none-some nodes end is)
read-before (Some earlier) nodes end is = (earlier, refl)

-- the nodes of two parts and their operator
read-both : (read : Option ReadCubes) (left right : LabelTree) (node : LabelNode)
    → read_back read (postfix left ++ (postfix right ++ node ∷ [])) ≡ read_back (read_back (with_before read node) (postfix right)) (postfix left)
read-both read left right node =
    read-append read (postfix left) (postfix right ++ node ∷ [])
    ∙ ap (λ r. read_back r (postfix left)) (read-append read (postfix right) (node ∷ []))

-- ---- a part of a cube

abbrev at : ℕ → Bool → Literals → List Literals → ReadCubes
at wanted negated literals cubes = record { reader = record { literals = literals; wanted = wanted; negated = negated }; cubes = cubes }

-- a part was read: the literals then hold if those before do, and the part is true
record IsPartRead (wanted : ℕ) (literals : Literals) (cubes : List Literals) (tree : LabelTree) (end : ReadCubes) : Type 0 where
  after : Literals
  is : with_read (Some (with_part wanted after)) cubes ≡ Some end
  means : (letter : ℕ → Bool) → AreMetAt after letter ↔ (AreMetAt literals letter × (truth letter tree ≡ true))

same-part : (wanted : ℕ) (literals : Literals) → with_part (wanted - 1 + 1) literals ≡ with_part wanted literals
same-part zero literals = refl
same-part (suc wanted) literals = ap (λ count. with_part count literals) same
  where
    same : suc wanted - 1 + 1 ≡ suc wanted
    same = omega arith

as-wanted : (wanted : ℕ) (literals : Literals) (cubes : List Literals) (tree : LabelTree) (end : ReadCubes)
    → IsPartRead (wanted - 1 + 1) literals cubes tree end → IsPartRead wanted literals cubes tree end
as-wanted wanted literals cubes tree end read = record {
  after = read.after;
  is = ap (λ node. with_read (Some node) cubes) (sym (same-part wanted read.after)) ∙ read.is;
  means = read.means;
}

literal-read : (wanted : ℕ) (negated : Bool) (literals : Literals) (cubes : List Literals) (number : ℕ) (end : ReadCubes)
    → with_before (Some (at wanted negated literals cubes)) (Proposition number) ≡ Some end
    → with_read (Some (with_part wanted (with_literal literals negated number))) cubes ≡ Some end
literal-read wanted negated literals cubes number end is = elim (cases_Bool (ltb number 64)) [
  | inl low ↦
      ap (λ r. with_read r cubes) (sym (cond-true (ltb number 64) (Some (with_part wanted (with_literal literals negated number))) None low)) ∙ is
  | inr high ↦
      absurd (nothing end (ap (λ r. with_read r cubes) (sym (cond-false (ltb number 64) (Some (with_part wanted (with_literal literals negated number))) None high)) ∙ is))
]

-- `|` within a cube ends the reading
or-ends : (wanted : ℕ) (negated : Bool) (literals : Literals) (cubes : List Literals) → 1 ≤ wanted
    → with_before (Some (at wanted negated literals cubes)) Or ≡ None
or-ends wanted negated literals cubes some =
    ap (λ r. with_read r cubes) (cond-false (wanted == 0) (Some (End (at wanted negated literals cubes).reader)) None (some-wanted (cases_Bool (wanted == 0))))
  where
    some-wanted : ((wanted == 0) ≡ true) ⊎ ((wanted == 0) ≡ false) → (wanted == 0) ≡ false
    some-wanted (inl none) = absurd (omega (arith, some, eqb-true wanted 0 none))
    some-wanted (inr is) = is

met-held : (literals : Literals) (number : ℕ) (letter : ℕ → Bool)
    → AreMetAt (with_literal literals false number) letter ↔ (AreMetAt literals letter × (letter number ≡ true))
met-held literals number letter = (
  λ met. (
    (all-left (λ p. letter p ≡ true) literals.held (2 ^ number) met.0, met.1),
    one-all (λ p. letter p ≡ true) number (all-right (λ p. letter p ≡ true) literals.held (2 ^ number) met.0),
  ),
  λ both. (all-both (λ p. letter p ≡ true) literals.held (2 ^ number) both.0.0 (all-one (λ p. letter p ≡ true) number both.1), both.0.1),
)

met-unheld : (literals : Literals) (number : ℕ) (letter : ℕ → Bool)
    → AreMetAt (with_literal literals true number) letter ↔ (AreMetAt literals letter × (not (letter number) ≡ true))
met-unheld literals number letter = (
  λ met. (
    (met.0, all-left (λ p. letter p ≡ false) literals.unheld (2 ^ number) met.1),
    true-not (letter number) (one-all (λ p. letter p ≡ false) number (all-right (λ p. letter p ≡ false) literals.unheld (2 ^ number) met.1)),
  ),
  λ both. (
    both.0.0,
    all-both (λ p. letter p ≡ false) literals.unheld (2 ^ number) both.0.1 (all-one (λ p. letter p ≡ false) number (not-true (letter number) both.1)),
  ),
)

-- a part that is negated is a proposition
negated-read : (part : LabelTree) (wanted : ℕ) (literals : Literals) (cubes : List Literals) (end : ReadCubes) → 1 ≤ wanted
    → read_back (Some (at wanted true literals cubes)) (postfix part) ≡ Some end → IsPartRead wanted literals cubes (negation part) end
negated-read (constant true) wanted literals cubes end some is = absurd (nothing end is)
negated-read (constant false) wanted literals cubes end some is = absurd (nothing end is)
negated-read (proposition number) wanted literals cubes end some is = record {
  after = with_literal literals true number;
  is = literal-read wanted true literals cubes number end is;
  means = met-unheld literals number;
}
negated-read (negation part) wanted literals cubes end some is =
    absurd (none-some (postfix part) end (sym (read-append (Some (at wanted true literals cubes)) (postfix part) (Not ∷ [])) ∙ is))
negated-read (conjunction left right) wanted literals cubes end some is =
    let split = sym (read-both (Some (at wanted true literals cubes)) left right And) ∙ is in
    absurd (none-some (postfix left) end (ap (λ r. read_back r (postfix left)) (sym (none-read (postfix right))) ∙ split))
negated-read (disjunction left right) wanted literals cubes end some is =
    let split = sym (read-both (Some (at wanted true literals cubes)) left right Or) ∙ is in
    let none = ap (λ r. read_back r (postfix right)) (or-ends wanted true literals cubes some) ∙ none-read (postfix right) in
    absurd (none-some (postfix left) end (ap (λ r. read_back r (postfix left)) (sym none) ∙ split))

-- of a cube, or of a part of one
abbrev Fits : ℕ → LabelTree → Type 0
Fits wanted (constant value) = Unit {0}
Fits wanted (proposition number) = Unit {0}
Fits wanted (negation part) = Unit {0}
Fits wanted (conjunction left right) = Unit {0}
Fits wanted (disjunction left right) = 1 ≤ wanted

fits : (wanted : ℕ) (tree : LabelTree) → 1 ≤ wanted → Fits wanted tree
fits wanted (constant value) some = tt
fits wanted (proposition number) some = tt
fits wanted (negation part) some = tt
fits wanted (conjunction left right) some = tt
fits wanted (disjunction left right) some = some

-- two parts are wanted in the place of one
and-read : (wanted : ℕ) (literals : Literals) (cubes : List Literals) (earlier : ReadCubes)
    → with_before (Some (at wanted false literals cubes)) And ≡ Some earlier → Some (at (wanted - 1 + 2) false literals cubes) ≡ Some earlier
and-read wanted literals cubes earlier is = elim (cases_Bool (leb most_wanted wanted)) [
  | inl many ↦
      absurd (nothing earlier (ap (λ r. with_read r cubes) (sym (cond-true (leb most_wanted wanted) None (Some (wanting literals (wanted - 1 + 2) false)) many)) ∙ is))
  | inr few ↦
      ap (λ r. with_read r cubes) (sym (cond-false (leb most_wanted wanted) None (Some (wanting literals (wanted - 1 + 2) false)) few)) ∙ is
]

-- the first of two parts was read
first-read : (wanted : ℕ) (after : Literals) (cubes : List Literals) → with_read (Some (with_part (wanted - 1 + 2) after)) cubes ≡ Some (at (wanted - 1 + 1) false after cubes)
first-read wanted after cubes =
    let more : leb (wanted - 1 + 2) 1 ≡ false = not-below (wanted - 1 + 2) (omega arith) in
    let less : wanted - 1 + 2 - 1 ≡ wanted - 1 + 1 = omega arith in
    ap (λ node. with_read (Some node) cubes) (cond-false (leb (wanted - 1 + 2) 1) _ _ more)
    ∙ ap (λ count. Some (at count false after cubes)) less
  where
    not-below : (count : ℕ) → 1 < count → leb count 1 ≡ false
    not-below count more = elim (cases_Bool (leb count 1)) [
      | inl is ↦ absurd (omega (arith, leb-true count 1 is, more))
      | inr is ↦ is
    ]

part-read : (tree : LabelTree) (wanted : ℕ) (literals : Literals) (cubes : List Literals) (end : ReadCubes) → Fits wanted tree
    → read_back (Some (at wanted false literals cubes)) (postfix tree) ≡ Some end → IsPartRead wanted literals cubes tree end
part-read (constant true) wanted literals cubes end fit is = record { after = literals; is = is; means = λ letter. (λ met. (met, refl), λ both. both.0) }
part-read (constant false) wanted literals cubes end fit is = absurd (nothing end is)
part-read (proposition number) wanted literals cubes end fit is = record {
  after = with_literal literals false number;
  is = literal-read wanted false literals cubes number end is;
  means = met-held literals number;
}
part-read (negation part) wanted literals cubes end fit is =
    as-wanted wanted literals cubes (negation part) end
    (negated-read part (wanted - 1 + 1) literals cubes end (omega arith) (sym (read-append (Some (at wanted false literals cubes)) (postfix part) (Not ∷ [])) ∙ is))
part-read (conjunction left right) wanted literals cubes end fit is =
    let start = with_before (Some (at wanted false literals cubes)) And in
    let split = sym (read-both (Some (at wanted false literals cubes)) left right And) ∙ is in
    let middle = read-before (read_back start (postfix right)) (postfix left) end split in
    let begun = read-before start (postfix right) middle.0 middle.1 in
    let two = and-read wanted literals cubes begun.0 begun.1 ∙ sym begun.1 in
    let second = part-read right (wanted - 1 + 2) literals cubes middle.0 (fits (wanted - 1 + 2) right (omega arith)) (ap (λ r. read_back r (postfix right)) two ∙ middle.1) in
    let there = sym (first-read wanted second.after cubes) ∙ (second.is ∙ sym middle.1) in
    let first = part-read left (wanted - 1 + 1) second.after cubes end (fits (wanted - 1 + 1) left (omega arith)) (ap (λ r. read_back r (postfix left)) there ∙ split) in
    as-wanted wanted literals cubes (conjunction left right) end (record {
      after = first.after;
      is = first.is;
      means = λ letter. (
        λ met.
            let one = (first.means letter).0 met in
            let other = (second.means letter).0 one.0 in
            (other.0, true-both (truth letter left) (truth letter right) one.1 other.1),
        λ met.
            let truths = both-true (truth letter left) (truth letter right) met.1 in
            (first.means letter).1 ((second.means letter).1 (met.0, truths.1), truths.0),
      );
    })
part-read (disjunction left right) wanted literals cubes end fit is =
    let split = sym (read-both (Some (at wanted false literals cubes)) left right Or) ∙ is in
    let none = ap (λ r. read_back r (postfix right)) (or-ends wanted false literals cubes fit) ∙ none-read (postfix right) in
    absurd (none-some (postfix left) end (ap (λ r. read_back r (postfix left)) (sym none) ∙ split))

-- ---- all cubes

-- a label was read: some cube is met if one before is, or where the label is true
pub record AreCubesRead (cubes : List Literals) (tree : LabelTree) (end : ReadCubes) : Type 0 where
  pub after : List Literals
  pub is : end ≡ record { reader = no_cube; cubes = after }
  pub means : (letter : ℕ → Bool) → IsAnyMetAt after letter ↔ ((truth letter tree ≡ true) ⊎ IsAnyMetAt cubes letter)

some-same : (one other : ReadCubes) → Some one ≡ Some other → one ≡ other
some-same one other is = cc

cube-read : (tree : LabelTree) (cubes : List Literals) (end : ReadCubes) → IsPartRead 0 no_literals cubes tree end → AreCubesRead cubes tree end
cube-read tree cubes end read = record {
  after = read.after ∷ cubes;
  is = sym (some-same (record { reader = no_cube; cubes = read.after ∷ cubes }) end read.is);
  means = λ letter. (
    λ any. elim any [
      | inl met ↦ inl ((read.means letter).0 met).1
      | inr before ↦ inr before
    ],
    λ either. elim either [
      | inl holds ↦ inl ((read.means letter).1 ((all-none (λ p. letter p ≡ true), all-none (λ p. letter p ≡ false)), holds))
      | inr before ↦ inr before
    ],
  );
}

pub cubes-read : (tree : LabelTree) (cubes : List Literals) (end : ReadCubes)
    → read_back (Some (record { reader = no_cube; cubes = cubes })) (postfix tree) ≡ Some end → AreCubesRead cubes tree end
cubes-read (constant value) cubes end is = cube-read (constant value) cubes end (part-read (constant value) 0 no_literals cubes end tt is)
cubes-read (proposition number) cubes end is = cube-read (proposition number) cubes end (part-read (proposition number) 0 no_literals cubes end tt is)
cubes-read (negation part) cubes end is = cube-read (negation part) cubes end (part-read (negation part) 0 no_literals cubes end tt is)
cubes-read (conjunction left right) cubes end is = cube-read (conjunction left right) cubes end (part-read (conjunction left right) 0 no_literals cubes end tt is)
cubes-read (disjunction left right) cubes end is =
    let start : Option ReadCubes = Some (record { reader = no_cube; cubes = cubes }) in
    let split = sym (read-both start left right Or) ∙ is in
    let middle = read-before (read_back start (postfix right)) (postfix left) end split in
    let second = cubes-read right cubes middle.0 middle.1 in
    let first = cubes-read left second.after end (ap (λ r. read_back r (postfix left)) (sym (middle.1 ∙ ap Some second.is)) ∙ split) in
    record {
      after = first.after;
      is = first.is;
      means = λ letter. (
        λ any. elim ((first.means letter).0 any) [
          | inl holds ↦ inl (or_left (truth letter left) (truth letter right) holds)
          | inr before ↦ elim ((second.means letter).0 before) [
            | inl holds ↦ inl (or_right (truth letter left) (truth letter right) holds)
            | inr earlier ↦ inr earlier
          ]
        ],
        λ either. elim either [
          | inl holds ↦ elim (or_cases (truth letter left) (truth letter right) holds) [
            | inl one ↦ (first.means letter).1 (inl one)
            | inr other ↦ (first.means letter).1 (inr ((second.means letter).1 (inl other)))
          ]
          | inr before ↦ (first.means letter).1 (inr ((second.means letter).1 (inr before)))
        ],
      );
    }
