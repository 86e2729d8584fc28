-- Cubes without the letters of others, and edges that are split.
use Rattle.std.proofs.Common.{◌≡◌, ◌⊎◌, inl, inr, ◌<◌, ◌+◌, ℕ, zero, suc, Bool, true, false, not, List, [], ◌∷◌, ◌++◌}
use Rattle.std.proofs.Common.{length, get_or, take, Option, None, Some, is_some, refl, sym, ap, subst, ◌∙◌, append_assoc, append-nil, arith}
use Rattle.std.specs.Prelude.{Contains, IfSome, IsTrue}
use Rattle.std.specs.List.{AllZip, flat_map}
use Rattle.std.proofs.lemmas.Bool.{cases_Bool, cases_lt, false≢true, not_from_false}
use Rattle.std.proofs.lemmas.List.{get_or_append_left, get_or_at, length_push}
use Rattle.std.proofs.lemmas.List.Concat.{flat_map-append}
use Rattle.std.proofs.lemmas.List.Elements.{Contains-append_cases, Contains-append_left, Contains-append_right}
use Rattle.std.proofs.lemmas.List.Elements.{Contains-get_or, Contains-push, Contains-push_cases}
use Rattle.std.proofs.lemmas.List.Quantifiers.{all_pairs_push}
use Rattle.std.proofs.lemmas.Slice.Zip.{all_zipped_more}
use Rattle.omega_ltl_shapes.specs.Covers.{HasLiteral, is_set}
use Rattle.omega_ltl_shapes.specs.Demands.{IsLiteralTrue, Valuation}
use Rattle.omega_ltl_shapes.specs.Graphs.{IsGood}
use Rattle.omega_ltl_shapes.specs.Terms.{AreContradictory, HasLiterals, IsCubeWith}
use Rattle.omega_ltl_shapes.specs.declared.cube.Cube.{Cube}
use Rattle.omega_ltl_shapes.specs.declared.shape.Shape.{Shape}
use Rattle.omega_ltl_shapes.specs.declared.term.Term.{Term}
use Rattle.omega_ltl_shapes.proofs.ItemLemmas.{get_or_same, take_read}
use Rattle.omega_ltl_terms.specs.Adding.{HasGood}
use Rattle.omega_ltl_terms.specs.Pieces.{ArePieces, IsOver, IsPossible}
use Rattle.omega_ltl_terms.specs.private.Splitting.{AddsNegation, AddsNegations, AddsParts, AddsWithout, AllOver}
use Rattle.omega_ltl_terms.specs.private.Splitting.{AreDisjoint, AreLeft, AreSplit, AreSplitInOrder, ArePushed}
use Rattle.omega_ltl_terms.specs.private.Splitting.{AreWithout, AsksNoMore, IsSplitting}
use Rattle.omega_ltl_terms.specs.private.Splitting.{IsCubeTrue, IsPart, SomeCubeTrue}
use Rattle.omega_ltl_terms.proofs.PossibleLemmas.{clash, contradict_back, contradict_more, with_agrees, with_possible}

pub literals_itself : (cube : Cube) → HasLiterals cube cube
literals_itself cube name negated h = h

pub literals_more : (one two three : Cube) → HasLiterals one two → HasLiterals two three → HasLiterals one three
literals_more one two three a b name negated h = b name negated (a name negated h)

some_more : (letter : ℕ → Bool) (old new : List Cube) → ((part : Cube) → Contains old part → Contains new part) → SomeCubeTrue letter old → SomeCubeTrue letter new
some_more letter old new keeps some = (some.0, keeps some.0 some.1, some.2)

-- a literal is true, or its negation
literal_or_not : (letter : ℕ → Bool) (name : ℕ) (negated : Bool) → IsLiteralTrue letter name negated ⊎ IsLiteralTrue letter name (not negated)
literal_or_not letter name negated = go negated (cases_Bool (letter name))
  where
    go : (s : Bool) → (letter name ≡ true) ⊎ (letter name ≡ false) → IsLiteralTrue letter name s ⊎ IsLiteralTrue letter name (not s)
    go false (inl sure) = inl sure
    go false (inr never) = inr (not_from_false (letter name) never)
    go true (inl sure) = inr sure
    go true (inr never) = inl (not_from_false (letter name) never)

-- a cube with a true literal more is true
true_with : (letter : ℕ → Bool) (cube more : Cube) (name : ℕ) (negated : Bool) → IsCubeWith cube name negated more → IsCubeTrue letter cube → IsLiteralTrue letter name negated
    → IsCubeTrue letter more
true_with letter cube more name negated is all one n s h = elim ((is n s).0 h) [
  | inl old ↦ all n s old
  | inr same ↦ subst (λ (m : ℕ). IsLiteralTrue letter m s) (sym same.0) (subst (IsLiteralTrue letter name) (sym same.1) one)
]

-- one step
pub negation_added : (base other more opposite : Cube) (name : ℕ) (negated : Bool) (old : List Cube) → HasLiteral other name negated → (HasLiteral base name negated → ⊥)
    → IsCubeWith base name negated more → IsCubeWith base name (not negated) opposite → AddsNegation base other name negated more old (old ++ opposite ∷ [])
negation_added base other more opposite name negated old there lacks is against = record {
  keeps = λ part h. Contains-append_left old (opposite ∷ []) part h;
  only = λ part h. elim (Contains-push_cases old opposite part h) [
    | inl there ↦ inl there
    | inr same ↦ inr (λ n s l. subst (λ (c : Cube). HasLiteral c n s) same ((against n s).1 (inl l)))
  ];
  grows = λ n s h. (is n s).1 (inl h);
  has = λ h. (is name negated).1 (inr (refl, refl));
  covers = λ letter all. elim (literal_or_not letter name negated) [
    | inl sure ↦ inl (true_with letter base more name negated is all sure)
    | inr never ↦ inr (opposite, Contains-push old opposite, true_with letter base opposite name (not negated) against all never)
  ];
  split = λ possible s. record {
    disjoint = record {
      apart = all_pairs_push AreContradictory old opposite s.disjoint.apart
          (λ k d below. contradict_more (get_or old k d) base (get_or old k d) opposite (literals_itself (get_or old k d)) opposite_grows
          (s.against (get_or old k d) (Contains-get_or old k d below)));
      possible = λ part h. elim (Contains-push_cases old opposite part h) [
        | inl before ↦ s.disjoint.possible part before
        | inr same ↦ subst IsPossible same
            (with_possible base opposite name (not negated) against (λ l. lacks (subst (HasLiteral base name) (twice negated) l)) s.base_possible)
      ];
    };
    against = λ part h. elim (Contains-push_cases old opposite part h) [
      | inl before ↦ contradict_more part base part more (literals_itself part) more_grows (s.against part before)
      | inr same ↦ subst (λ (c : Cube). AreContradictory c more) same
          (contradict_back more opposite (clash more opposite name negated ((is name negated).1 (inr (refl, refl))) ((against name (not negated)).1 (inr (refl, refl)))))
    ];
    base_possible = with_possible base more name negated is (λ l. s.agree (contradict_back other base (clash other base name negated there l))) s.base_possible;
    agree = with_agrees base more other name negated is (λ l. possible (clash other other name negated there l)) s.agree;
  };
  names = λ P of_other of_base of_old. (
    λ n s l. elim ((is n s).0 l) [ inl old ↦ of_base n s old | inr new ↦ subst (λ (m : ℕ). IsTrue (P m)) (sym new.0) (of_other name negated there) ],
    λ part h. elim (Contains-push_cases old opposite part h) [
      | inl before ↦ of_old part before
      | inr same ↦ subst (IsOver P) same (λ n s l. elim ((against n s).0 l) [ inl old ↦ of_base n s old | inr new ↦ subst (λ (m : ℕ). IsTrue (P m)) (sym new.0) (of_other name negated there) ])
    ],
  );
}
  where
    more_grows : HasLiterals base more
    more_grows n s l = (is n s).1 (inl l)

    opposite_grows : HasLiterals base opposite
    opposite_grows n s l = (against n s).1 (inl l)

    twice : (b : Bool) → not (not b) ≡ b
    twice true = refl
    twice false = refl

-- or none is: the literal is there, or the other lacks it
pub negation_skipped : (base other : Cube) (name : ℕ) (negated : Bool) (old : List Cube) → (HasLiteral other name negated → HasLiteral base name negated)
    → AddsNegation base other name negated base old old
negation_skipped base other name negated old there = record {
  keeps = λ part h. h;
  only = λ part h. inl h;
  grows = literals_itself base;
  has = there;
  covers = λ letter all. inl all;
  split = λ possible s. s;
  names = λ P of_other of_base of_old. (of_base, of_old);
}

-- the loop over names: the cube so far has the literals of the other below a name
pub record IsSoFar (cube other base : Cube) (count : ℕ) (old now : List Cube) : Type 0 where
  pub keeps : (part : Cube) → Contains old part → Contains now part
  pub only : (part : Cube) → Contains now part → Contains old part ⊎ HasLiterals cube part
  pub grows : HasLiterals cube base
  pub has : (name : ℕ) (negated : Bool) → name < count → HasLiteral other name negated → HasLiteral base name negated
  pub covers : (letter : ℕ → Bool) → IsCubeTrue letter cube → IsCubeTrue letter base ⊎ SomeCubeTrue letter now
  pub split : IsPossible other → IsSplitting other cube old → IsSplitting other base now
  pub names : (P : ℕ → Bool) → IsOver P other → IsOver P cube → AllOver P old → IsOver P base × AllOver P now

pub so_far_none : (cube other : Cube) (old : List Cube) → IsSoFar cube other cube 0 old old
so_far_none cube other old = record {
  keeps = λ part h. h;
  only = λ part h. inl h;
  grows = literals_itself cube;
  has = λ name negated low h. absurd (omega arith);
  covers = λ letter all. inl all;
  split = λ possible s. s;
  names = λ P of_other of_cube of_old. (of_cube, of_old);
}

pub negations_added : (base other middle more : Cube) (name : ℕ) (old half new : List Cube) → AddsNegation base other name false middle old half
    → AddsNegation middle other name true more half new → AddsNegations base other name more old new
negations_added base other middle more name old half new a b = record {
  keeps = λ part h. b.keeps part (a.keeps part h);
  only = λ part h. elim (b.only part h) [
    | inl there ↦ a.only part there
    | inr added ↦ inr (literals_more base middle part a.grows added)
  ];
  grows = literals_more base middle more a.grows b.grows;
  has = has;
  covers = λ letter all. elim (a.covers letter all) [
    | inl middle_true ↦ b.covers letter middle_true
    | inr some ↦ inr (some_more letter half new b.keeps some)
  ];
  split = λ possible s. b.split possible (a.split possible s);
  names = λ P of_other of_base of_old. let one = a.names P of_other of_base of_old in b.names P of_other one.0 one.1;
}
  where
    has : (negated : Bool) → HasLiteral other name negated → HasLiteral more name negated
    has false h = b.grows name false (a.has h)
    has true h = b.has h

pub so_far_more : (cube other base more : Cube) (name : ℕ) (old now new : List Cube) → IsSoFar cube other base name old now
    → AddsNegations base other name more now new → IsSoFar cube other more (name + 1) old new
so_far_more cube other base more name old now new far a = record {
  keeps = λ part h. a.keeps part (far.keeps part h);
  only = λ part h. elim (a.only part h) [
    | inl there ↦ far.only part there
    | inr added ↦ inr (literals_more cube base part far.grows added)
  ];
  grows = literals_more cube base more far.grows a.grows;
  has = has;
  covers = λ letter all. elim (far.covers letter all) [
    | inl base_true ↦ a.covers letter base_true
    | inr some ↦ inr (some_more letter now new a.keeps some)
  ];
  split = λ possible s. a.split possible (far.split possible s);
  names = λ P of_other of_cube of_old. let one = far.names P of_other of_cube of_old in a.names P of_other one.0 one.1;
}
  where
    has : (n : ℕ) (negated : Bool) → n < name + 1 → HasLiteral other n negated → HasLiteral more n negated
    has n negated low h = elim (cases_lt n name) [
      | inl before ↦ a.grows n negated (far.has n negated before h)
      | inr reached ↦ (let same : name ≡ n = omega arith in subst (λ (m : ℕ). HasLiteral other m negated → HasLiteral more m negated) same (a.has negated) h)
    ]

pub so_far_all : (cube other base : Cube) (old new : List Cube) → (AreContradictory cube other → ⊥) → ((place : ℕ) → IsTrue (is_set other.positive place) → place < 64)
    → ((place : ℕ) → IsTrue (is_set other.negative place) → place < 64) → IsSoFar cube other base 64 old new → AddsWithout cube other old new
so_far_all cube other base old new agree positive negative far = record {
  keeps = far.keeps;
  only = far.only;
  covers = λ letter all. elim (far.covers letter all) [
    | inl base_true ↦ inl (λ n s h. base_true n s (far.has n s (within n s h) h))
    | inr some ↦ inr some
  ];
  split = λ possible own disjoint against. (far.split possible (record { disjoint = disjoint; against = against; base_possible = own; agree = agree })).disjoint;
  names = λ P of_other of_cube of_old. (far.names P of_other of_cube of_old).1;
}
  where
    within : (n : ℕ) (s : Bool) → HasLiteral other n s → n < 64
    within n false h = positive n h
    within n true h = negative n h

-- a cube that contradicts the other stays
pub without_apart : (cube other : Cube) (old : List Cube) → AddsWithout cube other old (old ++ cube ∷ [])
without_apart cube other old = record {
  keeps = λ part h. Contains-append_left old (cube ∷ []) part h;
  only = λ part h. elim (Contains-push_cases old cube part h) [
    | inl there ↦ inl there
    | inr same ↦ inr (subst (HasLiterals cube) same (literals_itself cube))
  ];
  covers = λ letter all. inr (cube, Contains-push old cube, all);
  split = λ possible own disjoint against. record {
    apart = all_pairs_push AreContradictory old cube disjoint.apart (λ k d below. against (get_or old k d) (Contains-get_or old k d below));
    possible = λ part h. elim (Contains-push_cases old cube part h) [ inl before ↦ disjoint.possible part before | inr same ↦ subst IsPossible same own ];
  };
  names = λ P of_other of_cube of_old part h. elim (Contains-push_cases old cube part h) [ inl before ↦ of_old part before | inr same ↦ subst (IsOver P) same of_cube ];
}

-- two cubes that can be joined
pub agree_joined : (found : Option Cube) (A : Type 0) → is_some found ≡ true → IfSome found (λ cube. A) → A
agree_joined None A some agree = absurd (false≢true some)
agree_joined (Some cube) A some agree = agree

pub without_none : (other : Cube) → AreWithout [] other []
without_none other = record {
  only = λ part h. absurd (omega (arith, h.1));
  covers = λ letter some. absurd (omega (arith, some.1.1));
  split = λ possible disjoint. disjoint;
  names = λ P of_other of_cubes. of_cubes;
}

-- the last of disjoint cubes, and those before it
front_disjoint : (cubes : List Cube) (cube : Cube) → AreDisjoint (cubes ++ cube ∷ []) → AreDisjoint cubes
front_disjoint cubes cube are = record {
  apart = λ i j d lt within. subst (λ (c : Cube). AreContradictory c (get_or cubes j d)) (get_or_append_left cubes (cube ∷ []) d i (omega (arith, lt, within)))
      (subst (AreContradictory (get_or (cubes ++ cube ∷ []) i d)) (get_or_append_left cubes (cube ∷ []) d j within)
      (are.apart i j d lt (omega (arith, within, length_push cubes cube))));
  possible = λ c h. are.possible c (Contains-append_left cubes (cube ∷ []) c h);
}

last_apart : (cubes : List Cube) (cube one : Cube) → AreDisjoint (cubes ++ cube ∷ []) → Contains cubes one → AreContradictory one cube
last_apart cubes cube one are h =
    subst (λ (c : Cube). AreContradictory c cube) (get_or_append_left cubes (cube ∷ []) one h.0 h.1 ∙ h.2)
    (subst (AreContradictory (get_or (cubes ++ cube ∷ []) h.0 one)) (get_or_at cubes cube [] one (length cubes) refl)
    (are.apart h.0 (length cubes) one h.1 (omega (arith, length_push cubes cube))))

pub without_more : (cubes : List Cube) (cube other : Cube) (left new : List Cube) → AreWithout cubes other left → AddsWithout cube other left new → AreWithout (cubes ++ cube ∷ []) other new
without_more cubes cube other left new a b = record {
  only = λ part h. elim (b.only part h) [
    | inl there ↦ (let from = a.only part there in (from.0, Contains-append_left cubes (cube ∷ []) from.0 from.1, from.2))
    | inr added ↦ (cube, Contains-push cubes cube, added)
  ];
  covers = λ letter some. elim (Contains-push_cases cubes cube some.0 some.1) [
    | inl before ↦ elim (a.covers letter (some.0, before, some.2)) [
      | inl sure ↦ inl sure
      | inr rest ↦ inr (some_more letter left new b.keeps rest)
    ]
    | inr same ↦ b.covers letter (subst (IsCubeTrue letter) (sym same) some.2)
  ];
  split = λ possible disjoint. b.split possible (disjoint.possible cube (Contains-push cubes cube)) (a.split possible (front_disjoint cubes cube disjoint))
      (λ part h. let from = a.only part h in contradict_more from.0 cube part cube from.2 (literals_itself cube) (last_apart cubes cube from.0 disjoint from.1));
  names = λ P of_other of_cubes. b.names P of_other (of_cubes cube (Contains-push cubes cube)) (a.names P of_other (λ c h. of_cubes c (Contains-append_left cubes (cube ∷ []) c h)));
}

-- the same for the cube that a loop reads
pub without_read : (cubes : List Cube) (i : ℕ) (d other : Cube) (left new : List Cube) → i < length cubes → AreWithout (take i cubes) other left
    → AddsWithout (get_or cubes i d) other left new → AreWithout (take (i + 1) cubes) other new
without_read cubes i d other left new low a b =
    subst (λ (xs : List Cube). AreWithout xs other new) (take_read cubes i (get_or cubes i d) low (get_or_same cubes i d low))
    (without_more (take i cubes) (get_or cubes i d) other left new a b)

-- the letters of an edge without those of lesser ones
pub left_none : (edge : Term) → AreLeft [] edge (edge.cube ∷ [])
left_none edge = record {
  only = λ part h. elim (Contains-push_cases [] edge.cube part h) [
    | inl none ↦ absurd (omega (arith, none.1))
    | inr same ↦ subst (HasLiterals edge.cube) same (literals_itself edge.cube)
  ];
  covers = λ letter all. inr (edge.cube, (0, omega arith, refl), all);
  split = λ before own. record {
    apart = λ i j d lt within. absurd (omega (arith, lt, within));
    possible = λ part h. elim (Contains-push_cases [] edge.cube part h) [ inl none ↦ absurd (omega (arith, none.1)) | inr same ↦ subst IsPossible same own ];
  };
  names = λ P before own part h. elim (Contains-push_cases [] edge.cube part h) [ inl none ↦ absurd (omega (arith, none.1)) | inr same ↦ subst (IsOver P) same own ];
}

pub left_skipped : (before : List Term) (less edge : Term) (cubes : List Cube) → AreLeft before edge cubes → AreLeft (before ++ less ∷ []) edge cubes
left_skipped before less edge cubes a = record {
  only = a.only;
  covers = λ letter all. elim (a.covers letter all) [
    | inl found ↦ inl (found.0, Contains-append_left before (less ∷ []) found.0 found.1, found.2, found.3)
    | inr some ↦ inr some
  ];
  split = λ possible own. a.split (λ t h. possible t (Contains-append_left before (less ∷ []) t h)) own;
  names = λ P of_before own. a.names P (λ t h. of_before t (Contains-append_left before (less ∷ []) t h)) own;
}

pub left_more : (before : List Term) (less edge : Term) (cubes new : List Cube) → AsksNoMore less edge → AreLeft before edge cubes → AreWithout cubes less.cube new
    → AreLeft (before ++ less ∷ []) edge new
left_more before less edge cubes new no_more a b = record {
  only = λ part h. let from = b.only part h in literals_more edge.cube from.0 part (a.only from.0 from.1) from.2;
  covers = λ letter all. elim (a.covers letter all) [
    | inl found ↦ inl (found.0, Contains-append_left before (less ∷ []) found.0 found.1, found.2, found.3)
    | inr some ↦ elim (b.covers letter some) [
      | inl sure ↦ inl (less, Contains-push before less, no_more, sure)
      | inr rest ↦ inr rest
    ]
  ];
  split = λ possible own. b.split (possible less (Contains-push before less)) (a.split (λ t h. possible t (Contains-append_left before (less ∷ []) t h)) own);
  names = λ P of_before own. b.names P (of_before less (Contains-push before less)) (a.names P (λ t h. of_before t (Contains-append_left before (less ∷ []) t h)) own);
}

-- a term that asks for no more than a good one is good where its cube is true
good_lesser : {shapes : List Shape} (strongs : List ℕ) (v : Valuation shapes) (i : ℕ) (less edge : Term) → AsksNoMore less edge → IsCubeTrue (v.held i) less.cube
    → IsGood strongs v i edge → IsGood strongs v i less
good_lesser strongs v i less edge no_more sure good = record {
  literals = sure;
  next = λ d h. good.next d (no_more.next d h);
  strong = λ set h. good.strong set (no_more.late set h);
  late = λ set h. good.late set (no_more.late set h);
  no_goal = λ set h. good.no_goal set (no_more.late set h);
}

pub pushed_none : (edge : Term) (old : List Term) → ArePushed edge [] old old
pushed_none edge old = record {
  keeps = λ part h. h;
  only = λ part h. inl h;
  each = λ cube h. absurd (omega (arith, h.1));
  more = [];
  behind = sym (append-nil old);
  zipped = tt;
}

pub pushed_more : (edge : Term) (cubes : List Cube) (cube : Cube) (part : Term) (old now : List Term) → ArePushed edge cubes old now → IsPart edge cube part
    → ArePushed edge (cubes ++ cube ∷ []) old (now ++ part ∷ [])
pushed_more edge cubes cube part old now a is = record {
  keeps = λ t h. Contains-append_left now (part ∷ []) t (a.keeps t h);
  only = λ t h. elim (Contains-push_cases now part t h) [
    | inl there ↦ elim (a.only t there) [
      | inl before ↦ inl before
      | inr from ↦ inr (from.0, Contains-append_left cubes (cube ∷ []) from.0 from.1, from.2)
    ]
    | inr same ↦ inr (cube, Contains-push cubes cube, subst (IsPart edge cube) same is)
  ];
  each = λ c h. elim (Contains-push_cases cubes cube c h) [
    | inl before ↦ (let from = a.each c before in (from.0, Contains-append_left now (part ∷ []) from.0 from.1, from.2))
    | inr same ↦ (part, Contains-push now part, subst (λ (x : Cube). IsPart edge x part) same is)
  ];
  more = a.more ++ part ∷ [];
  behind = ap (λ (ts : List Term). ts ++ part ∷ []) a.behind ∙ append_assoc old a.more (part ∷ []);
  zipped = all_zipped_more (IsPart edge) cubes a.more cube part a.zipped is;
}

pub pushed_read : (edge : Term) (cubes : List Cube) (i : ℕ) (d : Cube) (part : Term) (old now new : List Term) → i < length cubes → ArePushed edge (take i cubes) old now
    → IsPart edge (get_or cubes i d) part → new ≡ now ++ part ∷ [] → ArePushed edge (take (i + 1) cubes) old new
pushed_read edge cubes i d part old now new low a is same =
    subst (λ (xs : List Cube). ArePushed edge xs old new) (take_read cubes i (get_or cubes i d) low (get_or_same cubes i d low))
    (subst (ArePushed edge (take i cubes ++ get_or cubes i d ∷ []) old) (sym same) (pushed_more edge (take i cubes) (get_or cubes i d) part old now a is))

-- what a zipped item is of
zipped_back : {X Y : Type 0} (R : X → Y → Type 0) (xs : List X) (ys : List Y) → AllZip R xs ys → (y : Y) → Contains ys y → (x : X) × Contains xs x × R x y
zipped_back R [] [] z y h = absurd (omega (arith, h.1))
zipped_back R [] (first ∷ ys) z y h = absurd z
zipped_back R (x ∷ xs) [] z y h = absurd z
zipped_back R (x ∷ xs) (first ∷ ys) z y h = elim (Contains-append_cases (first ∷ []) ys y h) [
  | inl here ↦ elim (Contains-push_cases [] first y here) [
    | inl none ↦ absurd (omega (arith, none.1))
    | inr same ↦ (x, (0, omega arith, refl), subst (R x) same z.0)
  ]
  | inr rest ↦ (let from = zipped_back R xs ys z.1 y rest in (from.0, Contains-append_right (x ∷ []) xs from.0 from.1, from.2))
]

zipped_long : {X Y : Type 0} (R : X → Y → Type 0) (xs : List X) (ys : List Y) → AllZip R xs ys → length xs ≡ length ys
zipped_long R [] [] z = refl
zipped_long R [] (y ∷ ys) z = absurd z
zipped_long R (x ∷ xs) [] z = absurd z
zipped_long R (x ∷ xs) (y ∷ ys) z = ap (λ (n : ℕ). suc n) (zipped_long R xs ys z.1)

zipped_at : {X Y : Type 0} (R : X → Y → Type 0) (xs : List X) (ys : List Y) (i : ℕ) (c : X) (d : Y) → AllZip R xs ys → i < length ys → R (get_or xs i c) (get_or ys i d)
zipped_at R [] [] i c d z low = absurd (omega (arith, low))
zipped_at R [] (y ∷ ys) i c d z low = absurd z
zipped_at R (x ∷ xs) [] i c d z low = absurd z
zipped_at R (x ∷ xs) (y ∷ ys) zero c d z low = z.0
zipped_at R (x ∷ xs) (y ∷ ys) (suc i) c d z low = zipped_at R xs ys i c d z.1 (omega (arith, low))

-- the parts of an edge for disjoint cubes are pieces of it
parts_pieces : (edge : Term) (cubes : List Cube) (parts : List Term) → ((cube : Cube) → Contains cubes cube → HasLiterals edge.cube cube) → AllZip (IsPart edge) cubes parts → AreDisjoint cubes
    → ArePieces edge parts
parts_pieces edge cubes parts only zipped disjoint = record {
  each = λ part h. let from = zipped_back (IsPart edge) cubes parts zipped part h in record {
    literals = subst (HasLiterals edge.cube) (sym from.2.cube_is) (only from.0 from.1);
    next = from.2.next;
    late = from.2.late;
  };
  possible = λ part h. let from = zipped_back (IsPart edge) cubes parts zipped part h in subst IsPossible (sym from.2.cube_is) (disjoint.possible from.0 from.1);
  disjoint = λ i j d lt within.
      let long : length cubes ≡ length parts = zipped_long (IsPart edge) cubes parts zipped in
      let one = (zipped_at (IsPart edge) cubes parts i edge.cube d zipped (omega (arith, lt, within))).cube_is in
      let other = (zipped_at (IsPart edge) cubes parts j edge.cube d zipped within).cube_is in
      subst (λ (c : Cube). AreContradictory c (get_or parts j d).cube) (sym one)
      (subst (AreContradictory (get_or cubes i edge.cube)) (sym other) (disjoint.apart i j edge.cube lt (omega (arith, within, long))));
}

pub parts_added : (before : List Term) (edge : Term) (cubes : List Cube) (old new : List Term) → AreLeft before edge cubes → ArePushed edge cubes old new → AddsParts before edge old new
parts_added before edge cubes old new left pushed = record {
  keeps = pushed.keeps;
  only = λ part h. elim (pushed.only part h) [
    | inl there ↦ inl there
    | inr from ↦ inr (record {
      literals = subst (HasLiterals edge.cube) (sym from.2.cube_is) (left.only from.0 from.1);
      next = from.2.next;
      late = from.2.late;
    })
  ];
  good = λ shapes strongs v i one. elim (left.covers (v.held i) one.literals) [
    | inl found ↦ inl (found.0, found.1, good_lesser strongs v i found.0 edge found.2 found.3 one)
    | inr some ↦ inr (let part = pushed.each some.0 some.1 in
        (part.0, part.1, good_lesser strongs v i part.0 edge (asks edge some.0 part.0 part.2) (subst (IsCubeTrue (v.held i)) (sym part.2.cube_is) some.2) one))
  ];
  pieces = pushed.more;
  behind = pushed.behind;
  split = λ possible own. parts_pieces edge cubes pushed.more left.only pushed.zipped (left.split possible own);
  names = λ P of_before own part h. let from = zipped_back (IsPart edge) cubes pushed.more pushed.zipped part h in
      subst (IsOver P) (sym from.2.cube_is) (left.names P of_before own from.0 from.1);
}
  where
    asks : (edge : Term) (cube : Cube) (part : Term) → IsPart edge cube part → AsksNoMore part edge
    asks edge cube part is = record {
      next = λ d h. subst (λ (l : List ℕ). Contains l d) is.next h;
      late = λ place h. subst (λ (w : ℕ). IsTrue (is_set w place)) is.late h;
    }

-- the loop over edges: parts of those so far, one of which is good where one of those is
pub split_none : AreSplit [] []
split_none = record { only = λ part h. absurd (omega (arith, h.1)); good = λ shapes strongs v i has. absurd (omega (arith, has.1.1)) }

pub split_more : (before : List Term) (edge : Term) (parts new : List Term) → AreSplit before parts → AddsParts before edge parts new → AreSplit (before ++ edge ∷ []) new
split_more before edge parts new a b = record {
  only = λ part h. elim (b.only part h) [
    | inl there ↦ (let from = a.only part there in (from.0, Contains-append_left before (edge ∷ []) from.0 from.1, from.2))
    | inr added ↦ (edge, Contains-push before edge, added)
  ];
  good = λ shapes strongs v i has. elim (Contains-push_cases before edge has.0 has.1) [
    | inl there ↦ kept shapes strongs v i (a.good shapes strongs v i (has.0, there, has.2))
    | inr same ↦ elim (b.good shapes strongs v i (subst (λ (t : Term). IsGood strongs v i t) (sym same) has.2)) [
      | inl lesser ↦ kept shapes strongs v i (a.good shapes strongs v i lesser)
      | inr sure ↦ sure
    ]
  ];
}
  where
    kept : (shapes : List Shape) (strongs : List ℕ) (v : Valuation shapes) (i : ℕ) → HasGood strongs v i parts → HasGood strongs v i new
    kept shapes strongs v i has = (has.0, b.keeps has.0 has.1, has.2)

-- in their order
pub order_none : AreSplitInOrder [] []
order_none = record { pieces = []; split = λ possible. tt; all = refl; names = λ P of_edges. of_edges }

pub order_more : (before : List Term) (edge : Term) (parts new : List Term) → AreSplitInOrder before parts → AddsParts before edge parts new → AreSplitInOrder (before ++ edge ∷ []) new
order_more before edge parts new a b = record {
  pieces = a.pieces ++ b.pieces ∷ [];
  split = λ possible. all_zipped_more ArePieces before a.pieces edge b.pieces (a.split (λ t h. possible t (Contains-append_left before (edge ∷ []) t h)))
      (b.split (λ t h. possible t (Contains-append_left before (edge ∷ []) t h)) (possible edge (Contains-push before edge)));
  all = b.behind ∙ ap (λ (ts : List Term). ts ++ b.pieces) a.all
      ∙ sym (flat_map-append (λ (row : List Term). row) a.pieces (b.pieces ∷ []) ∙ ap (λ (ts : List Term). flat_map (λ (row : List Term). row) a.pieces ++ ts) (append-nil b.pieces));
  names = λ P of_edges part h. elim (Contains-append_cases parts b.pieces part (subst (λ (ts : List Term). Contains ts part) b.behind h)) [
    | inl there ↦ a.names P (λ t k. of_edges t (Contains-append_left before (edge ∷ []) t k)) part there
    | inr added ↦ b.names P (λ t k. of_edges t (Contains-append_left before (edge ∷ []) t k)) (of_edges edge (Contains-push before edge)) part added
  ];
}

pub split_same : (xs ys parts : List Term) → ((t : Term) → Contains xs t → Contains ys t) → ((t : Term) → Contains ys t → Contains xs t) → AreSplit xs parts → AreSplit ys parts
split_same xs ys parts there back a = record {
  only = λ part h. let from = a.only part h in (from.0, there from.0 from.1, from.2);
  good = λ shapes strongs v i has. a.good shapes strongs v i (has.0, back has.0 has.1, has.2);
}
