-- Marked demands, their parts, and the closed set that they are.
use Rattle.std.proofs.Common.{◌≡◌, ◌⊎◌, inl, inr, ◌<◌, ◌+◌, ◌↔◌, zero, suc, ℕ, Bool, true, false, List, []}
use Rattle.std.proofs.Common.{◌∷◌, ◌++◌, length, refl, sym, ap, subst, ◌∙◌, arith, get_or, take, eqb}
use Rattle.std.specs.Prelude.{AllPairs, Contains, IsTrue, if◌then◌else◌, replicate}
use Rattle.std.proofs.Math.Seq.{take-append_seam}
use Rattle.std.proofs.lemmas.Bool.{cases_Bool, cases_eq, cases_lt, eqb-true, false≢true, or_cases, true≢false}
use Rattle.std.proofs.lemmas.List.{get_or-replicate, get_or_past, length-replicate}
use Rattle.std.proofs.lemmas.List.Elements.{Contains-append_cases, Contains-append_left}
use Rattle.std.proofs.lemmas.List.Elements.{Contains-append_right, Contains-get_or, Contains-push}
use Rattle.std.proofs.lemmas.List.Elements.{Contains-push_cases}
use Rattle.std.proofs.lemmas.List.Quantifiers.{all_pairs_push}
use Rattle.omega_ltl_shapes.specs.Combinations.{Says, SpeaksBelow}
use Rattle.omega_ltl_shapes.specs.Covers.{Covers, CoversAll, Step}
use Rattle.omega_ltl_shapes.specs.Demands.{AreTrue, IsLiteralTrue, IsTrueAt, SaysAt, Unfolds, Valuation}
use Rattle.omega_ltl_shapes.specs.Shapes.{AreGrounded, IsShapeBelow, is_strong, shape_at}
use Rattle.omega_ltl_shapes.specs.declared.combination.Combination.{Combination}
use Rattle.omega_ltl_shapes.specs.declared.combination.Combination.TheVariants.{Both, Cases, Constant, Either}
use Rattle.omega_ltl_shapes.specs.declared.combination.Combination.TheVariants.{Literal, Same}
use Rattle.omega_ltl_shapes.specs.declared.cube.Cube.{Cube}
use Rattle.omega_ltl_shapes.specs.declared.shape.Shape.{Shape}
use Rattle.omega_ltl_shapes.specs.declared.shape.Shape.TheVariants.{Fix, Next, Now}
use Rattle.omega_ltl_shapes.proofs.Covering.{folds}
use Rattle.omega_ltl_shapes.proofs.Grounded.{shape_beyond}
use Rattle.omega_ltl_terms.specs.Closing.{AreNeverTrue, Closes, brings, combination_parts, is_false}
use Rattle.omega_ltl_terms.specs.Closing.{IsClosedSet, IsPart, given_part, kept_part, part_of_part, parts_of, stays_closed}
use Rattle.omega_ltl_terms.specs.private.Marking.{AddsStayed, AreParted, AreStayed, IsMarked}
use Rattle.omega_ltl_terms.specs.private.Marking.{MarkedAreNeverTrue, MarkedAreTrue, MarksMore, MarksTrue}

-- marks
pub marks_none : (marked : List Bool) → MarksMore [] marked marked
marks_none marked = record { long = refl; exact = λ e. (λ h. inl h, λ h. elim h [ inl sure ↦ sure | inr never ↦ absurd (omega (arith, never.1)) ]) }

pub marks_append : (xs ys : List ℕ) (old mid new : List Bool) → MarksMore xs old mid → MarksMore ys mid new → MarksMore (xs ++ ys) old new
marks_append xs ys old mid new a b = record {
  long = b.long ∙ a.long;
  exact = λ e. (
    λ h. elim ((b.exact e).0 h) [
      | inl between ↦ elim ((a.exact e).0 between) [ inl there ↦ inl there | inr added ↦ inr (Contains-append_left xs ys e added) ]
      | inr added ↦ inr (Contains-append_right xs ys e added)
    ],
    λ h. elim h [
      | inl there ↦ (b.exact e).1 (inl ((a.exact e).1 (inl there)))
      | inr added ↦ elim (Contains-append_cases xs ys e added) [
        | inl left ↦ (b.exact e).1 (inl ((a.exact e).1 (inr left)))
        | inr right ↦ (b.exact e).1 (inr right)
      ]
    ],
  );
}

only_one : (d e : ℕ) → Contains (d ∷ []) e → d ≡ e
only_one d e h = elim (Contains-push_cases [] d e h) [ inl none ↦ absurd (omega (arith, none.1)) | inr same ↦ same ]

pub marked_below : (marked : List Bool) (d : ℕ) → IsMarked marked d → d < length marked
marked_below marked d h = elim (cases_lt d (length marked)) [
  | inl low ↦ low
  | inr high ↦ absurd (false≢true (sym (get_or_past marked d false high) ∙ h))
]

pub none_marked : (count d : ℕ) → IsMarked (replicate count false) d → ⊥
none_marked count d h = elim (cases_lt d count) [
  | inl low ↦ false≢true (sym (get_or-replicate count d false false low) ∙ h)
  | inr high ↦ false≢true (sym (get_or_past (replicate count false) d false (omega (arith, length-replicate count false))) ∙ h)
]

-- what a vector has after its slice was given these
pub given_back : (n : ℕ) (xs ys : List Bool) → length xs ≡ n → take n (xs ++ ys) ≡ xs
given_back n xs ys long = ap (λ (m : ℕ). take m (xs ++ ys)) (sym long) ∙ take-append_seam xs ys

-- parts
if_contains : (b : Bool) (d e : ℕ) → Contains (if b then d ∷ [] else []) e → (b ≡ true) × (d ≡ e)
if_contains true d e h = (refl, only_one d e h)
if_contains false d e h = absurd (omega (arith, h.1))

kept_parts : (goal keep : Combination) (e : ℕ) → Contains (kept_part goal keep) e → (brings goal e ≡ true) × (keep ≡ Same e)
kept_parts goal (Constant value) e h = absurd (omega (arith, h.1))
kept_parts goal (Literal name negated) e h = absurd (omega (arith, h.1))
kept_parts goal (Same d) e h =
    let both = if_contains (brings goal d) d e h in
    (subst (λ (n : ℕ). brings goal n ≡ true) both.1 both.0, ap (λ n. Same n) both.1)
kept_parts goal (Both a b) e h = absurd (omega (arith, h.1))
kept_parts goal (Either a b) e h = absurd (omega (arith, h.1))
kept_parts goal (Cases a b c d) e h = absurd (omega (arith, h.1))

-- a goal that brings a demand says that it holds
brings_says : (L : ℕ → Bool → Type 0) (P : ℕ → Type 0) (goal : Combination) (d : ℕ) → brings goal d ≡ true → Says L P goal → P d
brings_says L P (Constant true) d b s = absurd (false≢true b)
brings_says L P (Constant false) d b s = absurd (false≢true s)
brings_says L P (Literal name negated) d b s = absurd (false≢true b)
brings_says L P (Same e) d b s = subst P (eqb-true e d b) s
brings_says L P (Both e f) d b s = elim (or_cases (eqb e d) (eqb f d) b) [
  | inl one ↦ subst P (eqb-true e d one) s.0
  | inr other ↦ subst P (eqb-true f d other) s.1
]
brings_says L P (Either e f) d b s = absurd (false≢true b)
brings_says L P (Cases e f g h) d b s = absurd (false≢true b)

two_cases : (d e x : ℕ) → Contains (d ∷ e ∷ []) x → (d ≡ x) ⊎ (e ≡ x)
two_cases d e x h = elim (Contains-push_cases (d ∷ []) e x h) [ inl one ↦ inl (only_one d x one) | inr other ↦ inr other ]

combination_true : (L : ℕ → Bool → Type 0) (P : ℕ → Type 0) (c : Combination) → Says L P c → (e : ℕ) → Contains (combination_parts c) e → P e
combination_true L P (Constant value) s e h = absurd (omega (arith, h.1))
combination_true L P (Literal name negated) s e h = absurd (omega (arith, h.1))
combination_true L P (Same d) s e h = subst P (only_one d e h) s
combination_true L P (Both c d) s e h = elim (two_cases c d e h) [ inl one ↦ subst P one s.0 | inr other ↦ subst P other s.1 ]
combination_true L P (Either c d) s e h = absurd (omega (arith, h.1))
combination_true L P (Cases a b c d) s e h = absurd (omega (arith, h.1))

pub parts_true : (held : ℕ → ℕ → Bool) (P : ℕ → ℕ → Type 0) (d i : ℕ) (shape : Shape) → Unfolds held P d i shape → (e : ℕ) → Contains (parts_of shape) e → P e i
parts_true held P d i (Now c) u e h = combination_true (λ name negated. IsLiteralTrue (held i) name negated) (λ x. P x i) c u e h
parts_true held P d i (Next x) u e h = absurd (omega (arith, h.1))
parts_true held P d i (Fix goal keep strong) u e h =
    let part = kept_parts goal keep e h in
    elim u.0 [
      | inl s ↦ brings_says (λ name negated. IsLiteralTrue (held i) name negated) (λ x. P x i) goal e part.0 s
      | inr s ↦ subst (SaysAt held P i) part.1 s.0
    ]

pub true_no_false : (held : ℕ → ℕ → Bool) (P : ℕ → ℕ → Type 0) (d i : ℕ) (shape : Shape) → Unfolds held P d i shape → is_false shape ≡ false
true_no_false held P d i (Now (Constant true)) u = refl
true_no_false held P d i (Now (Constant false)) u = absurd (false≢true u)
true_no_false held P d i (Now (Literal name negated)) u = refl
true_no_false held P d i (Now (Same a)) u = refl
true_no_false held P d i (Now (Both a b)) u = refl
true_no_false held P d i (Now (Either a b)) u = refl
true_no_false held P d i (Now (Cases a b c e)) u = refl
true_no_false held P d i (Next x) u = refl
true_no_false held P d i (Fix goal keep strong) u = refl

pub combination_below : (d : ℕ) (c : Combination) → SpeaksBelow d c → (e : ℕ) → Contains (combination_parts c) e → e < d
combination_below d (Constant value) below e h = absurd (omega (arith, h.1))
combination_below d (Literal name negated) below e h = absurd (omega (arith, h.1))
combination_below d (Same x) below e h = subst (λ (n : ℕ). n < d) (only_one x e h) below
combination_below d (Both x y) below e h = elim (two_cases x y e h) [
  | inl one ↦ subst (λ (n : ℕ). n < d) one below.0
  | inr other ↦ subst (λ (n : ℕ). n < d) other below.1
]
combination_below d (Either x y) below e h = absurd (omega (arith, h.1))
combination_below d (Cases x y z w) below e h = absurd (omega (arith, h.1))

pub parts_below : (d : ℕ) (shape : Shape) → IsShapeBelow d shape → (e : ℕ) → Contains (parts_of shape) e → e < d
parts_below d (Now c) below e h = combination_below d c below e h
parts_below d (Next x) below e h = absurd (omega (arith, h.1))
parts_below d (Fix goal keep strong) below e h = subst (SpeaksBelow d) (kept_parts goal keep e h).1 below.1

-- the loop downwards
module _ (shapes : List Shape) (grounded : AreGrounded shapes) where
  module _ (d : ℕ) (old now after : List Bool) (marks : MarksTrue shapes old now) (here : IsMarked now d) (more : MarksMore (parts_of (shape_at shapes d)) now after) where
    pub marks_parts : MarksTrue shapes old after
    marks_parts = record {
      long = more.long ∙ marks.long;
      keeps = λ e h. (more.exact e).1 (inl (marks.keeps e h));
      true_then = λ v i all e h. elim ((more.exact e).0 h) [
        | inl there ↦ marks.true_then v i all e there
        | inr part ↦ parts_true v.held (IsTrueAt v.truth) d i (shape_at shapes d) (v.unfolds d i (marks.true_then v i all d here)) e part
      ];
      parts = λ demands all e h. elim ((more.exact e).0 h) [
        | inl there ↦ marks.parts demands all e there
        | inr part ↦ part_of_part d e (marks.parts demands all d here) part
      ];
    }

    pub parted_marked : is_false (shape_at shapes d) ≡ false → AreParted shapes (d + 1) now → AreParted shapes d after
    parted_marked sound rest e above h = elim ((more.exact e).0 h) [
      | inl there ↦ elim (cases_eq e d) [
        | inl same ↦ (
          subst (λ (n : ℕ). is_false (shape_at shapes n) ≡ false) (sym same) sound,
          λ x part. (more.exact x).1 (inr (subst (λ (n : ℕ). Contains (parts_of (shape_at shapes n)) x) same part)),
        )
        | inr differ ↦ (let parted = rest e (omega arith) there in (parted.0, λ x part. (more.exact x).1 (inl (parted.1 x part))))
      ]
      | inr part ↦ absurd (let low : e < d = parts_below d (shape_at shapes d) (grounded d) e part in omega arith)
    ]

  -- what the marked demands that stay cover is covered
  module _ (marked : List Bool) (parted : AreParted shapes 0 marked) (items : List ℕ) (stayed : AreStayed shapes marked items) (long : length marked ≡ length shapes)
      (cube : Cube) (next : List ℕ) (all : CoversAll shapes cube next items) where
    rebuilt : (d : ℕ) (shape : Shape) → stays_closed shape ≡ false → is_false shape ≡ false → ((e : ℕ) → Contains (parts_of shape) e → Covers shapes cube next e)
        → Step cube next (Covers shapes cube next) d shape
    rebuilt d (Now (Constant true)) gone sound parts = refl
    rebuilt d (Now (Constant false)) gone sound parts = absurd (true≢false sound)
    rebuilt d (Now (Literal name negated)) gone sound parts = absurd (true≢false gone)
    rebuilt d (Now (Same a)) gone sound parts = parts a (0, omega arith, refl)
    rebuilt d (Now (Both a b)) gone sound parts = (parts a (0, omega arith, refl), parts b (1, omega arith, refl))
    rebuilt d (Now (Either a b)) gone sound parts = absurd (true≢false gone)
    rebuilt d (Now (Cases a b c e)) gone sound parts = absurd (true≢false gone)
    rebuilt d (Next x) gone sound parts = absurd (true≢false gone)
    rebuilt d (Fix goal keep strong) gone sound parts = absurd (true≢false gone)

    covered_below : (n d : ℕ) → d < n → IsMarked marked d → Covers shapes cube next d
    covered_below zero d low h = absurd (omega arith)
    covered_below (suc n) d low h = elim (cases_Bool (stays_closed (shape_at shapes d))) [
      | inl stays ↦ all d ((stayed d).1 (let within : d < length marked = marked_below marked d h in omega arith, h, stays))
      | inr gone ↦ folds shapes grounded cube next d (rebuilt d (shape_at shapes d) gone (parted d (omega arith) h).0
          (λ e part. covered_below n e (let less : e < d = parts_below d (shape_at shapes d) (grounded d) e part in omega arith) ((parted d (omega arith) h).1 e part)))
    ]

    pub marked_covered : (d : ℕ) → IsMarked marked d → Covers shapes cube next d
    marked_covered d h = covered_below (suc d) d (omega arith) h

strong_stays : (shape : Shape) → is_strong shape ≡ true → stays_closed shape ≡ true
strong_stays (Now c) h = absurd (false≢true h)
strong_stays (Next d) h = absurd (false≢true h)
strong_stays (Fix goal keep strong) h = refl

-- so they close the demands that were marked first
pub closes_all : (shapes : List Shape) → AreGrounded shapes → (demands : List ℕ) (blank first marked : List Bool) (items : List ℕ)
    → ((d : ℕ) → IsMarked blank d → ⊥) → length marked ≡ length shapes → MarksMore demands blank first → MarksTrue shapes first marked
    → AreParted shapes 0 marked → AreStayed shapes marked items → Closes shapes demands items
closes_all shapes grounded demands blank first marked items none long more marks parted stayed = record {
  closing = record {
    covered = λ cube after all d h. marked_covered shapes grounded marked parted items stayed long cube after all d (at d h);
    kept = λ d h strong. (stayed d).1 (let within : d < length marked = marked_below marked d (at d h) in omega arith, at d h, strong_stays (shape_at shapes d) strong);
  };
  true_then = λ v i all d h. marks.true_then v i (first_true v i all) d ((stayed d).0 h).1;
  below = λ d h. ((stayed d).0 h).0;
}
  where
    at : (d : ℕ) → Contains demands d → IsMarked marked d
    at d h = marks.keeps d ((more.exact d).1 (inr h))

    first_true : (v : Valuation shapes) (i : ℕ) → AreTrue v demands i → MarkedAreTrue v i first
    first_true v i all d h = elim ((more.exact d).0 h) [ inl there ↦ absurd (none d there) | inr asked ↦ all d asked ]

-- the marked demands that stay are exactly the parts that do
pub closed_exactly : (shapes : List Shape) (demands : List ℕ) (blank first marked : List Bool) (items : List ℕ)
    → ((d : ℕ) → IsMarked blank d → ⊥) → length marked ≡ length shapes → MarksMore demands blank first → MarksTrue shapes first marked
    → AreParted shapes 0 marked → AreStayed shapes marked items → AllPairs (λ one other. one < other) items → IsClosedSet shapes demands items
closed_exactly shapes demands blank first marked items none long more marks parted stayed ascending = record {
  exact = λ d. (
    λ h. (marks.parts demands first_part d ((stayed d).0 h).1, ((stayed d).0 h).2),
    λ h. (stayed d).1 (let low : d < length marked = marked_below marked d (all_marked d h.0) in omega arith, all_marked d h.0, h.1),
  );
  ascending = ascending;
}
  where
    first_part : (d : ℕ) → IsMarked first d → IsPart shapes demands d
    first_part d h = elim ((more.exact d).0 h) [ inl there ↦ absurd (none d there) | inr asked ↦ given_part d asked ]

    all_marked : (d : ℕ) → IsPart shapes demands d → IsMarked marked d
    all_marked d (given_part x h) = marks.keeps x ((more.exact x).1 (inr h))
    all_marked d (part_of_part x y part h) = (parted x (omega arith) (all_marked x part)).1 y h

-- items in ascending order, with one more that is above all
pub ascending_more : (d : ℕ) (old new : List ℕ) → (new ≡ old) ⊎ (new ≡ old ++ d ∷ []) → ((e : ℕ) → Contains old e → e < d)
    → AllPairs (λ one other. one < other) old → AllPairs (λ one other. one < other) new
ascending_more d old new (inl same) low ascending = subst (AllPairs (λ one other. one < other)) (sym same) ascending
ascending_more d old new (inr pushed) low ascending = subst (AllPairs (λ one other. one < other)) (sym pushed)
    (all_pairs_push (λ one other. one < other) old d ascending (λ k e under. low (get_or old k e) (Contains-get_or old k e under)))

-- marks that are never true together are of demands that are not
pub never_all : (shapes : List Shape) (demands : List ℕ) (blank first : List Bool) → ((d : ℕ) → IsMarked blank d → ⊥) → MarksMore demands blank first
    → MarkedAreNeverTrue shapes first → AreNeverTrue shapes demands
never_all shapes demands blank first none more never v i all =
    never v i (λ d h. elim ((more.exact d).0 h) [ inl there ↦ absurd (none d there) | inr asked ↦ all d asked ])

-- demands beyond a table are never true
pub never_beyond : (shapes : List Shape) (demands : List ℕ) → (((d : ℕ) → Contains demands d → d < length shapes) → ⊥) → AreNeverTrue shapes demands
never_beyond shapes demands beyond v i all = beyond (λ d h. elim (cases_lt d (length shapes)) [
  | inl low ↦ low
  | inr high ↦ absurd (false≢true (subst (Unfolds v.held (IsTrueAt v.truth) d i) (shape_beyond shapes d high) (v.unfolds d i (all d h))))
])

-- the demand that a goal brings is a part
pub kept_there : (goal : Combination) (d : ℕ) → brings goal d ≡ true → Contains (kept_part goal (Same d)) d
kept_there goal d b = go (brings goal d) b
  where
    go : (c : Bool) → c ≡ true → Contains (if c then d ∷ [] else []) d
    go true e = (0, omega arith, refl)
    go false e = absurd (false≢true e)

-- the demands that stay, one by one
pub stayed_none : (shapes : List Shape) (marked : List Bool) (d : ℕ) (old : List ℕ) → (IsMarked marked d → IsTrue (stays_closed (shape_at shapes d)) → ⊥) → AddsStayed shapes marked d old old
stayed_none shapes marked d old lacks = record { behind = inl refl; exact = λ e. (λ h. inl h, λ h. elim h [ inl there ↦ there | inr one ↦ absurd (lacks one.1 one.2) ]) }

pub stayed_one : (shapes : List Shape) (marked : List Bool) (d : ℕ) (old : List ℕ) → IsMarked marked d → IsTrue (stays_closed (shape_at shapes d)) → AddsStayed shapes marked d old (old ++ d ∷ [])
stayed_one shapes marked d old here stays = record {
  behind = inr refl;
  exact = λ e. (
    λ h. elim (Contains-push_cases old d e h) [ inl there ↦ inl there | inr same ↦ inr (sym same, here, stays) ],
    λ h. elim h [
      | inl there ↦ Contains-append_left old (d ∷ []) e there
      | inr one ↦ subst (Contains (old ++ d ∷ [])) (sym one.0) (Contains-push old d)
    ],
  );
}

abbrev pub AreStayedBelow : List Shape → List Bool → ℕ → List ℕ → Type 0
AreStayedBelow shapes marked count items = (e : ℕ) → Contains items e ↔ ((e < count) × IsMarked marked e × IsTrue (stays_closed (shape_at shapes e)))

pub stayed_zero : (shapes : List Shape) (marked : List Bool) → AreStayedBelow shapes marked 0 []
stayed_zero shapes marked e = (λ h. absurd (omega (arith, h.1)), λ h. absurd (omega (arith, h.0)))

pub stayed_more : (shapes : List Shape) (marked : List Bool) (d : ℕ) (items new : List ℕ) → AreStayedBelow shapes marked d items → AddsStayed shapes marked d items new
    → AreStayedBelow shapes marked (d + 1) new
stayed_more shapes marked d items new so_far adds e = (
  λ h. elim ((adds.exact e).0 h) [
    | inl there ↦ (let old = (so_far e).0 there in (omega (arith, old.0), old.1, old.2))
    | inr one ↦ (
      omega (arith, one.0),
      subst (IsMarked marked) (sym one.0) one.1,
      subst (λ (n : ℕ). IsTrue (stays_closed (shape_at shapes n))) (sym one.0) one.2,
    )
  ],
  λ h. elim (cases_lt e d) [
    | inl before ↦ (adds.exact e).1 (inl ((so_far e).1 (before, h.1, h.2)))
    | inr reached ↦ (let same : e ≡ d = omega (arith, h.0, reached) in
        (adds.exact e).1 (inr (same, subst (IsMarked marked) same h.1, subst (λ (n : ℕ). IsTrue (stays_closed (shape_at shapes n))) same h.2)))
  ],
)
