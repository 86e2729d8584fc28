-- Strong demands, collected in ascending order.
use Rattle.std.proofs.Common.{◌≡◌, ◌⊎◌, inl, inr, ◌<◌, ◌≤◌, ◌+◌, zero, suc, ℕ, Bool, true, false, List, [], ◌∷◌, ◌++◌, length, refl, sym, ap}
use Rattle.std.proofs.Common.{subst, ◌∙◌, arith}
use Rattle.std.specs.Prelude.{Contains, slice_index}
use Rattle.std.proofs.lemmas.Bool.{cases_eq, cases_lt, false≢true}
use Rattle.std.proofs.lemmas.List.Elements.{Contains-append_cases}
use Rattle.std.proofs.lemmas.List.{get_or_append_left, get_or_at, length_push}
use Rattle.omega_ltl_shapes.specs.Graphs.{IsStrong}
use Rattle.omega_ltl_shapes.specs.declared.shape.Shape.{Shape}
use Rattle.omega_ltl_formula.specs.declared.node.FormulaNode.{FormulaNode}
use Rattle.omega_ltl_shapes.specs.Shapes.{AreGrounded, AreShapesOf, IsShapeBelow, demand, is_strong, shape_at}
use Rattle.omega_ltl_shapes.specs.Combinations.{SpeaksBelow}
use Rattle.omega_ltl_shapes.specs.declared.combination.Combination.{Combination}
use Rattle.omega_ltl_shapes.specs.declared.combination.Combination.TheVariants.{Both, Cases, Constant, Either, Literal, Same}
use Rattle.omega_ltl_shapes.specs.declared.shape.Shape.TheVariants.{Fix, Next, Now}
use Rattle.omega_ltl_shapes.proofs.Grounded.{shape_beyond}
use Rattle.omega_ltl_terms.specs.Limits.{most_sets}
use Rattle.omega_ltl_terms.specs.Needed.{HaveSets, IsNeeded, needed_operand, needed_root, operands, spoken}
use Rattle.omega_ltl_terms.specs.private.Marking.{IsMarked, MarksMore}
use Rattle.omega_ltl_terms.specs.private.Strongs.{AreCollected, AreSpoken, AreStrongsBelow, MarksNeeded}

pub strongs_none : (shapes : List Shape) → AreStrongsBelow shapes 0 []
strongs_none shapes = record {
  are = record {
    few = omega arith;
    below = λ set low. absurd (omega arith);
    strong = λ set low. absurd (omega arith);
    once = λ one other low high same. absurd (omega arith);
  };
  low = λ set low. absurd (omega arith);
}

pub strongs_same : (shapes : List Shape) (d : ℕ) (strongs : List ℕ) → AreStrongsBelow shapes d strongs → AreStrongsBelow shapes (d + 1) strongs
strongs_same shapes d strongs so_far = record { are = so_far.are; low = λ set low. (let less : slice_index strongs set < d = so_far.low set low in omega arith) }

module _ (shapes : List Shape) (d : ℕ) (strongs : List ℕ) (so_far : AreStrongsBelow shapes d strongs) where
  before : (set : ℕ) → set < length strongs → slice_index (strongs ++ d ∷ []) set ≡ slice_index strongs set
  before set low = get_or_append_left strongs (d ∷ []) 0 set low

  last : slice_index (strongs ++ d ∷ []) (length strongs) ≡ d
  last = get_or_at strongs d [] 0 (length strongs) refl

  -- a set is an old one or the last
  either : (set : ℕ) → set < length (strongs ++ d ∷ []) → (set < length strongs) ⊎ (length strongs ≡ set)
  either set low = elim (cases_lt set (length strongs)) [ inl old ↦ inl old | inr new ↦ inr (omega (arith, length_push strongs d)) ]

  of_each : (P : ℕ → Type 0) → ((set : ℕ) → set < length strongs → P (slice_index strongs set)) → P d → (set : ℕ) → set < length (strongs ++ d ∷ []) → P (slice_index (strongs ++ d ∷ []) set)
  of_each P old new set low = elim (either set low) [
    | inl there ↦ subst P (sym (before set there)) (old set there)
    | inr same ↦ subst (λ (s : ℕ). P (slice_index (strongs ++ d ∷ []) s)) same (subst P (sym last) new)
  ]

  pub strongs_more : d < length shapes → IsStrong shapes d → length strongs < 64 → AreStrongsBelow shapes (d + 1) (strongs ++ d ∷ [])
  strongs_more below strong room = record {
    are = record {
      few = omega (arith, length_push strongs d);
      below = of_each (λ n. n < length shapes) so_far.are.below below;
      strong = of_each (IsStrong shapes) so_far.are.strong strong;
      once = once;
    };
    low = of_each (λ n. n < d + 1) (λ set low. (let less : slice_index strongs set < d = so_far.low set low in omega arith)) (omega arith);
  }
    where
      once : (one other : ℕ) → one < length (strongs ++ d ∷ []) → other < length (strongs ++ d ∷ [])
          → slice_index (strongs ++ d ∷ []) one ≡ slice_index (strongs ++ d ∷ []) other → one ≡ other
      once one other low high same = go (either one low) (either other high)
        where
          go : (one < length strongs) ⊎ (length strongs ≡ one) → (other < length strongs) ⊎ (length strongs ≡ other) → one ≡ other
          go (inl a) (inl b) = so_far.are.once one other a b (sym (before one a) ∙ same ∙ before other b)
          go (inl a) (inr b) =
              let less : slice_index strongs one < d = so_far.low one a in
              let e : slice_index strongs one ≡ d = sym (before one a) ∙ same ∙ ap (slice_index (strongs ++ d ∷ [])) (sym b) ∙ last in
              absurd (omega arith)
          go (inr a) (inl b) =
              let less : slice_index strongs other < d = so_far.low other b in
              let e : slice_index strongs other ≡ d = sym (before other b) ∙ sym same ∙ ap (slice_index (strongs ++ d ∷ [])) (sym a) ∙ last in
              absurd (omega arith)
          go (inr a) (inr b) = sym a ∙ b

-- strong demands that are marked
module _ (shapes : List Shape) (marked : List Bool) where
  pub collected_none : AreCollected shapes marked 0 []
  collected_none = record {
    below = strongs_none shapes;
    marked_are = λ set low. absurd (omega arith);
    enough = λ d low. absurd (omega arith);
  }

  -- the next demand lacks no set, or there is no set left
  pub collected_same : (d : ℕ) (strongs : List ℕ) → (IsMarked marked d → IsStrong shapes d → most_sets ≤ length strongs) → AreCollected shapes marked d strongs
      → AreCollected shapes marked (d + 1) strongs
  collected_same d strongs full so_far = record {
    below = strongs_same shapes d strongs so_far.below;
    marked_are = so_far.marked_are;
    enough = λ e low here lacks. elim (cases_lt e d) [
      | inl before ↦ so_far.enough e before here lacks
      | inr reached ↦ (let same : e ≡ d = omega (arith, low, reached) in full (subst (IsMarked marked) same here) (subst (IsStrong shapes) same lacks.strong))
    ];
  }

  pub collected_more : (d : ℕ) (strongs : List ℕ) → d < length shapes → IsMarked marked d → IsStrong shapes d → length strongs < 64 → AreCollected shapes marked d strongs
      → AreCollected shapes marked (d + 1) (strongs ++ d ∷ [])
  collected_more d strongs below here strong room so_far = record {
    below = strongs_more shapes d strongs so_far.below below strong room;
    marked_are = of_each shapes d strongs so_far.below (IsMarked marked) so_far.marked_are here;
    enough = λ e low at lacks. elim (cases_lt e d) [
      | inl before ↦ (let old : most_sets ≤ length strongs = so_far.enough e before at (record {
        strong = lacks.strong;
        none = λ set of. lacks.none set (record {
          below = omega (arith, of.below, length_push strongs d);
          is = get_or_append_left strongs (d ∷ []) 0 set of.below ∙ of.is;
        });
      }) in absurd (omega (arith, old, room)))
      | inr reached ↦ (let same : d ≡ e = omega (arith, low, reached) in
          absurd (lacks.none (length strongs) (record { below = omega (arith, length_push strongs d); is = get_or_at strongs d [] 0 (length strongs) refl ∙ same })))
    ];
  }

-- what a shape speaks of is smaller
spoken_below : (d : ℕ) (c : Combination) → SpeaksBelow d c → (e : ℕ) → Contains (spoken c) e → e < d
spoken_below d (Constant value) below e h = absurd (omega (arith, h.1))
spoken_below d (Literal name negated) below e h = absurd (omega (arith, h.1))
spoken_below d (Same a) below e (zero, low, is) = subst (λ (n : ℕ). n < d) is below
spoken_below d (Same a) below e (suc i, low, is) = absurd (omega (arith, low))
spoken_below d (Both a b) below e (zero, low, is) = subst (λ (n : ℕ). n < d) is below.0
spoken_below d (Both a b) below e (suc zero, low, is) = subst (λ (n : ℕ). n < d) is below.1
spoken_below d (Both a b) below e (suc (suc i), low, is) = absurd (omega (arith, low))
spoken_below d (Either a b) below e (zero, low, is) = subst (λ (n : ℕ). n < d) is below.0
spoken_below d (Either a b) below e (suc zero, low, is) = subst (λ (n : ℕ). n < d) is below.1
spoken_below d (Either a b) below e (suc (suc i), low, is) = absurd (omega (arith, low))
spoken_below d (Cases a b f g) below e (zero, low, is) = subst (λ (n : ℕ). n < d) is below.0
spoken_below d (Cases a b f g) below e (suc zero, low, is) = subst (λ (n : ℕ). n < d) is below.1
spoken_below d (Cases a b f g) below e (suc (suc zero), low, is) = subst (λ (n : ℕ). n < d) is below.2
spoken_below d (Cases a b f g) below e (suc (suc (suc zero)), low, is) = subst (λ (n : ℕ). n < d) is below.3
spoken_below d (Cases a b f g) below e (suc (suc (suc (suc i))), low, is) = absurd (omega (arith, low))

pub operands_below : (d : ℕ) (shape : Shape) → IsShapeBelow d shape → (e : ℕ) → Contains (operands shape) e → e < d
operands_below d (Now c) below e h = spoken_below d c below e h
operands_below d (Next x) below e (zero, low, is) = subst (λ (n : ℕ). n < d) is below
operands_below d (Next x) below e (suc i, low, is) = absurd (omega (arith, low))
operands_below d (Fix goal keep strong) below e h = elim (Contains-append_cases (spoken goal) (spoken keep) e h) [
  | inl of_goal ↦ spoken_below d goal below.0 e of_goal
  | inr of_keep ↦ spoken_below d keep below.1 e of_keep
]

-- marks of what marked demands speak of
module _ (shapes : List Shape) where
  pub needed_none : (marked : List Bool) → MarksNeeded shapes marked marked
  needed_none marked = record { long = refl; keeps = λ d h. h; needed = λ root all d h. all d h }

  module _ (grounded : AreGrounded shapes) (d : ℕ) (old now after : List Bool) (marks : MarksNeeded shapes old now) (here : IsMarked now d)
      (more : MarksMore (operands (shape_at shapes d)) now after) where
    pub needed_more : MarksNeeded shapes old after
    needed_more = record {
      long = more.long ∙ marks.long;
      keeps = λ e h. (more.exact e).1 (inl (marks.keeps e h));
      needed = λ root all e h. elim ((more.exact e).0 h) [
        | inl there ↦ marks.needed root all e there
        | inr operand ↦ needed_operand d e (marks.needed root all d here) operand
      ];
    }

    pub spoken_more : AreSpoken shapes (d + 1) now → AreSpoken shapes d after
    spoken_more rest e above h = elim ((more.exact e).0 h) [
      | inl there ↦ elim (cases_eq e d) [
        | inl same ↦ λ x operand. (more.exact x).1 (inr (subst (λ (n : ℕ). Contains (operands (shape_at shapes n)) x) same operand))
        | inr differ ↦ λ x operand. (more.exact x).1 (inl (rest e (omega (arith, above, differ)) there x operand))
      ]
      | inr operand ↦ absurd (let low : e < d = operands_below d (shape_at shapes d) (grounded d) e operand in omega (arith, low, above))
    ]

  pub spoken_same : (d : ℕ) (marked : List Bool) → (IsMarked marked d → ⊥) → AreSpoken shapes (d + 1) marked → AreSpoken shapes d marked
  spoken_same d marked none rest e above h = elim (cases_eq e d) [
    | inl same ↦ absurd (none (subst (IsMarked marked) same h))
    | inr differ ↦ rest e (omega (arith, above, differ)) h
  ]

  -- so all that is needed is marked
  pub needed_marked : (root : ℕ) (marked : List Bool) → AreSpoken shapes 0 marked → IsMarked marked root → (d : ℕ) → IsNeeded shapes root d → IsMarked marked d
  needed_marked root marked closed first d needed_root = first
  needed_marked root marked closed first d (needed_operand x y needed operand) = closed x (omega arith) (needed_marked root marked closed first x needed) y operand

  pub have_sets : (root : ℕ) (blank first marked : List Bool) (strongs : List ℕ) → ((d : ℕ) → IsMarked blank d → ⊥) → MarksMore (root ∷ []) blank first
      → MarksNeeded shapes first marked → AreSpoken shapes 0 marked → AreCollected shapes marked (length shapes) strongs → ((d : ℕ) → IsStrong shapes d → d < length shapes)
      → HaveSets shapes root strongs
  have_sets root blank first marked strongs none more marks closed collected within = record {
    needed = λ set low. marks.needed root first_needed (slice_index strongs set) (collected.marked_are set low);
    enough = λ d needed lacks. collected.enough d (within d lacks.strong) (needed_marked root marked closed root_marked d needed) lacks;
  }
    where
      root_marked : IsMarked marked root
      root_marked = marks.keeps root ((more.exact root).1 (inr (0, omega arith, refl)))

      first_needed : (d : ℕ) → IsMarked first d → IsNeeded shapes root d
      first_needed d h = elim ((more.exact d).0 h) [
        | inl there ↦ absurd (none d there)
        | inr (zero, low, is) ↦ subst (IsNeeded shapes root) is needed_root
        | inr (suc i, low, is) ↦ absurd (omega (arith, low))
      ]

pub strong_within : (shapes : List Shape) (d : ℕ) → IsStrong shapes d → d < length shapes
strong_within shapes d strong = elim (cases_lt d (length shapes)) [
  | inl low ↦ low
  | inr high ↦ absurd (false≢true (sym (ap is_strong (shape_beyond shapes d high)) ∙ strong))
]

-- the demand of the root of a formula is in its table
pub root_low : (nodes : List FormulaNode) (shapes : List Shape) → AreShapesOf nodes shapes → (root : ℕ) → root < length nodes → (negated : Bool) → demand root negated < length shapes
root_low nodes shapes are root low false = omega (arith, are.count, low)
root_low nodes shapes are root low true = omega (arith, are.count, low)
