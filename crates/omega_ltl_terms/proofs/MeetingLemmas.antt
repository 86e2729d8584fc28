-- Edges that meet demands, one after the other.
use Rattle.std.proofs.Common.{◌≡◌, ◌⊎◌, inl, inr, ◌<◌, ◌+◌, ℕ, Bool, true, false, List, [], ◌∷◌, ◌++◌, length, refl}
use Rattle.std.proofs.Common.{sym, ap, subst, ◌∙◌, arith}
use Rattle.std.specs.Prelude.{Contains, IsTrue, slice_index}
use Rattle.std.proofs.lemmas.Bool.{false≢true}
use Rattle.std.proofs.lemmas.List.Elements.{Contains-append_left, Contains-push, Contains-push_cases}
use Rattle.omega_ltl_shapes.specs.Combinations.{literal_value}
use Rattle.omega_ltl_shapes.specs.Covers.{Covers, CoversCombination, HasLiteral, Step, is_set}
use Rattle.omega_ltl_shapes.specs.Demands.{IsTrueAt, SaysAt, Unfolds, Valuation}
use Rattle.omega_ltl_shapes.specs.Graphs.{IsGood, IsSetOf, IsStrong}
use Rattle.omega_ltl_shapes.specs.Shapes.{AreGrounded, goal_of, is_strong, shape_at}
use Rattle.omega_ltl_shapes.specs.Terms.{IsWithin, no_literals}
use Rattle.omega_ltl_shapes.specs.declared.combination.Combination.{Combination}
use Rattle.omega_ltl_shapes.specs.declared.combination.Combination.TheVariants.{Same}
use Rattle.omega_ltl_shapes.specs.declared.cube.Cube.{Cube}
use Rattle.omega_ltl_shapes.specs.declared.shape.Shape.{Shape}
use Rattle.omega_ltl_shapes.specs.declared.shape.Shape.TheVariants.{Fix}
use Rattle.omega_ltl_shapes.specs.declared.term.Term.{Term}
use Rattle.omega_ltl_shapes.proofs.BitLemmas.{none_in_zero}
use Rattle.omega_ltl_shapes.proofs.Combining.{says_or_not}
use Rattle.omega_ltl_shapes.proofs.Covering.{combination_more, covers_more, folds}
use Rattle.omega_ltl_terms.specs.Adding.{AddsMinimal, HasGood, HasManyTerms, HasRoom}
use Rattle.omega_ltl_terms.specs.Limits.{most_terms}
use Rattle.omega_ltl_terms.specs.Meeting.{AreMet, IsStateTooLarge, IsWaiting, LacksSet, Meets, many_edge_terms}
use Rattle.omega_ltl_terms.specs.Meeting.{met_goal, met_stays, met_waits, met_weak, no_set, none_met, one_more_met}
use Rattle.omega_ltl_terms.specs.Products.{AddsCombination}
use Rattle.omega_ltl_terms.specs.Ways.{nothing}
use Rattle.omega_ltl_terms.specs.private.Meeting.{AddsMet, AreAllMet, AreMeeting, MeetsAll, MeetsBesideOne}
use Rattle.omega_ltl_terms.proofs.Adding.{has_good_kept, keeps_more}
use Rattle.omega_ltl_terms.proofs.Within.{has_good_within, within_itself, within_more}

module _ (shapes : List Shape) (grounded : AreGrounded shapes) (strongs : List ℕ) where
  pub meets_more : (d : ℕ) (less term : Term) → IsWithin less term → Meets shapes strongs d less → Meets shapes strongs d term
  meets_more d less term w m = record {
    covers = covers_more shapes grounded less.cube term.cube less.next term.next w.literals w.next d m.covers;
    postponed = λ strong. elim (m.postponed strong) [
      | inl goal ↦ inl (combination_more shapes grounded less.cube term.cube less.next term.next w.literals w.next (goal_of (shape_at shapes d)) goal)
      | inr late ↦ inr (late.0, late.1, w.late late.0 late.2, w.next d late.3)
    ];
  }

  -- an edge that meets a demand stays
  pub met_itself : (d : ℕ) (edge copy : Term) (old new : List Term) → copy ≡ edge → Meets shapes strongs d edge → AddsMinimal copy old new
      → AddsMet shapes strongs edge d old new
  met_itself d edge copy old new is m a = record {
    keeps = a.keeps;
    only = λ t h. elim (a.only t h) [
      | inl there ↦ inl there
      | inr same ↦ inr (subst (λ (u : Term). IsWithin edge u × Meets shapes strongs d u) (sym (same ∙ is)) (within_itself edge, m))
    ];
    ways = λ t h. elim (a.only t h) [ inl there ↦ inl there | inr same ↦ inr (met_stays m (same ∙ is)) ];
    good = λ room v i one true_now. has_good_within strongs v i new copy (a.added room) (subst (λ (t : Term). IsGood strongs v i t) (sym is) one);
  }

  pub met_weakly : (d : ℕ) (edge : Term) (old new : List Term) → (IsStrong shapes d → ⊥) → AddsCombination shapes edge (Same d) old new
      → AddsMet shapes strongs edge d old new
  met_weakly d edge old new weak a = record {
    keeps = a.keeps;
    only = λ t h. elim (a.only t h) [
      | inl there ↦ inl there
      | inr added ↦ inr (added.0, record { covers = added.1; postponed = λ strong. absurd (weak strong) })
    ];
    ways = λ t h. elim (a.ways t h) [ inl there ↦ inl there | inr added ↦ inr (met_weak weak added) ];
    good = λ room v i one true_now. a.good room strongs v i one true_now;
  }

  module _ (d : ℕ) (goal keep : Combination) (strong : Bool) (shape : shape_at shapes d ≡ Fix goal keep strong) where
    covers_fix : (cube : Cube) (next : List ℕ) → Step cube next (Covers shapes cube next) d (Fix goal keep strong) → Covers shapes cube next d
    covers_fix cube next s = folds shapes grounded cube next d (subst (Step cube next (Covers shapes cube next) d) (sym shape) s)

    pub meets_goal : (term : Term) → CoversCombination shapes term.cube term.next goal → Meets shapes strongs d term
    meets_goal term covered = record {
      covers = covers_fix term.cube term.next (inl covered);
      postponed = λ must. inl (subst (λ (s : Shape). CoversCombination shapes term.cube term.next (goal_of s)) (sym shape) covered);
    }

    module _ (must : strong ≡ true) (edge : Term) (set : ℕ) (of : IsSetOf strongs set d) (wait : Term) (is : IsWaiting edge d set wait) where
      edge_within : IsWithin edge wait
      edge_within = record {
        literals = λ n s h. subst (λ (c : Cube). HasLiteral c n s) (sym is.cube) h;
        next = λ x h. subst (λ (l : List ℕ). Contains l x) (sym is.next) (Contains-append_left edge.next (d ∷ []) x h);
        late = λ place h. (is.late place).1 (inl h);
      }

      meets_waiting : (term : Term) → IsWithin wait term → CoversCombination shapes term.cube term.next keep → Meets shapes strongs d term
      meets_waiting term w covered =
          let next : Contains term.next d = w.next d (subst (λ (l : List ℕ). Contains l d) (sym is.next) (Contains-push edge.next d)) in
          record {
            covers = covers_fix term.cube term.next (inr (covered, next));
            postponed = λ strong_now. inr (set, of, w.late set ((is.late set).1 (inr refl)), next);
          }

      good_waiting : (v : Valuation shapes) (i : ℕ) → IsGood strongs v i edge → IsTrue (v.truth d i) → (SaysAt v.held (IsTrueAt v.truth) i goal → ⊥)
          → IsTrue (v.truth d (i + 1)) → IsGood strongs v i wait
      good_waiting v i one true_now none then = record {
        literals = λ n s h. one.literals n s (subst (λ (c : Cube). HasLiteral c n s) is.cube h);
        next = λ x h. elim (Contains-push_cases edge.next d x (subst (λ (l : List ℕ). Contains l x) is.next h)) [
          | inl old ↦ one.next x old
          | inr same ↦ subst (λ (n : ℕ). IsTrue (v.truth n (i + 1))) same then
        ];
        strong = λ other h. elim ((is.late other).0 h) [
          | inl old ↦ one.strong other old
          | inr same ↦ subst (IsStrong shapes) (sym (its other same)) (ap is_strong shape ∙ must)
        ];
        late = λ other h. elim ((is.late other).0 h) [
          | inl old ↦ one.late other old
          | inr same ↦ subst (λ (n : ℕ). IsTrue (v.truth n i)) (sym (its other same)) true_now
        ];
        no_goal = λ other h. elim ((is.late other).0 h) [
          | inl old ↦ one.no_goal other old
          | inr same ↦ (λ says. none (subst (λ (s : Shape). SaysAt v.held (IsTrueAt v.truth) i (goal_of s)) shape
              (subst (λ (n : ℕ). SaysAt v.held (IsTrueAt v.truth) i (goal_of (shape_at shapes n))) (its other same) says)))
        ];
      }
        where
          its : (other : ℕ) → other ≡ set → slice_index strongs other ≡ d
          its other same = ap (slice_index strongs) same ∙ of.is

      pub met_strongly : (old mid new : List Term) → AddsCombination shapes edge goal old mid → AddsCombination shapes wait keep mid new
          → AddsMet shapes strongs edge d old new
      met_strongly old mid new a b = record {
        keeps = keeps_more old mid new a.keeps b.keeps;
        only = λ t h. elim (b.only t h) [
          | inl between ↦ elim (a.only t between) [
            | inl there ↦ inl there
            | inr added ↦ inr (added.0, meets_goal t added.1)
          ]
          | inr added ↦ inr (within_more edge wait t edge_within added.0, meets_waiting t added.0 added.1)
        ];
        ways = λ t h. elim (b.ways t h) [
          | inl between ↦ elim (a.ways t between) [ inl there ↦ inl there | inr added ↦ inr (met_goal goal keep (shape ∙ ap (Fix goal keep) must) added) ]
          | inr added ↦ inr (met_waits goal keep set wait (shape ∙ ap (Fix goal keep) must) of is added)
        ];
        good = λ room v i one true_now. good room v i one true_now (subst (Unfolds v.held (IsTrueAt v.truth) d i) shape (v.unfolds d i true_now)).0
            (says_or_not (literal_value (v.held i)) (λ e. v.truth e i) goal);
      }
        where
          good : HasRoom new → (v : Valuation shapes) (i : ℕ) → IsGood strongs v i edge → IsTrue (v.truth d i)
              → SaysAt v.held (IsTrueAt v.truth) i goal ⊎ (SaysAt v.held (IsTrueAt v.truth) i keep × IsTrue (v.truth d (i + 1)))
              → SaysAt v.held (IsTrueAt v.truth) i goal ⊎ (SaysAt v.held (IsTrueAt v.truth) i goal → ⊥) → HasGood strongs v i new
          good room v i one true_now either (inl says) = has_good_kept strongs v i mid new room b.keeps (a.good (b.keeps.roomy room) strongs v i one says)
          good room v i one true_now (inl says) (inr none) = absurd (none says)
          good room v i one true_now (inr kept) (inr none) = b.good room strongs v i (good_waiting v i one true_now none kept.1) kept.0

  -- edge by edge
  pub met_none : (d : ℕ) → MeetsAll shapes strongs d [] []
  met_none d = record {
    room = omega arith;
    apart = λ i j x less low. absurd (omega (arith, low));
    only = λ t h. absurd (omega (arith, h.1));
    ways = λ t h. absurd (omega (arith, h.1));
    good = λ v i has true_now. absurd (omega (arith, has.1.1));
  }

  -- beside one of the edges so far, or beside one edge more
  ways_more : (d : ℕ) (xs : List Term) (edge : Term) (mid new : List Term) → MeetsAll shapes strongs d xs mid → AddsMet shapes strongs edge d mid new
      → (added : Term) → Contains new added → MeetsBesideOne shapes strongs d (xs ++ edge ∷ []) added
  ways_more d xs edge mid new a b t h = elim (b.ways t h) [
    | inl there ↦ (let old = a.ways t there in (old.0, Contains-append_left xs (edge ∷ []) old.0 old.1, old.2))
    | inr added ↦ (edge, Contains-push xs edge, added)
  ]

  pub met_more : (d : ℕ) (xs : List Term) (edge : Term) (mid new : List Term) → HasRoom new → MeetsAll shapes strongs d xs mid → AddsMet shapes strongs edge d mid new
      → MeetsAll shapes strongs d (xs ++ edge ∷ []) new
  met_more d xs edge mid new room a b = record {
    room = room;
    apart = b.keeps.apart a.apart;
    only = λ t h. elim (b.only t h) [
      | inl there ↦ (let old = a.only t there in ((old.0.0, Contains-append_left xs (edge ∷ []) old.0.0 old.0.1, old.0.2), old.1))
      | inr added ↦ ((edge, Contains-push xs edge, added.0), added.1)
    ];
    ways = ways_more d xs edge mid new a b;
    good = λ v i has true_now. elim (Contains-push_cases xs edge has.0 has.1) [
      | inl before ↦ has_good_kept strongs v i mid new room b.keeps (a.good v i (has.0, before, has.2) true_now)
      | inr same ↦ b.good room v i (subst (λ (t : Term). IsGood strongs v i t) (sym same) has.2) true_now
    ];
  }

  -- over the limit
  pub met_too_many : (d : ℕ) (xs ys : List Term) (edge : Term) (mid new : List Term) → ((t : Term) → Contains (xs ++ edge ∷ []) t → Contains ys t) → most_terms < length new
      → MeetsAll shapes strongs d xs mid → AddsMet shapes strongs edge d mid new → HasManyTerms (MeetsBesideOne shapes strongs d ys)
  met_too_many d xs ys edge mid new some many a b = record {
    terms = new;
    apart = b.keeps.apart a.apart;
    each = λ t h. (let one = ways_more d xs edge mid new a b t h in (one.0, some one.0 one.1, one.2));
    many = many;
  }

  -- demand by demand
  pub meeting_none : (empty : Term) → empty.cube ≡ no_literals → empty.next ≡ [] → empty.late ≡ 0 → AreMeeting shapes strongs [] (empty ∷ [])
  meeting_none empty cube next late = record {
    room = omega arith;
    meet = λ edge h d none. absurd (omega (arith, none.1));
    good = λ v i all. (
      empty,
      (0, omega arith, refl),
      record {
        literals = λ n s h. absurd (no_literal n s (subst (λ (c : Cube). HasLiteral c n s) cube h));
        next = λ d h. absurd (no_item d (subst (λ (l : List ℕ). Contains l d) next h));
        strong = λ set h. absurd (no_bit set h);
        late = λ set h. absurd (no_bit set h);
        no_goal = λ set h. absurd (no_bit set h);
      },
    );
  }
    where
      no_bit : (set : ℕ) → IsTrue (is_set empty.late set) → ⊥
      no_bit set h = false≢true (sym (none_in_zero set) ∙ subst (λ (w : ℕ). IsTrue (is_set w set)) late h)

      no_literal : (n : ℕ) (s : Bool) → HasLiteral no_literals n s → ⊥
      no_literal n false h = false≢true (sym (none_in_zero n) ∙ h)
      no_literal n true h = false≢true (sym (none_in_zero n) ∙ h)

      no_item : (d : ℕ) → Contains [] d → ⊥
      no_item d h = omega (arith, h.1)

  pub meeting_more : (xs : List ℕ) (d : ℕ) (edges new : List Term) → AreMeeting shapes strongs xs edges → MeetsAll shapes strongs d edges new
      → AreMeeting shapes strongs (xs ++ d ∷ []) new
  meeting_more xs d edges new a b = record {
    room = b.room;
    meet = λ edge h e asked. let from = b.only edge h in elim (Contains-push_cases xs d e asked) [
      | inl before ↦ meets_more e from.0.0 edge from.0.2 (a.meet from.0.0 from.0.1 e before)
      | inr same ↦ subst (λ (n : ℕ). Meets shapes strongs n edge) same from.1
    ];
    good = λ v i all. b.good v i (a.good v i (λ e h. all e (Contains-append_left xs (d ∷ []) e h))) (all d (Contains-push xs d));
  }

  pub meeting_same : (xs ys : List ℕ) (edges : List Term) → ((d : ℕ) → Contains xs d → Contains ys d) → ((d : ℕ) → Contains ys d → Contains xs d)
      → AreMeeting shapes strongs xs edges → AreMeeting shapes strongs ys edges
  meeting_same xs ys edges there back a = record {
    room = a.room;
    meet = λ edge h d asked. a.meet edge h d (back d asked);
    good = λ v i all. a.good v i (λ d h. all d (there d h));
  }

  -- the edges of which one demand more is met
  pub all_met_none : (empty : Term) → empty ≡ nothing → AreAllMet shapes strongs [] (empty ∷ [])
  all_met_none empty is edge h = elim (Contains-push_cases [] empty edge h) [
    | inl none ↦ absurd (omega (arith, none.1))
    | inr same ↦ subst (AreMet shapes strongs []) (sym is ∙ same) none_met
  ]

  beside_met : (xs : List ℕ) (d : ℕ) (edges : List Term) → AreAllMet shapes strongs xs edges → (edge : Term) → MeetsBesideOne shapes strongs d edges edge
      → AreMet shapes strongs (xs ++ d ∷ []) edge
  beside_met xs d edges a edge from = one_more_met xs d from.0 edge (a from.0 from.1) from.2

  pub all_met_more : (xs : List ℕ) (d : ℕ) (edges new : List Term) → AreAllMet shapes strongs xs edges → MeetsAll shapes strongs d edges new
      → AreAllMet shapes strongs (xs ++ d ∷ []) new
  all_met_more xs d edges new a b edge h = beside_met xs d edges a edge (b.ways edge h)

  -- why a demand more cannot be met
  pub too_large : (xs : List ℕ) (d : ℕ) (ys : List ℕ) (edges : List Term) → ((e : ℕ) → Contains (xs ++ d ∷ []) e → Contains ys e) → AreAllMet shapes strongs xs edges
      → LacksSet shapes strongs d ⊎ HasManyTerms (MeetsBesideOne shapes strongs d edges) → IsStateTooLarge shapes strongs ys
  too_large xs d ys edges some a why = elim why [
    | inl lacks ↦ no_set d (some d (Contains-push xs d)) lacks
    | inr many ↦ many_edge_terms (record {
      demands = xs ++ d ∷ [];
      of_state = some;
      terms = record { terms = many.terms; apart = many.apart; each = λ t h. beside_met xs d edges a t (many.each t h); many = many.many };
    })
  ]

  pub too_large_same : (xs ys : List ℕ) → ((d : ℕ) → Contains xs d → Contains ys d) → IsStateTooLarge shapes strongs xs → IsStateTooLarge shapes strongs ys
  too_large_same xs ys there why = elim why [
    | many_edge_terms has ↦ many_edge_terms (record { demands = has.demands; of_state = λ d h. there d (has.of_state d h); terms = has.terms })
    | no_set d h lacks ↦ no_set d (there d h) lacks
  ]
