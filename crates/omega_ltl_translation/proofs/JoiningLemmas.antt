-- Edges that are joined, one more at a time.
use Rattle.std.proofs.Common.{◌≡◌, ◌⊎◌, inl, inr, ◌<◌, ◌+◌, ℕ, List, [], ◌∷◌, ◌++◌, length, get_or, refl, sym, ap, subst, ◌∙◌, arith}
use Rattle.std.specs.Prelude.{Contains}
use Rattle.std.proofs.Math.ListN.{set, length-set}
use Rattle.std.proofs.lemmas.Bool.{cases_eq}
use Rattle.std.proofs.lemmas.List.{get_or-set_other, get_or-set_same, get_or_default, length_push}
use Rattle.std.proofs.lemmas.List.Sums.{sum_by-set, sum_by_push}
use Rattle.std.proofs.lemmas.List.Elements.{Contains-append_left, Contains-push, Contains-push_cases}
use Rattle.omega_ltl_shapes.specs.declared.cube.Cube.{Cube}
use Rattle.omega_ltl_translation.specs.declared.graph.GraphEdge.{GraphEdge}
use Rattle.omega_ltl_translation.specs.declared.joining.JoinedEdge.{JoinedEdge}
use Rattle.omega_ltl_translation.specs.private.Joining.{AddsJoined, AreJoined, HasCubeMore, IsJoinable, IsJoinedTo, IsLike, joined_count}
use Rattle.omega_ltl_translation.specs.private.Labels.{AreFew}

pub joined_none : AreJoined [] []
joined_none = record { each = λ edge h. absurd (omega (arith, h.1)); only = λ one cube h k. absurd (omega (arith, h.1)); filled = λ one h. absurd (omega (arith, h.1)); count = refl }

pub joined_more : (edges : List GraphEdge) (edge : GraphEdge) (old new : List JoinedEdge) → AreJoined edges old → AddsJoined edge old new → AreJoined (edges ++ edge ∷ []) new
joined_more edges edge old new are adds = record {
  each = λ other h. elim (Contains-push_cases edges edge other h) [
    | inl before ↦ (let one = are.each other before in adds.keeps other one.0 one.1 one.2)
    | inr same ↦ subst (λ (e : GraphEdge). (one : JoinedEdge) × Contains new one × IsJoinedTo e one) same adds.given
  ];
  only = λ one cube h k. elim (adds.only one cube h k) [
    | inl here ↦ (edge, Contains-push edges edge, here.0, here.1)
    | inr there ↦ (let from = are.only there.0 cube there.1 there.2 in (from.0, Contains-append_left edges (edge ∷ []) from.0 from.1, from.2, there.3 from.0 from.3))
  ];
  filled = adds.filled are.filled;
  count = adds.count ∙ ap (λ (n : ℕ). n + 1) are.count ∙ sym (length_push edges edge);
}

-- a like edge stays like
pub like_kept : (edge : GraphEdge) (one more : JoinedEdge) → more.target ≡ one.target → more.late ≡ one.late → IsLike edge one → IsLike edge more
like_kept edge one more target late like = record { target = target ∙ like.target; late = late ∙ like.late }

-- an edge alone is put behind
pub joined_alone : (edge : GraphEdge) (old : List JoinedEdge) (one : JoinedEdge) → one.cubes.items ≡ edge.cube ∷ [] → one.target ≡ edge.target → one.late ≡ edge.late
    → AddsJoined edge old (old ++ one ∷ [])
joined_alone edge old one cubes target late = record {
  given = (one, Contains-push old one, record { cube = subst (λ (cs : List Cube). Contains cs edge.cube) (sym cubes) (0, omega arith, refl); like = like });
  keeps = λ before other h joined. (other, Contains-append_left old (one ∷ []) other h, joined);
  only = λ other cube h k. elim (Contains-push_cases old one other h) [
    | inl before ↦ inr (other, before, k, λ e l. l)
    | inr same ↦ inl (alone cube (subst (λ (o : JoinedEdge). Contains o.cubes.items cube) (sym same) k), subst (IsLike edge) same like)
  ];
  filled = λ are other h. elim (Contains-push_cases old one other h) [
    | inl before ↦ are other before
    | inr same ↦ subst (λ (o : JoinedEdge). AreFew o.cubes.items) same (omega (arith, ap length cubes), omega (arith, ap length cubes))
  ];
  count = sum_by_push (λ (o : JoinedEdge). length o.cubes.items) old one ∙ ap (λ (n : ℕ). joined_count old + n) (ap length cubes);
}
  where
    like : IsLike edge one
    like = record { target = target; late = late }

    alone : (cube : Cube) → Contains one.cubes.items cube → edge.cube ≡ cube
    alone cube k = elim (Contains-push_cases [] edge.cube cube (subst (λ (cs : List Cube). Contains cs cube) cubes k)) [
      | inl none ↦ absurd (omega (arith, none.1))
      | inr same ↦ same
    ]

-- an item of a list is changed
module _ (old : List JoinedEdge) (at : ℕ) (one more : JoinedEdge) (below : at < length old) (here : one ≡ get_or old at one) where
  changed_there : Contains (set old at more) more
  changed_there = (at, omega (arith, length-set {A = JoinedEdge} old at more, below), get_or-set_same old at more more below)

  changed_keeps : (other : JoinedEdge) → Contains old other → Contains (set old at more) other ⊎ (one ≡ other)
  changed_keeps other h = elim (cases_eq h.0 at) [
    | inl same ↦ inr (here ∙ same_default other ∙ subst (λ (k : ℕ). get_or old k other ≡ other) same h.2)
    | inr differ ↦ inl (h.0, omega (arith, length-set {A = JoinedEdge} old at more, h.1), get_or-set_other old at h.0 more other differ ∙ h.2)
  ]
    where
      same_default : (d : JoinedEdge) → get_or old at one ≡ get_or old at d
      same_default d = get_or_default old at one d below

  changed_only : (other : JoinedEdge) → Contains (set old at more) other → Contains old other ⊎ (more ≡ other)
  changed_only other h = elim (cases_eq h.0 at) [
    | inl same ↦ inr (sym (get_or-set_same old at more other below) ∙ subst (λ (k : ℕ). get_or (set old at more) k other ≡ other) same h.2)
    | inr differ ↦ inl (h.0, omega (arith, length-set {A = JoinedEdge} old at more, h.1), sym (get_or-set_other old at h.0 more other differ) ∙ h.2)
  ]

-- an edge is joined to one of the list
pub joined_at : (edge : GraphEdge) (old : List JoinedEdge) (at : ℕ) (one more : JoinedEdge) → at < length old → one ≡ get_or old at one → IsJoinable edge one → HasCubeMore edge.cube one more
    → AddsJoined edge old (set old at more)
joined_at edge old at one more below here joinable adds = record {
  given = (more, changed_there old at one more below here, record { cube = last; like = like_kept edge one more adds.target adds.late like });
  keeps = λ before other h joined. elim (changed_keeps old at one more below here other h) [
    | inl kept ↦ (other, kept, joined)
    | inr same ↦ (more, changed_there old at one more below here, grown before (subst (IsJoinedTo before) (sym same) joined))
  ];
  only = λ other cube h k. elim (changed_only old at one more below here other h) [
    | inl before ↦ inr (other, before, k, λ e l. l)
    | inr same ↦ of_more other cube same (subst (λ (o : JoinedEdge). Contains o.cubes.items cube) (sym same) k)
  ];
  filled = λ are other h. elim (changed_only old at one more below here other h) [
    | inl before ↦ are other before
    | inr same ↦ subst (λ (o : JoinedEdge). AreFew o.cubes.items) same (omega (arith, long), omega (arith, long, joinable.room))
  ];
  count = (
      let changed = sum_by-set (λ (o : JoinedEdge). length o.cubes.items) old at more one below in
      let read : length one.cubes.items ≡ length (get_or old at one).cubes.items = ap (λ (o : JoinedEdge). length o.cubes.items) here in
      omega (arith, changed, read, long)
      );
}
  where
    like : IsLike edge one
    like = joinable.like

    long : length more.cubes.items ≡ length one.cubes.items + 1
    long = ap length adds.cubes ∙ length_push one.cubes.items edge.cube

    last : Contains more.cubes.items edge.cube
    last = subst (λ (cs : List Cube). Contains cs edge.cube) (sym adds.cubes) (Contains-push one.cubes.items edge.cube)

    grown : (before : GraphEdge) → IsJoinedTo before one → IsJoinedTo before more
    grown before joined = record {
      cube = subst (λ (cs : List Cube). Contains cs before.cube) (sym adds.cubes) (Contains-append_left one.cubes.items (edge.cube ∷ []) before.cube joined.cube);
      like = like_kept before one more adds.target adds.late joined.like;
    }

    of_more : (other : JoinedEdge) (cube : Cube) → more ≡ other → Contains more.cubes.items cube
        → ((edge.cube ≡ cube) × IsLike edge other)
        ⊎ ((before : JoinedEdge) × Contains old before × Contains before.cubes.items cube × ((e : GraphEdge) → IsLike e before → IsLike e other))
    of_more other cube same k = elim (Contains-push_cases one.cubes.items edge.cube cube (subst (λ (cs : List Cube). Contains cs cube) adds.cubes k)) [
      | inl before ↦ inr (one, (at, below, sym here), before, λ e l. subst (IsLike e) same (like_kept e one more adds.target adds.late l))
      | inr new ↦ inl (new, subst (IsLike edge) same (like_kept edge one more adds.target adds.late like))
    ]
