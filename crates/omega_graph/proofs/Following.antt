-- A search that follows the edges which leave one state, from the last to the first.
use Rattle.std.proofs.Common.{◌≡◌, ℕ, ◌+◌, ◌<◌, ◌≤◌, ◌⊎◌, inl, inr, IsTrue, List, length, get_or, sym, ◌∙◌, ap, subst, arith}
use Rattle.std.proofs.lemmas.Bool.{cases_eq, cases_lt}
use Rattle.omega_graph.specs.declared.met.MetState.{MetState}
use Rattle.omega_graph.specs.private.Links.{last_before}
use Rattle.omega_graph.specs.private.Searching.{AreFollowed, Grows, IsStep, Trace, mark_at, meeting, met_at}
use Rattle.omega_graph.proofs.Linking.{last_after, last_below, last_has}
use Rattle.omega_graph.proofs.Growing.{grows_more, grows_none, meeting_keeps, meeting_marks}

-- the edges from an index on that leave the state are followed, and the next one is the last before it
pub record IsFollowing (leaves enters : List ℕ) (origin : ℕ) (before after : Trace) (left : ℕ) : Type 0 where
  pub grows : Grows (IsStep leaves enters (met_at before.met origin).state origin) before after
  pub bound : ℕ
  pub within : bound ≤ length leaves
  pub next : left ≡ last_before leaves (met_at before.met origin).state bound
  pub followed : (i : ℕ) → bound ≤ i → i < length leaves → get_or leaves i 0 ≡ (met_at before.met origin).state → IsTrue (mark_at after.marks (get_or enters i 0))

module _ (leaves enters : List ℕ) (origin : ℕ) (before : Trace) where
  -- before the first
  pub following_begins : (left : ℕ) → left ≡ last_before leaves (met_at before.met origin).state (length leaves) → IsFollowing leaves enters origin before before left
  following_begins left is = record {
    grows = grows_none (IsStep leaves enters (met_at before.met origin).state origin) before;
    bound = length leaves;
    within = omega arith;
    next = is;
    followed = λ i past within same. absurd (omega arith);
  }

  module _ (after : Trace) (left : ℕ) (so_far : IsFollowing leaves enters origin before after left) where
    -- each edge that is left is one of the list
    pub left_within : left ≤ length leaves
    left_within = let below = last_below leaves (met_at before.met origin).state so_far.bound in omega (arith, so_far.next, so_far.within)

    -- if no edge is left, all are followed
    pub following_ends : left ≡ 0 → AreFollowed leaves enters (met_at before.met origin).state after.marks
    following_ends none i within same = go (cases_lt i so_far.bound)
      where
        go : (i < so_far.bound) ⊎ (so_far.bound ≤ i) → IsTrue (mark_at after.marks (get_or enters i 0))
        go (inl below) = absurd (last_after leaves (met_at before.met origin).state so_far.bound i below (omega (arith, so_far.next)) same)
        go (inr past) = so_far.followed i past within same

    module _ (index : ℕ) (is : left ≡ index + 1) where
      -- the edge that is next leaves the state
      pub next_leaves : get_or leaves index 0 ≡ (met_at before.met origin).state
      next_leaves = last_has leaves (met_at before.met origin).state so_far.bound index (sym so_far.next ∙ is)

      -- one edge further
      pub following_more : (met : MetState) (left' : ℕ) → met.edge ≡ left → met.origin ≡ origin → met.state ≡ get_or enters index 0 → met.state < length after.marks
          → left' ≡ last_before leaves (get_or leaves index 0) index → IsFollowing leaves enters origin before (meeting after met) left'
      following_more met left' edge from enters_is below next = record {
        grows = grows_more (IsStep leaves enters (met_at before.met origin).state origin) before after met so_far.grows below
            (record { index = index; within = omega (arith, left_within); edge = edge ∙ is; leave = next_leaves; enter = sym enters_is; from = from });
        bound = index;
        within = omega (arith, left_within);
        next = next ∙ ap (λ (s : ℕ). last_before leaves s index) next_leaves;
        followed = λ i past within same. followed i past within same (cases_eq i index) (cases_lt i so_far.bound);
      }
        where
          followed : (i : ℕ) → index ≤ i → i < length leaves → get_or leaves i 0 ≡ (met_at before.met origin).state → (i ≡ index) ⊎ (i ≡ index → ⊥) → (i < so_far.bound) ⊎ (so_far.bound ≤ i)
              → IsTrue (mark_at (meeting after met).marks (get_or enters i 0))
          followed i past within same (inl here) at =
              subst (λ (k : ℕ). IsTrue (mark_at (meeting after met).marks k)) (enters_is ∙ ap (λ (k : ℕ). get_or enters k 0) (sym here)) (meeting_marks after met below)
          followed i past within same (inr apart) (inl under) =
              absurd (last_after leaves (met_at before.met origin).state so_far.bound i under (omega (arith, so_far.next)) same)
          followed i past within same (inr apart) (inr over) =
              meeting_keeps after met (get_or enters i 0) below (so_far.followed i over within same)
