-- Nodes that are among their successors, counted place by place.
use Rattle.std.proofs.Common.{◌≡◌, ℕ, zero, suc, ◌+◌, ◌≤◌, List, [], ◌∷◌, ◌++◌, Bool, true, false, cond, ap, sym, ◌∙◌, arith}
use Rattle.std.specs.Prelude.{count_by}
use Rattle.std.specs.List.{range_with_len}
use Rattle.std.proofs.lemmas.List.Sums.{sum_by_push}
use Rattle.omega_game_values.specs.Game.{Node}
use Rattle.omega_answers_game.specs.ShowJson.{has_self_loop}

-- as many nodes before the place are among their successors, and they are no more than there are
pub record AreCounted (nodes : List Node) (place count : ℕ) : Type 0 where
  pub counted : count ≡ count_by (has_self_loop nodes) (range_with_len 0 place)
  pub few : count ≤ place

-- one number more
range-push : (a n : ℕ) → range_with_len a (suc n) ≡ range_with_len a n ++ (a + n) ∷ []
range-push a zero = let same : a ≡ a + 0 = omega arith in ap (λ m. m ∷ []) same
range-push a (suc n) =
    let same : a + 1 + n ≡ a + suc n = omega arith in
    ap (λ list. a ∷ list) (range-push (a + 1) n ∙ ap (λ m. range_with_len (a + 1) n ++ m ∷ []) same)

range-more : (n : ℕ) → range_with_len 0 (n + 1) ≡ range_with_len 0 n ++ n ∷ []
range-more n =
    let next : n + 1 ≡ suc n = omega arith in
    let same : 0 + n ≡ n = omega arith in
    ap (range_with_len 0) next ∙ range-push 0 n ∙ ap (λ m. range_with_len 0 n ++ m ∷ []) same

-- at most one more is counted
at-most : (b : Bool) → cond b 1 0 ≤ 1
at-most true = omega arith
at-most false = omega arith

-- one place more
pub loops-more : (nodes : List Node) (place count more : ℕ) (loops : Bool) → loops ≡ has_self_loop nodes place
    → count ≡ count_by (has_self_loop nodes) (range_with_len 0 place) → count ≤ place → more ≡ count + cond loops 1 0
    → AreCounted nodes (place + 1) more
loops-more nodes place count more loops is counted few grown = record {
  counted =
      grown ∙ ap (λ b. count + cond b 1 0) is
      ∙ ap (λ n. n + cond (has_self_loop nodes place) 1 0) counted
      ∙ sym (sum_by_push (λ v. cond (has_self_loop nodes v) 1 0) (range_with_len 0 place) place)
      ∙ ap (count_by (has_self_loop nodes)) (sym (range-more place));
  few = omega (arith, few, grown, at-most loops);
}
