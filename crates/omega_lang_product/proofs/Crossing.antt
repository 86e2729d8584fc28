-- How many edges leave some pairs.
use Rattle.std.proofs.Common.{◌≡◌, ℕ, suc, ◌+◌, Bool, true, false, cond, List, [], ◌∷◌, length, map, filter, refl, sym, ap, ap₂, ◌∙◌}
use Rattle.std.specs.Prelude.{sum_by}
use Rattle.std.specs.List.{flat_map}
use Rattle.std.proofs.lemmas.List.{length-append, length-map}
use Rattle.std.proofs.lemmas.List.Sums.{sum_by-cons}
use Rattle.omega_hoa_automaton.specs.Automaton.{Description}
use Rattle.omega_lang_product.specs.JointEdges.{Numbered, joint_of, joints_between, joints_with, numbered_from, numbered_partners}
use Rattle.omega_lang_product.specs.PairGraph.{joints_at}
use Rattle.omega_hoa_automaton.specs.Automaton.{edges_before}
use Rattle.omega_lang_product.specs.Pairs.{Pair, can_meet, first_leaving, pair_number, partners, second_leaving, targets_between, targets_of}
use Rattle.omega_lang_product.specs.declared.plain_edge.PlainEdge.{PlainEdge}

-- numbers do not matter to what passes a test
passing : (p : PlainEdge → Bool) (n : ℕ) (us : List PlainEdge) → length (filter (λ (x : Numbered). p x.plain_edge) (numbered_from n us)) ≡ length (filter p us)
passing p n [] = refl
passing p n (u ∷ us) = go (p u) (passing p (n + 1) us)
  where
    x : Numbered
    x = record { number = n; plain_edge = u }

    go : (b : Bool) → length (filter (λ (x : Numbered). p x.plain_edge) (numbered_from (n + 1) us)) ≡ length (filter p us)
        → length (cond b (x ∷ filter (λ (x : Numbered). p x.plain_edge) (numbered_from (n + 1) us)) (filter (λ (x : Numbered). p x.plain_edge) (numbered_from (n + 1) us)))
        ≡ length (cond b (u ∷ filter p us) (filter p us))
    go true e = ap suc e
    go false e = e

-- the edges of a pair are as many as the pairs that it leads to
as_many : (pairs : List Pair) (from m n : ℕ) (ts us : List PlainEdge)
    → length (joints_between pairs from (numbered_from m ts) (numbered_from n us)) ≡ length (targets_between ts us)
as_many pairs from m n [] us = refl
as_many pairs from m n (t ∷ ts) us =
    let first : Numbered = record { number = m; plain_edge = t } in
    let here : length (joints_with pairs from first (numbered_from n us)) ≡ length (map (λ other. (t.target, other.target)) (partners t us)) =
    length-map (numbered_partners first (numbered_from n us)) (joint_of pairs from first)
    ∙ passing (can_meet t) n us
    ∙ sym (length-map (partners t us) (λ other. (t.target, other.target))) in
    length-append (joints_with pairs from first (numbered_from n us)) (joints_between pairs from (numbered_from (m + 1) ts) (numbered_from n us))
    ∙ ap₂ ◌+◌ here (as_many pairs from (m + 1) n ts us)
    ∙ sym (length-append (map (λ other. (t.target, other.target)) (partners t us)) (targets_between ts us))

module _ (one other : Description) (pairs : List Pair) where
  -- how many edges leave a pair
  abbrev leaving : Pair → ℕ
  leaving pair = length (targets_of one other pair)

  pub pair_edges : (pair : Pair) → length (joints_at one other pairs pair) ≡ leaving pair
  pair_edges pair =
      as_many pairs (pair_number pairs pair) (edges_before one.defined pair.0) (edges_before other.defined pair.1) (first_leaving one other pair) (second_leaving one other pair)

  pub all_edges : (ps : List Pair) → length (flat_map (joints_at one other pairs) ps) ≡ sum_by leaving ps
  all_edges [] = refl
  all_edges (p ∷ ps) =
      length-append (joints_at one other pairs p) (flat_map (joints_at one other pairs) ps)
      ∙ ap₂ ◌+◌ (pair_edges p) (all_edges ps) ∙ sym (sum_by-cons leaving p ps)
