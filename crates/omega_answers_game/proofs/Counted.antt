-- Leaders and the sizes of components, counted place by place.
use Rattle.std.proofs.Common.{◌≡◌, ◌==◌, ◌≢◌, ℕ, ◌+◌, ◌<◌, ◌≤◌, inl, inr, cond, List, get_or, length, max, set, take, sym, ap, ◌∙◌, arith, eqb-true, eq-eqb}
use Rattle.std.specs.Prelude.{count_by, replicate}
use Rattle.std.specs.List.{range_with_len}
use Rattle.std.proofs.lemmas.Bool.{cases_eq, cases_lt, false_from_ne_true}
use Rattle.std.proofs.lemmas.List.{get_or-replicate, get_or-set_other, get_or-set_same, length-replicate, length-set, length-take-le, take_all, take_more}
use Rattle.std.proofs.lemmas.List.Sums.{count_by-le-length, sum_by_push}
use Rattle.omega_answers_game.specs.Components.{IsLargest, component_size, leader_at}
use Rattle.omega_answers_game.specs.private.Sizes.{AreSizes}
use Rattle.omega_answers_game.proofs.Ranges.{range_more}

-- equal numbers count as one
one_if : (a b : ℕ) → a ≡ b → ◌≡◌ {A = ℕ} (cond (a == b) 1 0) 1
one_if a b same = ap {B = ℕ} (λ test. cond test 1 0) (eq-eqb a b same)

-- others as none
none_if : (a b : ℕ) → a ≢ b → ◌≡◌ {A = ℕ} (cond (a == b) 1 0) 0
none_if a b other = ap {B = ℕ} (λ test. cond test 1 0) (false_from_ne_true (a == b) (λ passes. other (eqb-true a b passes)))

-- one place more is its own leader or is not
pub leaders_more : (leaders : List ℕ) (place count : ℕ) → count ≡ count_by (λ v. leader_at leaders v == v) (range_with_len 0 place)
    → count + cond (leader_at leaders place == place) 1 0 ≡ count_by (λ v. leader_at leaders v == v) (range_with_len 0 (place + 1))
leaders_more leaders place count counted =
    ap (λ (n : ℕ). n + cond (leader_at leaders place == place) 1 0) counted
    ∙ sym (sum_by_push (λ v. cond (leader_at leaders v == v) 1 0) (range_with_len 0 place) place)
    ∙ ap (count_by (λ v. leader_at leaders v == v)) (sym (range_more 0 place place (omega arith)))

-- at first no place is counted
pub sizes_start : (leaders sizes : List ℕ) (count : ℕ) → sizes ≡ replicate count 0 → count ≡ length leaders → AreSizes leaders 0 sizes
sizes_start leaders sizes count zeros is = record {
  each = ap length zeros ∙ length-replicate count 0 ∙ is;
  size = λ leader below. ap (λ (xs : List ℕ). get_or xs leader 0) zeros ∙ get_or-replicate count leader 0 0 (omega (arith, below, is));
}

-- one more place with a leader
size_more : (leaders : List ℕ) (place leader : ℕ) → place < length leaders
    → component_size (take (place + 1) leaders) leader ≡ component_size (take place leaders) leader + cond (get_or leaders place 0 == leader) 1 0
size_more leaders place leader below =
    ap (λ (xs : List ℕ). component_size xs leader) (take_more leaders place 0 below)
    ∙ sum_by_push (λ other. cond (other == leader) 1 0) (take place leaders) (get_or leaders place 0)

-- it is its own leader
pub leaders_yes : (leaders : List ℕ) (place count more : ℕ) → leader_at leaders place ≡ place → more ≡ count + 1
    → count ≡ count_by (λ v. leader_at leaders v == v) (range_with_len 0 place) → more ≡ count_by (λ v. leader_at leaders v == v) (range_with_len 0 (place + 1))
leaders_yes leaders place count more same grown counted =
    let step = leaders_more leaders place count counted in
    omega (arith, grown, one_if (leader_at leaders place) place same, step)

-- it is not
pub leaders_no : (leaders : List ℕ) (place count more : ℕ) → leader_at leaders place ≢ place → more ≡ count
    → count ≡ count_by (λ v. leader_at leaders v == v) (range_with_len 0 place) → more ≡ count_by (λ v. leader_at leaders v == v) (range_with_len 0 (place + 1))
leaders_no leaders place count more other still counted =
    let step = leaders_more leaders place count counted in
    omega (arith, still, none_if (leader_at leaders place) place other, step)

-- one place more is counted
pub sizes_more : (leaders sizes : List ℕ) (place size : ℕ) → place < length leaders → get_or leaders place 0 < length leaders
    → size ≡ get_or sizes (get_or leaders place 0) 0 → AreSizes leaders place sizes → AreSizes leaders (place + 1) (set sizes (get_or leaders place 0) (size + 1))
sizes_more leaders sizes place size below inside is so_far = record {
  each = length-set sizes (get_or leaders place 0) (size + 1) ∙ so_far.each;
  size = λ leader within. elim (cases_eq leader (get_or leaders place 0)) [
    | inl same ↦
        let stored : get_or (set sizes (get_or leaders place 0) (size + 1)) leader 0 ≡ size + 1 =
        ap (λ (s : ℕ). get_or (set sizes (get_or leaders place 0) (size + 1)) s 0) same
        ∙ get_or-set_same sizes (get_or leaders place 0) (size + 1) 0 (omega (arith, inside, so_far.each)) in
        let before : get_or sizes (get_or leaders place 0) 0 ≡ component_size (take place leaders) leader =
        ap (λ (s : ℕ). get_or sizes s 0) (sym same) ∙ so_far.size leader within in
        omega (arith, stored, before, is, size_more leaders place leader below, one_if (get_or leaders place 0) leader (sym same))
    | inr other ↦
        let stored : get_or (set sizes (get_or leaders place 0) (size + 1)) leader 0 ≡ get_or sizes leader 0 =
        get_or-set_other sizes (get_or leaders place 0) leader (size + 1) 0 other in
        omega (
          arith,
          stored,
          so_far.size leader within,
          size_more leaders place leader below,
          none_if (get_or leaders place 0) leader (λ same. other (sym same)),
        )
  ];
}

-- no more are counted than there are places
pub size_fits : (leaders sizes : List ℕ) (place leader : ℕ) → place ≤ length leaders → leader < length leaders → AreSizes leaders place sizes
    → get_or sizes leader 0 ≤ place
size_fits leaders sizes place leader below within so_far =
    omega (arith, so_far.size leader within, count_by-le-length (λ other. other == leader) (take place leaders), length-take-le place leaders below)

-- once all places are counted
size_is : (leaders sizes : List ℕ) (leader : ℕ) → leader < length leaders → AreSizes leaders (length leaders) sizes → get_or sizes leader 0 ≡ component_size leaders leader
size_is leaders sizes leader within all =
    all.size leader within ∙ ap (λ (xs : List ℕ). component_size xs leader) (take_all (length leaders) leaders (omega arith))

-- the largest component of the places before one, and of some place
pub record IsLargestTo (leaders : List ℕ) (end largest : ℕ) : Type 0 where
  pub place : ℕ
  pub inside : place < length leaders
  pub size : largest ≡ component_size leaders (leader_at leaders place)
  pub most : (v : ℕ) → v < end → component_size leaders (leader_at leaders v) ≤ largest

module _ (leaders sizes : List ℕ) (all : AreSizes leaders (length leaders) sizes) where
  pub largest_start : (largest : ℕ) → 0 < length leaders → get_or leaders 0 0 < length leaders → largest ≡ get_or sizes (get_or leaders 0 0) 0 → IsLargestTo leaders 0 largest
  largest_start largest some inside is = record {
    place = 0;
    inside = some;
    size = is ∙ size_is leaders sizes (get_or leaders 0 0) inside all;
    most = λ v none. absurd (omega arith);
  }

  pub largest_more : (end old new : ℕ) → end < length leaders → get_or leaders end 0 < length leaders → new ≡ max old (get_or sizes (get_or leaders end 0) 0)
      → IsLargestTo leaders end old → IsLargestTo leaders (end + 1) new
  largest_more end old new below inside is so_far =
      let size : ℕ = get_or sizes (get_or leaders end 0) 0 in
      let counted : size ≡ component_size leaders (leader_at leaders end) = size_is leaders sizes (get_or leaders end 0) inside all in
      let most : (v : ℕ) → v < end + 1 → component_size leaders (leader_at leaders v) ≤ new =
      (λ v within. elim (cases_lt v end) [
        | inl less ↦ omega (arith, so_far.most v less, is)
        | inr more ↦
            let same : v ≡ end = omega (arith, within, more) in
            let size_same : component_size leaders (leader_at leaders v) ≡ component_size leaders (leader_at leaders end) = ap (λ (u : ℕ). component_size leaders (leader_at leaders u)) same in
            omega (arith, size_same, counted, is)
      ]) in
      elim (cases_lt old size) [
        | inl less ↦ record { place = end; inside = below; size = omega (arith, is, less, counted); most = most }
        | inr more ↦ record { place = so_far.place; inside = so_far.inside; size = omega (arith, is, more, so_far.size); most = most }
      ]

pub largest_of : (leaders : List ℕ) (end largest : ℕ) → length leaders ≤ end → IsLargestTo leaders end largest → IsLargest leaders largest
largest_of leaders end largest past so_far = record {
  place = so_far.place;
  inside = so_far.inside;
  size = so_far.size;
  most = λ v below. so_far.most v (omega (arith, below, past));
}
