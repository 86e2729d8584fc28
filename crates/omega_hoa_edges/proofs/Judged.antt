-- Labels that are apart and fit, one more at a time.
use Rattle.std.proofs.Common.{◌≡◌, ℕ, ◌+◌, ◌<◌, ◌≤◌, ◌⊎◌, inl, inr, Bool, true, false, ◌&&◌, ◌||◌, List, length, get_or, slice_get, Some, refl, sym, ap, subst, ◌∙◌, arith}
use Rattle.std.proofs.lemmas.Bool.{cases_lt, or_left, or_right}
use Rattle.std.proofs.lemmas.Option.{slice_get_read, slice_get_within}
use Rattle.omega_hoa_label.specs.Label.{LabelTree, constant, disjunction, label_size, truth}
use Rattle.omega_hoa_label.specs.Shape.{FitsALabel}
use Rattle.omega_hoa_edges.specs.Judged.{IsBoth}
use Rattle.omega_hoa_edges.specs.Letters.{AreExclusive, IsPair}
use Rattle.omega_hoa_satisfiable.specs.Tables.{IsWideTable}
use Rattle.omega_hoa_satisfiable.specs.declared.wide_table.WideTable.{WideTable}
use Rattle.omega_hoa_edges.specs.private.Apart.{AreAddedUp, AreApartTo, IsAddedApart, IsApart, IsApartFrom}
use Rattle.omega_hoa_edges.proofs.Depths.{small_fit}

both_hold : (a b : Bool) → (a && b) ≡ true → (a ≡ true) × (b ≡ true)
both_hold true b is = (refl, is)
both_hold false b is = cc

hold_both : (a b : Bool) → a ≡ true → b ≡ true → (a && b) ≡ true
hold_both true b is is-b = is-b
hold_both false b is is-b = cc

same_there : (labels : List LabelTree) (i : ℕ) (x y : LabelTree) → i < length labels → x ≡ get_or labels i x → slice_get labels i ≡ Some y → x ≡ y
same_there labels i x y below here there = same (sym (slice_get_read labels (length labels) i x refl below here) ∙ there)
  where
    same : Some x ≡ Some y → x ≡ y
    same e = cc

module _ (labels : List LabelTree) where
  pub a_pair : (first second : ℕ) (x y : LabelTree) → first < second → second < length labels → x ≡ get_or labels first x → y ≡ get_or labels second y → IsPair labels x y
  a_pair first second x y before below here there = record {
    first = first;
    second = second;
    in_order = before;
    first_is = slice_get_read labels (length labels) first x refl (omega (arith, before, below)) here;
    second_is = slice_get_read labels (length labels) second y refl below there;
  }

  pub apart_from_more : (second at : ℕ) (x y : LabelTree) → at < second → second < length labels → x ≡ get_or labels at x → y ≡ get_or labels second y
      → IsApart x y → IsApartFrom labels second at → IsApartFrom labels second (at + 1)
  apart_from_more second at x y before below here there apart earlier first one other within first_is second_is = go (cases_lt first at)
    where
      go : (first < at) ⊎ (at ≤ first) → IsApart one other
      go (inl less) = earlier first one other less first_is second_is
      go (inr past) =
          let last : at ≡ first = omega arith in
          let left : x ≡ one = same_there labels at x one (omega (arith, before, below)) here (ap (slice_get labels) last ∙ first_is) in
          let right : y ≡ other = same_there labels second y other below there second_is in
          subst (λ (l : LabelTree). IsApart l other) left (subst (λ (r : LabelTree). IsApart x r) right apart)

  pub apart_more : (at : ℕ) → AreApartTo labels at → IsApartFrom labels at at → AreApartTo labels (at + 1)
  apart_more at earlier here second below = go (cases_lt second at)
    where
      go : (second < at) ⊎ (at ≤ second) → IsApartFrom labels second second
      go (inl less) = earlier second less
      go (inr past) = let last : at ≡ second = omega arith in subst (λ n. IsApartFrom labels n n) last here

  all_judged : (at : ℕ) → length labels ≤ at → AreApartTo labels at → (one other : LabelTree) → IsPair labels one other → IsApart one other
  all_judged at whole are one other pair =
      are pair.second (omega (arith, whole, slice_get_within labels pair.second other pair.second_is)) pair.first one other pair.in_order pair.first_is pair.second_is

  pub all_apart : (at : ℕ) → length labels ≤ at → AreApartTo labels at → AreExclusive labels
  all_apart at whole are (one, (other, pair, sat)) = (all_judged at whole are one other pair).apart sat

  pub all_fit : (at : ℕ) → length labels ≤ at → AreApartTo labels at → (label : LabelTree) → IsBoth labels label → FitsALabel label
  all_fit at whole are label (one, (other, pair, is)) = subst FitsALabel (sym is) (all_judged at whole are one other pair).fits

  -- ---- labels that were added up in a table

  pub added_none : (table : WideTable) → IsWideTable (constant false) table → AreAddedUp labels 0 table
  added_none table is = record {
    any = constant false;
    tabled = is;
    small = λ place label below. absurd (omega (arith, below));
    holds = λ place label below. absurd (omega (arith, below));
  }

  added_up : (at : ℕ) (old new : WideTable) (y : LabelTree) → at < length labels → y ≡ get_or labels at y → (are : AreAddedUp labels at old)
      → IsAddedApart are.any y new → AreAddedUp labels (at + 1) new
  added_up at old new y within here are added = record {
    any = disjunction are.any y;
    tabled = added.tabled;
    small = λ place label below there. go-small place label (cases_lt place at) below there;
    holds = λ place label below there letter is. go-holds place label (cases_lt place at) below there letter is;
  }
    where
      same : (place : ℕ) (label : LabelTree) → at ≤ place → place < at + 1 → slice_get labels place ≡ Some label → y ≡ label
      same place label past below there =
          let last : at ≡ place = omega arith in
          same_there labels at y label within here (ap (slice_get labels) last ∙ there)

      go-small : (place : ℕ) (label : LabelTree) → (place < at) ⊎ (at ≤ place) → place < at + 1 → slice_get labels place ≡ Some label → label_size label ≤ 127
      go-small place label (inl less) below there = are.small place label less there
      go-small place label (inr past) below there = subst (λ (l : LabelTree). label_size l ≤ 127) (same place label past below there) added.small

      go-holds : (place : ℕ) (label : LabelTree) → (place < at) ⊎ (at ≤ place) → place < at + 1 → slice_get labels place ≡ Some label
          → (letter : ℕ → Bool) → truth letter label ≡ true → (truth letter are.any || truth letter y) ≡ true
      go-holds place label (inl less) below there letter is = or_left (truth letter are.any) (truth letter y) (are.holds place label less there letter is)
      go-holds place label (inr past) below there letter is =
          or_right (truth letter are.any) (truth letter y) (subst (λ (l : LabelTree). truth letter l ≡ true) (sym (same place label past below there)) is)

  -- the label is apart from all that were added before
  added_apart : (at : ℕ) (old new : WideTable) (y : LabelTree) → at < length labels → y ≡ get_or labels at y → (are : AreAddedUp labels at old)
      → IsAddedApart are.any y new → IsApartFrom labels at at
  added_apart at old new y within here are added first one other before first_is second_is =
      let right : y ≡ other = same_there labels at y other within here second_is in
      subst (λ (r : LabelTree). IsApart one r) right (record {
        fits = small_fit one y (are.small first one before first_is) added.small;
        apart = λ satisfied.
            let both = both_hold (truth satisfied.0 one) (truth satisfied.0 y) satisfied.1 in
            added.apart (satisfied.0, hold_both (truth satisfied.0 are.any) (truth satisfied.0 y) (are.holds first one before first_is satisfied.0 both.0) both.1);
      })

  pub added_more : (at : ℕ) (old new : WideTable) (y : LabelTree) → at < length labels → y ≡ get_or labels at y → AreAddedUp labels at old → AreApartTo labels at
      → ((one : LabelTree) → IsWideTable one old → IsAddedApart one y new) → AreAddedUp labels (at + 1) new × AreApartTo labels (at + 1)
  added_more at old new y within here are apart adds =
      let added = adds are.any are.tabled in
      (added_up at old new y within here are added, apart_more at apart (added_apart at old new y within here are added))
