-- The states with both flags, one more at a time.
use Rattle.std.proofs.Common.{◌≡◌, ◌↔◌, ◌⊎◌, ℕ, ◌<◌, Bool, true, false, ◌&&◌, nat_eq, IsTrue, inl, inr, List, [], ◌∷◌, ◌++◌, Contains, cond, if◌then◌else◌, refl, sym, ap, subst, ◌∙◌, arith, eqb-true, true≢false}
use Rattle.std.specs.List.{IsDistinct, list_any, position_or_len}
use Rattle.std.specs.List.Sorted.{IsPermutation, IsSorted, IsStrictlyIncreasing}
use Rattle.std.specs.Ordering.{nat_cmp}
use Rattle.std.proofs.lemmas.Bool.{and_from, and_parts}
use Rattle.std.proofs.lemmas.List.Elements.{Contains-append_left, Contains-push, Contains-push_cases}
use Rattle.std.proofs.lemmas.List.Sorted.{Contains-permutation, IsNonDecreasingBy-from_sort, IsPermutation-sym}
use Rattle.std.proofs.lemmas.Map.Views.{Contains-from_any}
use Rattle.std.proofs.lemmas.Map.Keys.{IsStrictlyIncreasing-from_distinct}
use Rattle.indexmap.specs.IndexSet.{insert_key}
use Rattle.omega_hoa_automaton.specs.Automaton.{Description}
use Rattle.omega_hoa_edges.specs.AutomatonLabels.{defined_numbers}
use Rattle.omega_lang_trim.specs.private.Placed.{HaveBoth, flag_at}

-- a number is in a list, and has both flags at its place among others
pub record HasBothIn (places : List ℕ) (reached live : List Bool) (numbers : List ℕ) (state : ℕ) : Type 0 where
  pub listed : Contains numbers state
  pub is_reached : IsTrue (flag_at reached (position_or_len (nat_eq state) places))
  pub is_live : IsTrue (flag_at live (position_or_len (nat_eq state) places))

-- the numbers so far
abbrev pub Have : List ℕ → List Bool → List Bool → List ℕ → List ℕ → Type 0
Have places reached live numbers keys = (state : ℕ) → Contains keys state ↔ HasBothIn places reached live numbers state

module _ (places : List ℕ) (reached live : List Bool) where
  wider : (numbers : List ℕ) (number state : ℕ) → HasBothIn places reached live numbers state → HasBothIn places reached live (numbers ++ number ∷ []) state
  wider numbers number state has = record {
    listed = Contains-append_left numbers (number ∷ []) state has.listed;
    is_reached = has.is_reached;
    is_live = has.is_live;
  }

  -- a number with both flags
  pub have_more : (numbers keys after : List ℕ) (number : ℕ)
      → (flag_at reached (position_or_len (nat_eq number) places) && flag_at live (position_or_len (nat_eq number) places)) ≡ true
      → ((state : ℕ) → Contains after state ↔ (Contains keys state ⊎ (number ≡ state)))
      → Have places reached live numbers keys → Have places reached live (numbers ++ number ∷ []) after
  have_more numbers keys after number both grown have state =
      let parts = and_parts (flag_at reached (position_or_len (nat_eq number) places)) (flag_at live (position_or_len (nat_eq number) places)) both in
      let here : HasBothIn places reached live (numbers ++ number ∷ []) number =
      record { listed = Contains-push numbers number; is_reached = parts.0; is_live = parts.1 } in (
        λ has. elim ((grown state).0 has) [
          | inl old ↦ wider numbers number state ((have state).0 old)
          | inr same ↦ subst (HasBothIn places reached live (numbers ++ number ∷ [])) same here
        ],
        λ has. elim (Contains-push_cases numbers number state has.listed) [
          | inl old ↦ (grown state).1 (inl ((have state).1 (record { listed = old; is_reached = has.is_reached; is_live = has.is_live })))
          | inr same ↦ (grown state).1 (inr same)
        ],
      )

  -- a number without
  pub have_same : (numbers keys : List ℕ) (number : ℕ)
      → (flag_at reached (position_or_len (nat_eq number) places) && flag_at live (position_or_len (nat_eq number) places)) ≡ false
      → Have places reached live numbers keys → Have places reached live (numbers ++ number ∷ []) keys
  have_same numbers keys number none have state = (
    λ has. wider numbers number state ((have state).0 has),
    λ has. elim (Contains-push_cases numbers number state has.listed) [
      | inl old ↦ (have state).1 (record { listed = old; is_reached = has.is_reached; is_live = has.is_live })
      | inr same ↦
          let flags : (flag_at reached (position_or_len (nat_eq state) places) && flag_at live (position_or_len (nat_eq state) places)) ≡ true =
          and_from _ _ has.is_reached has.is_live in
          absurd (true≢false (sym flags ∙ ap (λ (n : ℕ). flag_at reached (position_or_len (nat_eq n) places) && flag_at live (position_or_len (nat_eq n) places)) (sym same) ∙ none))
    ],
  )

-- the keys after one more is inserted
pub inserted : (keys : List ℕ) (number : ℕ) (after : List ℕ) → after ≡ insert_key nat_eq keys number → (state : ℕ) → Contains after state ↔ (Contains keys state ⊎ (number ≡ state))
inserted keys number after is state = subst (λ (ks : List ℕ). Contains ks state ↔ (Contains keys state ⊎ (number ≡ state))) (sym is) (go (list_any (nat_eq number) keys) refl)
  where
    go : (b : Bool) → list_any (nat_eq number) keys ≡ b → Contains (cond b keys (keys ++ number ∷ [])) state ↔ (Contains keys state ⊎ (number ≡ state))
    go true there = (
      λ has. inl has,
      λ either. elim either [
        | inl old ↦ old
        | inr same ↦ subst (Contains keys) same (Contains-from_any (λ x y e. eqb-true x y e) number keys there)
      ],
    )
    go false there = (
      λ has. Contains-push_cases keys number state has,
      λ either. elim either [
        | inl old ↦ Contains-append_left keys (number ∷ []) state old
        | inr same ↦ subst (Contains (keys ++ number ∷ [])) same (Contains-push keys number)
      ],
    )

module _ (places : List ℕ) (reached live : List Bool) where
  -- before the first there are none
  pub no_both : (keys : List ℕ) → keys ≡ [] → Have places reached live [] keys
  no_both keys is state = (
    λ has. let none : Contains [] state = subst (λ (ks : List ℕ). Contains ks state) is has in let below : none.0 < 0 = none.1 in absurd (omega arith),
    λ has. let none : Contains [] state = has.listed in let below : none.0 < 0 = none.1 in absurd (omega arith),
  )

  -- the keys after one number more, which is inserted if it has both flags
  pub have_next : (numbers keys after : List ℕ) (number : ℕ) (flag : Bool)
      → flag ≡ (flag_at reached (position_or_len (nat_eq number) places) && flag_at live (position_or_len (nat_eq number) places))
      → after ≡ (if flag then insert_key nat_eq keys number else keys)
      → Have places reached live numbers keys → Have places reached live (numbers ++ number ∷ []) after
  have_next numbers keys after number true both is have =
      have_more places reached live numbers keys after number (sym both) (inserted keys number after is) have
  have_next numbers keys after number false both is have =
      subst (Have places reached live (numbers ++ number ∷ [])) (sym is) (have_same places reached live numbers keys number (sym both) have)

-- all of them, sorted
pub have_both : (a : Description) (reached live : List Bool) (keys sorted : List ℕ) → Have (defined_numbers a) reached live (defined_numbers a) keys
    → IsPermutation keys sorted → IsStrictlyIncreasing sorted → HaveBoth a reached live sorted
have_both a reached live keys sorted have moved rising = record {
  rising = rising;
  flags = λ state. (
    λ has.
        let both : HasBothIn (defined_numbers a) reached live (defined_numbers a) state =
        (have state).0 (Contains-permutation sorted keys state (IsPermutation-sym keys sorted moved) has) in
        record { defined = both.listed; is_reached = both.is_reached; is_live = both.is_live },
    λ has. Contains-permutation keys sorted state moved
        ((have state).1 (record { listed = has.defined; is_reached = has.is_reached; is_live = has.is_live })),
  );
}

-- what a sort makes of numbers that differ
pub rising_sorted : (sorted : List ℕ) → IsDistinct nat_eq sorted → IsSorted nat_cmp sorted → IsStrictlyIncreasing sorted
rising_sorted sorted distinct in_order =
    IsStrictlyIncreasing-from_distinct sorted (IsNonDecreasingBy-from_sort (λ x. x) sorted in_order) distinct
