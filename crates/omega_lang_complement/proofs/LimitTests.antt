-- Whether a limit would be passed, test by test.
use Rattle.std.proofs.Common.{◌≡◌, ℕ, ◌+◌, ◌<◌, ◌≤◌, Bool, true, false, ◌||◌, nat_le, refl, sym, ap, arith, true≢false}
use Rattle.omega_text.specs.Limits.{most_number}
use Rattle.omega_hoa_expression.specs.Limits.{most_depth}
use Rattle.omega_hoa_acceptance.specs.Writing.{acc_written}
use Rattle.omega_hoa_acceptance.specs.Raw.{raw_acc_depth}
use Rattle.omega_hoa_automaton.specs.Automaton.{Description, edge_count}
use Rattle.omega_lang_complement.specs.Complement.{exceeds_limits}
use Rattle.omega_hoa_acceptance.specs.Dual.{dual}
use Rattle.omega_hoa_edges.specs.Limits.{most_edges, most_states}

le_true : (m n : ℕ) → m ≤ n → nat_le m n ≡ true
le_true m n least = grind arith

le_false : (m n : ℕ) → n < m → nat_le m n ≡ false
le_false m n less = grind arith

le_not : (m n : ℕ) → nat_le m n ≡ false → n < m
le_not m n e = grind arith

any_first : (a b c d : Bool) → a ≡ true → true ≡ (a || b || c || d)
any_first a b c d e = ap (λ x. x || b || c || d) (sym e)

any_second : (a b c d : Bool) → b ≡ true → true ≡ (a || b || c || d)
any_second true b c d e = refl
any_second false b c d e = ap (λ x. x || c || d) (sym e)

any_third : (a b c d : Bool) → c ≡ true → true ≡ (a || b || c || d)
any_third true b c d e = refl
any_third false true c d e = refl
any_third false false c d e = ap (λ x. x || d) (sym e)

any_fourth : (a b c d : Bool) → d ≡ true → (a || b || c || d) ≡ true
any_fourth true b c d e = refl
any_fourth false true c d e = refl
any_fourth false false true d e = refl
any_fourth false false false d e = e

any_last : (a b c d : Bool) → a ≡ false → b ≡ false → c ≡ false → d ≡ (a || b || c || d)
any_last true b c d e f g = absurd (true≢false e)
any_last false true c d e f g = absurd (true≢false f)
any_last false false true d e f g = absurd (true≢false g)
any_last false false false d e f g = refl

none_last : (a b c d : Bool) → (a || b || c || d) ≡ false → (a ≡ false) × (b ≡ false) × (c ≡ false) × (d ≡ false)
none_last true b c d e = absurd (true≢false e)
none_last false true c d e = absurd (true≢false e)
none_last false false true d e = absurd (true≢false e)
none_last false false false d e = (refl, refl, refl, e)

module _ (a : Description) where
  pub many_states : most_states ≤ a.states → true ≡ exceeds_limits a
  many_states most =
      any_first (nat_le most_states a.states) (nat_le most_edges (edge_count a + a.states)) (nat_le most_number a.sets) (nat_le most_depth (raw_acc_depth (acc_written (dual a.acceptance))))
      (le_true most_states a.states most)

  pub many_edges : most_edges ≤ edge_count a + a.states → true ≡ exceeds_limits a
  many_edges most =
      any_second (nat_le most_states a.states) (nat_le most_edges (edge_count a + a.states)) (nat_le most_number a.sets) (nat_le most_depth (raw_acc_depth (acc_written (dual a.acceptance))))
      (le_true most_edges (edge_count a + a.states) most)

  pub many_sets : most_number ≤ a.sets → true ≡ exceeds_limits a
  many_sets most =
      any_third (nat_le most_states a.states) (nat_le most_edges (edge_count a + a.states)) (nat_le most_number a.sets) (nat_le most_depth (raw_acc_depth (acc_written (dual a.acceptance))))
      (le_true most_number a.sets most)

  pub deep_formula : most_depth ≤ raw_acc_depth (acc_written (dual a.acceptance)) → exceeds_limits a ≡ true
  deep_formula most =
      any_fourth (nat_le most_states a.states) (nat_le most_edges (edge_count a + a.states)) (nat_le most_number a.sets) (nat_le most_depth (raw_acc_depth (acc_written (dual a.acceptance))))
      (le_true most_depth (raw_acc_depth (acc_written (dual a.acceptance))) most)

  pub by_depth : a.states < most_states → edge_count a + a.states < most_edges → a.sets < most_number → nat_le most_depth (raw_acc_depth (acc_written (dual a.acceptance))) ≡ exceeds_limits a
  by_depth states edges sets =
      any_last (nat_le most_states a.states) (nat_le most_edges (edge_count a + a.states)) (nat_le most_number a.sets) (nat_le most_depth (raw_acc_depth (acc_written (dual a.acceptance))))
      (le_false most_states a.states states) (le_false most_edges (edge_count a + a.states) edges) (le_false most_number a.sets sets)

  -- where there is room
  pub record Fits : Type 0 where
    pub states : a.states < most_states
    pub sets : a.sets < most_number
    pub depth : raw_acc_depth (acc_written (dual a.acceptance)) < most_depth

  pub fits : exceeds_limits a ≡ false → Fits
  fits e =
      let parts = none_last (nat_le most_states a.states) (nat_le most_edges (edge_count a + a.states)) (nat_le most_number a.sets) (nat_le most_depth (raw_acc_depth (acc_written (dual a.acceptance)))) e in
      record { states = le_not most_states a.states parts.0; sets = le_not most_number a.sets parts.2; depth = le_not most_depth (raw_acc_depth (acc_written (dual a.acceptance))) parts.3 }
