-- The states so far, one more at a time.
use Rattle.std.proofs.Common.{◌≡◌, ℕ, zero, suc, ◌+◌, ◌<◌, ◌≤◌, ◌⊎◌, ◌↔◌, inl, inr, Bool, true, false, ◌||◌, List, [], ◌∷◌, ◌++◌, length, refl, sym, ap, subst, ◌∙◌, arith, true≢false}
use Rattle.std.specs.List.{AllZip, range_with_len}
use Rattle.std.specs.Prelude.{IsTrue}
use Rattle.std.proofs.lemmas.Bool.{cases_lt}
use Rattle.omega_hoa_automaton.specs.Automaton.{Description}
use Rattle.omega_hoa_syntax.specs.declared.raw_state.RawState.{RawState}
use Rattle.omega_lang_complement.specs.Judged.{AreFitting}
use Rattle.omega_hoa_edges.specs.AutomatonLabels.{labels_at, state_at}
use Rattle.omega_hoa_edges.specs.Labels.{is_full}
use Rattle.omega_hoa_edges.specs.Letters.{AreExclusive}
use Rattle.omega_lang_complement.specs.Letters.{LacksLetter}
use Rattle.omega_lang_complement.specs.Written.{IsTurned}
use Rattle.omega_lang_complement.specs.private.Turned.{AreTurned}

-- one number after others
pub range_push : (first count : ℕ) → range_with_len first (suc count) ≡ range_with_len first count ++ (first + count) ∷ []
range_push first zero = let e : first ≡ first + 0 = omega arith in ap (λ n. n ∷ []) e
range_push first (suc count) =
    let e : (first + 1) + count ≡ first + suc count = omega arith in
    ap (λ (rest : List ℕ). first ∷ rest) (range_push (first + 1) count ∙ ap (λ n. range_with_len (first + 1) count ++ n ∷ []) e)

pub zip_push : {A B : Type 0} (R : A → B → Type 0) (xs : List A) (ys : List B) (x : A) (y : B) → AllZip R xs ys → R x y → AllZip R (xs ++ x ∷ []) (ys ++ y ∷ [])
zip_push R [] [] x y all here = (here, tt)
zip_push R [] (b ∷ ys) x y all here = absurd all
zip_push R (a ∷ xs) [] x y all here = absurd all
zip_push R (a ∷ xs) (b ∷ ys) x y all here = (all.0, zip_push R xs ys x y all.1 here)

or_cases : (a b : Bool) → (a || b) ≡ true → (a ≡ true) ⊎ (b ≡ true)
or_cases true b e = inl refl
or_cases false b e = inr e

or_left : (a b : Bool) → a ≡ true → (a || b) ≡ true
or_left true b e = refl
or_left false b e = absurd (true≢false (sym e))

or_right : (a b : Bool) → b ≡ true → (a || b) ≡ true
or_right true b e = refl
or_right false b e = e

module _ (a : Description) where
  pub turned_none : AreTurned a 0 [] false
  turned_none = record {
    turned = tt;
    apart = λ number below. absurd (omega arith);
    fitting = λ number below. absurd (omega arith);
    lacking = (λ e. absurd (true≢false (sym e)), λ some. absurd (omega (arith, some.1)));
  }

  pub turned_more : (count : ℕ) (states : List RawState) (lacks : Bool) (raw : RawState) (more : Bool) → AreTurned a count states lacks
      → IsTurned (length a.propositions) a.states (state_at a count) raw → AreExclusive (labels_at a count)
      → AreFitting (is_full (length a.propositions) (state_at a count)) (labels_at a count) → IsTrue more ↔ LacksLetter (labels_at a count)
      → AreTurned a (count + 1) (states ++ raw ∷ []) (lacks || more)
  turned_more count states lacks raw more are turned apart fitting lacking = record {
    turned = subst (λ (numbers : List ℕ). AllZip (λ number. IsTurned (length a.propositions) a.states (state_at a number)) numbers (states ++ raw ∷ [])) (sym (ap (range_with_len 0) more_is ∙ range_push 0 count ∙ ap (λ n. range_with_len 0 count ++ n ∷ []) plain))
        (zip_push (λ number. IsTurned (length a.propositions) a.states (state_at a number)) (range_with_len 0 count) states count raw are.turned turned);
    apart = λ number below. at number (cases_lt number count) below;
    fitting = λ number below. fit number (cases_lt number count) below;
    lacking = (λ e. found (or_cases lacks more e), λ some. reported some.0 some.1 some.2 (cases_lt some.0 count));
  }
    where
      Lacking : ℕ → Type 0
      Lacking n = (number : ℕ) × (number < n) × LacksLetter (labels_at a number)

      plain : 0 + count ≡ count
      plain = omega arith

      more_is : count + 1 ≡ suc count
      more_is = omega arith

      at : (number : ℕ) → (number < count) ⊎ (count ≤ number) → number < count + 1 → AreExclusive (labels_at a number)
      at number (inl before) below = are.apart number before
      at number (inr past) below = let last : number ≡ count = omega arith in subst (λ n. AreExclusive (labels_at a n)) (sym last) apart

      Fitting : ℕ → Type 0
      Fitting n = AreFitting (is_full (length a.propositions) (state_at a n)) (labels_at a n)

      fit : (number : ℕ) → (number < count) ⊎ (count ≤ number) → number < count + 1 → Fitting number
      fit number (inl before) below = are.fitting number before
      fit number (inr past) below = let last : number ≡ count = omega arith in subst Fitting (sym last) fitting

      found : (lacks ≡ true) ⊎ (more ≡ true) → (number : ℕ) × (number < count + 1) × LacksLetter (labels_at a number)
      found (inl e) = let earlier = are.lacking.0 e in (earlier.0, omega (arith, earlier.1), earlier.2)
      found (inr e) = (count, omega arith, lacking.0 e)

      reported : (number : ℕ) → number < count + 1 → LacksLetter (labels_at a number) → (number < count) ⊎ (count ≤ number) → (lacks || more) ≡ true
      reported number below lack (inl before) = or_left lacks more (are.lacking.1 (number, before, lack))
      reported number below lack (inr past) =
          let last : number ≡ count = omega arith in
          or_right lacks more (lacking.1 (subst (λ n. LacksLetter (labels_at a n)) last lack))
