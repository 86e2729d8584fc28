-- The outputs of a formula, name by name, and what an item lists, proposition by proposition.
use Rattle.std.proofs.Common.{◌≡◌, ◌↔◌, ℕ, ◌+◌, ◌<◌, ◌≤◌, inl, inr, Bool, true, false, List, [], Contains, length, get_or, refl, sym, ap, subst, ◌∙◌, arith, true≢false}
use Rattle.std.specs.List.{list_any}
use Rattle.std.specs.Str.{bytes_eq}
use Rattle.std.proofs.lemmas.Bool.{cases_eq}
use Rattle.std.proofs.lemmas.List.{get_or_default}
use Rattle.std.proofs.lemmas.List.Elements.{Contains-get_or}
use Rattle.omega_graph.specs.Graph.{listed}
use Rattle.omega_synth_check.proofs.SystemNames.{found_name, name_found}
use Rattle.omega_answers_synth.specs.private.Listed.{AreListedAlike, AreListedBelow, hold_alike}
use Rattle.omega_answers_synth.proofs.Alike.{other_flag, same_flag}

-- each of the first outputs is one of the names
abbrev pub AreNamedBelow : (end : ℕ) → (outs names : List (List ℕ)) → Type 0
AreNamedBelow end outs names = (k : ℕ) → k < end → Contains names (get_or outs k [])

module _ (outs names : List (List ℕ)) where
  -- one output more
  pub named_more : (k : ℕ) (out : List ℕ) → out ≡ get_or outs k [] → list_any (bytes_eq out) names ≡ true → AreNamedBelow k outs names → AreNamedBelow (k + 1) outs names
  named_more k out is found so_far j low = elim (cases_eq j k) [
    | inl same ↦ subst (Contains names) (is ∙ sym (ap (λ (n : ℕ). get_or outs n []) same)) (found_name out names found)
    | inr apart ↦ so_far j (omega (arith, low, apart))
  ]

  -- all of them
  pub named_all : (end : ℕ) → length outs ≤ end → AreNamedBelow end outs names → (name : List ℕ) → Contains outs name → Contains names name
  named_all end past so_far name has =
      subst (Contains names) (get_or_default outs has.0 [] name has.1 ∙ has.2) (so_far has.0 (omega (arith, has.1, past)))

  -- one is not
  pub unnamed_at : (k : ℕ) (out : List ℕ) → k < length outs → out ≡ get_or outs k [] → list_any (bytes_eq out) names ≡ false
      → ¬ ((name : List ℕ) → Contains outs name → Contains names name)
  unnamed_at k out low is none all =
      true≢false (sym (name_found out names (all out (subst (Contains outs) (sym is) (Contains-get_or outs k [] low)))) ∙ none)

-- both hold or neither does
alike_same : (one other : Bool) → hold_alike one other ≡ true → one ≡ other
alike_same true other e = sym e
alike_same false true e = absurd (true≢false (sym e))
alike_same false false e = refl

unlike_apart : (one other : Bool) → hold_alike one other ≡ false → ¬ (one ≡ other)
unlike_apart true other e same = true≢false (same ∙ e)
unlike_apart false true e same = true≢false (sym same)
unlike_apart false false e same = true≢false e

module _ (names : List (List ℕ)) (numbers : List ℕ) (outs : List (List ℕ)) where
  -- the proposition is listed exactly if its name is an output
  alike_at : (p : ℕ) (name : List ℕ) → name ≡ get_or names p [] → listed numbers p ≡ list_any (bytes_eq name) outs → Contains numbers p ↔ Contains outs (get_or names p [])
  alike_at p name is same =
      let flag = same_flag numbers p (list_any (bytes_eq name) outs) same in (
        λ has. subst (Contains outs) is (found_name name outs (flag.1 has)),
        λ has. flag.0 (name_found name outs (subst (Contains outs) (sym is) has)),
      )

  -- one proposition more
  pub listed_more : (p : ℕ) (name : List ℕ) → name ≡ get_or names p [] → hold_alike (listed numbers p) (list_any (bytes_eq name) outs) ≡ true → AreListedBelow p names numbers outs
      → AreListedBelow (p + 1) names numbers outs
  listed_more p name is alike so_far q low = elim (cases_eq q p) [
    | inl here ↦ subst (λ (n : ℕ). Contains numbers n ↔ Contains outs (get_or names n [])) (sym here) (alike_at p name is (alike_same (listed numbers p) (list_any (bytes_eq name) outs) alike))
    | inr apart ↦ so_far q (omega (arith, low, apart))
  ]

  -- all of them
  pub listed_all : (end : ℕ) → length names ≤ end → AreListedBelow end names numbers outs → AreListedAlike names numbers outs
  listed_all end past so_far p low = so_far p (omega (arith, low, past))

  -- one is listed and its name no output, or the other way round
  pub unlike_at : (p : ℕ) (name : List ℕ) → p < length names → name ≡ get_or names p [] → hold_alike (listed numbers p) (list_any (bytes_eq name) outs) ≡ false → ¬ AreListedAlike names numbers outs
  unlike_at p name low is apart alike =
      other_flag numbers p (list_any (bytes_eq name) outs) (unlike_apart (listed numbers p) (list_any (bytes_eq name) outs) apart)
      (let both = alike p low in (
        λ found. both.1 (subst (Contains outs) is (found_name name outs found)),
        λ has. name_found name outs (subst (Contains outs) (sym is) (both.0 has)),
      ))
