-- What connected usable edges are judged to be, and what a verdict says.
use Rattle.std.proofs.Common.{◌≡◌, ◌++◌, ◌↔◌, ℕ, Bool, true, false, List, map, All, Option, None, Some, refl, sym, subst, ◌∙◌}
use Rattle.std.specs.Prelude.{IfNone, IsNone}
use Rattle.std.proofs.lemmas.Bool.{false≢true}
use Rattle.std.proofs.lemmas.Option.{MatchOption-at_none}
use Rattle.omega_hoa_acceptance.specs.Acceptance.{accepts}
use Rattle.omega_hoa_automaton.specs.Automaton.{Description}
use Rattle.omega_lang_runs.specs.Lasso.{IsAcceptingLasso, marks_at}
use Rattle.omega_lang_lasso_check.specs.Conditions.{IsLassoWalk, IsNumber, IsUsableNumber}
use Rattle.omega_lang_lasso_check.specs.declared.fault.LassoFault.{LassoFault}
use Rattle.omega_lang_lasso_check.specs.declared.fault.LassoFault.TheVariants.{NotAccepted}
use Rattle.omega_lang_lasso_check.specs.private.Judged.{IsRefereed}
use Rattle.omega_lang_lasso_check.proofs.Connecting.{all_after, lasso_of}
use Rattle.omega_lang_lasso_check.proofs.Excluding.{not_accepting}

-- if there is no fault
pub at_none : {X : Type 0} (found : Option X) (P : Type 0) → found ≡ None → IfNone found P → P
at_none {X} found P is holds = MatchOption-at_none P (λ (x : X). Unit {0}) is holds

-- each number of the cycle is that of an edge
pub cycle_numbered : (a : Description) (stem cycle : List ℕ) → IsLassoWalk a stem cycle → All (IsNumber a) cycle
cycle_numbered a stem cycle connected = all_after (IsNumber a) stem cycle connected.begun.edges.numbered

module _ (a : Description) (stem cycle : List ℕ) where
  pub judged_accepting : (found : Option LassoFault) → found ≡ None → IsLassoWalk a stem cycle → All (IsUsableNumber a) (stem ++ cycle)
      → (accepted : Bool) → accepted ≡ accepts (map (marks_at a) cycle) a.acceptance → accepted ≡ true → IsRefereed a stem cycle found
  judged_accepting found is connected usable accepted means holds =
      subst (IsRefereed a stem cycle) (sym is) (record { lasso = lasso_of a stem cycle connected usable; accepted = sym means ∙ holds })

  pub judged_rejecting : (found : Option LassoFault) → found ≡ Some NotAccepted → IsLassoWalk a stem cycle → All (IsUsableNumber a) (stem ++ cycle)
      → (accepted : Bool) → accepted ≡ accepts (map (marks_at a) cycle) a.acceptance → accepted ≡ false → IsRefereed a stem cycle found
  judged_rejecting found is connected usable accepted means fails =
      subst (IsRefereed a stem cycle) (sym is) (lasso_of a stem cycle connected usable, sym means ∙ fails)

  -- there is no fault exactly if the lasso accepts
  pub none_exactly : (found : Option LassoFault) → IsRefereed a stem cycle found → IsNone found ↔ IsAcceptingLasso a stem cycle
  none_exactly None judged = (λ none. judged, λ accepting. refl)
  none_exactly (Some fault) judged =
      (λ none. absurd (false≢true (sym none)), λ accepting. absurd (not_accepting a stem cycle fault judged accepting))
