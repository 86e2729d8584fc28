-- States that are reached are met, and those that are met are reached.
use Rattle.std.proofs.Common.{◌≡◌, ℕ, zero, suc, ◌<◌, List, [], ◌∷◌, ◌++◌, length, Contains, Option, None, Some, reverse, sym, ap, refl, ◌∙◌, subst, arith}
use Rattle.std.proofs.lemmas.List.{get_or_default, reverse-append}
use Rattle.omega_hoa_automaton.specs.Automaton.{Description}
use Rattle.omega_lang_runs.specs.Lasso.{IsStart, Leads}
use Rattle.omega_lang_runs.proofs.Leads.{leads_on}
use Rattle.omega_synth_check.specs.Judging.{IsReached}
use Rattle.omega_synth_check.specs.declared.meeting.StateEntry.{StateEntry}
use Rattle.omega_synth_check.specs.private.Meeting.{AreMet, HasNext, HasStarts, IsEntered, entry_at, state_at}

-- if the starts are met, and what each state that is met leads to, so is each state that is reached
module _ (a : Description) (states : List ℕ) (starts : HasStarts a states)
    (next : (place : ℕ) → place < length states → HasNext a (state_at states place) states) where
  step_on : (from : ℕ) → Contains states from → HasNext a from states
  step_on from has =
      subst (λ (s : ℕ). HasNext a s states) (get_or_default states has.0 0 from has.1 ∙ has.2) (next has.0 has.1)

  along : (from : ℕ) (numbers : List ℕ) (to : ℕ) → Contains states from → Leads a from numbers to → Contains states to
  along from [] to has leads = subst (Contains states) leads has
  along from (number ∷ numbers) to has leads =
      along leads.0 numbers to (step_on from has number leads.0 leads.1) leads.2

  pub reached_met : (state : ℕ) → IsReached a state → Contains states state
  reached_met state reached = along reached.start reached.numbers state (starts reached.start reached.begins) reached.leads

-- each state that is met is reached, by its entries
module _ (a : Description) (states : List ℕ) (entries : List (Option StateEntry)) (met : AreMet a states entries) where
  back : (bound place : ℕ) → place < bound → place < length states → IsReached a (state_at states place)
  back zero place low below = absurd (omega arith)
  back (suc bound) place low below = go (λ earlier. back bound earlier) (entry_at entries place) (met.each place below)
    where
      go : ((earlier : ℕ) → earlier < bound → earlier < length states → IsReached a (state_at states earlier)) → (entry : Option StateEntry)
          → IsEntered a states place entry (state_at states place) → IsReached a (state_at states place)
      go reach None begins = record { start = state_at states place; begins = begins; numbers = []; leads = refl }
      go reach (Some entry) entered =
          let before = reach entry.from (omega (arith, entered.0)) (omega (arith, entered.0)) in
          record {
            start = before.start;
            begins = before.begins;
            numbers = before.numbers ++ entry.edge ∷ [];
            leads = leads_on a before.start before.numbers (state_at states entry.from) (entry.edge ∷ []) (state_at states place) before.leads (state_at states place, entered.1, refl);
          }

  pub met_reached : (place : ℕ) → place < length states → IsReached a (state_at states place)
  met_reached place below = back (suc place) place (omega arith) below

  pub all_reached : (state : ℕ) → Contains states state → IsReached a state
  all_reached state has = subst (IsReached a) (get_or_default states has.0 0 state has.1 ∙ has.2) (met_reached has.0 has.1)

  -- one edge more of a stem, from its end
  pub stem_more : (at target : ℕ) (entry : StateEntry) (numbers longer : List ℕ) → at < length states → entry_at entries at ≡ Some entry
      → longer ≡ numbers ++ entry.edge ∷ [] → Leads a (state_at states at) (reverse numbers) target
      → (entry.from < at) × Leads a (state_at states entry.from) (reverse longer) target
  stem_more at target entry numbers longer below there is leads =
      let entered : IsEntered a states at (Some entry) (state_at states at) =
      subst (λ (e : Option StateEntry). IsEntered a states at e (state_at states at)) there (met.each at below) in (
        entered.0,
        subst (λ (list : List ℕ). Leads a (state_at states entry.from) list target) (sym (ap reverse is ∙ reverse-append numbers (entry.edge ∷ [])))
            (state_at states at, entered.1, leads),
      )

  -- and at a start
  pub stem_begins : (at : ℕ) → at < length states → entry_at entries at ≡ None → IsStart a (state_at states at)
  stem_begins at below there =
      subst (λ (e : Option StateEntry). IsEntered a states at e (state_at states at)) there (met.each at below)
