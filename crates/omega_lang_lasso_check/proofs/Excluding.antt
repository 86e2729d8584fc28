-- An accepting lasso has no fault.
use Rattle.std.proofs.Common.{ℕ, zero, suc, ◌<◌, List, [], ◌∷◌, ◌++◌, length, get_or, All, sym, ap, subst, ◌∙◌, add-one, arith}
use Rattle.std.proofs.lemmas.Bool.{false≢true}
use Rattle.std.proofs.lemmas.List.{get_or_append_left, get_or_push, length_push}
use Rattle.std.proofs.lemmas.List.Elements.{All-append, All-cons, All-get_or, All-nil, All-weaker}
use Rattle.std.proofs.lemmas.Option.{slice_get_within}
use Rattle.omega_hoa_automaton.specs.Automaton.{Description, edges_of}
use Rattle.omega_lang_runs.specs.Lasso.{IsAcceptingLasso, IsLasso, IsStart, IsStep, Leads}
use Rattle.omega_lang_lasso_check.specs.Conditions.{FailsFirst, FollowsEdge, IsClosed, IsLassoWalk, IsNumber, IsUsableNumber, LeavesStart}
use Rattle.omega_lang_lasso_check.specs.Fault.{IsLassoFault}
use Rattle.omega_lang_lasso_check.specs.declared.fault.LassoFault.{LassoFault}
use Rattle.omega_lang_lasso_check.specs.declared.fault.LassoFault.TheVariants.{Apart, NeverTrue, NoCycle, NoStart, NotAccepted, NotClosed, NotThere}
use Rattle.omega_lang_lasso_check.proofs.Connecting.{Links, linked_from, links_front}

module _ (a : Description) where
  -- the edges of a way are usable
  usable_on : (from : ℕ) (numbers : List ℕ) (to : ℕ) → Leads a from numbers to → All (IsUsableNumber a) numbers
  usable_on from [] to leads = All-nil (IsUsableNumber a)
  usable_on from (number ∷ numbers) to leads =
      All-cons (IsUsableNumber a) number numbers
      (record { edge = leads.1.edge; numbered = leads.1.numbered; usable = leads.1.usable })
      (usable_on leads.0 numbers to leads.2)

  is_number : (number : ℕ) → IsUsableNumber a number → IsNumber a number
  is_number number usable = slice_get_within (edges_of a) number usable.edge usable.numbered

  -- an edge leaves a state
  Leaves : ℕ → ℕ → Type 0
  Leaves number state = (to : ℕ) × IsStep a state number to

  follows : (before number from state : ℕ) → IsStep a from before state → Leaves number state → FollowsEdge a before number
  unfolding Leaves
  follows before number from state step leaves = record {
    entering = step.edge;
    numbered_before = step.numbered;
    leaving = leaves.1.edge;
    numbered = leaves.1.numbered;
    enters = step.enters ∙ ap (λ (s : ℕ). s ∷ []) (sym leaves.1.leaves);
  }

  one_more : (before number : ℕ) (numbers : List ℕ) → FollowsEdge a before number → Links a (number ∷ numbers) → Links a (before ∷ number ∷ numbers)
  one_more before number numbers is links zero below = is
  one_more before number numbers is links (suc k) below = links k (omega arith)

  leaves_at : (from number : ℕ) (numbers : List ℕ) (to : ℕ) → Leads a from (number ∷ numbers) to → Leaves number from
  unfolding Leaves
  leaves_at from number numbers to leads = (leads.0, leads.1)

  -- the edges of a way, and those after it, follow one another
  links_on : (from : ℕ) (numbers : List ℕ) (to last : ℕ) (rest : List ℕ) → Leads a from numbers to → Leaves last to
      → Links a (last ∷ rest) → Links a (numbers ++ last ∷ rest)
  links_on from [] to last rest leads leaves links = links
  links_on from (number ∷ []) to last rest leads leaves links =
      one_more number last rest (follows number last from leads.0 leads.1 (subst (Leaves last) (sym leads.2) leaves)) links
  links_on from (number ∷ next ∷ numbers) to last rest leads leaves links =
      one_more number next (numbers ++ last ∷ rest) (follows number next from leads.0 leads.1 (leaves_at leads.0 next numbers to leads.2))
      (links_on leads.0 (next ∷ numbers) to last rest leads.2 leaves links)

  alone : (number : ℕ) → Links a (number ∷ [])
  alone number k below = absurd (omega arith)

  -- a cycle closes if its edges and then the first one again follow one another
  closed_from : (first : ℕ) (cycle : List ℕ) → Links a ((first ∷ cycle) ++ first ∷ []) → IsClosed a (first ∷ cycle)
  closed_from first cycle links last is =
      let below : suc last < length ((first ∷ cycle) ++ first ∷ []) = omega (arith, is, length_push (first ∷ cycle) first) in
      subst (λ (n : ℕ). FollowsEdge a n first) (get_or_append_left (first ∷ cycle) (first ∷ []) 0 last (omega (arith, is)))
      (subst (λ (n : ℕ). FollowsEdge a (get_or ((first ∷ cycle) ++ first ∷ []) last 0) n)
      (get_or_push (first ∷ cycle) first 0 (suc last) (sym is ∙ add-one last)) (links last below))

  starts_at : (start number : ℕ) → IsStart a start → Leaves number start → LeavesStart a number
  unfolding Leaves
  starts_at start number begins leaves =
      record { edge = leaves.1.edge; numbered = leaves.1.numbered; starts = subst (IsStart a) (sym leaves.1.leaves) begins }

  first_starts : (start loop_state : ℕ) (stem : List ℕ) (first : ℕ) (cycle : List ℕ) → IsStart a start → Leads a start stem loop_state → Leaves first loop_state
      → LeavesStart a (get_or (stem ++ first ∷ cycle) 0 0)
  first_starts start loop_state [] first cycle begins leads leaves = starts_at start first begins (subst (Leaves first) (sym leads) leaves)
  first_starts start loop_state (number ∷ stem) first cycle begins leads leaves = starts_at start number begins (leaves_at start number stem loop_state leads)

  pub all_usable : (stem cycle : List ℕ) → IsLasso a stem cycle → All (IsUsableNumber a) (stem ++ cycle)
  all_usable stem cycle lasso =
      All-append (IsUsableNumber a) stem cycle (usable_on lasso.start stem lasso.loop_state lasso.stem_leads) (usable_on lasso.loop_state cycle lasso.loop_state lasso.cycle_leads)

  -- a lasso is connected
  pub connected : (stem cycle : List ℕ) → IsLasso a stem cycle → IsLassoWalk a stem cycle
  connected stem [] lasso = let longer : 0 < 0 = lasso.longer in absurd (omega arith)
  connected stem (first ∷ cycle) lasso =
      let leaves = leaves_at lasso.loop_state first cycle lasso.loop_state lasso.cycle_leads in
      let around : Links a ((first ∷ cycle) ++ first ∷ []) = links_on lasso.loop_state (first ∷ cycle) lasso.loop_state first [] lasso.cycle_leads leaves (alone first) in
      record {
        begun = record {
          edges = record {
            longer = lasso.longer;
            numbered = All-weaker (IsUsableNumber a) (IsNumber a) is_number (stem ++ first ∷ cycle) (all_usable stem (first ∷ cycle) lasso);
          };
          begins = first_starts lasso.start lasso.loop_state stem first cycle lasso.begins lasso.stem_leads leaves;
        };
        linked = linked_from a (stem ++ first ∷ cycle)
            (links_on lasso.start stem lasso.loop_state first cycle lasso.stem_leads leaves (links_front a (first ∷ cycle) (first ∷ []) around));
        closed = closed_from first cycle around;
      }

  pub none_fails : (condition : ℕ → Type 0) (numbers : List ℕ) (number : ℕ) → All condition numbers → FailsFirst condition numbers number → ⊥
  none_fails condition numbers number all fails =
      fails.stops_here (subst condition (sym fails.number_is) (All-get_or condition numbers fails.place 0 fails.within all))

  -- an accepting lasso has no fault
  pub not_accepting : (stem cycle : List ℕ) (fault : LassoFault) → IsLassoFault a stem cycle fault → IsAcceptingLasso a stem cycle → ⊥
  not_accepting stem cycle NoCycle is accepting = let longer = accepting.lasso.longer in omega (arith, ap length is)
  not_accepting stem cycle (NotThere number) is accepting =
      none_fails (IsNumber a) (stem ++ cycle) number (connected stem cycle accepting.lasso).begun.edges.numbered is.1
  not_accepting stem cycle (NoStart number) is accepting =
      is.2 (subst (LeavesStart a) (sym is.1) (connected stem cycle accepting.lasso).begun.begins)
  not_accepting stem cycle (Apart number) is accepting =
      is.1.apart (subst (FollowsEdge a (get_or (stem ++ cycle) is.1.before 0)) (sym is.1.number_is)
      ((connected stem cycle accepting.lasso).linked is.1.before is.1.within))
  not_accepting stem cycle NotClosed is accepting = is.2 (connected stem cycle accepting.lasso).closed
  not_accepting stem cycle (NeverTrue number) is accepting = none_fails (IsUsableNumber a) (stem ++ cycle) number (all_usable stem cycle accepting.lasso) is.1
  not_accepting stem cycle NotAccepted is accepting = false≢true (sym is.1 ∙ accepting.accepted)
