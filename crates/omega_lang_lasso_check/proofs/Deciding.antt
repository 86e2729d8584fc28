-- Which fault a lasso has is decided by the conditions.
use Rattle.std.proofs.Common.{◌≡◌, ℕ, ◌+◌, ◌<◌, ◌⊎◌, inl, inr, List, [], ◌++◌, length, get_or, refl, sym, ap, subst, ◌∙◌, arith}
use Rattle.std.proofs.lemmas.Bool.{cases_order}
use Rattle.omega_hoa_automaton.specs.Automaton.{Description}
use Rattle.omega_lang_lasso_check.specs.Conditions.{AreLinked, FailsFirst, FollowsEdge, HasEdges, IsBegun, IsFirstApart, IsNumber, IsUsableNumber, LeavesStart}
use Rattle.omega_lang_lasso_check.specs.Fault.{IsLassoFault}
use Rattle.omega_lang_lasso_check.specs.declared.fault.LassoFault.{LassoFault}
use Rattle.omega_lang_lasso_check.specs.declared.fault.LassoFault.TheVariants.{Apart, NeverTrue, NoCycle, NoStart, NotAccepted, NotClosed, NotThere}
use Rattle.omega_lang_lasso_check.proofs.Excluding.{all_usable, connected, none_fails}

first_fails : (condition : ℕ → Type 0) (numbers : List ℕ) (m n : ℕ) → FailsFirst condition numbers m → FailsFirst condition numbers n → m ≡ n
first_fails condition numbers m n one other = go (cases_order one.place other.place)
  where
    go : ((one.place ≡ other.place) ⊎ ((one.place < other.place) ⊎ (other.place < one.place))) → m ≡ n
    go (inl same) = one.number_is ∙ ap (λ (k : ℕ). get_or numbers k 0) same ∙ sym other.number_is
    go (inr (inl less)) = absurd (one.stops_here (subst condition (sym one.number_is) (other.before one.place less)))
    go (inr (inr more)) = absurd (other.stops_here (subst condition (sym other.number_is) (one.before other.place more)))

module _ (a : Description) where
  first_apart : (numbers : List ℕ) (m n : ℕ) → IsFirstApart a numbers m → IsFirstApart a numbers n → m ≡ n
  first_apart numbers m n one other = go (cases_order one.before other.before)
    where
      go : ((one.before ≡ other.before) ⊎ ((one.before < other.before) ⊎ (other.before < one.before))) → m ≡ n
      go (inl same) = one.number_is ∙ ap (λ (k : ℕ). get_or numbers (k + 1) 0) same ∙ sym other.number_is
      go (inr (inl less)) = absurd (one.apart (subst (FollowsEdge a (get_or numbers one.before 0)) (sym one.number_is) (other.linked one.before less)))
      go (inr (inr more)) = absurd (other.apart (subst (FollowsEdge a (get_or numbers other.before 0)) (sym other.number_is) (one.linked other.before more)))

  unlinked : (numbers : List ℕ) (n : ℕ) → IsFirstApart a numbers n → AreLinked a numbers → ⊥
  unlinked numbers n apart linked =
      apart.apart (subst (FollowsEdge a (get_or numbers apart.before 0)) (sym apart.number_is) (linked apart.before apart.within))

  module _ (stem cycle : List ℕ) where
    empty : cycle ≡ [] → 0 < length cycle → ⊥
    empty is longer = omega (arith, ap length is)

    no_cycle : cycle ≡ [] → (other : LassoFault) → IsLassoFault a stem cycle other → NoCycle ≡ other
    no_cycle is NoCycle found = refl
    no_cycle is (NotThere n) found = absurd (empty is found.0)
    no_cycle is (NoStart n) found = absurd (empty is found.0.longer)
    no_cycle is (Apart n) found = absurd (empty is found.0.edges.longer)
    no_cycle is NotClosed found = absurd (empty is found.0.edges.longer)
    no_cycle is (NeverTrue n) found = absurd (empty is found.0.begun.edges.longer)
    no_cycle is NotAccepted found = absurd (empty is found.0.longer)

    missing : (m : ℕ) → FailsFirst (IsNumber a) (stem ++ cycle) m → HasEdges a stem cycle → ⊥
    missing m fails edges = none_fails a (IsNumber a) (stem ++ cycle) m edges.numbered fails

    not_there : (m : ℕ) → IsLassoFault a stem cycle (NotThere m) → (other : LassoFault) → IsLassoFault a stem cycle other → NotThere m ≡ other
    not_there m is NoCycle found = sym (no_cycle found (NotThere m) is)
    not_there m is (NotThere n) found = ap NotThere (first_fails (IsNumber a) (stem ++ cycle) m n is.1 found.1)
    not_there m is (NoStart n) found = absurd (missing m is.1 found.0)
    not_there m is (Apart n) found = absurd (missing m is.1 found.0.edges)
    not_there m is NotClosed found = absurd (missing m is.1 found.0.edges)
    not_there m is (NeverTrue n) found = absurd (missing m is.1 found.0.begun.edges)
    not_there m is NotAccepted found = absurd (missing m is.1 (connected a stem cycle found.0).begun.edges)

    unbegun : (m : ℕ) → IsLassoFault a stem cycle (NoStart m) → IsBegun a stem cycle → ⊥
    unbegun m is begun = is.2 (subst (LeavesStart a) (sym is.1) begun.begins)

    no_start : (m : ℕ) → IsLassoFault a stem cycle (NoStart m) → (other : LassoFault) → IsLassoFault a stem cycle other → NoStart m ≡ other
    no_start m is NoCycle found = sym (no_cycle found (NoStart m) is)
    no_start m is (NotThere n) found = sym (not_there n found (NoStart m) is)
    no_start m is (NoStart n) found = ap NoStart (is.1 ∙ sym found.1)
    no_start m is (Apart n) found = absurd (unbegun m is found.0)
    no_start m is NotClosed found = absurd (unbegun m is found.0)
    no_start m is (NeverTrue n) found = absurd (unbegun m is found.0.begun)
    no_start m is NotAccepted found = absurd (unbegun m is (connected a stem cycle found.0).begun)

    apart : (m : ℕ) → IsLassoFault a stem cycle (Apart m) → (other : LassoFault) → IsLassoFault a stem cycle other → Apart m ≡ other
    apart m is NoCycle found = sym (no_cycle found (Apart m) is)
    apart m is (NotThere n) found = sym (not_there n found (Apart m) is)
    apart m is (NoStart n) found = sym (no_start n found (Apart m) is)
    apart m is (Apart n) found = ap Apart (first_apart (stem ++ cycle) m n is.1 found.1)
    apart m is NotClosed found = absurd (unlinked (stem ++ cycle) m is.1 found.1)
    apart m is (NeverTrue n) found = absurd (unlinked (stem ++ cycle) m is.1 found.0.linked)
    apart m is NotAccepted found = absurd (unlinked (stem ++ cycle) m is.1 (connected a stem cycle found.0).linked)

    not_closed : IsLassoFault a stem cycle NotClosed → (other : LassoFault) → IsLassoFault a stem cycle other → NotClosed ≡ other
    not_closed is NoCycle found = sym (no_cycle found NotClosed is)
    not_closed is (NotThere n) found = sym (not_there n found NotClosed is)
    not_closed is (NoStart n) found = sym (no_start n found NotClosed is)
    not_closed is (Apart n) found = sym (apart n found NotClosed is)
    not_closed is NotClosed found = refl
    not_closed is (NeverTrue n) found = absurd (is.2 found.0.closed)
    not_closed is NotAccepted found = absurd (is.2 (connected a stem cycle found.0).closed)

    never_true : (m : ℕ) → IsLassoFault a stem cycle (NeverTrue m) → (other : LassoFault) → IsLassoFault a stem cycle other → NeverTrue m ≡ other
    never_true m is NoCycle found = sym (no_cycle found (NeverTrue m) is)
    never_true m is (NotThere n) found = sym (not_there n found (NeverTrue m) is)
    never_true m is (NoStart n) found = sym (no_start n found (NeverTrue m) is)
    never_true m is (Apart n) found = sym (apart n found (NeverTrue m) is)
    never_true m is NotClosed found = sym (not_closed found (NeverTrue m) is)
    never_true m is (NeverTrue n) found = ap NeverTrue (first_fails (IsUsableNumber a) (stem ++ cycle) m n is.1 found.1)
    never_true m is NotAccepted found = absurd (none_fails a (IsUsableNumber a) (stem ++ cycle) m (all_usable a stem cycle found.0) is.1)

    not_accepted : IsLassoFault a stem cycle NotAccepted → (other : LassoFault) → IsLassoFault a stem cycle other → NotAccepted ≡ other
    not_accepted is NoCycle found = sym (no_cycle found NotAccepted is)
    not_accepted is (NotThere n) found = sym (not_there n found NotAccepted is)
    not_accepted is (NoStart n) found = sym (no_start n found NotAccepted is)
    not_accepted is (Apart n) found = sym (apart n found NotAccepted is)
    not_accepted is NotClosed found = sym (not_closed found NotAccepted is)
    not_accepted is (NeverTrue n) found = sym (never_true n found NotAccepted is)
    not_accepted is NotAccepted found = refl

  -- a lasso has one fault
  pub one_fault : (stem cycle : List ℕ) (one other : LassoFault) → IsLassoFault a stem cycle one → IsLassoFault a stem cycle other → one ≡ other
  one_fault stem cycle NoCycle other is found = no_cycle stem cycle is other found
  one_fault stem cycle (NotThere m) other is found = not_there stem cycle m is other found
  one_fault stem cycle (NoStart m) other is found = no_start stem cycle m is other found
  one_fault stem cycle (Apart m) other is found = apart stem cycle m is other found
  one_fault stem cycle NotClosed other is found = not_closed stem cycle is other found
  one_fault stem cycle (NeverTrue m) other is found = never_true stem cycle m is other found
  one_fault stem cycle NotAccepted other is found = not_accepted stem cycle is other found
