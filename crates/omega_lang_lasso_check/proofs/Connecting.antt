-- Connected edges that are usable are a lasso.
use Rattle.std.proofs.Common.{◌≡◌, ℕ, suc, ◌+◌, ◌<◌, inl, inr, List, [], ◌∷◌, ◌++◌, length, get_or, All, Option, Some, refl, sym, ap, subst, ◌∙◌, arith, add-one, append_assoc}
use Rattle.std.specs.Prelude.{option_map}
use Rattle.std.specs.Option.{unwrap_or}
use Rattle.std.proofs.lemmas.Bool.{cases_lt}
use Rattle.std.proofs.lemmas.List.{get_or-append-add, get_or_append_left, get_or_push, length-append, length_push}
use Rattle.std.proofs.lemmas.List.Elements.{All-cons, All-head, All-nil, All-tail}
use Rattle.std.proofs.lemmas.Option.{same_Some}
use Rattle.omega_hoa_automaton.specs.Automaton.{BodyEdge, Description, edge_at}
use Rattle.omega_lang_runs.specs.Lasso.{IsLasso, IsStart, IsStep, IsUsable, Leads}
use Rattle.omega_lang_lasso_check.specs.Conditions.{AreLinked, FollowsEdge, IsClosed, IsLassoWalk, IsUsableNumber, LeavesStart}

-- what holds of all items of two lists
pub all_front : (P : ℕ → Type 0) (xs ys : List ℕ) → All P (xs ++ ys) → All P xs
all_front P [] ys all = All-nil P
all_front P (x ∷ xs) ys all = All-cons P x xs (All-head P x (xs ++ ys) all) (all_front P xs ys (All-tail P x (xs ++ ys) all))

pub all_after : (P : ℕ → Type 0) (xs ys : List ℕ) → All P (xs ++ ys) → All P ys
all_after P [] ys all = all
all_after P (x ∷ xs) ys all = all_after P xs ys (All-tail P x (xs ++ ys) all)

module _ (a : Description) where
  -- the state that an edge leaves, or 0 if there is no edge
  abbrev pub left_state : ℕ → ℕ
  left_state number = unwrap_or (option_map (λ edge. edge.source.number) (edge_at a number)) 0

  pub left_is : (number : ℕ) (edge : BodyEdge) → edge_at a number ≡ Some edge → left_state number ≡ edge.source.number
  left_is number edge is = ap (λ (found : Option BodyEdge). unwrap_or (option_map (λ edge. edge.source.number) found) 0) is

  -- the edges of a list follow one another
  abbrev pub Links : List ℕ → Type 0
  Links numbers = (k : ℕ) → suc k < length numbers → FollowsEdge a (get_or numbers k 0) (get_or numbers (suc k) 0)

  pub links_from : (numbers : List ℕ) → AreLinked a numbers → Links numbers
  links_from numbers linked k below =
      subst (λ (n : ℕ). FollowsEdge a (get_or numbers k 0) (get_or numbers n 0)) (add-one k) (linked k (omega arith))

  pub linked_from : (numbers : List ℕ) → Links numbers → AreLinked a numbers
  linked_from numbers links k below =
      subst (λ (n : ℕ). FollowsEdge a (get_or numbers k 0) (get_or numbers n 0)) (sym (add-one k)) (links k (omega arith))

  -- the front of what is linked is linked, and so is what comes after it
  pub links_front : (xs ys : List ℕ) → Links (xs ++ ys) → Links xs
  links_front xs ys links k below =
      let more : suc k < length (xs ++ ys) = omega (arith, length-append xs ys) in
      subst (λ (n : ℕ). FollowsEdge a (get_or xs k 0) n) (get_or_append_left xs ys 0 (suc k) below)
      (subst (λ (n : ℕ). FollowsEdge a n (get_or (xs ++ ys) (suc k) 0)) (get_or_append_left xs ys 0 k (omega arith)) (links k more))

  links_after : (xs ys : List ℕ) → Links (xs ++ ys) → Links ys
  links_after [] ys links = links
  links_after (x ∷ xs) ys links = links_after xs ys (λ k below. links (suc k) (omega arith))

  -- one edge more, which follows the last one
  links_push : (xs : List ℕ) (next : ℕ) → Links xs → ((last : ℕ) → last + 1 ≡ length xs → FollowsEdge a (get_or xs last 0) next)
      → Links (xs ++ next ∷ [])
  links_push xs next links follows k below = elim (cases_lt (suc k) (length xs)) [
    | inl inside ↦
        subst (λ (n : ℕ). FollowsEdge a (get_or (xs ++ next ∷ []) k 0) n) (sym (get_or_append_left xs (next ∷ []) 0 (suc k) inside))
        (subst (λ (n : ℕ). FollowsEdge a n (get_or xs (suc k) 0)) (sym (get_or_append_left xs (next ∷ []) 0 k (omega arith))) (links k inside))
    | inr past ↦
        let last : length xs ≡ suc k = omega (arith, length_push xs next) in
        subst (λ (n : ℕ). FollowsEdge a (get_or (xs ++ next ∷ []) k 0) n) (sym (get_or_push xs next 0 (suc k) last))
        (subst (λ (n : ℕ). FollowsEdge a n next) (sym (get_or_append_left xs (next ∷ []) 0 k (omega arith))) (follows k (omega arith)))
  ]

  -- the first edge of a cycle that closes follows the last one of the lasso
  closes : (stem : List ℕ) (first : ℕ) (cycle : List ℕ) → IsClosed a (first ∷ cycle) → (last : ℕ) → last + 1 ≡ length (stem ++ first ∷ cycle)
      → FollowsEdge a (get_or (stem ++ first ∷ cycle) last 0) first
  closes stem first cycle closed last is =
      let at : last ≡ length stem + length cycle = omega (arith, is, length-append stem (first ∷ cycle)) in
      subst (λ (n : ℕ). FollowsEdge a n first)
      (sym (ap (λ (n : ℕ). get_or (stem ++ first ∷ cycle) n 0) at ∙ get_or-append-add stem (first ∷ cycle) (length cycle) 0))
      (closed (length cycle) (add-one (length cycle)))

  -- the edges of a lasso, and then the first of the cycle again
  links_round : (stem : List ℕ) (first : ℕ) (cycle : List ℕ) → AreLinked a (stem ++ first ∷ cycle) → IsClosed a (first ∷ cycle)
      → Links (stem ++ first ∷ (cycle ++ first ∷ []))
  links_round stem first cycle linked closed =
      subst Links (append_assoc stem (first ∷ cycle) (first ∷ []))
      (links_push (stem ++ first ∷ cycle) first (links_from (stem ++ first ∷ cycle) linked) (closes stem first cycle closed))

  -- a usable edge leads to the state that the next one leaves
  step : (number next : ℕ) → IsUsableNumber a number → FollowsEdge a number next → IsStep a (left_state number) number (left_state next)
  step number next usable follows = record {
    edge = follows.entering;
    numbered = follows.numbered_before;
    usable = subst IsUsable (same_Some usable.edge follows.entering (sym usable.numbered ∙ follows.numbered_before)) usable.usable;
    leaves = sym (left_is number follows.entering follows.numbered_before);
    enters = follows.enters ∙ ap (λ (state : ℕ). state ∷ []) (sym (left_is next follows.leaving follows.numbered));
  }

  -- so do usable edges that are linked
  leads : (numbers : List ℕ) (last : ℕ) (rest : List ℕ) → Links (numbers ++ last ∷ rest) → All (IsUsableNumber a) numbers
      → Leads a (left_state (get_or (numbers ++ last ∷ rest) 0 0)) numbers (left_state last)
  leads [] last rest links usable = refl
  leads (number ∷ []) last rest links usable =
      (left_state last, step number last (All-head (IsUsableNumber a) number [] usable) (links 0 (omega arith)), refl)
  leads (number ∷ next ∷ numbers) last rest links usable = (
    left_state next,
    step number next (All-head (IsUsableNumber a) number (next ∷ numbers) usable) (links 0 (omega arith)),
    leads (next ∷ numbers) last rest (λ k below. links (suc k) (omega arith)) (All-tail (IsUsableNumber a) number (next ∷ numbers) usable),
  )

  same_first : (stem rest : List ℕ) (first : ℕ) (cycle : List ℕ) → get_or (stem ++ first ∷ rest) 0 0 ≡ get_or (stem ++ first ∷ cycle) 0 0
  same_first [] rest first cycle = refl
  same_first (number ∷ stem) rest first cycle = refl

  starting : (number : ℕ) → LeavesStart a number → IsStart a (left_state number)
  starting number leaves = subst (IsStart a) (sym (left_is number leaves.edge leaves.numbered)) leaves.starts

  -- connected edges that are usable are a lasso
  pub lasso_of : (stem cycle : List ℕ) → IsLassoWalk a stem cycle → All (IsUsableNumber a) (stem ++ cycle) → IsLasso a stem cycle
  lasso_of stem [] connected usable = let longer : 0 < 0 = connected.begun.edges.longer in absurd (omega arith)
  lasso_of stem (first ∷ cycle) connected usable =
      let links : Links (stem ++ first ∷ (cycle ++ first ∷ [])) = links_round stem first cycle connected.linked connected.closed in
      let around : Links ((first ∷ cycle) ++ first ∷ []) = links_after stem (first ∷ (cycle ++ first ∷ [])) links in
      record {
        start = left_state (get_or (stem ++ first ∷ cycle) 0 0);
        loop_state = left_state first;
        begins = starting (get_or (stem ++ first ∷ cycle) 0 0) connected.begun.begins;
        stem_leads = subst (λ (number : ℕ). Leads a (left_state number) stem (left_state first)) (same_first stem (cycle ++ first ∷ []) first cycle)
            (leads stem first (cycle ++ first ∷ []) links (all_front (IsUsableNumber a) stem (first ∷ cycle) usable));
        cycle_leads = leads (first ∷ cycle) first [] around (all_after (IsUsableNumber a) stem (first ∷ cycle) usable);
        longer = connected.begun.edges.longer;
      }
