-- Refusals of membership: for a choice or not, and never for a failed read or write.
use Rattle.std.proofs.Common.{◌≡◌, ◌⊎◌, inl, inr, ℕ, Bool, true, false, List, [], ◌∷◌, map, Contains, Option, Some, None, refl, sym, ap, subst, ◌∙◌, true≢false}
use Rattle.omega_hoa_automaton.specs.Automaton.{BodyEdge, Description, edges_from}
use Rattle.omega_hoa_automaton.specs.declared.edge.Edge.{Edge}
use Rattle.omega_hoa_automaton.specs.declared.state.State.{State}
use Rattle.omega_hoa_edges.specs.Fitting.{IsUnjudged}
use Rattle.omega_hoa_edges.specs.AutomatonLabels.{labels_at}
use Rattle.omega_hoa_edges.specs.Refusing.{AreUnjudged, IsFirstClash, IsFirstUndecided, IsSecondStart, IsStartRefusal, IsUndecidedFault}
use Rattle.omega_hoa_automaton.specs.Branching.{has_universal_branching}
use Rattle.omega_lang_complement.specs.Refusing.{IsComplementFault}
use Rattle.omega_lang_lasso_search.specs.Searching.{IsSearchRefusal}
use Rattle.omega_lang_product.specs.Refusing.{HaveNoBranch}
use Rattle.omega_lang_product.proofs.Membership.{Contains-here}
use Rattle.omega_lang_word_laws.proofs.meeting.Lists.{contains_flat_map}
use Rattle.omega_lang_word_laws.proofs.parting.Plain.{or_parts}
use Rattle.omega_lang_inclusion.specs.Refusing.{IsContainmentRefusal, no_memory, not_complemented, not_met}
use Rattle.omega_hoa_label.specs.Label.{LabelTree, conjunction}
use Rattle.omega_lang_lasso_word.specs.declared.symbolic_word.SymbolicWord.{SymbolicWord}
use Rattle.omega_text.specs.declared.refusal.Refusal.{Refusal}
use Rattle.omega_text.specs.declared.refusal.Refusal.TheVariants.{Automaton, Circuit, Game, Io, Memory, Task, Text}
use Rattle.omega_text.specs.declared.refusal.task.TaskFault.{TaskFault}
use Rattle.omega_text.specs.declared.refusal.task.TaskFault.TheVariants.{NotDeterministic, TooManyPropositions, UniversalBranch}
use Rattle.omega_lang_inclusion.specs.Opening.{HasUnjudgedName, literal_of, place_among}
use Rattle.omega_lang_inclusion.specs.WordRefusing as refusing
use Rattle.omega_lang_inclusion.specs.WordRefusing.{HasChoice, IsMembershipRefusal, IsNoChoice, IsOneWordRefusal}
use Rattle.omega_lang_inclusion.specs.Written.{IsWordAutomaton}
use Rattle.omega_lang_inclusion.specs.private.Choosing.{choice_in}
use Rattle.omega_lang_inclusion.specs.private.Opened.{IsNameRefusal, IsUnjudgedWith, first_label}

-- a refusal that names the state of a choice is one for a choice
pub choice_is : (refusal : Refusal) (state : ℕ) → choice_in refusal ≡ Some state → refusal ≡ Task (NotDeterministic state)
choice_is (Task (NotDeterministic other)) state is = ap (λ (n : ℕ). Task (NotDeterministic n)) (same is)
  where
    same : Some other ≡ Some state → other ≡ state
    same e = cc
choice_is refusal state is = absurd (none is)
  where
    none : ◌≡◌ {A = Option ℕ} None (Some state) → ⊥
    none e = cc

-- and one that names none is not
pub no_choice : (refusal : Refusal) → choice_in refusal ≡ None → IsNoChoice refusal
no_choice refusal is state same = none (sym is ∙ ap choice_in same)
  where
    none : ◌≡◌ {A = Option ℕ} None (Some state) → ⊥
    none e = cc

-- the refusal of the complement for a choice is one for a choice of its automaton
complement_choice : (a : Description) (state : ℕ) → IsComplementFault a (NotDeterministic state) → HasChoice a state
complement_choice a state (inl second) = inl second.1
complement_choice a state (inr (start, first)) =
    inr (subst (IsFirstClash a) (sym first.4.0) (record { below = first.1; apart = first.2; clash = first.4.1 }))

-- the refusal for a second start names its state
pub start_choice : (a : Description) (refusal : Refusal) → IsStartRefusal a refusal → (state : ℕ) × (choice_in refusal ≡ Some state) × IsSecondStart a state
start_choice a (Task fault) (state, is, second) = (state, ap (λ (f : TaskFault). choice_in (Task f)) is, second)
start_choice a (Text fault) h = absurd h
start_choice a (Game fault) h = absurd h
start_choice a (Circuit fault) h = absurd h
start_choice a (Automaton fault) h = absurd h
start_choice a Memory h = absurd h
start_choice a Io h = absurd h

-- the refusal of judging the states names a state of which two edges can be taken at one letter, or none
pub clash_choice : (a : Description) (refusal : Refusal) → AreUnjudged a refusal → (refusal ≡ Memory → ⊥)
    → ((state : ℕ) × (choice_in refusal ≡ Some state) × IsFirstClash a state)
    ⊎ ((choice_in refusal ≡ None) × ((fault : TaskFault) × IsFirstUndecided a fault))
clash_choice a (Task fault) (inl (state, is, clash)) other = inl (state, ap (λ (f : TaskFault). choice_in (Task f)) is, clash)
clash_choice a (Task fault) (inr first) other = inr (undecided first.undecided, (fault, first))
  where
    undecided : IsUndecidedFault (labels_at a first.number) fault → choice_in (Task fault) ≡ None
    undecided (inl many) = ap (λ (f : TaskFault). choice_in (Task f)) many.0
    undecided (inr large) = ap (λ (f : TaskFault). choice_in (Task f)) large.0
clash_choice a (Text fault) h other = absurd h
clash_choice a (Game fault) h other = absurd h
clash_choice a (Circuit fault) h other = absurd h
clash_choice a (Automaton fault) h other = absurd h
clash_choice a Memory h other = absurd (other refl)
clash_choice a Io h other = absurd h

-- the refusal of containment for a choice is that of the automaton's complement
pub has_choice : (one a : Description) (state : ℕ) → IsContainmentRefusal one a (Task (NotDeterministic state)) → HasChoice a state
has_choice one a state (not_complemented refused) = complement_choice a state refused
has_choice one a state (not_met complement given is refused) = absurd refused
has_choice one a state (no_memory given refused) = absurd refused

-- no containment is refused for a failed read or write
contained_io : (one a : Description) → IsContainmentRefusal one a Io → ⊥
contained_io one a (not_complemented refused) = refused
contained_io one a (not_met complement given is refused) = refused
contained_io one a (no_memory given refused) = refused

-- the label of the first edge of a state is one of the automaton
module _ (one : Description) (names : List (List ℕ)) (refusal : Refusal) (name : List ℕ) (has : Contains names name) (state : State) (there : Contains one.defined state) where
  abbrev literal : Bool → LabelTree
  literal value = literal_of (place_among one.propositions name) value

  with_label : (edge : Edge) (edges : List Edge) → state.edges ≡ edge ∷ edges → (label : Option LabelTree) → edge.label ≡ label
      → IsUnjudgedWith (literal true) (literal false) label refusal → HasUnjudgedName one names refusal
  with_label edge edges are None is unjudged = absurd unjudged
  with_label edge edges are (Some label) is unjudged = go unjudged
    where
      body : BodyEdge
      body = record { source = state; edge = edge }

      listed : Contains (edges_from state) body
      listed =
          let of_state : Edge → BodyEdge = λ e. record { source = state; edge = e } in
          subst (λ (es : List Edge). Contains (map of_state es) body) (sym are) (Contains-here body (map of_state edges))

      found : (value : Bool) → IsUnjudged (conjunction label (literal value)) refusal → HasUnjudgedName one names refusal
      found value not_judged = record {
        label = label;
        of_automaton = inr (body, contains_flat_map edges_from one.defined state body there listed, is);
        name = name;
        listed = has;
        value = value;
        unjudged = not_judged;
      }

      go : IsUnjudged (conjunction label (literal true)) refusal ⊎ IsUnjudged (conjunction label (literal false)) refusal → HasUnjudgedName one names refusal
      go (inl held) = found true held
      go (inr unheld) = found false unheld

  first_unjudged : (edges : List Edge) → state.edges ≡ edges → IsUnjudgedWith (literal true) (literal false) (first_label edges) refusal → HasUnjudgedName one names refusal
  first_unjudged [] are unjudged = absurd unjudged
  first_unjudged (edge ∷ edges) are unjudged = with_label edge edges are edge.label refl unjudged

-- a letter is not judged, or memory is wanting
pub name_refused : (word : SymbolicWord) (one a : Description) (state : ℕ) (refusal : Refusal) → IsWordAutomaton word one → HasChoice a state
    → IsNameRefusal one a.propositions refusal → IsMembershipRefusal word a refusal
name_refused word one a state refusal means choice (name, has, inl e) = refusing.no_memory e
name_refused word one a state refusal means choice (name, has, inr (its, there, unjudged)) =
    refusing.not_judged one state means choice (first_unjudged one a.propositions refusal name has its there its.edges refl unjudged)

names_io : (one : Description) (names : List (List ℕ)) → HasUnjudgedName one names Io → ⊥
names_io one names is = is.unjudged

-- the search in the automaton of a word that was joined with another is refused for a letter, or for want of memory
pub search_refused : (one a : Description) → HaveNoBranch one a → (refusal : Refusal) → IsSearchRefusal one refusal → IsOneWordRefusal one a refusal
search_refused one a plain (Task UniversalBranch) is =
    absurd (true≢false (sym is ∙ (or_parts (has_universal_branching one) (has_universal_branching a) plain).0))
search_refused one a plain (Task TooManyPropositions) is = refusing.undecided_letter is.1 refl
search_refused one a plain Memory is = refusing.not_met tt
search_refused one a plain refusal is = absurd is

one_io : (one a : Description) → IsOneWordRefusal one a Io → ⊥
one_io one a (refusing.not_met refused) = refused
one_io one a (refusing.undecided_letter hard e) = cc

-- nor is membership
pub membership_io : (word : SymbolicWord) (a : Description) → IsMembershipRefusal word a Io → ⊥
membership_io word a (refusing.oversized large) = large
membership_io word a (refusing.not_contained one is refused other searched) = contained_io one a refused
membership_io word a (refusing.no_memory e) = cc
membership_io word a (refusing.not_judged one state is choice refused) = names_io one a.propositions refused
membership_io word a (refusing.has_open_letter state choice open' e) = cc
membership_io word a (refusing.not_one one state is choice single refused) = one_io one a refused
