-- The states that a search has met, one more at a time.
use Rattle.std.proofs.Common.{◌≡◌, ℕ, ◌+◌, ◌<◌, ◌≤◌, inl, inr, Bool, true, false, not, if◌then◌else◌, List, [], ◌∷◌, ◌++◌, length, get_or, take, ltb, Contains, Option, None, Some, nat_eq, sym, ap, refl, ◌∙◌, subst, arith, eqb-true, append_assoc, length-append}
use Rattle.std.specs.Prelude.{slice_get}
use Rattle.std.specs.List.{IsDistinct, list_any}
use Rattle.std.proofs.lemmas.Bool.{cases_eq, ltb-false, or_parts}
use Rattle.std.proofs.lemmas.List.{append-nil, get_or_append_left, get_or_default, take_more}
use Rattle.std.proofs.lemmas.List.Elements.{Contains-get_or, Contains-push_cases}
use Rattle.std.proofs.lemmas.Map.Keys.{IsDistinct-from_apart}
use Rattle.std.proofs.lemmas.Option.{get_or_from_slice_get, slice_get_within}
use Rattle.std.proofs.Math.Seq.{get_or-append_seam}
use Rattle.indexmap.specs.IndexSet.{insert_key}
use Rattle.omega_hoa_automaton.specs.Automaton.{AreTargets, Description, IsAutomaton}
use Rattle.omega_hoa_automaton.specs.Branching.{has_universal_branching, state_branches}
use Rattle.omega_lang_runs.specs.Lasso.{IsStart, IsStep}
use Rattle.omega_lang_runs.proofs.SingleTargets.{none_passes}
use Rattle.omega_synth_check.specs.declared.meeting.StateEntry.{StateEntry}
use Rattle.omega_synth_check.specs.private.Meeting.{AreMet, Extends, HasEntered, IsEntered, entry_at, state_at}

-- nothing more, and more and more
pub extends_not : (states : List ℕ) → Extends states states
extends_not states = record { extra = []; is = sym (append-nil states) }

pub extends_on : (first second third : List ℕ) → Extends first second → Extends second third → Extends first third
extends_on first second third one two = record {
  extra = one.extra ++ two.extra;
  is = two.is ∙ ap (λ states. states ++ two.extra) one.is ∙ append_assoc first one.extra two.extra;
}

-- a state keeps its place
pub state_kept : (states more : List ℕ) (place : ℕ) → Extends states more → place < length states → state_at more place ≡ state_at states place
state_kept states more place extends below =
    ap (λ (list : List ℕ). state_at list place) extends.is ∙ get_or_append_left states extends.extra 0 place below

pub longer : (states more : List ℕ) → Extends states more → length states ≤ length more
longer states more extends = omega (arith, ap length extends.is, length-append states extends.extra)

-- and what is met stays so
pub has_kept : (states more : List ℕ) (state : ℕ) → Extends states more → Contains states state → Contains more state
has_kept states more state extends has =
    subst (λ (list : List ℕ). Contains list state) (sym extends.is)
    (has.0, omega (arith, has.1, length-append states extends.extra), get_or_append_left states extends.extra state has.0 has.1 ∙ has.2)

-- how a state was entered stays so
pub entered_kept : (a : Description) (states extra : List ℕ) (place : ℕ) (entry : Option StateEntry) (state : ℕ) → place ≤ length states
    → IsEntered a states place entry state → IsEntered a (states ++ extra) place entry state
entered_kept a states extra place None state within entered = entered
entered_kept a states extra place (Some entry) state within entered =
    let low : entry.from < length states = omega (arith, entered.0) in
    (entered.0, subst (λ (s : ℕ). IsStep a s entry.edge state) (sym (get_or_append_left states extra 0 entry.from low)) entered.1)

-- no state yet
pub met_none : (a : Description) (states : List ℕ) (entries : List (Option StateEntry)) → states ≡ [] → entries ≡ [] → AreMet a states entries
met_none a states entries none no_entries =
    let empty : length states ≡ 0 = ap length none in
    record {
      distinct = IsDistinct-from_apart nat_eq states (λ i j d first second. absurd (omega arith));
      paired = ap length no_entries ∙ sym empty;
      each = λ place below. absurd (omega arith);
    }

module _ (a : Description) (states : List ℕ) (entries : List (Option StateEntry)) (state : ℕ) (entry : Option StateEntry) (met : AreMet a states entries)
    (entered : IsEntered a states (length states) entry state) where
  -- one state more
  met_more : IsDistinct nat_eq (states ++ state ∷ []) → AreMet a (states ++ state ∷ []) (entries ++ entry ∷ [])
  met_more distinct = record {
    distinct = distinct;
    paired = length-append entries (entry ∷ []) ∙ omega (arith, met.paired, length-append states (state ∷ []));
    each = λ place below.
        let more : List ℕ = states ++ state ∷ [] in
        elim (cases_eq place (length states)) [
          | inl last ↦
              let here : state_at more (length states) ≡ state = get_or-append_seam states state [] 0 in
              let this : entry_at (entries ++ entry ∷ []) (length states) ≡ entry =
              ap (entry_at (entries ++ entry ∷ [])) (sym met.paired) ∙ get_or-append_seam entries entry [] None in
              subst (λ (p : ℕ). IsEntered a more p (entry_at (entries ++ entry ∷ []) p) (state_at more p)) (sym last)
              (subst (λ (s : ℕ). IsEntered a more (length states) (entry_at (entries ++ entry ∷ []) (length states)) s) (sym here)
              (subst (λ (e : Option StateEntry). IsEntered a more (length states) e state) (sym this)
              (entered_kept a states (state ∷ []) (length states) entry state (omega arith) entered)))
          | inr before ↦
              let low : place < length states = omega (arith, below, before, length-append states (state ∷ [])) in
              subst (λ (s : ℕ). IsEntered a more place (entry_at (entries ++ entry ∷ []) place) s) (sym (get_or_append_left states (state ∷ []) 0 place low))
              (subst (λ (e : Option StateEntry). IsEntered a more place e (state_at states place))
              (sym (get_or_append_left entries (entry ∷ []) None place (omega (arith, low, met.paired))))
              (entered_kept a states (state ∷ []) place (entry_at entries place) (state_at states place) (omega arith) (met.each place low)))
        ];
  }

  -- a state that is inserted
  pub added : (more : List ℕ) (after : List (Option StateEntry)) (new : Bool) → new ≡ not (list_any (nat_eq state) states)
      → more ≡ insert_key nat_eq states state → after ≡ (if new then entries ++ entry ∷ [] else entries) → IsDistinct nat_eq more
      → AreMet a more after × Extends states more
  added more after new says put pushed distinct = go (list_any (nat_eq state) states) refl
    where
      go : (b : Bool) → list_any (nat_eq state) states ≡ b → AreMet a more after × Extends states more
      go true found =
          let same : more ≡ states = put ∙ ap (λ b. if b then states else states ++ state ∷ []) found in
          let unpushed : after ≡ entries = pushed ∙ ap (λ b. if b then entries ++ entry ∷ [] else entries) (says ∙ ap not found) in (
            subst (λ (list : List ℕ). AreMet a list after) (sym same) (subst (λ (list : List (Option StateEntry)). AreMet a states list) (sym unpushed) met),
            subst (Extends states) (sym same) (extends_not states),
          )
      go false new_one =
          let longer : more ≡ states ++ state ∷ [] = put ∙ ap (λ b. if b then states else states ++ state ∷ []) new_one in
          let one_more : after ≡ entries ++ entry ∷ [] = pushed ∙ ap (λ b. if b then entries ++ entry ∷ [] else entries) (says ∙ ap not new_one) in (
            subst (λ (list : List ℕ). AreMet a list after) (sym longer)
                (subst (λ (list : List (Option StateEntry)). AreMet a (states ++ state ∷ []) list) (sym one_more) (met_more (subst (IsDistinct nat_eq) longer distinct))),
            record { extra = state ∷ []; is = longer },
          )

-- the state is among them
pub stored_there : (more : List ℕ) (place state key : ℕ) → slice_get more place ≡ Some key → nat_eq state key ≡ true → Contains more state
stored_there more place state key stored same =
    (place, slice_get_within more place key stored, get_or_from_slice_get more place key state stored ∙ sym (eqb-true state key same))

-- what one edge more enters is met
pub entered_more : (a : Description) (states more : List ℕ) (state : ℕ) (numbers : List ℕ) (index : ℕ) → Extends states more → index < length numbers
    → HasEntered a state (take index numbers) states → ((next : ℕ) → IsStep a state (get_or numbers index 0) next → Contains more next)
    → HasEntered a state (take (index + 1) numbers) more
entered_more a states more state numbers index extends below before here number next has step =
    elim (Contains-push_cases (take index numbers) (get_or numbers index 0) number
    (subst (λ (list : List ℕ). Contains list number) (take_more numbers index 0 below) has)) [
      | inl old ↦ has_kept states more next extends (before number next old step)
      | inr same ↦ here next (subst (λ (n : ℕ). IsStep a state n next) (sym same) step)
    ]

-- one start more
pub starts_more : (states more : List ℕ) (starts : List (List ℕ)) (index first : ℕ) → Extends states more → index < length starts
    → get_or starts index [] ≡ first ∷ [] → Contains more first
    → ((start : ℕ) → Contains (take index starts) (start ∷ []) → Contains states start)
    → (start : ℕ) → Contains (take (index + 1) starts) (start ∷ []) → Contains more start
starts_more states more starts index first extends below is here before start has =
    elim (Contains-push_cases (take index starts) (get_or starts index []) (start ∷ [])
    (subst (λ (list : List (List ℕ)). Contains list (start ∷ [])) (take_more starts index [] below) has)) [
      | inl old ↦ has_kept states more start extends (before start old)
      | inr same ↦ subst (Contains more) (single_same first start (get_or starts index []) is same) here
    ]
  where
    single_same : (x y : ℕ) (xs : List ℕ) → xs ≡ x ∷ [] → xs ≡ y ∷ [] → x ≡ y
    single_same x y xs one other = ap (λ list. get_or list 0 0) (sym one ∙ other)

-- without a start there is none
pub no_start : (a : Description) → length a.starts ≡ 0 → (start : ℕ) → ¬ IsStart a start
no_start a none start begins = omega (arith, begins.1, none)
