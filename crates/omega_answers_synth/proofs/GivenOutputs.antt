-- How lists part the names of a formula: name by name, and list by list.
use Rattle.std.proofs.Common.{◌≡◌, ◌↔◌, ℕ, ◌+◌, ◌<◌, ◌≤◌, inl, inr, Bool, true, false, not, cond, List, [], ◌∷◌, ◌++◌, length, take, get_or, Contains, Option, refl, sym, ap, ap₂, subst, ◌∙◌, arith, true≢false}
use Rattle.std.specs.List.{list_any}
use Rattle.std.specs.Str.{bytes_eq}
use Rattle.std.proofs.lemmas.Bool.{cases_eq, false≢true}
use Rattle.std.proofs.lemmas.List.{get_or_default}
use Rattle.std.proofs.lemmas.List.Elements.{Contains-get_or, filter_more}
use Rattle.omega_text.specs.Cases.{or_memory}
use Rattle.omega_text.specs.declared.refusal.Refusal.{Refusal}
use Rattle.omega_text.specs.declared.refusal.Refusal.TheVariants.{Automaton, Circuit, Game, Io, Memory, Task, Text}
use Rattle.omega_text.specs.declared.refusal.task.TaskFault.TheVariants.{Controllable}
use Rattle.omega_io.specs.Refused.{about}
use Rattle.omega_io.specs.declared.refused.Refused.{Refused}
use Rattle.omega_io.specs.declared.refused.Which.TheVariants.{File}
use Rattle.omega_ltl_formula.specs.Table.{NumberedFormula}
use Rattle.omega_synth_check.proofs.SystemNames.{found_name, name_found}
use Rattle.omega_answers.proofs.Refusals.{memory_or, or_memory_of}
use Rattle.omega_answers_synth.specs.Outputs.{AreListedOutputs, AreParted, ArePartedBy, IsRefusalWithLists, IsRefusedWithLists, IsUnparted, NameLists}
use Rattle.omega_answers_synth.specs.Outputs.{lists_refused, names_without, no_memory, not_parted, outputs_by, outputs_refused, with_outputs}
use Rattle.omega_answers_synth.specs.private.Listed.{hold_alike}
use Rattle.omega_answers_synth.specs.private.Parted.{AreOutputsBy, IsUnpartedBy}

-- a name is in exactly one of two lists
abbrev pub IsApart : (outs ins : List (List ℕ)) → List ℕ → Type 0
IsApart outs ins name = Contains outs name ↔ ¬ Contains ins name

module _ (outs ins : List (List ℕ)) (name : List ℕ) where
  apart_flags : (one other : Bool) → list_any (bytes_eq name) outs ≡ one → list_any (bytes_eq name) ins ≡ other → hold_alike one other ≡ false → IsApart outs ins name
  apart_flags true true out given e = absurd (true≢false e)
  apart_flags true false out given e = (λ has also. false≢true (sym given ∙ name_found name ins also), λ none. found_name name outs out)
  apart_flags false true out given e = (λ has. absurd (false≢true (sym out ∙ name_found name outs has)), λ none. absurd (none (found_name name ins given)))
  apart_flags false false out given e = absurd (true≢false e)

  alike_flags : (one other : Bool) → list_any (bytes_eq name) outs ≡ one → list_any (bytes_eq name) ins ≡ other → hold_alike one other ≡ true → ¬ IsApart outs ins name
  alike_flags true true out given e both = both.0 (found_name name outs out) (found_name name ins given)
  alike_flags true false out given e both = false≢true e
  alike_flags false true out given e both = false≢true e
  alike_flags false false out given e both =
      false≢true (sym out ∙ name_found name outs (both.1 (λ has. false≢true (sym given ∙ name_found name ins has))))

  -- if what holds of it differs, and only then
  apart_by : hold_alike (list_any (bytes_eq name) outs) (list_any (bytes_eq name) ins) ≡ false → IsApart outs ins name
  apart_by e = apart_flags (list_any (bytes_eq name) outs) (list_any (bytes_eq name) ins) refl refl e

  unapart_by : hold_alike (list_any (bytes_eq name) outs) (list_any (bytes_eq name) ins) ≡ true → ¬ IsApart outs ins name
  unapart_by e = alike_flags (list_any (bytes_eq name) outs) (list_any (bytes_eq name) ins) refl refl e

-- so are the first of some names
abbrev pub AreApartBelow : (end : ℕ) → (names outs ins : List (List ℕ)) → Type 0
AreApartBelow end names outs ins = (k : ℕ) → k < end → IsApart outs ins (get_or names k [])

module _ (names outs ins : List (List ℕ)) where
  -- one name more
  pub apart_more : (k : ℕ) (name : List ℕ) → name ≡ get_or names k [] → hold_alike (list_any (bytes_eq name) outs) (list_any (bytes_eq name) ins) ≡ false
      → AreApartBelow k names outs ins → AreApartBelow (k + 1) names outs ins
  apart_more k name is differ so_far j low = elim (cases_eq j k) [
    | inl same ↦ subst (IsApart outs ins) (is ∙ sym (ap (λ (n : ℕ). get_or names n []) same)) (apart_by outs ins name differ)
    | inr apart ↦ so_far j (omega (arith, low, apart))
  ]

  -- all of them
  pub apart_all : (end : ℕ) → length names ≤ end → AreApartBelow end names outs ins → (name : List ℕ) → Contains names name → IsApart outs ins name
  apart_all end past so_far name has =
      subst (IsApart outs ins) (get_or_default names has.0 [] name has.1 ∙ has.2) (so_far has.0 (omega (arith, has.1, past)))

  -- one is not
  pub unapart_at : (k : ℕ) (name : List ℕ) → k < length names → name ≡ get_or names k [] → hold_alike (list_any (bytes_eq name) outs) (list_any (bytes_eq name) ins) ≡ true
      → ¬ ((other : List ℕ) → Contains names other → IsApart outs ins other)
  unapart_at k name low is alike all =
      unapart_by outs ins name alike (all name (subst (Contains names) (sym is) (Contains-get_or names k [] low)))

-- ---- names that are left

-- one name more
pub left_more : (others names : List (List ℕ)) (k : ℕ) (name : List ℕ) (left more : List (List ℕ)) (passed : Bool) → k < length names → name ≡ get_or names k []
    → passed ≡ list_any (bytes_eq name) others → left ≡ names_without others (take k names) → more ≡ left ++ cond (not passed) (name ∷ []) []
    → more ≡ names_without others (take (k + 1) names)
left_more others names k name left more passed low is flag so_far pushed =
    pushed
    ∙ ap₂ (λ (xs : List (List ℕ)) (b : Bool). xs ++ cond (not b) (name ∷ []) []) so_far flag
    ∙ ap (λ (n : List ℕ). names_without others (take k names) ++ cond (not (list_any (bytes_eq n) others)) (n ∷ []) []) is
    ∙ sym (filter_more (λ n. not (list_any (bytes_eq n) others)) names k [] low)

-- ---- lists

module _ (formula : NumberedFormula) (lists : NameLists) (outs ins : Option (List (List ℕ))) (same_outs : lists.outs ≡ outs) (same_ins : lists.ins ≡ ins) where
  -- the lists that are given part the names
  pub listed_outputs : (made : List (List ℕ)) → AreOutputsBy formula outs ins made → AreListedOutputs formula lists made
  listed_outputs made by = record {
    parted = subst (λ (o : Option (List (List ℕ))). ArePartedBy formula o lists.ins) (sym same_outs) (subst (λ (i : Option (List (List ℕ))). ArePartedBy formula outs i) (sym same_ins) by.0);
    are = by.1 ∙ ap₂ (λ (o i : Option (List (List ℕ))). outputs_by formula o i) (sym same_outs) (sym same_ins);
  }

  -- or they do not
  pub unparted_lists : (refusal : Refusal) → IsUnpartedBy formula outs ins refusal → IsUnparted formula lists refusal
  unparted_lists refusal h =
      subst (λ (o : Option (List (List ℕ))). IsUnpartedBy formula o lists.ins refusal) (sym same_outs) (subst (λ (i : Option (List (List ℕ))). IsUnpartedBy formula outs i refusal) (sym same_ins) h)

module _ (formula : NumberedFormula) (lists : NameLists) where
  -- lists that do not part the names are refused
  pub lists_refuse : (Refuses : List (List ℕ) → Refusal → Type 0) (refusal : Refusal) → IsUnparted formula lists refusal
      → or_memory (IsRefusalWithLists formula lists Refuses) refusal
  lists_refuse Refuses refusal h = memory_or (λ r. (r ≡ Task Controllable) × ¬ AreParted formula lists) (IsRefusalWithLists formula lists Refuses) (λ r why. not_parted why.1 why.0) refusal h

  -- about the formula, of two texts
  pub lists_refuse_file : (Refuses : List (List ℕ) → Refused → Type 0) (refusal : Refusal) → IsUnparted formula lists refusal → (reported : Refused) → reported ≡ about File refusal
      → IsRefusedWithLists formula lists Refuses reported
  lists_refuse_file Refuses refusal h reported is = subst (IsRefusedWithLists formula lists Refuses) (sym is) (go refusal h)
    where
      go : (refusal : Refusal) → IsUnparted formula lists refusal → IsRefusedWithLists formula lists Refuses (about File refusal)
      go (Task fault) h = lists_refused h.1 (ap (about File) h.0)
      go Memory h = no_memory refl
      go (Text fault) h = absurd (let e : Text fault ≡ Task Controllable = h.0 in cc)
      go (Game fault) h = absurd (let e : Game fault ≡ Task Controllable = h.0 in cc)
      go (Circuit fault) h = absurd (let e : Circuit fault ≡ Task Controllable = h.0 in cc)
      go (Automaton fault) h = absurd (let e : Automaton fault ≡ Task Controllable = h.0 in cc)
      go Io h = absurd (let e : Io ≡ Task Controllable = h.0 in cc)

  module _ (made : List (List ℕ)) (listed : AreListedOutputs formula lists made) where
    -- what refuses with the outputs that were found refuses with those of the lists
    pub outputs_refuse : (Refuses : List (List ℕ) → Refusal → Type 0) (given : List (List ℕ)) → given ≡ made → (refusal : Refusal) → Refuses given refusal
        → or_memory (IsRefusalWithLists formula lists Refuses) refusal
    outputs_refuse Refuses given same refusal h =
        or_memory_of (IsRefusalWithLists formula lists Refuses) refusal (with_outputs listed.parted (subst (λ (names : List (List ℕ)). Refuses names refusal) (same ∙ listed.are) h))

    pub outputs_refuse_texts : (Refuses : List (List ℕ) → Refused → Type 0) (given : List (List ℕ)) → given ≡ made → (reported : Refused) → Refuses given reported
        → IsRefusedWithLists formula lists Refuses reported
    outputs_refuse_texts Refuses given same reported h = outputs_refused listed.parted (subst (λ (names : List (List ℕ)). Refuses names reported) (same ∙ listed.are) h)
