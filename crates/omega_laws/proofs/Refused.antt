-- No refusal is about the text of a controller or about its specification.
use Rattle.std.proofs.Common.{◌≡◌, ◌⊎◌, inl, inr, ℕ, zero, suc, ◌≤◌, Bool, false, ◌||◌, nat_lt, List, [], ◌∷◌, ◌++◌, Contains, length, map, slice_get, Option, Some, None, refl, sym, ap, subst, ◌∙◌, arith, true≢false}
use Rattle.std.specs.List.{list_any}
use Rattle.std.specs.Str.{bytes_eq}
use Rattle.std.proofs.lemmas.Bool.{or_parts}
use Rattle.std.proofs.lemmas.Option.{slice_get_within}
use Rattle.std.proofs.lemmas.Slice.Eq.{bytes_eq-Decides}
use Rattle.omega_text.specs.Cases.{IsMemory}
use Rattle.omega_text.specs.declared.refusal.Refusal.{Refusal}
use Rattle.omega_text.specs.declared.refusal.Refusal.TheVariants.{Automaton, Circuit, Game, Io, Memory, Task, Text}
use Rattle.omega_text.specs.declared.refusal.task.TaskFault.{TaskFault}
use Rattle.omega_text.specs.declared.refusal.task.TaskFault.TheVariants.{BadSolution, Budget, Controllable, NotDeterministic, NotParity, TooLarge, TooManyPropositions, TooWide, UniversalBranch, Unjudged, UnknownNode}
use Rattle.omega_hoa_syntax.specs.declared.header_value.HeaderValue.TheVariants as value
use Rattle.omega_hoa_automaton.specs.Automaton.{Description, has_repeat}
use Rattle.omega_hoa_automaton.specs.Branching.{has_universal_branching, state_branches}
use Rattle.omega_hoa_automaton.specs.Laws.{MeaningsAreAutomata}
use Rattle.omega_hoa_edges.specs.Determinism.{IsDeterministic}
use Rattle.omega_lang_complement.specs.Refusing.{IsUncomplemented}
use Rattle.omega_lang_inclusion.specs.Refusing.{IsContainmentRefusal, no_memory, not_complemented, not_met}
use Rattle.omega_synth_controllers.specs.Controllable.{IsControlled, controllable_items}
use Rattle.omega_answers_synth.specs.Parting.{AreAlike}
use Rattle.omega_answers_synth.specs.Verify.{IsPairRefusal, RefusesController, controller_misstated, not_judged, parted_unlike, specification_misstated, text_about}
use Rattle.omega_answers_synth.proofs.ControllerStated.{controlled_one}
use Rattle.omega_synth_check.specs.Refusing.{IsJudgeRefusal, IsLetterFault, IsLetterRefusal}
use Rattle.omega_synth_check.specs.Refusing as judge
use Rattle.omega_answers.specs.TwoAutomata.{OfAutomata}
use Rattle.omega_hoa.specs.Alone.{IsAutomatonRefusal, IsAutomatonText}
use Rattle.omega_hoa.specs.Laws.{AutomataAreOne, AutomataAreUnrefused}
use Rattle.omega_io.specs.Refused.{IsAbout}
use Rattle.omega_io.specs.declared.refused.Refused.{Refused}
use Rattle.omega_io.specs.declared.refused.Which.{Which}
use Rattle.omega_io.specs.declared.refused.Which.TheVariants.{File, Input}
use Rattle.omega_lang_product.specs.Refusing.{IsGraphRefusal}
use Rattle.omega_laws.specs.ControllerTexts.{ControllersAreReadBack}
use Rattle.omega_laws.specs.WrittenControllers.{IsWrittenController, WrittenControllersAreNotAtFault}
use Rattle.omega_laws.proofs.Plain.{complement_plain, controller_plain}
use Rattle.omega_laws.proofs.RealizedWritten as written

-- a refusal is none of those that are about a text
pub record IsOfNeither (refusal : Refusal) : Type 0 where
  pub no_choice : (state : ℕ) → ¬ (refusal ≡ Task (NotDeterministic state))
  pub no_kind : ¬ (refusal ≡ Task NotParity)
  pub no_branch : ¬ (refusal ≡ Task UniversalBranch)

about_none : (controller : Description) (refusal : Refusal) → IsOfNeither refusal → text_about controller refusal ≡ None
about_none controller (Task NotParity) is = absurd (is.no_kind refl)
about_none controller (Task UniversalBranch) is = absurd (is.no_branch refl)
about_none controller (Task (NotDeterministic state)) is = absurd (is.no_choice state refl)
about_none controller (Task TooManyPropositions) is = refl
about_none controller (Task TooWide) is = refl
about_none controller (Task Budget) is = refl
about_none controller (Task BadSolution) is = refl
about_none controller (Task UnknownNode) is = refl
about_none controller (Task TooLarge) is = refl
about_none controller (Task Controllable) is = refl
about_none controller (Task Unjudged) is = refl
about_none controller (Text fault) is = refl
about_none controller (Game fault) is = refl
about_none controller (Circuit fault) is = refl
about_none controller (Automaton fault) is = refl
about_none controller Memory is = refl
about_none controller Io is = refl

-- faults that are limits
abbrev IsLimit : TaskFault → Type 0
IsLimit fault = (fault ≡ TooLarge) ⊎ (fault ≡ TooManyPropositions)

no_choice_limit : (state : ℕ) → ¬ IsLimit (NotDeterministic state)
no_choice_limit state (inl e) = cc
no_choice_limit state (inr e) = cc

no_kind_limit : ¬ IsLimit NotParity
no_kind_limit (inl e) = cc
no_kind_limit (inr e) = cc

no_branch_limit : ¬ IsLimit UniversalBranch
no_branch_limit (inl e) = cc
no_branch_limit (inr e) = cc

-- the search for letters
letter_limit : (controller : Description) (controlled : List ℕ) (fault : TaskFault) → IsLetterFault controller controlled fault → IsLimit fault
letter_limit controller controlled fault (judge.many_states many) = inl refl
letter_limit controller controlled fault (judge.hard_label hard) = inr refl
letter_limit controller controlled fault (judge.not_asked other state numbers met leave (inl many)) = inr many.0
letter_limit controller controlled fault (judge.not_asked other state numbers met leave (inr (few, (letter, number, has, edge, at, inl large)))) = inl large.0
letter_limit controller controlled fault (judge.not_asked other state numbers met leave (inr (few, (letter, number, has, edge, at, inr hard)))) = inr hard.0

letters_of_neither : (controller : Description) (controlled : List ℕ) (refusal : Refusal) → IsLetterRefusal controller controlled refusal → IsOfNeither refusal
letters_of_neither controller controlled refusal is = record {
  no_choice = λ state e. no_choice_limit state (letter_limit controller controlled (NotDeterministic state) (subst (IsLetterRefusal controller controlled) e is));
  no_kind = λ e. no_kind_limit (letter_limit controller controlled NotParity (subst (IsLetterRefusal controller controlled) e is));
  no_branch = λ e. no_branch_limit (letter_limit controller controlled UniversalBranch (subst (IsLetterRefusal controller controlled) e is));
}

-- a list of one at most has no second
no_second : {X : Type 0} (xs : List X) (x : X) → length xs ≤ 1 → slice_get xs 1 ≡ Some x → ⊥
no_second xs x few at = (let within = slice_get_within xs 1 x at in omega (arith, within, few))

-- the complement of a deterministic automaton
complement_of_neither : (a : Description) → IsDeterministic a → (refusal : Refusal) → IsUncomplemented a refusal → IsOfNeither refusal
complement_of_neither a deterministic refusal is = record {
  no_choice = λ state e. clash state (subst (IsUncomplemented a) e is);
  no_kind = λ e. subst (IsUncomplemented a) e is;
  no_branch = λ e. true≢false (sym (subst (IsUncomplemented a) e is) ∙ deterministic.plain);
}
  where
    clash : (state : ℕ) → IsUncomplemented a (Task (NotDeterministic state)) → ⊥
    clash state (inl second) = no_second a.starts second.1.0 deterministic.one_start second.1.1
    clash state (inr first) = deterministic.apart first.1.0 first.1.1 first.1.4.1

-- the graph of the product with it
graph_of_neither : (one other : Description) → has_universal_branching one ≡ false → has_universal_branching other ≡ false → (refusal : Refusal) → IsGraphRefusal one other refusal
    → IsOfNeither refusal
graph_of_neither one other plain plain' refusal is = record {
  no_choice = λ state e. subst (IsGraphRefusal one other) e is;
  no_kind = λ e. subst (IsGraphRefusal one other) e is;
  no_branch = λ e. true≢false (sym (subst (IsGraphRefusal one other) e is) ∙ (ap (λ (b : Bool). b || has_universal_branching other) plain ∙ plain'));
}

memory_of_neither : (refusal : Refusal) → IsMemory refusal → IsOfNeither refusal
memory_of_neither refusal is = record {
  no_choice = λ state e. subst IsMemory e is;
  no_kind = λ e. subst IsMemory e is;
  no_branch = λ e. subst IsMemory e is;
}

pub contained_of_neither : (one other : Description) → has_universal_branching one ≡ false → IsDeterministic other → (refusal : Refusal) → IsContainmentRefusal one other refusal
    → IsOfNeither refusal
contained_of_neither one other plain deterministic refusal (not_complemented is) = complement_of_neither other deterministic refusal is
contained_of_neither one other plain deterministic refusal (not_met complement given complemented is) =
    let parts = or_parts (list_any (λ (start : List ℕ). nat_lt 1 (length start)) other.starts) (list_any state_branches other.defined) deterministic.plain in
    graph_of_neither one complement plain (complement_plain other parts.0 parts.1 complement complemented) refusal is
contained_of_neither one other plain deterministic refusal (no_memory given is) = memory_of_neither refusal is

-- ---- names

same_some : {X : Type 0} (x y : X) → Some x ≡ Some y → x ≡ y
same_some x y e = cc

-- of names that are all unlike, no two are alike
some_like : (names : List (List ℕ)) (k : ℕ) (name : List ℕ) → slice_get names k ≡ Some name → list_any (λ later. bytes_eq later name) names ≡ false → ⊥
some_like [] k name at none = absurd (let no : ◌≡◌ {A = Option (List ℕ)} None (Some name) = at in cc)
some_like (first ∷ names) zero name at none =
    let same : first ≡ name = same_some first name at in
    let parts = or_parts (bytes_eq first name) (list_any (λ later. bytes_eq later name) names) none in
    true≢false (sym ((bytes_eq-Decides first name).1 same) ∙ parts.0)
some_like (first ∷ names) (suc k) name at none =
    some_like names k name at (or_parts (bytes_eq first name) (list_any (λ later. bytes_eq later name) names) none).1

one_place : (names : List (List ℕ)) → has_repeat bytes_eq names ≡ false → (p q : ℕ) (name : List ℕ) → slice_get names p ≡ Some name → slice_get names q ≡ Some name → p ≡ q
one_place [] none p q name first second = absurd (let no : ◌≡◌ {A = Option (List ℕ)} None (Some name) = first in cc)
one_place (one ∷ names) none zero zero name first second = refl
one_place (one ∷ names) none zero (suc q) name first second =
    let same : one ≡ name = same_some one name first in
    absurd (some_like names q one (second ∙ ap Some (sym same)) (or_parts (list_any (λ later. bytes_eq later one) names) (has_repeat bytes_eq names) none).0)
one_place (one ∷ names) none (suc p) zero name first second =
    let same : one ≡ name = same_some one name second in
    absurd (some_like names p one (first ∙ ap Some (sym same)) (or_parts (list_any (λ later. bytes_eq later one) names) (has_repeat bytes_eq names) none).0)
one_place (one ∷ names) none (suc p) (suc q) name first second =
    ap suc (one_place names (or_parts (list_any (λ later. bytes_eq later one) names) (has_repeat bytes_eq names) none).1 p q name first second)

-- ---- the two texts

module _ (back : ControllersAreReadBack) (one : AutomataAreOne) (unrefused : AutomataAreUnrefused) (automata : MeaningsAreAutomata) (specification controller : List ℕ)
    (is : IsWrittenController specification controller) where
  abbrev given : Description
  given = written.given back specification controller is

  abbrev part : Description
  part = written.part back specification controller is

  abbrev controlled : List ℕ
  controlled = written.controlled back specification controller is

  deterministic : IsDeterministic given
  deterministic = is.answer.holds.judgeable.deterministic

  plain : has_universal_branching part ≡ false
  plain = controller_plain given controlled (written.kept back specification controller is) (written.reached back specification controller is) deterministic.plain

  stated : IsControlled given controlled
  stated = is.answer.holds.stated.controlled

  -- the item of the controller lists the same
  own_stated : IsControlled part controlled
  own_stated = record {
    once = (let one_item : length (controllable_items part) ≡ 1 = refl in omega (arith, one_item));
    stated = record { listed = append_none (map value.Number controlled); below = stated.stated.below; unlike = stated.stated.unlike };
  }
    where
      append_none : {X : Type 0} (xs : List X) → xs ++ [] ≡ xs
      append_none [] = refl
      append_none (x ∷ xs) = ap (λ rest. x ∷ rest) (append_none xs)

  alike : (ones others : List ℕ) → IsControlled given ones → IsControlled part others → AreAlike given.propositions part.propositions ones others
  alike ones others first second p q name at there =
      let unlike = (automata is.answer.read.value.raw given is.answer.read.value.means).unlike in
      let place : p ≡ q = one_place given.propositions unlike p q name at there in
      let same : ones ≡ controlled = controlled_one given ones controlled first stated in
      let also : others ≡ controlled = controlled_one part others controlled second own_stated in
      let numbers : ones ≡ others = same ∙ sym also in (
        λ has. subst (λ (ns : List ℕ). Contains ns q) numbers (subst (Contains ones) place has),
        λ has. subst (Contains ones) (sym place) (subst (λ (ns : List ℕ). Contains ns q) (sym numbers) has),
      )

  judge_of_neither : (others : List ℕ) (refusal : Refusal) → IsJudgeRefusal given part others refusal → IsOfNeither refusal
  judge_of_neither others refusal (judge.branches some) = absurd (true≢false (sym some ∙ plain))
  judge_of_neither others refusal (judge.not_all whole not) = absurd (not (refl, refl))
  judge_of_neither others refusal judge.no_memory =
      record { no_choice = λ state e. (let no : Memory ≡ Task (NotDeterministic state) = e in cc); no_kind = λ e. (let no : Memory ≡ Task NotParity = e in cc); no_branch = λ e. (let no : Memory ≡ Task UniversalBranch = e in cc) }
  judge_of_neither others refusal (judge.not_searched other readable letters) = letters_of_neither part others refusal letters
  judge_of_neither others refusal (judge.not_contained other readable contained) = contained_of_neither part given plain deterministic refusal contained

  about_neither : (text : Option Which) (refusal : Refusal) → IsPairRefusal given part text refusal → text ≡ None
  about_neither text refusal (specification_misstated not) = absurd (not (controlled, stated))
  about_neither text refusal (controller_misstated has not) = absurd (not (controlled, own_stated))
  about_neither text refusal (parted_unlike ones others first second item not) = absurd (not (alike ones others first second))
  about_neither text refusal (not_judged others other parted refused) = about_none part other (judge_of_neither others other refused)

  -- both automata together are refused
  pair_text : (refused : Refused) → OfAutomata (λ one other. RefusesController one other refused) specification controller → refused.text ≡ None
  pair_text refused pair =
      let same : pair.file ≡ given = one specification pair.file given pair.file_read is.answer.read in
      let also : pair.input ≡ part = one controller pair.input part pair.input_read (written.part_read back specification controller is) in
      let refuses : RefusesController given part refused =
      subst (λ (s : Description). RefusesController s part refused) same
      (subst (λ (c : Description). RefusesController pair.file c refused) also pair.holds) in
      elim refuses [
        | inl memory ↦ ap (λ (r : Refused). r.text) memory
        | inr pair_refused ↦ about_neither refused.text refused.refusal pair_refused
      ]

  -- neither text is
  unread_text : (text : Option Which) (refusal : Refusal)
      → IsAbout (λ other. other ≡ Memory) (IsAutomatonRefusal specification) (λ other. (a : Description) × IsAutomatonText specification a × IsAutomatonRefusal controller other)
      text refusal
      → text ≡ None
  unread_text None refusal unread = refl
  unread_text (Some File) refusal unread = absurd (unrefused specification given refusal is.answer.read unread)
  unread_text (Some Input) refusal unread = absurd (unrefused controller part refusal (written.part_read back specification controller is) unread.2)

pub not_at_fault : ControllersAreReadBack → AutomataAreOne → AutomataAreUnrefused → MeaningsAreAutomata → WrittenControllersAreNotAtFault
not_at_fault back one unrefused automata specification controller refused is h = elim h [
  | inl unread ↦ unread_text back one unrefused automata specification controller is refused.text refused.refusal unread
  | inr pair ↦ pair_text back one unrefused automata specification controller is refused pair
]
