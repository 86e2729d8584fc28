-- Two automata have one product, since the pairs that are reached are one list.
use Rattle.std.proofs.Common.{◌≡◌, ℕ, inl, inr, List, [], ◌∷◌, length, map, Option, refl, sym, ap, subst, ◌∙◌}
use Rattle.std.specs.List.{AllZip}
use Rattle.omega_hoa_acceptance.specs.Acceptance.{AccTree}
use Rattle.omega_hoa_acceptance.specs.declared.name.AccName.{AccName}
use Rattle.omega_hoa_label.specs.Label.{LabelTree}
use Rattle.omega_hoa_automaton.specs.Automaton.{Description}
use Rattle.omega_hoa_automaton.specs.Meaning.{AreMarksOf}
use Rattle.omega_hoa_automaton.specs.declared.edge.Edge.{Edge}
use Rattle.omega_hoa_automaton.specs.declared.header.Header.{Header}
use Rattle.omega_hoa_automaton.specs.declared.state.State.{State}
use Rattle.omega_hoa_automaton.specs.declared.tool.Tool.{Tool}
use Rattle.omega_hoa_automaton.proofs.MarkLemmas.{rising_is_one}
use Rattle.omega_lang_product.specs.Acceptance.{IsJointAcceptance}
use Rattle.omega_lang_product.specs.Pairs.{Pair, pair_number, start_pairs}
use Rattle.omega_lang_product.specs.Product.{IsJointEdge, IsPairState, joint_edges_of}
use Rattle.omega_lang_product.specs.declared.plain_edge.PlainEdge.{PlainEdge}
use Rattle.omega_lang_product.proofs.PairsOne.{pairs_one}
use Rattle.omega_lang_word_laws.specs.Products.{ProductsAreOne}

module _ (one other : Description) where
  -- the acceptance is one
  joint_one : (name name' : Option AccName) (formula formula' : AccTree) → IsJointAcceptance one other name formula → IsJointAcceptance one other name' formula'
      → (name ≡ name') × (formula ≡ formula')
  joint_one name name' formula formula' (inl buchi) (inl buchi') =
      (buchi.name_is ∙ sym buchi'.name_is, buchi.formula_is ∙ sym buchi'.formula_is)
  joint_one name name' formula formula' (inl buchi) (inr conjoined) = absurd (conjoined.others buchi.both)
  joint_one name name' formula formula' (inr conjoined) (inl buchi) = absurd (conjoined.others buchi.both)
  joint_one name name' formula formula' (inr conjoined) (inr conjoined') =
      (conjoined.name_is ∙ sym conjoined'.name_is, conjoined.formula_is ∙ sym conjoined'.formula_is)

-- what is related one by one is one, if each item is
zip_one : {A B : Type 0} (R : A → B → Type 0) → ((x : A) (y z : B) → R x y → R x z → y ≡ z) → (xs : List A) (ys zs : List B) → AllZip R xs ys → AllZip R xs zs → ys ≡ zs
zip_one R each [] [] [] first second = refl
zip_one R each [] [] (z ∷ zs) first second = absurd second
zip_one R each [] (y ∷ ys) zs first second = absurd first
zip_one R each (x ∷ xs) [] zs first second = absurd first
zip_one R each (x ∷ xs) (y ∷ ys) [] first second = absurd second
zip_one R each (x ∷ xs) (y ∷ ys) (z ∷ zs) first second =
    ap (λ v. v ∷ ys) (each x y z first.0 second.0) ∙ ap (λ vs. z ∷ vs) (zip_one R each xs ys zs first.1 second.1)

-- edges, states and the whole
marks_one : (written marks others : List ℕ) → AreMarksOf written marks → AreMarksOf written others → marks ≡ others
marks_one written marks others first second =
    rising_is_one marks others first.rising second.rising
    (λ m h. (second.same m).1 ((first.same m).0 h)) (λ m h. (first.same m).1 ((second.same m).0 h))

abbrev edge_with : Option LabelTree → List ℕ → List ℕ → Edge
edge_with label targets marks = record { label = label; targets = targets; marks = marks }

edge_one : (t : PlainEdge) (a b : Edge) → IsJointEdge t a → IsJointEdge t b → a ≡ b
edge_one t a b first second =
    ap (λ x. edge_with x a.targets a.marks) (first.label ∙ sym second.label)
    ∙ ap (λ x. edge_with b.label x a.marks) (first.targets ∙ sym second.targets)
    ∙ ap (λ x. edge_with b.label b.targets x) (marks_one t.marks a.marks b.marks first.marks second.marks)

abbrev state_with : Option LabelTree → ℕ → Option (List ℕ) → List ℕ → List Edge → State
state_with label number name marks edges = record { label = label; number = number; name = name; marks = marks; edges = edges }

state_one : (one other : Description) (pairs : List Pair) (pair : Pair) (a b : State) → IsPairState one other pairs pair a → IsPairState one other pairs pair b → a ≡ b
state_one one other pairs pair a b first second =
    ap (λ x. state_with x a.number a.name a.marks a.edges) (first.label ∙ sym second.label)
    ∙ ap (λ x. state_with b.label x a.name a.marks a.edges) (first.number ∙ sym second.number)
    ∙ ap (λ x. state_with b.label b.number x a.marks a.edges) (first.name ∙ sym second.name)
    ∙ ap (λ x. state_with b.label b.number b.name x a.edges) (first.marks ∙ sym second.marks)
    ∙ ap (λ x. state_with b.label b.number b.name b.marks x)
    (zip_one IsJointEdge edge_one (joint_edges_of one other pairs pair) a.edges b.edges first.edges second.edges)

abbrev automaton_with : Option Tool → Option (List ℕ) → ℕ → List (List ℕ) → List (List ℕ) → Option AccName → ℕ → AccTree → List (List ℕ) → List Header → List State → Description
automaton_with tool name states starts propositions acc_name sets acceptance properties unknown defined = record {
  tool = tool;
  name = name;
  states = states;
  starts = starts;
  propositions = propositions;
  acc_name = acc_name;
  sets = sets;
  acceptance = acceptance;
  properties = properties;
  unknown = unknown;
  defined = defined;
}

pub products_one : ProductsAreOne
products_one one other a b is is' =
    let same : is.pairs ≡ is'.pairs = pairs_one one other is.pairs is'.pairs is.reached is'.reached in
    let joint = joint_one one other a.acc_name b.acc_name a.acceptance b.acceptance is.accepted is'.accepted in
    let starts : a.starts ≡ b.starts =
    is.starts ∙ ap (λ (pairs : List Pair). map (λ pair. pair_number pairs pair ∷ []) (start_pairs one other)) same ∙ sym is'.starts in
    let P : List Pair → Type 0 = λ pairs. AllZip (IsPairState one other pairs) pairs b.defined in
    let defined : a.defined ≡ b.defined =
    zip_one (IsPairState one other is.pairs) (state_one one other is.pairs) is.pairs a.defined b.defined is.defined (subst P (sym same) is'.defined) in
    ap (λ x. automaton_with x a.name a.states a.starts a.propositions a.acc_name a.sets a.acceptance a.properties a.unknown a.defined) (is.tool ∙ sym is'.tool)
    ∙ ap (λ x. automaton_with b.tool x a.states a.starts a.propositions a.acc_name a.sets a.acceptance a.properties a.unknown a.defined) (is.name ∙ sym is'.name)
    ∙ ap (λ x. automaton_with b.tool b.name x a.starts a.propositions a.acc_name a.sets a.acceptance a.properties a.unknown a.defined)
    (is.states ∙ ap length same ∙ sym is'.states)
    ∙ ap (λ x. automaton_with b.tool b.name b.states x a.propositions a.acc_name a.sets a.acceptance a.properties a.unknown a.defined) starts
    ∙ ap (λ x. automaton_with b.tool b.name b.states b.starts x a.acc_name a.sets a.acceptance a.properties a.unknown a.defined) (is.propositions ∙ sym is'.propositions)
    ∙ ap (λ x. automaton_with b.tool b.name b.states b.starts b.propositions x a.sets a.acceptance a.properties a.unknown a.defined) joint.0
    ∙ ap (λ x. automaton_with b.tool b.name b.states b.starts b.propositions b.acc_name x a.acceptance a.properties a.unknown a.defined) (is.sets ∙ sym is'.sets)
    ∙ ap (λ x. automaton_with b.tool b.name b.states b.starts b.propositions b.acc_name b.sets x a.properties a.unknown a.defined) joint.1
    ∙ ap (λ x. automaton_with b.tool b.name b.states b.starts b.propositions b.acc_name b.sets b.acceptance x a.unknown a.defined) (is.properties ∙ sym is'.properties)
    ∙ ap (λ x. automaton_with b.tool b.name b.states b.starts b.propositions b.acc_name b.sets b.acceptance b.properties x a.defined) (is.unknown ∙ sym is'.unknown)
    ∙ ap (λ x. automaton_with b.tool b.name b.states b.starts b.propositions b.acc_name b.sets b.acceptance b.properties b.unknown x) defined
