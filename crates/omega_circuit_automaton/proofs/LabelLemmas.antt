-- Labels of edges, literal by literal.
use Rattle.std.proofs.Common.{◌≡◌, ◌<◌, ◌≤◌, ◌+◌, ◌&&◌, ℕ, Bool, true, false, not, List, [], ◌∷◌, ◌++◌, length, take, map, get_or, refl, sym, ap, ap₂, subst, ◌∙◌, arith}
use Rattle.std.specs.Prelude.{None, Option, Some, nat_le, nat_lt}
use Rattle.std.proofs.lemmas.Bool.{false≢true, le-ltb, lt-leb}
use Rattle.std.proofs.lemmas.List.{length-append, length-map, length-take-le, map_push, take_more}
use Rattle.omega_hoa_label.specs.Label.{LabelTree, truth}
use Rattle.omega_hoa_label.specs.Label as label
use Rattle.omega_hoa_label.specs.Raw.{RawLabelTree}
use Rattle.omega_hoa_label.specs.Raw as raw
use Rattle.omega_hoa_label.specs.Writing.{grouped, label_text, label_written}
use Rattle.omega_circuit_automaton.specs.declared.ternary.Ternary.{Ternary}
use Rattle.omega_circuit_automaton.specs.declared.ternary.Ternary.TheVariants.{False, True, Unknown}
use Rattle.omega_circuit_automaton.specs.private.Cuts.{agrees, fits}
use Rattle.omega_circuit_automaton.specs.private.Labels.{IsConjunction, IsLabelAt, conjunction_of}
use Rattle.omega_circuit_automaton.specs.private.Ternary.{known}
use Rattle.omega_circuit_automaton.proofs.Cubes.{and_last, fits_push}

-- the proposition, and its negation
proposition_label : (number : ℕ) → IsLabelAt 3 (λ letter. letter number) (raw.proposition number)
proposition_label number = record { tree = label.proposition number; is = refl; binds = omega arith; exact = λ letter. refl }

negation_label : (number : ℕ) → IsLabelAt 3 (λ letter. not (letter number)) (raw.negation (raw.proposition number))
negation_label number = record { tree = label.negation (label.proposition number); is = refl; binds = omega arith; exact = λ letter. refl }

pub true_label : (holds : (ℕ → Bool) → Bool) → ((letter : ℕ → Bool) → holds letter ≡ true) → IsLabelAt 2 holds (raw.constant true)
true_label holds all = record { tree = label.constant true; is = refl; binds = omega arith; exact = λ letter. sym (all letter) }

looser : (rank less : ℕ) (holds : (ℕ → Bool) → Bool) (written : RawLabelTree) → less ≤ rank → IsLabelAt rank holds written → IsLabelAt less holds written
looser rank less holds written low l = record { tree = l.tree; is = l.is; binds = omega (arith, l.binds); exact = l.exact }

same_label : (rank : ℕ) (one other : (ℕ → Bool) → Bool) (written : RawLabelTree) → ((letter : ℕ → Bool) → one letter ≡ other letter) → IsLabelAt rank one written → IsLabelAt rank other written
same_label rank one other written same l = record { tree = l.tree; is = l.is; binds = l.binds; exact = λ letter. l.exact letter ∙ same letter }

pub same_conjunction : (one other : (ℕ → Bool) → Bool) (label : Option RawLabelTree) → ((letter : ℕ → Bool) → one letter ≡ other letter) → IsConjunction one label → IsConjunction other label
same_conjunction one other None same is = record { some = tt; none = λ letter. sym (same letter) ∙ is.none letter }
same_conjunction one other (Some written) same is = record { some = same_label 2 one other written same is.some; none = tt }

plain : (b : Bool) (written : RawLabelTree) → b ≡ false → grouped b written ≡ written
plain true written e = absurd (false≢true (sym e))
plain false written e = refl

both_label : (one other : (ℕ → Bool) → Bool) (left right : RawLabelTree) → IsLabelAt 2 one left → IsLabelAt 3 other right
    → IsLabelAt 2 (λ letter. one letter && other letter) (raw.conjunction left right)
both_label one other left right l r = record {
  tree = label.conjunction l.tree r.tree;
  is = ap₂ raw.conjunction
      (l.is ∙ sym (plain (nat_lt (label_text l.tree).rank 2) (label_written l.tree) (le-ltb (label_text l.tree).rank 2 l.binds)))
      (r.is ∙ sym (plain (nat_le (label_text r.tree).rank 2) (label_written r.tree) (lt-leb (label_text r.tree).rank 2 (omega (arith, r.binds)))));
  binds = omega arith;
  exact = λ letter. ap₂ (λ a b. a && b) (l.exact letter) (r.exact letter);
}

-- one label more
conjunction_more : (one other : (ℕ → Bool) → Bool) (label : Option RawLabelTree) (more : RawLabelTree) → IsConjunction one label → IsLabelAt 3 other more
    → IsConjunction (λ letter. one letter && other letter) (Some (conjunction_of label more))
conjunction_more one other None more is l = record {
  some = same_label 2 other (λ letter. one letter && other letter) more (λ letter. ap (λ a. a && other letter) (sym (is.none letter))) (looser 3 2 other more (omega arith) l);
  none = tt;
}
conjunction_more one other (Some written) more is l = record { some = both_label one other written more is.some l; none = tt }

-- a literal more, of each value
pub more_true : (holds : (ℕ → Bool) → Bool) (label both : Option RawLabelTree) (more : RawLabelTree) (number : ℕ) → IsConjunction holds label → more ≡ raw.proposition number
    → both ≡ Some (conjunction_of label more) → IsConjunction (λ letter. holds letter && agrees True (letter number)) both
more_true holds label both more number is e same =
    subst (IsConjunction (λ letter. holds letter && letter number)) (sym same)
    (conjunction_more holds (λ letter. letter number) label more is (subst (IsLabelAt 3 (λ letter. letter number)) (sym e) (proposition_label number)))

pub more_false : (holds : (ℕ → Bool) → Bool) (label both : Option RawLabelTree) (more : RawLabelTree) (number : ℕ) → IsConjunction holds label → more ≡ raw.negation (raw.proposition number)
    → both ≡ Some (conjunction_of label more) → IsConjunction (λ letter. holds letter && agrees False (letter number)) both
more_false holds label both more number is e same =
    subst (IsConjunction (λ letter. holds letter && not (letter number))) (sym same)
    (conjunction_more holds (λ letter. not (letter number)) label more is (subst (IsLabelAt 3 (λ letter. not (letter number))) (sym e) (negation_label number)))

pub more_unknown : (holds : (ℕ → Bool) → Bool) (label : Option RawLabelTree) (number : ℕ) → IsConjunction holds label
    → IsConjunction (λ letter. holds letter && agrees Unknown (letter number)) label
more_unknown holds label number is = same_conjunction holds (λ letter. holds letter && true) label (λ letter. sym (and_last (holds letter))) is

-- the literals of a longer front
pub front_more : (cube : List Ternary) (k : ℕ) (d : Ternary) (label : Option RawLabelTree) → k < length cube
    → IsConjunction (λ letter. fits (take k cube) letter && agrees (get_or cube k d) (letter k)) label → IsConjunction (λ letter. fits (take (k + 1) cube) letter) label
front_more cube k d label low conjunction =
    let value : Ternary = get_or cube k d in
    let long : length (take k cube) ≡ k = length-take-le k cube (omega (arith, low)) in
    same_conjunction (λ letter. fits (take k cube) letter && agrees value (letter k)) (λ letter. fits (take (k + 1) cube) letter) label
    (λ letter. ap (λ n. fits (take k cube) letter && agrees value (letter n)) (sym long)
    ∙ sym (fits_push (take k cube) value letter)
    ∙ ap (λ (xs : List Ternary). fits xs letter) (sym (take_more cube k d low)))
    conjunction

-- and of a longer front of outputs
pub outputs_more : (cube : List Ternary) (outputs : List Bool) (k : ℕ) (d : Bool) (label : Option RawLabelTree) → k < length outputs
    → IsConjunction (λ letter. fits (cube ++ map known (take k outputs)) letter && agrees (known (get_or outputs k d)) (letter (length cube + k))) label
    → IsConjunction (λ letter. fits (cube ++ map known (take (k + 1) outputs)) letter) label
outputs_more cube outputs k d label low conjunction =
    let value : Bool = get_or outputs k d in
    let front : List Ternary = map known (take k outputs) in
    let long : length (cube ++ front) ≡ length cube + k = length_append_map in
    same_conjunction (λ letter. fits (cube ++ front) letter && agrees (known value) (letter (length cube + k))) (λ letter. fits (cube ++ map known (take (k + 1) outputs)) letter) label
    (λ letter. ap (λ n. fits (cube ++ front) letter && agrees (known value) (letter n)) (sym long)
    ∙ sym (fits_push (cube ++ front) (known value) letter)
    ∙ ap (λ (xs : List Ternary). fits xs letter) (grouped_more cube front (known value)
    ∙ ap (λ (xs : List Ternary). cube ++ xs) (sym (map_push known (take k outputs) value)
    ∙ ap (map known) (sym (take_more outputs k d low)))))
    conjunction
  where
    grouped_more : (xs ys : List Ternary) (v : Ternary) → (xs ++ ys) ++ v ∷ [] ≡ xs ++ (ys ++ v ∷ [])
    grouped_more [] ys v = refl
    grouped_more (x ∷ xs) ys v = ap (λ (zs : List Ternary). x ∷ zs) (grouped_more xs ys v)

    length_append_map : length (cube ++ map known (take k outputs)) ≡ length cube + k
    length_append_map =
        let e = length-append cube (map known (take k outputs)) in
        let m = length-map (take k outputs) known in
        let t = length-take-le k outputs (omega (arith, low)) in
        omega (arith, e, m, t)
