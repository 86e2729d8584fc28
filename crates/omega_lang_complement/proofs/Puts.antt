-- The nodes of the label of the missing letters.
use Rattle.std.proofs.Common.{◌≡◌, ℕ, ◌<◌, ◌/◌, true, List, [], ◌∷◌, ◌++◌, append_assoc, get_or, length, take, drop, ap, arith, refl, ◌∙◌}
use Rattle.omega_hoa_label.specs.Label.{LabelTree, constant, disjunction, negation}
use Rattle.omega_hoa_label.specs.Postfix.{postfix}
use Rattle.omega_hoa_label.specs.Shape.{FitsALabel}
use Rattle.omega_hoa_label.specs.declared.label.LabelNode.{LabelNode}
use Rattle.omega_hoa_label.specs.declared.label.LabelNode.TheVariants.{Constant, Not, Or}
use Rattle.omega_text.specs.declared.refusal.Refusal.{Refusal}
use Rattle.omega_lang_complement.specs.Judged.{HasLargeRest}
use Rattle.omega_lang_complement.specs.Letters.{IsRestLabel}
use Rattle.omega_lang_complement.specs.private.Rests.{IsAnyPut, IsRestPut}
use Rattle.omega_lang_complement.proofs.Judged.{any_of_halves, any_of_one}
use Rattle.omega_hoa_edges.specs.Fitting.{IsLarge, IsUnfit}
use Rattle.omega_hoa_edges.proofs.Refusals.{large_weaker}

-- the nodes of one label
pub put_one : (labels : List LabelTree) (label : LabelTree) (old new : List LabelNode) → length labels ≡ 1
    → label ≡ get_or labels 0 label → new ≡ old ++ postfix label → IsAnyPut labels old new
put_one labels label old new alone is put = (label, any_of_one labels label alone is, put)

-- the nodes of two halves
pub put_halves : (labels : List LabelTree) (middle : ℕ) (old between more new : List LabelNode) → middle ≡ length labels / 2
    → IsAnyPut (take middle labels) old between → IsAnyPut (drop middle labels) between more → new ≡ more ++ Or ∷ [] → IsAnyPut labels old new
put_halves labels middle old between more new half left right put = (
  disjunction left.0 right.0,
  any_of_halves labels middle left.0 right.0 half left.1 right.1,
  put
      ∙ (ap (λ nodes. nodes ++ Or ∷ []) (right.2 ∙ ap (λ nodes. nodes ++ postfix right.0) left.2)
      ∙ (ap (λ nodes. nodes ++ Or ∷ []) (append_assoc old (postfix left.0) (postfix right.0))
      ∙ (append_assoc old (postfix left.0 ++ postfix right.0) (Or ∷ [])
      ∙ ap (λ nodes. old ++ nodes) (append_assoc (postfix left.0) (postfix right.0) (Or ∷ []))))),
)

-- without labels `t` is put
pub put_none : (labels : List LabelTree) (old new : List LabelNode) → length labels ≡ 0 → new ≡ old ++ Constant true ∷ []
    → IsRestPut labels old new
put_none [] old new none put = (constant true, refl, put)
put_none (label ∷ labels) old new none put = absurd (omega (arith, none))

-- else the negation of them all
pub put_negated : (labels : List LabelTree) (old more new : List LabelNode) → 0 < length labels → IsAnyPut labels old more → new ≡ more ++ Not ∷ []
    → IsRestPut labels old new
put_negated [] old more new some any put = absurd (omega (arith, some))
put_negated (label ∷ labels) old more new some any put = (
  negation any.0,
  (any.0, any.1, refl),
  put ∙ (ap (λ nodes. nodes ++ Not ∷ []) any.2 ∙ append_assoc old (postfix any.0) (Not ∷ [])),
)

-- the label whose nodes are put alone
pub rest_nodes : (labels : List LabelTree) (old new : List LabelNode) → old ≡ [] → (put : IsRestPut labels old new) → new ≡ postfix put.0
rest_nodes labels old new none put = put.2 ∙ ap (λ nodes. nodes ++ postfix put.0) none

-- and where it is too deep or too large
pub rest_unfit : (labels : List LabelTree) (rest : LabelTree) → IsRestLabel labels rest → (refusal : Refusal) → IsUnfit rest refusal
    → IsLarge (HasLargeRest labels) refusal
rest_unfit labels rest is refusal unfit =
    large_weaker (FitsALabel rest → ⊥) (HasLargeRest labels) (λ large. (rest, is, large)) refusal unfit
