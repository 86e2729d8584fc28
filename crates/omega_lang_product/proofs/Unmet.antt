-- Edges that are not judged are a reason to refuse the product.
use Rattle.std.proofs.Common.{◌≡◌, ℕ, ◌<◌, ◌⊎◌, inl, inr, List, length, Contains, get_or, sym, subst}
use Rattle.omega_text.specs.Cases.{never, or_memory, or_task}
use Rattle.omega_text.specs.declared.refusal.Refusal.{Refusal}
use Rattle.omega_text.specs.declared.refusal.task.TaskFault.{TaskFault}
use Rattle.omega_text.specs.declared.refusal.task.TaskFault.TheVariants.{BadSolution, Budget, Controllable, NotDeterministic, NotParity, TooLarge, TooManyPropositions, TooWide, UniversalBranch, Unjudged, UnknownNode}
use Rattle.omega_hoa_label.specs.Label.{LabelTree, conjunction}
use Rattle.omega_hoa_label.specs.Shape.{FitsALabel}
use Rattle.omega_hoa_satisfiable.specs.Undecided.{IsHardLabel}
use Rattle.omega_hoa_automaton.specs.Automaton.{Description}
use Rattle.omega_hoa_edges.specs.Fitting.{IsUnjudged}
use Rattle.omega_lang_product.specs.Pairs.{Pair, first_leaving, second_leaving}
use Rattle.omega_lang_product.specs.Refusing.{AreMet, HasUnfitAt, IsGraphTooLarge, IsReachable, unfit_label, unfit_meeting}
use Rattle.omega_lang_product.specs.private.Faults.{IsGraphFault}
use Rattle.omega_lang_product.specs.private.Meeting.{HasUnmet, HasUnmetPartner, IsUnmet}
use Rattle.omega_lang_product.specs.declared.plain_edge.PlainEdge.{PlainEdge}
use Rattle.omega_hoa_edges.proofs.Refusals.{task_weaker}

-- an element of a list by its index
pub listed_at : {X : Type 0} (xs : List X) (i : ℕ) (x : X) → i < length xs → x ≡ get_or xs i x → Contains xs x
listed_at xs i x below here = (i, below, sym here)

-- an edge of the second
pub partner_unmet : (plain_edge : PlainEdge) (others : List PlainEdge) (other : PlainEdge) → Contains others other → (refusal : Refusal)
    → or_task (IsUnmet plain_edge other) (or_memory never) refusal → or_task (HasUnmetPartner plain_edge others) (or_memory never) refusal
partner_unmet plain_edge others other listed refusal h =
    task_weaker (IsUnmet plain_edge other) (HasUnmetPartner plain_edge others) (λ fault unmet. record { other = other; listed = listed; unmet = unmet }) refusal h

-- an edge of the first
pub edge_unmet : (plain_edges others : List PlainEdge) (plain_edge : PlainEdge) → Contains plain_edges plain_edge → (refusal : Refusal)
    → or_task (HasUnmetPartner plain_edge others) (or_memory never) refusal → or_task (HasUnmet plain_edges others) (or_memory never) refusal
edge_unmet plain_edges others plain_edge listed refusal h =
    task_weaker (HasUnmetPartner plain_edge others) (HasUnmet plain_edges others)
    (λ fault partner. record { plain_edge = plain_edge; listed = listed; partner = partner }) refusal h

-- edges that leave a pair which is reached
module _ (one other : Description) (pair : Pair) (reachable : IsReachable one other pair) where
  met : (fault : TaskFault) (unmet : HasUnmet (first_leaving one other pair) (second_leaving one other pair) fault)
      → AreMet one other unmet.plain_edge unmet.partner.other
  met fault unmet = record { pair = pair; reachable = reachable; first = unmet.listed; second = unmet.partner.listed }

  join_fault : (fault : TaskFault) → HasUnmet (first_leaving one other pair) (second_leaving one other pair) fault → IsGraphFault one other fault
  join_fault NotParity unmet = unmet.partner.unmet
  join_fault UniversalBranch unmet = unmet.partner.unmet
  join_fault TooManyPropositions unmet =
      record { plain_edge = unmet.plain_edge; partner = unmet.partner.other; met = met TooManyPropositions unmet; hard = unmet.partner.unmet }
  join_fault TooWide unmet = unmet.partner.unmet
  join_fault Budget unmet = unmet.partner.unmet
  join_fault BadSolution unmet = unmet.partner.unmet
  join_fault UnknownNode unmet = unmet.partner.unmet
  join_fault Controllable unmet = unmet.partner.unmet
  join_fault Unjudged unmet = unmet.partner.unmet
  join_fault TooLarge unmet =
      unfit_meeting (record { plain_edge = unmet.plain_edge; partner = unmet.partner.other; met = met TooLarge unmet; unfit = unmet.partner.unmet })
  join_fault (NotDeterministic state) unmet = unmet.partner.unmet

  pub join_refused : (refusal : Refusal) → or_task (HasUnmet (first_leaving one other pair) (second_leaving one other pair)) (or_memory never) refusal
      → or_task (IsGraphFault one other) (or_memory never) refusal
  join_refused refusal h =
      task_weaker (HasUnmet (first_leaving one other pair) (second_leaving one other pair)) (IsGraphFault one other) join_fault refusal h

  -- an edge that leaves a state of the pair and has a label that is too deep or too large
  pub unfit_pair : HasUnfitAt one other pair → IsGraphTooLarge one other
  unfit_pair edge = unfit_label (record { pair = pair; reachable = reachable; edge = edge })

-- two edges whose labels together are not judged
pub unjudged_unmet : (plain_edge other : PlainEdge) (label : LabelTree) → label ≡ conjunction plain_edge.label other.label → (refusal : Refusal)
    → IsUnjudged label refusal → or_task (IsUnmet plain_edge other) (or_memory never) refusal
unjudged_unmet plain_edge other label is refusal h =
    task_weaker (λ fault. ((fault ≡ TooLarge) × (FitsALabel label → ⊥)) ⊎ ((fault ≡ TooManyPropositions) × IsHardLabel label))
    (IsUnmet plain_edge other) go refusal h
  where
    go : (fault : TaskFault) → ((fault ≡ TooLarge) × (FitsALabel label → ⊥)) ⊎ ((fault ≡ TooManyPropositions) × IsHardLabel label)
        → IsUnmet plain_edge other fault
    go fault (inl large) =
        subst (IsUnmet plain_edge other) (sym large.0) (subst (λ (l : LabelTree). FitsALabel l → ⊥) is large.1)
    go fault (inr hard) = subst (IsUnmet plain_edge other) (sym hard.0) (subst IsHardLabel is hard.1)
