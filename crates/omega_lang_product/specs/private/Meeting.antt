-- Edges of two automata that are taken together, and why the two may be refused.
use Rattle.std.specs.Prelude.{◌≡◌, ◌≢◌, ◌<◌, ◌^◌, ℕ, false, List, Contains, Some, length, slice_get}
use Rattle.omega_text.specs.declared.refusal.task.TaskFault.{TaskFault}
use Rattle.omega_text.specs.declared.refusal.task.TaskFault.TheVariants.{BadSolution, Budget, Controllable}
use Rattle.omega_text.specs.declared.refusal.task.TaskFault.TheVariants.{NotDeterministic, NotParity}
use Rattle.omega_text.specs.declared.refusal.task.TaskFault.TheVariants.{TooLarge, TooManyPropositions}
use Rattle.omega_text.specs.declared.refusal.task.TaskFault.TheVariants.{TooWide, UniversalBranch}
use Rattle.omega_text.specs.declared.refusal.task.TaskFault.TheVariants.{Unjudged, UnknownNode}
use Rattle.omega_hoa_edges.specs.Labels.{valuation_label}
use Rattle.omega_hoa_label.specs.Label.{conjunction}
use Rattle.omega_hoa_label.specs.Renumbering.{relabelled}
use Rattle.omega_hoa_satisfiable.specs.Undecided.{IsHardLabel}
use Rattle.omega_lang_product.specs.JointEdges.{numbered_partners}
use Rattle.omega_lang_product.specs.Pairs.{can_meet, partners}
use Rattle.omega_lang_product.specs.declared.row.Row.{Row}
use Rattle.omega_lang_product.specs.declared.row.RowEdge.{RowEdge}
use Rattle.omega_lang_product.specs.declared.plain_edge.PlainEdge.{PlainEdge}
use Rattle.omega_lang_product.specs.private.Adding.{numbered_edge, numbered_in}
use Rattle.omega_hoa_label.specs.Shape.{FitsALabel}

-- `TooManyPropositions` if it may be undecided whether they can be taken together, `TooLarge` if their labels are
-- together too deep or too large to be judged
abbrev pub IsUnmet : PlainEdge → PlainEdge → TaskFault → Type 0
IsUnmet plain_edge other NotParity = ⊥
IsUnmet plain_edge other UniversalBranch = ⊥
IsUnmet plain_edge other TooManyPropositions = IsHardLabel (conjunction plain_edge.label other.label)
IsUnmet plain_edge other TooWide = ⊥
IsUnmet plain_edge other Budget = ⊥
IsUnmet plain_edge other BadSolution = ⊥
IsUnmet plain_edge other UnknownNode = ⊥
IsUnmet plain_edge other Controllable = ⊥
IsUnmet plain_edge other Unjudged = ⊥
IsUnmet plain_edge other TooLarge = FitsALabel (conjunction plain_edge.label other.label) → ⊥
IsUnmet plain_edge other (NotDeterministic state) = ⊥

-- this fault has an edge with some edge of a list
pub record HasUnmetPartner (plain_edge : PlainEdge) (others : List PlainEdge)
    (fault : TaskFault) : Type 0 where
  pub other : PlainEdge
  pub listed : Contains others other
  pub unmet : IsUnmet plain_edge other fault

-- this fault has some edge of one list with some edge of the other
pub record HasUnmet (plain_edges others : List PlainEdge) (fault : TaskFault) : Type 0 where
  pub plain_edge : PlainEdge
  pub listed : Contains plain_edges plain_edge
  pub partner : HasUnmetPartner plain_edge others fault

-- there is an edge for each valuation of propositions that have these places, with its label
pub record AreByValuation (places : List ℕ) (plain_edges : List PlainEdge) : Type 0 where
  pub many : length plain_edges ≡ 2 ^ length places
  pub labels : (index : ℕ) (plain_edge : PlainEdge) → slice_get plain_edges index ≡ Some plain_edge
      → plain_edge.label ≡ relabelled places (valuation_label index (length places))

-- of these edges only the one with this index can be taken together with an edge
pub record MeetsAlone (plain_edge : PlainEdge) (index : ℕ) (others : List PlainEdge) : Type 0 where
  pub there : index < length others
  pub apart : (place : ℕ) (other : PlainEdge) → slice_get others place ≡ Some other → index ≢ place
      → can_meet plain_edge other ≡ false

-- of the edges of two states only those of one index can be taken together
abbrev pub MeetByIndex : List PlainEdge → List PlainEdge → Type 0
MeetByIndex plain_edges others = (index : ℕ) (plain_edge : PlainEdge)
    → slice_get plain_edges index ≡ Some plain_edge → MeetsAlone plain_edge index others

-- a row has all edges of another that can be taken together with an edge, and none that the other has not
pub record HasPartners (edge : RowEdge) (all row : Row) : Type 0 where
  pub plain_edges : partners edge.edge.now row.edges.now ≡ partners edge.edge.now all.edges.now
  pub numbered : numbered_partners (numbered_edge edge) (numbered_in row)
      ≡ numbered_partners (numbered_edge edge) (numbered_in all)
  pub listed : (other : PlainEdge) → Contains row.edges.now other → Contains all.edges.now other
