-- Edges that meet the demands of a state: beside what meets those before, one way to meet each.
use Rattle.std.specs.Prelude.{◌≡◌, ℕ, true, List, [], ◌∷◌, ◌++◌, Contains, IsPermutation}
use Rattle.omega_ltl_shapes.specs.Covers.{Covers}
use Rattle.omega_ltl_shapes.specs.Graphs.{IsPostponed, IsSetOf, IsStrong}
use Rattle.omega_ltl_shapes.specs.Shapes.{shape_at}
use Rattle.omega_ltl_shapes.specs.Terms.{HasOneMore}
use Rattle.omega_ltl_shapes.specs.declared.combination.Combination.{Combination}
use Rattle.omega_ltl_shapes.specs.declared.combination.Combination.TheVariants.{Same}
use Rattle.omega_ltl_shapes.specs.declared.shape.Shape.{Shape}
use Rattle.omega_ltl_shapes.specs.declared.shape.Shape.TheVariants.{Fix}
use Rattle.omega_ltl_shapes.specs.declared.term.Term.{Term}
use Rattle.omega_ltl_terms.specs.Adding.{HasManyTerms}
use Rattle.omega_ltl_terms.specs.Closing.{IsClosedSet}
use Rattle.omega_ltl_terms.specs.Ways.{IsBeside, IsWay, nothing}

-- a term meets a demand: it covers it, and if it is strong, its goal is covered or it is postponed
pub record Meets (shapes : List Shape) (strongs : List ℕ) (d : ℕ) (term : Term) : Type 0 where
  pub covers : Covers shapes term.cube term.next d
  pub postponed : IsStrong shapes d → IsPostponed shapes strongs term.cube term.next term.late d

-- what an edge fixes, and that a demand holds at the next index, late in a set
pub record IsWaiting (edge : Term) (d set : ℕ) (waiting : Term) : Type 0 where
  pub cube : waiting.cube ≡ edge.cube
  pub next : waiting.next ≡ edge.next ++ d ∷ []
  pub late : HasOneMore edge.late set waiting.late

-- an edge meets a demand beside what another edge fixes: that stays if it meets the demand. Else one way is taken, or,
-- of a strong demand, the goal is met, or the demand waits
pub data IsMetBeside (shapes : List Shape) (strongs : List ℕ) (edge : Term) (d : ℕ) (met : Term)
    : Type 0 where
  met_stays : Meets shapes strongs d edge → met ≡ edge → IsMetBeside shapes strongs edge d met
  met_weak : (IsStrong shapes d → ⊥) → IsBeside shapes edge (Same d) met
      → IsMetBeside shapes strongs edge d met
  met_goal : (goal keep : Combination) → shape_at shapes d ≡ Fix goal keep true
      → IsBeside shapes edge goal met → IsMetBeside shapes strongs edge d met
  met_waits : (goal keep : Combination) (set : ℕ) (waiting : Term) → shape_at shapes d ≡ Fix goal keep true
      → IsSetOf strongs set d → IsWaiting edge d set waiting → IsBeside shapes waiting keep met
      → IsMetBeside shapes strongs edge d met

-- an edge meets demands, one after the other
pub data AreMet (shapes : List Shape) (strongs : List ℕ) : List ℕ → Term → Type 0 where
  none_met : AreMet shapes strongs [] nothing
  one_more_met : (demands : List ℕ) (d : ℕ) (edge met : Term) → AreMet shapes strongs demands edge
      → IsMetBeside shapes strongs edge d met → AreMet shapes strongs (demands ++ d ∷ []) met

-- a state leads to another: an edge meets its demands in some order, and the demands on the next index are closed
pub record LeadsTo (shapes : List Shape) (strongs state next : List ℕ) : Type 0 where
  pub order : List ℕ
  pub same : IsPermutation state order
  pub edge : Term
  pub met : AreMet shapes strongs order edge
  pub closed : IsClosedSet shapes edge.next next

-- each edge of a list leads from a state to one that it leads to
abbrev pub LeadOn : List Shape → (strongs state : List ℕ) → List Term → Type 0
LeadOn shapes strongs state edges =
    (edge : Term) → Contains edges edge → LeadsTo shapes strongs state edge.next

-- a demand has over the limit of terms: ways to meet it, none of them within another
abbrev pub HasManyWays : List Shape → ℕ → Type 0
HasManyWays shapes d = HasManyTerms (IsWay shapes d)

-- a state has: edges that meet some of its demands, none of them within another
pub record HasManyEdgeTerms (shapes : List Shape) (strongs state : List ℕ) : Type 0 where
  pub demands : List ℕ
  pub of_state : (d : ℕ) → Contains demands d → Contains state d
  pub terms : HasManyTerms (AreMet shapes strongs demands)

-- a demand of a state is strong, and has no set
pub record LacksSet (shapes : List Shape) (strongs : List ℕ) (d : ℕ) : Type 0 where
  pub strong : IsStrong shapes d
  pub none : (set : ℕ) → IsSetOf strongs set d → ⊥

-- why the edges of a state cannot be made
pub data IsStateTooLarge (shapes : List Shape) (strongs state : List ℕ) : Type 0 where
  many_edge_terms : HasManyEdgeTerms shapes strongs state → IsStateTooLarge shapes strongs state
  no_set : (d : ℕ) → Contains state d → LacksSet shapes strongs d → IsStateTooLarge shapes strongs state
