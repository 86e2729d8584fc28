-- Edges of one state that are joined.
use Rattle.std.specs.Prelude.{◌≡◌, ◌⊎◌, ◌<◌, ◌+◌, ℕ, List, ◌++◌, [], ◌∷◌, length, slice_index_or, sum_by}
use Rattle.std.specs.Prelude.{Contains}
use Rattle.omega_ltl_shapes.specs.declared.cube.Cube.{Cube}
use Rattle.omega_ltl_translation.specs.declared.graph.GraphEdge.{GraphEdge}
use Rattle.omega_ltl_translation.specs.declared.joining.JoinedEdge.{JoinedEdge}
use Rattle.omega_ltl_translation.specs.private.Labels.{AreFew, most_cubes}

-- an edge leads where joined ones lead, and is late in the same sets
pub record IsLike (edge : GraphEdge) (joined : JoinedEdge) : Type 0 where
  pub target : joined.target ≡ edge.target
  pub late : joined.late ≡ edge.late

-- an edge is one of those that are joined to another
pub record IsJoinedTo (edge : GraphEdge) (joined : JoinedEdge) : Type 0 where
  pub cube : Contains joined.cubes.items edge.cube
  pub like : IsLike edge joined

-- each joined edge has cubes, and not too many for a label
abbrev pub AreFilled : List JoinedEdge → Type 0
AreFilled joined = (one : JoinedEdge) → Contains joined one → AreFew one.cubes.items

-- how many edges are joined in all
abbrev pub joined_count : List JoinedEdge → ℕ
joined_count joined = sum_by (λ one. length one.cubes.items) joined

-- joined edges are some edges, and no others
pub record AreJoined (edges : List GraphEdge) (joined : List JoinedEdge) : Type 0 where
  pub each : (edge : GraphEdge) → Contains edges edge
      → (one : JoinedEdge) × Contains joined one × IsJoinedTo edge one
  pub only : (one : JoinedEdge) (cube : Cube) → Contains joined one → Contains one.cubes.items cube
      → (edge : GraphEdge) × Contains edges edge × (edge.cube ≡ cube) × IsLike edge one
  pub filled : AreFilled joined
  pub count : joined_count joined ≡ length edges

-- joined edges with the cube of an edge more
pub record HasCubeMore (cube : Cube) (old new : JoinedEdge) : Type 0 where
  pub cubes : new.cubes.items ≡ old.cubes.items ++ cube ∷ []
  pub target : new.target ≡ old.target
  pub late : new.late ≡ old.late

-- an edge is joined to one of a list, or put behind it: what was joined before stays so
pub record AddsJoined (edge : GraphEdge) (old new : List JoinedEdge) : Type 0 where
  pub given : (one : JoinedEdge) × Contains new one × IsJoinedTo edge one
  pub keeps : (before : GraphEdge) (one : JoinedEdge) → Contains old one → IsJoinedTo before one
      → (now : JoinedEdge) × Contains new now × IsJoinedTo before now
  pub only : (one : JoinedEdge) (cube : Cube) → Contains new one → Contains one.cubes.items cube
      → ((edge.cube ≡ cube) × IsLike edge one)
      ⊎ ((before : JoinedEdge) × Contains old before × Contains before.cubes.items cube
      × ((old_edge : GraphEdge) → IsLike old_edge before → IsLike old_edge one))
  pub filled : AreFilled old → AreFilled new
  pub count : joined_count new ≡ joined_count old + 1

-- an edge may be joined to another: they are alike, and there is room
pub record IsJoinable (edge : GraphEdge) (joined : JoinedEdge) : Type 0 where
  pub like : IsLike edge joined
  pub room : length joined.cubes.items < most_cubes

-- at a place of a list, if it is not its end, an edge may be joined
abbrev pub IsPlaceToJoin : GraphEdge → List JoinedEdge → ℕ → Type 0
IsPlaceToJoin edge joined place =
    place < length joined → (d : JoinedEdge) → IsJoinable edge (slice_index_or joined place d)
