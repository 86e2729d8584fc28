-- Changes of the last specification.
use Rattle.std.proofs.Common.{◌≡◌, ℕ, suc, ◌<◌, Some, List, [], ◌∷◌, ◌++◌, length, length-append, refl, ap, sym, ◌∙◌, subst, arith}
use Rattle.omega_game_values.specs.Building.{with_last, with_name}
use Rattle.omega_game_values.specs.declared.node_spec.NodeSpec.{NodeSpec}
use Rattle.omega_game_values.specs.declared.player.Player.{Player}
use Rattle.omega_pg_lenient.specs.private.Automaton.{LenientState, after_name, dead_end}
use Rattle.omega_pg_lenient.specs.declared.stage.LenientStage.{LenientStage}
use Rattle.omega_pg_lenient.specs.declared.stage.LenientStage.TheVariants.{Named, Owner}

-- a change keeps how many there are
pub length_with_last : (change : NodeSpec → NodeSpec) (specs : List NodeSpec) → length (with_last change specs) ≡ length specs
length_with_last change [] = refl
length_with_last change (spec ∷ []) = refl
length_with_last change (spec ∷ next ∷ specs) = ap suc (length_with_last change (next ∷ specs))

-- the last one is the one that was pushed
pub with_last_push : (change : NodeSpec → NodeSpec) (specs : List NodeSpec) (spec : NodeSpec)
    → with_last change (specs ++ spec ∷ []) ≡ specs ++ change spec ∷ []
with_last_push change [] spec = refl
with_last_push change (one ∷ []) spec = refl
with_last_push change (one ∷ next ∷ specs) spec = ap (λ list. one ∷ list) (with_last_push change (next ∷ specs) spec)

-- a dead end that was added and named
pub dead_end_named : (state : LenientState) (stage : LenientStage) (specs added named : List NodeSpec) (id priority : ℕ) (owner : Player) (bytes : List ℕ)
    → state ≡ record { stage = stage; specs = specs } → stage ≡ Owner id priority owner
    → added ≡ specs ++ dead_end id owner ∷ [] → named ≡ with_last (with_name bytes) added
    → (after_name state.stage state bytes ≡ Some (record { stage = Named; specs = named })) × (0 < length named)
dead_end_named state stage specs added named id priority owner bytes is_state is_stage is_added is_named =
    let there : state ≡ record { stage = Owner id priority owner; specs = specs } = is_state ∙ ap (λ one. record { stage = one; specs = specs }) is_stage in
    let all : named ≡ with_last (with_name bytes) (specs ++ dead_end id owner ∷ []) = is_named ∙ ap (with_last (with_name bytes)) is_added in (
      subst (λ (one : LenientState). after_name one.stage one bytes ≡ Some (record { stage = Named; specs = named })) (sym there)
          (ap (λ list. Some (record { stage = Named; specs = list })) (sym all)),
      omega (arith, ap length is_named, length_with_last (with_name bytes) added, ap length is_added, length-append specs (dead_end id owner ∷ [])),
    )
