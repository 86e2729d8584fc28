-- `forward_part`: the game of all nodes to which a list of listed edges leads from the place.
use Rattle.std.proofs.Common.{◌≡◌, None, ℕ, ◌<◌, [], ◌∷◌, ◌++◌, List, Bool, false, IsTrue, ◌↔◌, length, map, filter, sym, ap, ◌∙◌, subst, arith}
use Rattle.std.proofs.lemmas.List.{get_or_default}
use Rattle.std.proofs.lemmas.Result.{IfOk-weaker, IfErr-weaker}
use Rattle.std.specs.List.{range_with_len}
use Rattle.omega_text.specs.declared.refusal.Refusal.TheVariants.{Memory}
use Rattle.omega_game_values.specs.declared.node_spec.NodeSpec.{NodeSpec}
use Rattle.omega_game_values.specs.Building.{specified, IsGameOf, IsBuildRefusal, game_fault_of}
use Rattle.omega_game_reaching.specs.Reaching.{mark_at, AreReached}
use Rattle.omega_game_values.specs.Paths.{Reaches}
use Rattle.omega_game_reaching.specs.Part.{IsPart}
use Rattle.omega_game_values.specs.Game.{Node, IsGame, IsWithinLimits, node_at}
use Rattle.omega_game_values.proofs.building.Refusals.{memory_alone}
use Rattle.omega_game_reaching.proofs.PartGames.{kept_specs, some_kept, kept_faultless, part_from_specs}
use Rattle.omega_game_reaching.proofs.Marking.{reached_by_listed, priorities_low}
use Rattle.omega_game_reaching.proofs.Specifying.{specified_passing, specified_failing}
use Rattle.omega_game_reaching.proofs.parts.forward_part.Goals as goal
use Rattle.omega_game_reaching.proofs.parts.forward_part.Goals.{then-index+in_ok-specify, else-index}

pub loop-kept-preserved : goal.loop-kept-preserved
loop-kept-preserved c =
    let nodes : List Node = c.args.game.now in
    let marks : List Bool = c.in_ok-marks.marks.items in
    let place : ℕ = c.loop-kept.kept in
    let below : place < length marks = omega (arith, c.loop-kept-test.true, c.in_ok-marks.ensures.count, c.len-count.ensures.count) in
    let read : mark_at marks place ≡ c.index.result.now = get_or_default marks place false c.index.result.now below ∙ sym c.index.ensures in
    elim c.if-index.branch [
      | then-index+in_ok-specify w ↦
          w.builder-is ∙ w.in_ok-specify.ensures.ok
          ∙ ap (λ (specs : List NodeSpec). specs ++ specified nodes (node_at nodes place) ∷ []) c.loop-kept.invariant
          ∙ sym (specified_passing (mark_at marks) (λ v. specified nodes (node_at nodes v)) place (read ∙ w.if-index.true))
      | else-index w ↦
          w.builder-is ∙ c.loop-kept.invariant
          ∙ sym (specified_failing (mark_at marks) (λ v. specified nodes (node_at nodes v)) place (read ∙ w.if-index.false))
    ]

-- the specifications at the end are those of all marked nodes
all_kept : (nodes : List Node) (v k : ℕ) (marks : List Bool) (specs : List NodeSpec) (game : IsGame nodes) (node : v < length nodes)
    (are : (u : ℕ) → IsTrue (mark_at marks u) ↔ Reaches nodes v u)
    → specs ≡ map (λ u. specified nodes (node_at nodes u)) (filter (mark_at marks) (range_with_len 0 k)) → k ≡ length nodes → specs ≡ kept_specs nodes v marks game node are
all_kept nodes v k marks specs game node are so_far is =
    so_far ∙ ap (λ (n : ℕ). map (λ u. specified nodes (node_at nodes u)) (filter (mark_at marks) (range_with_len 0 n))) is

-- the marks are those of the places that the place reaches
reached : (nodes : List Node) (v : ℕ) (marks : List Bool) → IsGame nodes → IsWithinLimits nodes → v < length nodes
    → AreReached nodes [] 4294967295 (v ∷ []) marks → (u : ℕ) → IsTrue (mark_at marks u) ↔ Reaches nodes v u
reached nodes v marks game limits within are =
    reached_by_listed nodes 4294967295 (priorities_low nodes 4294967295 limits (omega arith)) game v marks within are

pub finish_forward-requires : goal.finish_forward-requires
finish_forward-requires c =
    let are : (u : ℕ) → IsTrue (mark_at c.in_ok-marks.marks.items u) ↔ Reaches c.args.game.now c.args.place u =
    reached c.args.game.now c.args.place c.in_ok-marks.marks.items c.len-count.ensures.game c.len-count.ensures.limits c.requires c.in_ok-marks.ensures.reached in
    let whole : c.loop-kept.kept ≡ length c.args.game.now = omega (arith, c.loop-kept-test.false, c.loop-kept.auto.kept-end, c.len-count.ensures.count) in
    let specs = all_kept c.args.game.now c.args.place c.loop-kept.kept c.in_ok-marks.marks.items c.loop-kept.builder c.len-count.ensures.game c.requires are c.loop-kept.invariant whole in
    omega (arith, ap length specs, some_kept c.args.game.now c.args.place c.in_ok-marks.marks.items c.len-count.ensures.game c.requires are)

pub returns-clause-part : goal.returns-clause-part
returns-clause-part c =
    let are : (u : ℕ) → IsTrue (mark_at c.in_ok-marks.marks.items u) ↔ Reaches c.args.game.now c.args.place u =
    reached c.args.game.now c.args.place c.in_ok-marks.marks.items c.len-count.ensures.game c.len-count.ensures.limits c.requires c.in_ok-marks.ensures.reached in
    let whole : c.loop-kept.kept ≡ length c.args.game.now = omega (arith, c.loop-kept-test.false, c.loop-kept.auto.kept-end, c.len-count.ensures.count) in
    let specs = all_kept c.args.game.now c.args.place c.loop-kept.kept c.in_ok-marks.marks.items c.loop-kept.builder c.len-count.ensures.game c.requires are c.loop-kept.invariant whole in
    IfOk-weaker c.finish_forward.result (λ game. IsGameOf c.loop-kept.builder game) (λ part. IsPart c.args.game.now c.args.place part)
    (λ part given. part_from_specs c.args.game.now c.args.place c.in_ok-marks.marks.items c.len-count.ensures.game c.requires are part
    (subst (λ (given_specs : List NodeSpec). IsGameOf given_specs part) specs given)) c.finish_forward.ensures.game

pub returns-clause-memory : goal.returns-clause-memory
returns-clause-memory c =
    let are : (u : ℕ) → IsTrue (mark_at c.in_ok-marks.marks.items u) ↔ Reaches c.args.game.now c.args.place u =
    reached c.args.game.now c.args.place c.in_ok-marks.marks.items c.len-count.ensures.game c.len-count.ensures.limits c.requires c.in_ok-marks.ensures.reached in
    let whole : c.loop-kept.kept ≡ length c.args.game.now = omega (arith, c.loop-kept-test.false, c.loop-kept.auto.kept-end, c.len-count.ensures.count) in
    let specs = all_kept c.args.game.now c.args.place c.loop-kept.kept c.in_ok-marks.marks.items c.loop-kept.builder c.len-count.ensures.game c.requires are c.loop-kept.invariant whole in
    let faultless : game_fault_of c.loop-kept.builder ≡ None =
    ap game_fault_of specs ∙ kept_faultless c.args.game.now c.args.place c.in_ok-marks.marks.items c.len-count.ensures.game c.requires are c.len-count.ensures.limits in
    IfErr-weaker c.finish_forward.result (IsBuildRefusal c.loop-kept.builder) (λ refusal. refusal ≡ Memory)
    (λ refusal is. memory_alone c.loop-kept.builder refusal faultless is) c.finish_forward.ensures.refused
