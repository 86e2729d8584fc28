-- one edge more
use Rattle.std.proofs.Common.{◌≡◌, ◌+◌, ◌*◌, ◌<◌, rules, ℕ, List, [], ◌∷◌, ◌++◌, length, get_or, map, All, sym, ap, ◌∙◌, subst, arith}
use Rattle.std.proofs.lemmas.Grind.{common_steps}
use Rattle.std.proofs.lemmas.List.{get_or_default}
use Rattle.std.proofs.lemmas.List.Elements.{All-nil}
use Rattle.omega_graph.specs.declared.edge.Edge.{Edge}
use Rattle.omega_lang_lasso_search.specs.private.Numbering.{IsNamed, ends_in, name_in}
use Rattle.omega_lang_lasso_search.proofs.Names.{all_named_more, ends_more, grows_not, grows_on, grows_within}
use Rattle.omega_lang_lasso_search.proofs.numbering.graph_of.Goals as goal

pub overflow_cast-states : goal.overflow_cast-states
overflow_cast-states c = omega (arith, c.if-before.false, c.if-ends.false)

pub loop-end-init : goal.loop-end-init
loop-end-init c = (
  grows_not c.args.met.now.keys,
  c.requires.distinct,
  search rules,
  subst (All (IsNamed c.args.met.now.keys)) (sym c.new-graph.ensures.edges) (All-nil (IsNamed c.args.met.now.keys)),
  ap (map (ends_in c.args.met.now.keys)) c.new-graph.ensures.edges,
)

pub loop-end-preserved : goal.loop-end-preserved
loop-end-preserved c =
    let ends : List Edge = c.args.ends.now in
    let index : ℕ = c.loop-end.end-index in
    let below : index < length ends = omega arith in
    let end : Edge = get_or ends index (record { from = 0; to = 0 }) in
    let here : end ≡ get_or ends index end = get_or_default ends index (record { from = 0; to = 0 }) end below in
    let keys : List ℕ = c.loop-end.met.keys in
    let keys' : List ℕ = c.number.new.met.keys in
    let keys'' : List ℕ = c.number-in-loop-end.new.met.keys in
    let from : ℕ = c.in_ok-from.from in
    let to : ℕ = c.in_ok-to.to in
    let one = c.in_ok-from.ensures.grows in
    let two = c.in_ok-to.ensures.grows in
    let is_from : name_in keys' from ≡ end.from = first_of (search rules, grind (arith, common_steps)) in
    let is_to : name_in keys'' to ≡ end.to = first_of (search rules, grind (arith, common_steps)) in
    let grown : c.add.new.self.edges ≡ c.loop-end.graph.edges ++ record { from = from; to = to } ∷ [] = first_of (search rules, grind (arith, common_steps)) in (
      grows_within (2 * index + (1 + 1)) (2 * (index + 1)) c.args.met.now.keys keys'' (omega arith)
          (grows_on (2 * index) (1 + 1) c.args.met.now.keys keys keys'' c.loop-end.invariant.0 (grows_on 1 1 keys keys' keys'' one two)),
      c.in_ok-to.ensures.distinct,
      search rules,
      subst (All (IsNamed keys'')) (sym grown)
          (all_named_more keys keys' keys'' c.loop-end.graph.edges from to one two c.loop-end.invariant.3 c.in_ok-from.ensures.within c.in_ok-to.ensures.within),
      ap (map (ends_in keys'')) grown
          ∙ ends_more keys keys' keys'' c.loop-end.graph.edges ends index from to end one two c.loop-end.invariant.3 c.loop-end.invariant.4 below here
          c.in_ok-from.ensures.within is_from is_to,
    )
