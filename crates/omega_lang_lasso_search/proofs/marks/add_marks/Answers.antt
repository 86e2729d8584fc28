-- one edge more
use Rattle.std.proofs.Common.{◌≡◌, ◌<◌, ◌++◌, ℕ, List, [], ◌∷◌, length, get_or, map, take, sym, ap, ◌∙◌, arith}
use Rattle.std.proofs.lemmas.Grind.{common_steps}
use Rattle.std.proofs.lemmas.List.{append_assoc, map-append, take_all}
use Rattle.omega_hoa_automaton.specs.Automaton.{BodyEdge, edges_from}
use Rattle.omega_hoa_automaton.specs.declared.edge.Edge as automata
use Rattle.omega_lang_runs.specs.Lasso.{marks_of}
use Rattle.omega_lang_runs.proofs.Edges.{edges_take, length-edges_from}
use Rattle.omega_lang_lasso_search.proofs.marks.add_marks.Goals as goal

pub loop-at-preserved : goal.loop-at-preserved
loop-at-preserved c =
    let index : ℕ = c.loop-at.at in
    let edge : automata.Edge = c.edge-edge.result in
    let here : c.edge-edge.result ≡ get_or c.args.state.now.edges index c.edge-edge.result = c.edge-edge.ensures in
    let below : index < length c.args.state.now.edges = omega (arith, c.len-at-end.ensures, c.loop-at-test.true) in
    let one : BodyEdge = record { source = c.args.state.now; edge = edge } in
    let grown : c.push.new.self.items ≡ c.loop-at.marks.items ++ marks_of one ∷ [] = grind (arith, common_steps) in
    grown ∙ ap (λ (list : List (List ℕ)). list ++ marks_of one ∷ []) c.loop-at.invariant
    ∙ append_assoc c.args.marks.now.items (map marks_of (take index (edges_from c.args.state.now))) (marks_of one ∷ [])
    ∙ ap (λ (list : List (List ℕ)). c.args.marks.now.items ++ list)
    (sym (map-append marks_of (take index (edges_from c.args.state.now)) (one ∷ [])) ∙ ap (map marks_of) (sym (edges_take c.args.state.now index edge below here)))

pub returns-clause-marks : goal.returns-clause-marks
returns-clause-marks c =
    let all : take c.loop-at.at (edges_from c.args.state.now) ≡ edges_from c.args.state.now =
    take_all c.loop-at.at (edges_from c.args.state.now) (omega (arith, length-edges_from c.args.state.now, c.len-at-end.ensures)) in
    c.loop-at.invariant ∙ ap (λ (list : List BodyEdge). c.args.marks.now.items ++ map marks_of list) all
