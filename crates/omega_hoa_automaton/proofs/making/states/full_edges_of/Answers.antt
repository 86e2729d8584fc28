-- `full_edges_of`: one more edge, and all at the end.
use Rattle.std.proofs.Common.{◌≡◌, refl, sym, ◌∙◌}
use Rattle.std.proofs.lemmas.Iterator.Adapters.{YieldsList-from_vec}
use Rattle.std.proofs.lemmas.Iterator.Consumers.{YieldsList-end, YieldsList-turn}
use Rattle.std.proofs.lemmas.List.Folds.{map_fixed}
use Rattle.omega_hoa_label_text.specs.Expanding.{expansion}
use Rattle.omega_hoa_automaton.specs.Faults.{passes}
use Rattle.omega_hoa_automaton.specs.Meaning.{IsEdgeOf}
use Rattle.omega_hoa_automaton.specs.private.layout.Findings.{is_faulty}
use Rattle.omega_hoa_automaton.proofs.SoundLemmas.{none-turn}
use Rattle.omega_hoa_automaton.proofs.Zipped.{zipped_push}
use Rattle.omega_hoa_automaton.proofs.making.states.full_edges_of.Goals as goal

pub loop-edge-preserved : goal.loop-edge-preserved
loop-edge-preserved c =
    zipped_push (IsEdgeOf c.args.aliases.now) c.loop-edge.yielded c.loop-edge.made.items c.push.new.self.items c.in-Some.edge _ c.loop-edge.invariant c.in_ok-edge.ensures.ok c.in_ok-push.ensures.items

pub returns-clause-ok : goal.returns-clause-ok
returns-clause-ok c =
    let taken = c.into_iter-edge-iterator.ensures.into_iter_gives in
    let gives = YieldsList-from_vec {s = c.into_iter-edge-iterator.result} c.into_vec-edge-items.result.items taken.0 (taken.1 ∙ c.into_vec-edge-items.result.ok.0) in
    let all = YieldsList-end gives c.loop-edge.yielded c.loop-edge.edge-iterator c.loop-edge.yielded_by c.next.result c.next.new.self c.in-None.is c.next.ensures.steps in
    let same : c.loop-edge.yielded ≡ c.args.edges = sym (map_fixed (λ x. x) c.loop-edge.yielded (λ k d h. refl)) ∙ (all.0 ∙ c.into_vec-edge-items.ensures) in
    rw (sym same) (rw c.from_vec.ensures c.loop-edge.invariant)

pub edge_of-requires : goal.edge_of-requires
edge_of-requires c =
    let taken = c.into_iter-edge-iterator.ensures.into_iter_gives in
    let gives = YieldsList-from_vec {s = c.into_iter-edge-iterator.result} c.into_vec-edge-items.result.items taken.0 (taken.1 ∙ c.into_vec-edge-items.result.ok.0) in
    let turn = YieldsList-turn gives c.loop-edge.yielded c.loop-edge.edge-iterator c.loop-edge.yielded_by c.next.result c.next.new.self c.in-Some.edge c.in-Some.is c.next.ensures.steps in
    none-turn (λ edge. passes (λ label. is_faulty (expansion c.args.aliases.now label)) edge.label) c.args.edges c.into_vec-edge-items.result.items _ c.in-Some.edge c.into_vec-edge-items.ensures c.requires turn
