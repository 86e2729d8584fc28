-- `EdgeComponents::push`: adds a component after the others.
use Rattle.std.proofs.Common.{◌≡◌, [], ◌∷◌, ◌++◌, length, length-append, rules}
use Rattle.omega_text.proofs.JoinedLists.{AreStarts-push, lists_of-push_list}
use Rattle.omega_graph.proofs.edge_components.EdgeComponents.push.Goals as goal

-- the edges after the component was added
edges_are : (c : goal.Else-is_err) → c.extend_from_slice.new.self.items ≡ c.self.inside.edges.items ++ c.args.edge_component.now
edges_are c = search rules

-- the starts after the component was added
starts_are : (c : goal.Else-is_err) → c.push.new.self.items ≡ c.self.inside.starts.items ++ length c.self.inside.edges.items ∷ []
starts_are c = search rules

pub invariant_of-self-else-is_err : goal.invariant_of-self-else-is_err
invariant_of-self-else-is_err c =
    rw (starts_are c, edges_are c, length-append)
    (AreStarts-push c.self.inside.starts.items (length c.self.inside.edges.items) (length c.args.edge_component.now) c.self.invariant)

pub returns-clause-ok : goal.returns-clause-ok
returns-clause-ok c =
    rw (← c.self.view_is, starts_are c, edges_are c)
    (lists_of-push_list c.self.inside.starts.items c.self.inside.edges.items c.args.edge_component.now c.self.invariant)
