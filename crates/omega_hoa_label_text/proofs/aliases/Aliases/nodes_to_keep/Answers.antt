-- What has an extent means something, and the nodes of that are kept.
use Rattle.std.proofs.Common.{◌++◌, [], IsSome, ap, subst, sym, ◌∙◌, take}
use Rattle.omega_hoa_label_text.specs.Expanding.{entries_of, expansion, replaced}
use Rattle.omega_hoa_label_text.specs.private.Emitting.{nodes_of}
use Rattle.omega_hoa_label_text.proofs.EntryLemmas.{take-entries_of}
use Rattle.omega_hoa_label_text.proofs.KeptLemmas.{kept-of, measured-some}
use Rattle.omega_hoa_label_text.proofs.aliases.Aliases.nodes_to_keep.Goals as goal

pub emit-requires-clause-defined : goal.emit-requires-clause-defined
emit-requires-clause-defined c =
    subst (λ entries. IsSome (replaced entries c.args.body.now)) (sym (take-entries_of c.args.self.now c.len.result c.len.ensures))
    (measured-some (expansion c.args.self.now c.args.body.now) c.in-Some.extent (sym c.in-Some.is ∙ c.requires))

pub returns-clause-ok : goal.returns-clause-ok
returns-clause-ok c =
    kept-of c.from_vec.result (expansion c.args.self.now c.args.body.now)
    (measured-some (expansion c.args.self.now c.args.body.now) c.in-Some.extent (sym c.in-Some.is ∙ c.requires))
    (c.from_vec.ensures
    ∙ (c.in_ok-emit.ensures.ok
    ∙ (ap (λ front. front ++ nodes_of (replaced (take c.len.result (entries_of [] c.args.self.now)) c.args.body.now)) c.in_ok-nodes.ensures.items
    ∙ ap (λ entries. nodes_of (replaced entries c.args.body.now)) (take-entries_of c.args.self.now c.len.result c.len.ensures))))
