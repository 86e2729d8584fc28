-- What is put out is the label of the meaning, which has no fault.
use Rattle.std.proofs.Common.{◌++◌, [], take, ap, subst, sym, ◌∙◌, IsSome}
use Rattle.std.proofs.lemmas.Result.{IfOk-weaker}
use Rattle.omega_hoa_label_text.specs.Expanding.{entries_of, expansion, replaced}
use Rattle.omega_hoa_label_text.specs.private.Emitting.{nodes_of}
use Rattle.omega_hoa_label_text.proofs.EntryLemmas.{shallow-entries, shallow-replaced, take-entries_of}
use Rattle.omega_hoa_label_text.proofs.ExpansionLemmas.{IsLabel-sound, expansion-made, sound-some}
use Rattle.omega_hoa_label_text.proofs.expansion.replace_aliases.Goals as goal

pub emit-requires-clause-defined : goal.emit-requires-clause-defined
emit-requires-clause-defined c =
    subst (λ entries. IsSome (replaced entries c.args.raw.now)) (sym (take-entries_of c.args.aliases.now c.len.result c.len.ensures))
    (sound-some (expansion c.args.aliases.now c.args.raw.now) c.requires)

pub from_postfix-requires : goal.from_postfix-requires
from_postfix-requires c =
    IsLabel-sound (expansion c.args.aliases.now c.args.raw.now) _ c.requires
    (shallow-replaced (entries_of [] c.args.aliases.now) (shallow-entries [] c.args.aliases.now tt) c.args.raw.now)
    (c.shrink_to_fit.ensures.items ∙ (c.in_ok-emit.ensures.ok
    ∙ (ap (λ front. front ++ nodes_of (replaced (take c.len.result (entries_of [] c.args.aliases.now)) c.args.raw.now)) c.in_ok-nodes.ensures.items
    ∙ ap (λ entries. nodes_of (replaced entries c.args.raw.now)) (take-entries_of c.args.aliases.now c.len.result c.len.ensures))))

pub returns-clause-ok : goal.returns-clause-ok
returns-clause-ok c =
    IfOk-weaker _ _ _
    (expansion-made c.args.aliases.now c.args.raw.now _ c.requires
    (c.shrink_to_fit.ensures.items ∙ (c.in_ok-emit.ensures.ok
    ∙ (ap (λ front. front ++ nodes_of (replaced (take c.len.result (entries_of [] c.args.aliases.now)) c.args.raw.now)) c.in_ok-nodes.ensures.items
    ∙ ap (λ entries. nodes_of (replaced entries c.args.raw.now)) (take-entries_of c.args.aliases.now c.len.result c.len.ensures)))))
    c.from_postfix.ensures.ok
