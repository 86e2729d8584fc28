-- `define`: what the body requires, and what `add` says.
use Rattle.std.proofs.Common.{refl, sym, ◌∙◌}
use Rattle.std.proofs.lemmas.Result.{err_from_is_err_and}
use Rattle.omega_hoa_automaton.proofs.AliasNames.{undefinable_by_name, unnamed_by_place}
use Rattle.omega_hoa_automaton.proofs.making.definitions.define.Goals as goal
use Rattle.omega_hoa_automaton.proofs.making.definitions.define.Goals.{then-definitions, else-definitions, then-definitions-2, else-definitions-2}

pub returns-in_err-add-clause-err : goal.returns-in_err-add-clause-err
returns-in_err-add-clause-err c =
    let p = err_from_is_err_and c.from_residual-in_err-add.result c.from_residual-in_err-add.ensures.1 in
    rw (p.1, p.2) (undefinable_by_name c.args.definitions.now c.args.name.now c.args.body _ c.in_err-add.ensures.err)

pub returns-clause-ok : goal.returns-clause-ok
returns-clause-ok c = record {
  aliases = c.in_ok-add.ensures.ok.1;
  fresh = unnamed_by_place c.args.definitions.now.aliases c.args.name.now c.in_ok-add.ensures.ok.0;
  defined = sym c.in_ok-found.ensures.ok.undefined ∙ c.if-found.false;
  deep = elim c.if-definitions.branch [
    | then-definitions w ↦ w.definitions-is ∙ sym (rw w.if-definitions.true refl)
    | else-definitions w ↦ w.definitions-is ∙ (c.in_ok-found.ensures.ok.deep ∙ sym (rw w.if-definitions.false refl))
  ];
  large = elim c.if-definitions-2.branch [
    | then-definitions-2 w ↦ w.definitions-is ∙ sym (rw w.if-definitions-2.true refl)
    | else-definitions-2 w ↦ w.definitions-is ∙ (c.in_ok-found.ensures.ok.large ∙ sym (rw w.if-definitions-2.false refl))
  ];
}
