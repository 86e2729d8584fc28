use Rattle.std.proofs.Common.{◌≡◌, ap, subst, ◌∙◌}
use Rattle.omega_hoa_automaton.specs.Meaning.{IsMeaningless, Means}
use Rattle.omega_text.specs.declared.refusal.Refusal.TheVariants.{Automaton}
use Rattle.omega_hoa_syntax.specs.declared.raw_automaton.RawAutomaton.{RawAutomaton}
use Rattle.omega_hoa_acceptance.specs.Raw.{RawAccTree}
use Rattle.omega_lang_product.specs.Refusing.{broken_limit}
use Rattle.omega_lang_product.specs.Written.{raw_product}
use Rattle.omega_lang_product.proofs.Meaning.{product_meant, product_within}
use Rattle.omega_lang_product.proofs.forming.product_automaton.Goals as goal

pub returns-in-Ok-clause-product : goal.returns-in-Ok-clause-product
returns-in-Ok-clause-product c =
    let p = c.in_ok-raw.ensures.written in
    product_meant c.written_labels_mean.ensures c.written_formulas_mean.ensures c.args.one.now c.args.other.now p.pairs c.in-Ok.product p.name p.accepted.tree
    p.reached p.accepted.joint
    (subst (λ (raw : RawAutomaton). Means raw c.in-Ok.product)
    (p.is ∙ ap (λ (f : RawAccTree). raw_product c.args.one.now c.args.other.now p.pairs p.name f) p.accepted.written) c.in-Ok.ensures.ok)

pub returns-in-Ok-clause-within : goal.returns-in-Ok-clause-within
returns-in-Ok-clause-within c =
    product_within c.in_ok-raw.raw c.in-Ok.product c.args.one.now c.args.other.now c.in_ok-raw.ensures.written c.in-Ok.ensures.ok
    c.in_ok-raw.ensures.states c.in_ok-raw.ensures.edges c.in_ok-raw.ensures.sets

pub returns-in-Err-Automaton-clause-refused : goal.returns-in-Err-Automaton-clause-refused
returns-in-Err-Automaton-clause-refused c =
    let is : c.in-Err-Automaton.field-0 ≡ Automaton c.in-Err-Automaton._fault = cc in
    broken_limit (record {
      written = c.in_ok-raw.raw;
      product = c.in_ok-raw.ensures.written;
      fault = c.in-Err-Automaton._fault;
      broken = subst (IsMeaningless c.in_ok-raw.raw) is c.in-Err-Automaton.ensures.err;
    })

pub returns-in-Ok-clause-written : goal.returns-in-Ok-clause-written
returns-in-Ok-clause-written c = record { written = c.in_ok-raw.raw; product = c.in_ok-raw.ensures.written; means = c.in-Ok.ensures.ok }
