-- the tables see both automata as the product does
use Rattle.std.proofs.Common.{◌≡◌, ap₂, subst, ◌∙◌}
use Rattle.omega_lang_product.specs.Joining.{joined_names, places_among}
use Rattle.omega_lang_product.specs.PlainEdges.{View}
use Rattle.omega_lang_product.specs.private.Tables.{IsTableOf}
use Rattle.omega_lang_product.proofs.Formulas.{view_first, view_second}
use Rattle.omega_lang_product.proofs.tables.Tables.of.Goals as goal

pub returns-clause-ok : goal.returns-clause-ok
returns-clause-ok c =
    let one = c.args.one.now in
    let other = c.args.other.now in
    let names = joined_names one.propositions other.propositions in
    let places : c.in_ok-places.places.items ≡ places_among names one.propositions = c.in_ok-places.ensures.ok ∙ ap₂ places_among c.requires.named c.propositions.ensures in
    let others : c.in_ok-places-2.places.items ≡ places_among names other.propositions = c.in_ok-places-2.ensures.ok ∙ ap₂ places_among c.requires.named c.propositions-2.ensures in
    record {
      room = c.requires.room;
      firsts = subst (λ (view : View). IsTableOf view one.defined c.in_ok-firsts.firsts) (view_first one other c.in_ok-places.places.items places) c.in_ok-firsts.ensures.ok;
      seconds = subst (λ (view : View). IsTableOf view other.defined c.in_ok-seconds.seconds)
          (view_second one other c.in_ok-places-2.places.items c.set_count.result others c.set_count.ensures) c.in_ok-seconds.ensures.ok;
    }
