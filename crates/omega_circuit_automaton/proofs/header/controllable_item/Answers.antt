-- one value more
use Rattle.std.proofs.Common.{◌+◌, ◌∷◌, ◌++◌, [], List, ap, sym, refl, ◌∙◌}
use Rattle.std.proofs.lemmas.List.FromFn.{map-range_with_len_more}
use Rattle.omega_hoa_syntax.specs.declared.header_value.HeaderValue.{HeaderValue}
use Rattle.omega_hoa_syntax.specs.declared.header_value.HeaderValue.TheVariants.{Number}
use Rattle.omega_circuit_automaton.proofs.header.controllable_item.Goals as goal

pub loop-k-preserved : goal.loop-k-preserved
loop-k-preserved c =
    c.in_ok-push.ensures.items ∙ ap (λ (values : List HeaderValue). values ++ Number (c.args.first + c.loop-k.k) ∷ []) c.loop-k.invariant
    ∙ sym (map-range_with_len_more (λ n. Number n) c.args.first c.loop-k.k (c.args.first + c.loop-k.k) refl)
