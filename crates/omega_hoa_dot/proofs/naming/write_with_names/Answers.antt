-- `write_with_names`: a byte more is passed.
use Rattle.std.proofs.Common.{List, ℕ, ◌+◌, ◌++◌, drop, ap, sym, ◌∙◌, arith}
use Rattle.std.proofs.lemmas.List.{drop_more}
use Rattle.omega_hoa_dot.specs.private.layout.Naming.{with_names}
use Rattle.omega_hoa_dot.proofs.naming.write_with_names.Goals as goal

pub loop-byte-preserved : goal.loop-byte-preserved
loop-byte-preserved c =
    let text : List ℕ = c.args.text.now in
    let index : ℕ = c.loop-byte.byte-index in
    record {
      whole =
          c.in_ok-number.ensures.ok (drop (index + 1) text)
          ∙ ap (λ (list : List ℕ). c.loop-byte.out.items ++ with_names c.args.names.now c.loop-byte.number list) (sym (drop_more text index 0 (omega arith)))
          ∙ c.loop-byte.invariant.whole;
      small = c.in_ok-number.ensures.small;
    }
