-- A stretch is copied part by part.
use Rattle.std.proofs.Common.{◌≡◌, ◌≤◌, ◌++◌, slice_range, ap, arith, ◌∙◌}
use Rattle.omega_hoa_label_text.proofs.ReplacedAtLemmas.{stretch-goes-on, stretch-none, stretch-within}
use Rattle.omega_hoa_label_text.proofs.expansion.repeat.Goals as goal

pub loop-from-init : goal.loop-from-init
loop-from-init c = record {
  forward = omega arith;
  within = c.requires.forward;
  copied = stretch-none c.args.out.now.items c.args.start;
}

pub copy_through-requires-clause-within : goal.copy_through-requires-clause-within
copy_through-requires-clause-within c =
    let before = c.loop-from.invariant in
    let room = stretch-within c.args.out.now.items c.loop-from.out.items c.args.start c.loop-from.from c.args.end c.requires.within before.copied in
    omega (arith, room, c.min-to.ensures)

pub loop-from-preserved : goal.loop-from-preserved
loop-from-preserved c =
    let before = c.loop-from.invariant in
    let forward : c.loop-from.from ≤ c.min-to.result = omega (arith, c.min-to.ensures, c.loop-from-test.true) in
    let last : c.min-to.result ≤ c.args.end = omega (arith, c.min-to.ensures) in
    record {
      forward = omega (arith, before.forward, forward);
      within = last;
      copied = stretch-goes-on c.args.out.now.items c.loop-from.out.items c.copy_through.new.out.items c.args.start c.loop-from.from c.min-to.result
          before.forward forward (omega (arith, last, c.requires.within)) before.copied c.in_ok-copy_through.ensures.ok;
    }

pub returns-clause-ok : goal.returns-clause-ok
returns-clause-ok c =
    let before = c.loop-from.invariant in
    let all : c.loop-from.from ≡ c.args.end = omega (arith, before.within, c.loop-from-test.false) in
    before.copied ∙ ap (λ n. c.args.out.now.items ++ slice_range c.args.out.now.items c.args.start n) all
