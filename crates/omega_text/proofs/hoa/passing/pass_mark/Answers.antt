-- A mark, or no byte.
use Rattle.std.proofs.Common.{◌-◌, length, refl, sym, ap, subst, arith}
use Rattle.omega_text.specs.private.hoa.scanning.Passing.{IsSimple}
use Rattle.omega_text.specs.private.hoa.scanning.Unfinished.{fresh}
use Rattle.omega_text.proofs.hoa_texts.AtOnce.{mark_simple}
use Rattle.omega_text.proofs.hoa_texts.Passing.{passes_none}
use Rattle.omega_text.proofs.hoa.passing.pass_mark.Goals as goal

pub returns-in_default : goal.returns-in_default
returns-in_default c =
    subst (IsSimple c.args.start c.args.bytes.now c.args.place) (sym c.not_begun.ensures)
    (passes_none c.args.start c.args.bytes.now c.args.place (fresh c.args.start) (omega (arith, c.requires)))

pub returns : goal.returns
returns c =
    mark_simple c.args.start c.args.bytes.now c.tail.result.now c.args.place _ c.in-Some.kind (record { mode = c.new.result; start = c.args.start; value = 0 }) c.requires c.tail.ensures
    c.in-Some.ensures.mark c.in-Some.ensures.begins (ap (λ text. length text - 1) c.spelling.ensures) c.new.ensures refl
