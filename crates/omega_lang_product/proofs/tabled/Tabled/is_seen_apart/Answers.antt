-- Literals of both labels clash.
use Rattle.std.proofs.Common.{ap, not, sym, ◌∙◌}
use Rattle.std.proofs.lemmas.Bool.{false≢true}
use Rattle.omega_lang_product.proofs.tabled.Tabled.is_seen_apart.Goals as goal

pub returns-in-Some-Some : goal.returns-in-Some-Some
returns-in-Some-Some c =
    λ apart satisfied.
    let meets = (c.meets.ensures c.args.self.now.label c.args.other.now.label c.in-Some-Some.ensures c.in-Some-Some.ensures').1 satisfied in
    false≢true (sym (ap not meets) ∙ apart)
