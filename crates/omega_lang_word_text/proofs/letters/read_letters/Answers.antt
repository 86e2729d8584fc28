-- A stem and a cycle, or where either is missing.
use Rattle.std.proofs.Common.{◌∷◌, refl}
use Rattle.omega_hoa_expression.proofs.PassingLemmas.{error_then}
use Rattle.omega_hoa_expression.proofs.UnreadLemmas.{first_same}
use Rattle.omega_lang_word_text.specs.Grammar.{BeginsWord, ReadsNoWord}
use Rattle.omega_lang_word_text.proofs.Leading.{word_refused}
use Rattle.omega_lang_word_text.proofs.letters.read_letters.Goals as goal

pub returns-in_err-cycle-clause-err : goal.returns-in_err-cycle-clause-err
returns-in_err-cycle-clause-err g c =
    error_then c.from_residual-in_err-cycle.result _ _ c.from_residual-in_err-cycle.ensures.1
    (λ e is. first_same ReadsNoWord BeginsWord (g.S.TokenSource.left c.args.source.now) _ _ _ e is c.in_ok-stem.ensures.length
    (word_refused _ _ (g.S.TokenSource.left c.args.source.now) (g.S.TokenSource.left c.read_stem.new.source) c.in_ok-stem.stem.items c.in_ok-stem.ensures.leads c.in_err-cycle.ensures.err))

pub returns-clause-ok : goal.returns-clause-ok
returns-clause-ok g c =
    c.in_ok-stem.ensures.leads.reads (c.in_ok-cycle.cycle.first ∷ c.in_ok-cycle.cycle.others.items) c.in_ok-cycle.ensures.ok
