-- The name is among the names, with the number that is returned.
use Rattle.std.proofs.Common.{ap, ◌∙◌}
use Rattle.omega_lang_word_text.specs.private.Names.{names_in}
use Rattle.omega_lang_word_text.proofs.Naming.{named_more, named_there}
use Rattle.omega_lang_word_text.proofs.translating.number_of.Goals as goal

pub returns-clause-names : goal.returns-clause-names
returns-clause-names c = ap names_in c.in_ok-number.ensures.keys ∙ named_more c.args.names.now.keys c.args.name

pub returns-clause-number : goal.returns-clause-number
returns-clause-number c =
    let stored = c.in_ok-number.ensures.stored in
    named_there c.insert_full.new.self.keys c.in_ok-number.number c.args.name stored.0 stored.1 stored.2
