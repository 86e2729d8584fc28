-- Each law by its lemma.
use Rattle.omega_pg_lenient.proofs.texts.PlainParts.{block_comments_blank, line_comments_blank, names_shown, others_stay, slashes_stay, unclosed_stay}
use Rattle.omega_pg_lenient.proofs.laws.plain_texts_show_parts.Goals as goal

pub returns-clause-line_comments : goal.returns-clause-line_comments
returns-clause-line_comments c = line_comments_blank

pub returns-clause-block_comments : goal.returns-clause-block_comments
returns-clause-block_comments c = block_comments_blank

pub returns-clause-names : goal.returns-clause-names
returns-clause-names c = names_shown

pub returns-clause-others : goal.returns-clause-others
returns-clause-others c = others_stay

pub returns-clause-slashes : goal.returns-clause-slashes
returns-clause-slashes c = slashes_stay

pub returns-clause-unclosed : goal.returns-clause-unclosed
returns-clause-unclosed c = unclosed_stay
