-- The token comes after the gap.
use Rattle.omega_text.proofs.pg_texts.Tokens.{form_after}
use Rattle.omega_text.proofs.pg.token.next_pg_token.Goals as goal

pub returns-clause-token : goal.returns-clause-token
returns-clause-token c =
    form_after _ _ _ _ _ _ _ _ c.gap_end-start.ensures.gap c.tail-bytes.ensures c.in_ok-front.ensures.form c.front_token-2.ensures

pub returns-in-Some-clause-token : goal.returns-in-Some-clause-token
returns-in-Some-clause-token c =
    form_after _ _ _ _ _ _ _ _ c.gap_end-start.ensures.gap c.tail-bytes.ensures c.in-Some.ensures.form c.front_token.ensures
