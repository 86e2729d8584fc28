-- What a new reader became is the formula of the text, or refused.
use Rattle.omega_ltl_text.proofs.Texts.{formula_read_if, formula_refused_if, names_read_if, read_whole}
use Rattle.omega_ltl_text.proofs.reading.read_formula.Goals as goal

pub finish-requires-clause-whole : goal.finish-requires-clause-whole
finish-requires-clause-whole c = read_whole c.args.bytes.now c.new.result c.in_ok-reader.reader c.in_ok-reader.ensures.read

pub returns-clause-formula : goal.returns-clause-formula
returns-clause-formula c =
    formula_read_if c.args.bytes.now c.new.result c.in_ok-reader.reader c.in_ok-reader.ensures.read c.finish.result c.finish.ensures.formula
    c.finish.ensures.names c.finish.ensures.within

pub returns-clause-names : goal.returns-clause-names
returns-clause-names c =
    names_read_if c.args.bytes.now c.new.result c.in_ok-reader.reader c.in_ok-reader.ensures.read c.finish.result c.finish.ensures.formula c.finish.ensures.names

pub returns-clause-refused : goal.returns-clause-refused
returns-clause-refused c =
    formula_refused_if c.args.bytes.now c.new.result c.in_ok-reader.reader c.in_ok-reader.ensures.read c.finish.result c.finish.ensures.refused
