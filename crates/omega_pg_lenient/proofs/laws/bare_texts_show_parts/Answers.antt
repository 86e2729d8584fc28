-- `bare_texts_show_parts`: by the numbers that are before a part in its line.
use Rattle.omega_pg_lenient.proofs.texts.BareParts.{early_and_late_hyphens, early_names, early_quotes, inner_names, inner_no_choices, last_names, lone_hyphens, named_no_choices, no_choices, open_names, other_lines}
use Rattle.omega_pg_lenient.proofs.laws.bare_texts_show_parts.Goals as goal

pub returns : goal.returns
returns c = record {
  lines = other_lines;
  names = last_names;
  no_choices = no_choices;
  named_no_choices = named_no_choices;
  early_and_late_hyphens = early_and_late_hyphens;
  lone_hyphens = lone_hyphens;
  inner_no_choices = inner_no_choices;
  early_quotes = early_quotes;
  early_names = early_names;
  inner_names = inner_names;
  open_names = open_names;
}
