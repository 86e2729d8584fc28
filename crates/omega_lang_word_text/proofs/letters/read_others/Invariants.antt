-- The letters so far lead to what is left, and the text stays.
use Rattle.std.proofs.Common.{◌≡◌, length}
use Rattle.omega_lang_word_text.specs.private.Stems.{LeadsToOthers}
use Rattle.omega_lang_word_text.proofs.letters.read_others.Given as goal

abbrev pub invariant-loop-alloc : goal.invariant-loop-alloc
invariant-loop-alloc g l = record {
  leads : LeadsToOthers (g.S.TokenSource.left l.fn.source) l.others.items (g.S.TokenSource.left l.source);
  text : g.S.TokenSource.length l.source ≡ g.S.TokenSource.length l.fn.source;
}

abbrev pub decreases-loop-alloc : goal.decreases-loop-alloc
decreases-loop-alloc g l = length (g.S.TokenSource.left l.source)
