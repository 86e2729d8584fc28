-- Which text a refusal is about, that of a file or a stream.
use Rattle.std.proofs.Common.{◌≡◌, inl, inr, ℕ, Bool, List, Option, refl, sym, subst}
use Rattle.omega_text.specs.Cases.{or_io, or_memory}
use Rattle.omega_text.specs.declared.refusal.Refusal.{Refusal}
use Rattle.omega_text.specs.declared.refusal.Refusal.TheVariants.{Automaton, Circuit, Game, Io, Memory, Task, Text}
use Rattle.omega_hoa.specs.Alone.{IsAutomatonRefusal, IsAutomatonText}
use Rattle.omega_hoa.specs.Stream.{IsStreamRefusal}
use Rattle.omega_hoa_automaton.specs.Automaton.{Description}
use Rattle.omega_io.specs.Reading.{ReadsText}
use Rattle.omega_io.specs.Refused.{about}
use Rattle.omega_io.specs.declared.refused.Refused.{Refused}
use Rattle.omega_io.specs.declared.refused.Which.TheVariants.{File, Input}
use Rattle.omega_answers.proofs.Refusals.{text_is_read}
use Rattle.omega_answers_stream_questions.specs.Contained.{IsContainedStreamRefused, IsFileOrStreamRefused, IsStreamRefused}

module _ (file : List ℕ) where
  -- the text of the file is refused, or memory is
  pub file_refused : (explain : Bool) (before after : Option (List ℕ)) (refusal : Refusal) → or_memory (IsAutomatonRefusal file) refusal
      → (reported : Refused) → reported ≡ about File refusal → IsContainedStreamRefused file explain before after reported
  file_refused explain before after refusal refused reported is = subst (IsContainedStreamRefused file explain before after) (sym is) (inl (go refusal refused))
    where
      go : (refusal : Refusal) → or_memory (IsAutomatonRefusal file) refusal → IsFileOrStreamRefused file before after (about File refusal)
      go (Text fault) h = h
      go (Game fault) h = h
      go (Circuit fault) h = h
      go (Automaton fault) h = h
      go (Task fault) h = h
      go Memory h = inl refl
      go Io h = absurd (text_is_read file h)

  -- that of the stream is, or memory is, or a read failed
  pub stream_refused : (automaton : Description) → IsAutomatonText file automaton → (explain : Bool) (before after : Option (List ℕ)) (refusal : Refusal)
      → or_memory (or_io (λ other. ReadsText before after (λ text. IsStreamRefusal text other))) refusal
      → (reported : Refused) → reported ≡ about Input refusal → IsContainedStreamRefused file explain before after reported
  stream_refused automaton read explain before after refusal refused reported is = subst (IsContainedStreamRefused file explain before after) (sym is) (inl (go refusal refused))
    where
      of_stream : (refusal : Refusal) → ReadsText before after (λ text. IsStreamRefusal text refusal)
          → ReadsText before after (λ text. IsStreamRefused file text refusal)
      of_stream refusal reads = record {
        text = reads.text;
        read = reads.read;
        holds = record { automaton = automaton; file_read = read; refused = reads.holds };
      }

      go : (refusal : Refusal) → or_memory (or_io (λ other. ReadsText before after (λ text. IsStreamRefusal text other))) refusal
          → IsFileOrStreamRefused file before after (about Input refusal)
      go (Text fault) h = of_stream (Text fault) h
      go (Game fault) h = of_stream (Game fault) h
      go (Circuit fault) h = of_stream (Circuit fault) h
      go (Automaton fault) h = of_stream (Automaton fault) h
      go (Task fault) h = of_stream (Task fault) h
      go Memory h = inl refl
      go Io h = inr refl
