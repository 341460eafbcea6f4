-- Playing a script, where nothing fails.
use Rattle.std.proofs.Common.{◌≡◌, ◌⊎◌, inl, inr, ℕ, List, [], ◌++◌, Option, Ok, Err, refl, sym, ap, subst, ◌∙◌, arith}
use Rattle.std.specs.Io.KnownBytes.{Appends}
use Rattle.nb_port.specs.Faults.{Rose}
use Rattle.nb_batch.specs.Send.{SentPart}
use Rattle.nb_script.specs.declared.limits.TheConstants.{MAX_SCRIPT}
use Rattle.nb_script.specs.Settings.{Setting}
use Rattle.nb_script.specs.Reads.{ScriptSays, lines_of}
use Rattle.nb_script.proofs.OneReading.{one_reading}
use Rattle.nb_player.specs.Playing.{Plays, TellsOf}
use Rattle.nb_commands.specs.declared.ending.TheConstants.{CLEAN, OUT_OF_MEMORY}
use Rattle.nb_run.specs.declared.playing.PlayEnd.{PlayEnd}
use Rattle.nb_run.specs.declared.playing.PlayEnd.TheVariants.{Played, ReadFault, TooLong, BadLine, WriteFault, NoMemory}
use Rattle.nb_commands.specs.Input.{TookAll}
use Rattle.nb_run.specs.Play.{IsReportOf, IsScriptInput, PlaysAs, play_ending}
use Rattle.nb_commands.proofs.Moving.{same_input, not_longer}

-- what was appended to nothing is the report
pub reported : (left left' : Option (List ℕ)) (input old new : List ℕ) → TookAll left left' MAX_SCRIPT input → old ≡ [] → Plays input old new → IsReportOf left left' new
reported left left' input old new all none plays =
    let is : new ≡ plays.report = plays.appended ∙ ap (λ (xs : List ℕ). xs ++ plays.report) none in
    record { input = input; all = all; said = plays.said; says = plays.says; tells = subst (λ (report : List ℕ). TellsOf plays.said report) (sym is) plays.tells }

module _ (left left' : Option (List ℕ)) (source source' : ℕ) (sent sent' : Option (List ℕ)) (sink sink' : ℕ) (input : IsScriptInput left) where
  -- a script alone is played, or there was no memory
  pub plays_clean : (end : PlayEnd) → PlaysAs left left' source source' sent sent' sink sink' end → (Rose source source' → ⊥) → (Rose sink sink' → ⊥)
      → ((play_ending end).status ≡ CLEAN) ⊎ ((play_ending end).status ≡ OUT_OF_MEMORY)
  plays_clean Played is no_source no_sink = inl refl
  plays_clean ReadFault is no_source no_sink = absurd (no_source is.0)
  plays_clean TooLong is no_source no_sink = absurd (not_longer left left' input.input MAX_SCRIPT input.is input.few is)
  plays_clean (BadLine line) is no_source no_sink =
      let says = subst (λ (bytes : List ℕ). ScriptSays (lines_of bytes) (Err line)) (same_input left left' input.input is.0 MAX_SCRIPT input.is is.1) is.2 in
      let both = one_reading (lines_of input.input) (Ok input.said) (Err line) input.says says in
      absurd cc
  plays_clean WriteFault is no_source no_sink = absurd (no_sink is.2)
  plays_clean NoMemory is no_source no_sink = inr refl
