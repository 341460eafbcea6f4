use Rattle.std.proofs.Common.{ℕ, List, [], ◌∷◌, length}
use Rattle.nb_port.specs.Laws.{TornBy}
use Rattle.nb_port.specs.declared.memory.step.DiskStep.TheVariants.{Pause, Wrote, Tore}
use Rattle.nb_port.proofs.Stops.{ahead, behind}
use Rattle.nb_port.specs.DiskLaws.{torn_same}
use Rattle.nb_port.proofs.laws.torn_within.Goals as goal

done : (place : ℕ) (bytes : List ℕ) → TornBy (Wrote place bytes) place (length bytes)
done place bytes = record {
  torn = λ start steps image. (ahead start steps (Wrote place bytes ∷ []) image, behind start steps (Wrote place bytes ∷ []) image);
  before = λ start steps image is. behind start steps (Wrote place bytes ∷ []) image (image, is, torn_same place (length bytes) image);
  behind = λ start steps image. (
    λ is. behind start steps (Wrote place bytes ∷ Pause ∷ []) image (ahead start steps (Wrote place bytes ∷ []) image is),
    λ is. behind start steps (Wrote place bytes ∷ []) image (ahead start steps (Wrote place bytes ∷ Pause ∷ []) image is),
  );
}

failed : (place : ℕ) (bytes : List ℕ) → TornBy (Tore place bytes) place (length bytes)
failed place bytes = record {
  torn = λ start steps image. (ahead start steps (Tore place bytes ∷ []) image, behind start steps (Tore place bytes ∷ []) image);
  before = λ start steps image is. behind start steps (Tore place bytes ∷ []) image (image, is, torn_same place (length bytes) image);
  behind = λ start steps image. (
    λ is. behind start steps (Tore place bytes ∷ Pause ∷ []) image (ahead start steps (Tore place bytes ∷ []) image is),
    λ is. behind start steps (Tore place bytes ∷ []) image (ahead start steps (Tore place bytes ∷ Pause ∷ []) image is),
  );
}

pub returns : goal.returns
returns c place bytes = (done place bytes, failed place bytes)
