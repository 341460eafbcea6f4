use Rattle.std.proofs.Common.{List, ℕ, subst}
use Rattle.std.specs.Io.KnownBytes.{Appends}
use Rattle.nb_player.specs.Playing.{Plays}
use Rattle.nb_run.proofs.Plays.{reported}
use Rattle.nb_run.proofs.playing.play_input.Goals as goal

pub returns-in-All-send_all-clause-played : goal.returns-in-All-send_all-clause-played
returns-in-All-send_all-clause-played g c =
    let text = c.play.new.out.items in (
      text,
      reported (g.S.Source.left c.args.source.now) (g.S.Source.left c.read_most.new.source) c.in-All.input.items c.new-report.result.items text c.in-All.ensures.gives c.new-report.ensures.items
          (subst (λ (bytes : List ℕ). Plays bytes c.new-report.result.items text) c.as_slice.ensures.value c.in-Ok.ensures),
      subst (λ (bytes : List ℕ). Appends (g.K.Sink.sent c.args.sink.now) (g.K.Sink.sent c.send_all.new.sink) bytes) c.as_slice-2.ensures.value c.in-All-send_all.ensures.sent,
    )
