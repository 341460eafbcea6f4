use Rattle.std.proofs.Common.{[], ◌∙◌}
use Rattle.std.proofs.lemmas.Result.{IfOk-weaker}
use Rattle.nb_script.specs.Settings.{setting_of}
use Rattle.nb_simulator.specs.Laws.{IsBehind}
use Rattle.nb_player.specs.Playing.{TellsOf, events_behind}
use Rattle.nb_player.specs.Report.{ReportIs}
use Rattle.nb_player.proofs.Events.{tells}
use Rattle.nb_player.proofs.playing.play_script.Goals as goal

pub returns : goal.returns
returns c =
    let s = c.in_ok-setup.setup in
    let w = c.happen_all.new.world in
    let is = c.in_ok-setup.ensures.setup in
    let here : IsBehind s (events_behind s [] c.as_slice.result.now) w = c.in_ok-happen_all.ensures s c.in_ok-world.ensures.behind in
    IfOk-weaker c.report_of.result (λ text. ReportIs w.world text.items) (λ report. TellsOf (setting_of c.args.script) report.items)
    (λ report told. tells (setting_of c.args.script) s c.as_slice.result.now w report.items is (c.requires.lawful s is) (c.as_slice.ensures.value ∙ c.in_ok-setup.ensures.acts) here told) c.report_of.ensures
