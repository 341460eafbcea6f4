use Rattle.nb_player.proofs.playing.play.Goals as goal

pub play_script-requires-clause-shelves : goal.play_script-requires-clause-shelves
play_script-requires-clause-shelves c = (c.scripts_have_shelves.ensures _ _ c.in_ok-script.ensures).0

pub play_script-requires-clause-lawful : goal.play_script-requires-clause-lawful
play_script-requires-clause-lawful c = λ s is. c.set_ups_are_lawful.ensures _ _ s c.in_ok-script.ensures is
