use Rattle.std.proofs.Common.{rules, ◌≡◌, ◌⊎◌, refl, sym, subst}
use Rattle.nb_batch.specs.declared.answering.Answerer.TheVariants as answers
use Rattle.nb_commands.specs.declared.ending.Ending.{Ending}
use Rattle.nb_commands.specs.declared.ending.Job.{Job}
use Rattle.nb_commands.specs.declared.ending.Outcome.TheVariants.{Work}
use Rattle.nb_commands.specs.declared.ending.TheConstants.{CLEAN, OUT_OF_MEMORY}
use Rattle.nb_commands.specs.Ending.{EndsWith}
use Rattle.nb_commands.proofs.Moving.{moves_clean}
use Rattle.nb_run.specs.Run.{Does}
use Rattle.nb_run.proofs.Frames.{answers_frames}
use Rattle.nb_run.proofs.Plays.{plays_clean}
use Rattle.nb_run.proofs.Stocking.{stocks_clean}
use Rattle.nb_run.proofs.Wares.{offers_clean}
use Rattle.nb_run.proofs.program.do_command.Goals as goal

pub returns-in-Migrate-clause-does : goal.returns-in-Migrate-clause-does
returns-in-Migrate-clause-does g c =
    let m = c.move_journal-end in
    let ending = c.ending-in-Migrate in
    subst (Does g.D.Disk.tells _ _ _) (sym c.in-Migrate.is)
    (record {
      came = (m.result, ending.ensures, m.ensures.moved);
      sink = refl {a = c.args.sink.now};
      clock = refl {a = c.args.clock.now};
      spares = m.ensures.spares;
      complete = λ input none no_source no_disk.
          subst (λ (e : Ending). (e.status ≡ CLEAN) ⊎ (e.status ≡ OUT_OF_MEMORY)) (sym ending.ensures)
          (moves_clean g.D.Disk.tells (g.S.Source.left c.args.source.now) (g.S.Source.left m.new.source) (g.S.Source.faults c.args.source.now) (g.S.Source.faults m.new.source) c.args.disk m.new.disk
          c.in-Migrate.rate input m.result m.ensures.moved none no_source no_disk);
    })

pub returns-in-Play-clause-does : goal.returns-in-Play-clause-does
returns-in-Play-clause-does g c =
    let p = c.play_input in
    let ending = c.ending-in-Play in
    rw (c.over-in-Play.ensures) (subst (Does g.D.Disk.tells _ _ _) (sym c.in-Play.is)
    (record {
      came = (p.result, ending.ensures, p.ensures.played);
      disk = refl {a = c.args.disk};
      clock = refl {a = c.args.clock.now};
      silent = search rules;
      complete = λ input no_source no_sink.
          subst (λ (e : Ending). (e.status ≡ CLEAN) ⊎ (e.status ≡ OUT_OF_MEMORY)) (sym ending.ensures)
          (plays_clean (g.S.Source.left c.args.source.now) (g.S.Source.left p.new.source) (g.S.Source.faults c.args.source.now) (g.S.Source.faults p.new.source) (g.K.Sink.sent c.args.sink.now)
          (g.K.Sink.sent p.new.sink) (g.K.Sink.faults c.args.sink.now) (g.K.Sink.faults p.new.sink) input p.result p.ensures.played no_source no_sink);
    }))

pub returns-in-Sell-clause-does : goal.returns-in-Sell-clause-does
returns-in-Sell-clause-does g c =
    let t = c.take_stock in
    subst (Does g.D.Disk.tells _ _ _) (sym c.in-Sell.is)
    (record {
      came = t.ensures.stocks;
      sink = refl {a = c.args.sink.now};
      disk = refl {a = c.args.disk};
      clock = refl {a = c.args.clock.now};
      complete = λ job input no_source.
          subst (λ (j : Job). (t.result ≡ Work j) ⊎ EndsWith t.result OUT_OF_MEMORY) (sym input.1)
          (stocks_clean (g.S.Source.left c.args.source.now) (g.S.Source.left t.new.source) (g.S.Source.faults c.args.source.now) (g.S.Source.faults t.new.source) c.in-Sell.links input.0 t.result t.ensures.stocks
          input.2 no_source);
    })

pub returns-in-SellOffers-clause-does : goal.returns-in-SellOffers-clause-does
returns-in-SellOffers-clause-does g c =
    let t = c.take_offers in
    subst (Does g.D.Disk.tells _ _ _) (sym c.in-SellOffers.is)
    (record {
      came = t.ensures.offers;
      sink = refl {a = c.args.sink.now};
      disk = refl {a = c.args.disk};
      clock = refl {a = c.args.clock.now};
      complete = λ job input no_source.
          subst (λ (j : Job). (t.result ≡ Work j) ⊎ EndsWith t.result OUT_OF_MEMORY) (sym input.2)
          (offers_clean (g.S.Source.left c.args.source.now) (g.S.Source.left t.new.source) (g.S.Source.faults c.args.source.now) (g.S.Source.faults t.new.source) c.in-SellOffers.links t.result input.0 input.1
          t.ensures.offers input.3 no_source);
    })

pub returns-in-Batch-clause-does : goal.returns-in-Batch-clause-does
returns-in-Batch-clause-does g c =
    let b = c.answer_batch in
    rw (c.batch_over.ensures) (subst (Does g.D.Disk.tells _ _ _) (sym c.in-Batch.is)
    (answers_frames g.D.Disk.tells answers.House _ _ b.result.ending b.result.lines.items b.ensures.batch b.ensures.closed b.ensures.unwritten b.ensures.source b.ensures.whole b.ensures.opens))

pub returns-in-Follow-clause-does : goal.returns-in-Follow-clause-does
returns-in-Follow-clause-does g c =
    let b = c.answer_batch-in-Follow in
    rw (c.batch_over-in-Follow.ensures) (subst (Does g.D.Disk.tells _ _ _) (sym c.in-Follow.is)
    (answers_frames g.D.Disk.tells answers.Standby _ _ b.result.ending b.result.lines.items b.ensures.batch b.ensures.closed b.ensures.unwritten b.ensures.source b.ensures.whole b.ensures.opens))

pub returns-in-Drill-clause-does : goal.returns-in-Drill-clause-does
returns-in-Drill-clause-does g c =
    let d = c.drill in
    rw (c.over-in-Drill.ensures) (subst (Does g.D.Disk.tells _ _ _) (sym c.in-Drill.is)
    (record {
      came = d.ensures.drill;
      source = refl {a = c.args.source.now};
      clock = refl {a = c.args.clock.now};
      spares = d.ensures.spares;
      silent = d.ensures.closed;
      complete = d.ensures.complete;
    }))
