-- A step that is carried out is an act.
use Rattle.std.proofs.Common.{◌≡◌, inl, inr, ℕ, List, [], ◌∷◌, ◌++◌, Result, Ok, Err, refl, sym, ap, subst, ◌∙◌, append-nil, arith}
use Rattle.std.specs.Prelude.{IfOk}
use Rattle.nb_port.specs.Tells.{DiskTells}
use Rattle.nb_journal.specs.Growing.{Grows}
use Rattle.nb_journal.proofs.Growing.{stays_grows, grows_twice}
use Rattle.nb_msgs.specs.declared.node.Reason.{Reason}
use Rattle.nb_msgs.specs.declared.node.Step.{Step}
use Rattle.nb_wallet.specs.declared.wallet.Start.{Start}
use Rattle.nb_wallet.specs.declared.item.Item.TheVariants as item
use Rattle.nb_wallet.proofs.Items.{item_is_short}
use Rattle.nb_consumer.specs.declared.deed.Deed.{Deed}
use Rattle.nb_consumer.specs.declared.deed.Deed.TheVariants as deed
use Rattle.nb_consumer.specs.State.{Buyer}
use Rattle.nb_consumer.specs.Table.{step_of, after}
use Rattle.nb_consumer.specs.Deeds.{Answers, DeedIsSpelled}
use Rattle.nb_msgs.specs.Steps.{kept_in}
use Rattle.nb_buy.specs.declared.peer.Peer.{Peer}
use Rattle.nb_buy.specs.declared.peer.Peer.TheVariants.{House, Seller}
use Rattle.nb_buy.specs.declared.peer.Next.{Next}
use Rattle.nb_buy.specs.declared.ended.Lost.{Lost}
use Rattle.nb_buy.specs.declared.ended.Lost.TheVariants as lost
use Rattle.nb_buy.specs.Run.{Act, act_row, step_at, buyer_behind, kept_by, AreSpelled, bytes_in, bytes_to, frames_on}
use Rattle.nb_buy.specs.Lines.{Line, Lines, LineGoes}
use Rattle.nb_buy.specs.Bought.{Point, point, Went, NotKept, KnowsOf, Loses}
use Rattle.nb_buy.specs.Steps.{AreShort, Acts, Carries, next_behind}
use Rattle.nb_buy.proofs.Runs.{buyer_both, kept_both, bytes_both, frames_both, spelled_both}
use Rattle.nb_buy.proofs.OverLines.{line_none, goes_both, says_goes}

-- ---- no item of a step is too long

row_short : (row : Result Deed Reason) → IfOk row DeedIsSpelled → AreShort (kept_in (step_of row))
row_short (Err why) is = tt
row_short (Ok (deed.Sends whom sent)) is = tt
row_short (Ok (deed.Hears t place whom sent)) is = tt
row_short (Ok (deed.Keeps x whom sent)) is = (omega (arith, item_is_short x is), tt)
row_short (Ok (deed.Ends t r end)) is = (omega (arith, item_is_short (item.Ended t r) is), tt)

pub step_short : (old new : Buyer) (row : Result Deed Reason) (step : Step) → Answers old new row (Ok step) → AreShort (kept_in step)
step_short old new row step answers = subst (λ (st : Step). AreShort (kept_in st)) (sym answers.told) (row_short row answers.spelled)

-- ---- one part behind another

module _ {D : Type 0} (tells : DiskTells D) (s : Start) where
  pub went_none : (p : Point D) → Went tells s p p []
  went_none p = record {
    journal = stays_grows tells p.journal p.journal refl;
    buyer = refl;
    spelled = tt;
    house = line_none p.lines.house;
    seller = line_none p.lines.seller;
  }

  -- nothing but reads
  pub went_still : (p : Point D) (lines : Lines) → LineGoes p.lines.house lines.house [] [] → LineGoes p.lines.seller lines.seller [] [] → Went tells s p (point p.journal p.buyer lines) []
  went_still p lines house seller = record {
    journal = stays_grows tells p.journal p.journal refl;
    buyer = refl;
    spelled = tt;
    house = house;
    seller = seller;
  }

  pub went_both : (p q r : Point D) (acts more : List Act) → Went tells s p q acts → Went tells s q r more → Went tells s p r (acts ++ more)
  went_both p q r acts more first then = record {
    journal = subst (Grows tells p.journal r.journal) (sym (kept_both s p.buyer acts more))
        (grows_twice tells p.journal q.journal r.journal (kept_by s p.buyer acts) (kept_by s (buyer_behind s p.buyer acts) more) first.journal
        (subst (λ (b : Buyer). Grows tells q.journal r.journal (kept_by s b more)) first.buyer then.journal));
    buyer = then.buyer ∙ ap (λ (b : Buyer). buyer_behind s b more) first.buyer ∙ sym (buyer_both s p.buyer acts more);
    spelled = spelled_both s p.buyer acts more first.spelled (subst (λ (b : Buyer). AreSpelled s b more) first.buyer then.spelled);
    house = line House p.lines.house q.lines.house r.lines.house first.house then.house;
    seller = line Seller p.lines.seller q.lines.seller r.lines.seller first.seller then.seller;
  }
    where
      line : (peer : Peer) (old mid new : Line) → LineGoes old mid (frames_on peer acts) (bytes_to peer s p.buyer acts) → LineGoes mid new (frames_on peer more) (bytes_to peer s q.buyer more)
          → LineGoes old new (frames_on peer (acts ++ more)) (bytes_to peer s p.buyer (acts ++ more))
      line peer old mid new one two = goes_both old mid new (frames_on peer acts) (frames_on peer more) (frames_on peer (acts ++ more))
          (bytes_to peer s p.buyer acts) (bytes_to peer s q.buyer more) (bytes_to peer s p.buyer (acts ++ more)) (frames_both peer acts more)
          (bytes_both peer s p.buyer acts more ∙ ap (λ (b : Buyer). bytes_to peer s p.buyer acts ++ bytes_to peer s b more) (sym first.buyer)) one two

  -- ---- one act

  knows : (b c : Buyer) (acts : List Act) (why : Lost) → c ≡ buyer_behind s b acts → AreSpelled s b acts → KnowsOf s b c acts why
  knows b c acts lost.NoMemory is spelled = inr (is, spelled)
  knows b c acts (lost.Full cap) is spelled = (is, spelled)
  knows b c acts (lost.DiskFault before after) is spelled = (is, spelled)

  -- a step of the consumer was carried out, behind what was read for it, or not
  pub carried : (p q : Point D) (mid : Lines) (from : Peer) (a : Act) (step : Step) (result : Result Next Lost)
      → Answers p.buyer q.buyer (act_row s p.buyer a) (Ok step)
      → LineGoes p.lines.house mid.house (frames_on House (a ∷ [])) [] → LineGoes p.lines.seller mid.seller (frames_on Seller (a ∷ [])) []
      → Acts tells p.journal q.journal mid q.lines from step result → Carries tells s p q from a result
  carried p q mid from a step (Ok next) answers house seller acts = (
    record {
      journal = subst (Grows tells p.journal q.journal) (ap kept_in answers.told ∙ sym (append-nil (kept_in (step_at s p.buyer a)))) acts.0;
      buyer = answers.after;
      spelled = (answers.spelled, tt);
      house = line House p.lines.house mid.house q.lines.house house (says_goes mid.house q.lines.house (bytes_in House step) acts.1);
      seller = line Seller p.lines.seller mid.seller q.lines.seller seller (says_goes mid.seller q.lines.seller (bytes_in Seller step) acts.2);
    },
    acts.3 ∙ ap (λ (st : Step). next_behind from st q.lines) answers.told,
  )
    where
      line : (peer : Peer) (old between new : Line) → LineGoes old between (frames_on peer (a ∷ [])) [] → LineGoes between new [] (bytes_in peer step)
          → LineGoes old new (frames_on peer (a ∷ [])) (bytes_to peer s p.buyer (a ∷ []))
      line peer old between new one two = goes_both old between new (frames_on peer (a ∷ [])) [] (frames_on peer (a ∷ [])) [] (bytes_in peer step) (bytes_to peer s p.buyer (a ∷ []))
          (sym (append-nil (frames_on peer (a ∷ [])))) (append-nil (bytes_in peer (step_at s p.buyer a)) ∙ ap (bytes_in peer) (sym answers.told)) one two
  carried p q mid from a step (Err why) answers house seller acts = record {
    journal = subst (λ (items : List (List ℕ)). NotKept tells p.journal q.journal items why) (ap kept_in answers.told ∙ sym (append-nil (kept_in (step_at s p.buyer a)))) acts.0;
    buyer = knows p.buyer q.buyer (a ∷ []) why answers.after (answers.spelled, tt);
    house = subst (λ (lines : Lines). LineGoes p.lines.house lines.house (frames_on House (a ∷ [])) []) (sym acts.1) house;
    seller = subst (λ (lines : Lines). LineGoes p.lines.seller lines.seller (frames_on Seller (a ∷ [])) []) (sym acts.1) seller;
  }

  -- there was no memory for the step
  pub starved : (p q : Point D) (a : Act) → q.journal ≡ p.journal → q.buyer ≡ p.buyer
      → LineGoes p.lines.house q.lines.house (frames_on House (a ∷ [])) [] → LineGoes p.lines.seller q.lines.seller (frames_on Seller (a ∷ [])) [] → Loses tells s p q (a ∷ []) lost.NoMemory
  starved p q a journal buyer house seller = record { journal = journal; buyer = inl buyer; house = house; seller = seller }
